pub mod Accepted
pub mod Lent
pub mod Tests
