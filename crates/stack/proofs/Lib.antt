pub mod Places
pub mod Tidied
pub mod Apart
pub mod AsBefore
pub mod Others
pub mod HeldApart
pub mod Examples
