pub mod Room
pub mod Tests
pub mod From
pub mod Components
pub mod Stored
pub mod Frequent
pub mod ParityKept
pub mod Since
