pub mod Elements
pub mod Stored
pub mod FifosAsChip
