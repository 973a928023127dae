pub mod InPlace
pub mod Dormant
pub mod Resting
