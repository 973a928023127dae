pub mod Entry
pub mod Outcomes
pub mod Runs
