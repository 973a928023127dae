pub mod Passed
pub mod Fetching
pub mod Writing
