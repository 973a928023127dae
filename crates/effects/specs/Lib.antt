pub mod Acting
pub mod CodeBy
pub mod Writes
