pub mod Looks
pub mod Blocks
pub mod Settles
pub mod Steps
