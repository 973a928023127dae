pub mod Printing
pub mod OneRead
pub mod Waiting
