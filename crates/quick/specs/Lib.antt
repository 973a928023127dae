-- What stands beside an image in a run, and what a quick way promises, in the order in which they are read.
pub mod Ready
pub mod Facts
pub mod Beside
