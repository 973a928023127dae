-- R-3 and R-12 as definitions, in the order in which they are read.
pub mod Words
pub mod Calls
pub mod Blocks
pub mod Moves
