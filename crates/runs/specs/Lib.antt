-- Document 01, "A run and its cuts", as definitions, in the order in which they are read.
pub mod Comes
pub mod Run
pub mod Cut
pub mod Clearing
pub mod Known
pub mod Rounds
