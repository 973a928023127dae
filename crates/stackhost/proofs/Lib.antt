pub mod Lengths
pub mod Refused
pub mod AsBox
