pub mod Bits
pub mod Lists
pub mod Tables
pub mod Chips
pub mod EightBits
