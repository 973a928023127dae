pub mod OffsetCount
pub mod Kept
