pub mod OffsetCount
