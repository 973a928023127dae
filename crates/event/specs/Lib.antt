pub mod Closing
pub mod Outcomes
pub mod Opening
pub mod Totals
