pub mod OneTurn
pub mod Apart  -- calls_apart, reset_calls_apart
pub mod Example
