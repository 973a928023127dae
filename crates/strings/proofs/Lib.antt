-- The proofs of string calls, in the order in which they stand on one another.
pub mod Oldest  -- where an image has the oldest bytes
pub mod Settled  -- a block on an image
pub mod Through  -- bytes that go out as they come
pub mod Leaves  -- records leave an image
pub mod First  -- the first word, by the step
pub mod Going  -- a call under way, for both directions
pub mod WordsWritten  -- words written
pub mod Fetching  -- words read
pub mod Fits  -- the calls by their buffers
pub mod ByValue  -- a chip laid out and taken up again
pub mod ReadCall  -- a read of a chip by value
pub mod WriteCall  -- a write to a chip by value
pub mod Codes
