pub mod Shown
pub mod Traces
pub mod Steps
pub mod Images
pub mod StringWords  -- the words that a string call did, as single events
pub mod StringWrites  -- write_gives
pub mod StringReads  -- read_gives
pub mod Rounds
pub mod Restarts
pub mod DemandThree
pub mod Strings  -- demand_three_of_deeds, taken_in_hand_lem, accepted_in_hand, read_in_hand_lem, deeds_come, deeds_offer, deeds_acceptable
pub mod Example
pub mod ImageExample
pub mod StringExample  -- a write run, a write call that stopped, a read run
