-- The theorems on runs, in the order in which they are proved.
pub mod Access  -- a step by its outcomes, and ticks one by one
pub mod Along  -- lists of records
pub mod Settles  -- what settling keeps
pub mod Spared  -- what an event that a run allows does not do
pub mod StaysIdle  -- run_stays_idle
pub mod Stages  -- what it leaves before settling
pub mod Ticks  -- what a tick leaves
pub mod WriteRun  -- write_run
pub mod ReadRun  -- read_run_lem, took_goes_in, read_is_answered
pub mod Acks  -- run_counts_acks, write_run_acks, run_drives_no_other_ack
pub mod Cut  -- cut_and_read
pub mod KnownForgets  -- what is known of nothing any more, computed
pub mod KnownSequencer  -- what is known of the sequencer through B
pub mod KnownEffect  -- effect_holds
pub mod Clearing  -- clearing_sends_nothing, no_ack_until_empty
pub mod Sequence  -- clearing_works, short_clearing_works
pub mod Rounds  -- chain, chain_reached, only_taken_is_sent, cut_to_start, short_clearing_after_cut, at_the_bound
pub mod Known  -- step_sound, starts_known, known_after_cut
pub mod Tests  -- a chain as one test that computes
pub mod Examples  -- chains and runs that meet every hypothesis; the order of clearing that fails
pub mod Bound  -- bound_is_needed
