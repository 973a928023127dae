-- Theorems on the events that quick ways take, in the order in which they are proved.
pub mod Ready  -- ready_is, answer_is, goes: the answer as two numbers
pub mod Passes  -- finishes, passes: what an event does whose A, B, settling and latches are known
pub mod Opened  -- the definitions, opened in groups
pub mod Alike  -- sequential_alike: the sequencer sees what it saw
pub mod Stands  -- lands, stands: an event after whose A nothing is left to do
pub mod PlainWrites  -- refusal_stands; stores_stands: a write that stores and no more, a read that steps on
pub mod PlainReads  -- read_stands: a read without an effect
pub mod Clearing  -- clears_stands: writes to 34Bh and 34Ch
pub mod Enabling  -- clrserr_stands, simode0_stands, simode1_stands: writes to 34Fh, 350h, 351h, with D's part
pub mod ModeWrites  -- scsirate_stands, dmacntrl0_stands, scsisig_stands: writes to 344h, 352h, 343h outside Normal mode
pub mod SelectionWrites  -- scsiseq_stands: a write to 340h, the sequencer idle or waiting
pub mod FewLines  -- few_lines, data_lines, req_falls_lem: a line event without a rise of REQ
pub mod ReadyMoves  -- ready_lines, ready_ack: how the answer moves
pub mod ReadyWrites  -- ready_stored: a write that stores and no more leaves the answer
pub mod Rises  -- plain_rise_lem: a line event in which REQ rises and no handshake follows
pub mod OneByte  -- one_out, one_in_synchronous, one_in_asynchronous: settling of one REQ
pub mod ByteRises  -- synchronous_out, synchronous_in, asynchronous_out, asynchronous_in: a line event with such a REQ
pub mod Port  -- word_kept, word_queued, word_passed, word_taken: a word through the port
pub mod Turns  -- changes_next: a tick by which the phase changes
pub mod Phases  -- the changes of phase in a selection
pub mod LineRecord  -- record_small, record_high, lines_back: the record of the present lines
pub mod Watched  -- watched, beside_record, few_step, line_record_stands: the one test of a turn
pub mod BusFree  -- frees_next: the tick by which the bus becomes free
pub mod FactsSay  -- few_says; synchronous_out_says and its like, says_enabled, says_io: what the watch and the facts say
pub mod Reached  -- chips that meet what these laws ask for
pub mod ReachedAccesses  -- the same of accesses
pub mod ReachedTicks  -- the same of ticks
