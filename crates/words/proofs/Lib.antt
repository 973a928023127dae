-- The theorems on string calls, in the order in which they are proved.
pub mod Port  -- port_at_rest: a word access to a chip at rest is a block of one word
pub mod Strung  -- strung_append: some records, then others
pub mod Accesses  -- what a word access gives: refused, or done
pub mod Together  -- together_settle, settle_same: two laws of settling
pub mod Outbound  -- outbound_joins, outbound_byte: bytes in two parts settle as all at once
pub mod Inbound  -- inbound_joins, inbound_appends, inbound_byte: bytes taken in two parts are bytes taken at once
pub mod Blocks  -- left_joins, joins_out, joins_in: two blocks settle as one
pub mod Words  -- write_block, read_block: the words of a block are their single events
pub mod Keeps  -- strung_keeps: what words leave
pub mod WordMoves  -- written_moves, rest_moves, read_moves_lem: the moves of one word access
pub mod Ceiling  -- write_ceiling_lem, write_sixteen, write_at_rest, read_ceiling_lem: the moves of a string transfer, and of its call
pub mod Reached  -- starts that reach each bound
