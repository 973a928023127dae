-- What the code tests: while IO is seen only the data of others count, and the array says how many bytes the SCSI FIFO holds.
use Rattle.std.specs.Prelude.{ℕ, ◌+◌, Bool, ◌&&◌, ◌||◌, eqb, leb, ltb}
use Rattle.rules.specs.Numbers.{one, ones, even}
use Rattle.rules.specs.State.{State}
use Rattle.rules.specs.Seen.{io_seen, connected, limit}

-- the byte that others drive with its parity has an even number of ones
abbrev pub inbound_even : State → Bool
inbound_even s = even (ones s.lines.byte + one s.lines.parity)

-- "If connected, IO seen and ENSPCHK, and data with parity has an even number of ones"
abbrev pub inbound_bad : State → Bool
inbound_bad s = connected s && io_seen s && s.registers.sxfrctl1.enspchk && inbound_even s

-- "with offset at or above the limit, or IO seen and the SCSI FIFO holding 8"
abbrev pub past_limit : ℕ → State → Bool
past_limit held s = leb (limit s.registers) s.transfer.offset || (io_seen s && leb 8 held)

-- "inbound with offset 0 and the SCSI FIFO not empty"
abbrev pub late_behind : ℕ → State → Bool
late_behind held s = io_seen s && eqb s.transfer.offset 0 && ltb 0 held
