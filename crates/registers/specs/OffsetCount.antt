-- SSTAT3 at every pair of bytes: 256 is 0 modulo 16, so the difference is the paper's. Where offset and count are in range it
-- is the byte of crates/rules/specs/Reads.antt (proofs/OffsetCount.antt).
use Rattle.std.specs.Prelude.{ℕ, ◌+◌, ◌-◌, ◌*◌, ◌%◌}

-- "(offset minus SCSI FIFO count) modulo 16, then offset"
abbrev pub sstat3_of : ℕ → ℕ → ℕ
sstat3_of offset count = (offset + 256 - count) % 16 * 16 + offset % 16
