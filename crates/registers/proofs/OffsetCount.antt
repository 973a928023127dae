-- The byte of SSTAT3 where offset and count are in range.
use Rattle.std.proofs.Common.{◌≡◌, ℕ, ◌+◌, ◌-◌, ◌*◌, ◌%◌, ◌≤◌, length, mod-eq_of_lt, arith}
use native.Mathlib.Nat.{add-mul-mod_self_right}
use Rattle.rules.specs.State.{State}
use Rattle.rules.specs.Reads.{sstat3}
use Rattle.registers.specs.OffsetCount.{sstat3_of}

pub sstat3_in_range : (offset count : ℕ) → offset ≤ 8 → count ≤ 8 → sstat3_of offset count ≡ (offset + 16 - count) % 16 * 16 + offset
sstat3_in_range offset count h k =
    let far : offset + 256 - count ≡ (offset + 16 - count) + 15 * 16 = omega arith in
    let low : offset % 16 ≡ offset = mod-eq_of_lt (omega arith) in
    rw (far, low, add-mul-mod_self_right (offset + 16 - count) 15 16)

pub sstat3_read : (s : State) → s.transfer.offset ≤ 8 → length s.transfer.scsi ≤ 8 → sstat3_of s.transfer.offset (length s.transfer.scsi) ≡ sstat3 s
unfolding sstat3
sstat3_read s h k = sstat3_in_range s.transfer.offset (length s.transfer.scsi) h k
