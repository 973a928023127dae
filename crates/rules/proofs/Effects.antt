-- What the three one-shot bits do, and what they leave.
use mathlib.Core.Path.{◌≡◌, refl}
use mathlib.Core.Bool.{true, false}
use mathlib.Core.List.{[]}
use Prim.Native.Nat.{ℕ}
use Rattle.rules.specs.Numbers.{bit}
use Rattle.rules.specs.State.{State}
use Rattle.rules.specs.Map.{offset_of}
use Rattle.rules.specs.Events.{writes, reads, value_of, offered, asked, port_write}
use Rattle.rules.specs.StepA.{clrstcnt, clrch, rstfifo, latch_access, automatic_ack, host_a, counter_a, transfer_a, after_a}
use Rattle.rules.specs.declared.map.Register.TheVariants.{SXFRCTL0, DMACNTRL0}
use Rattle.rules.specs.declared.records.Event.TheVariants.{Write}

-- "CLRCH empties the SCSI FIFO and zeroes the offset"; "Chapter 5 says CLRCH also clears the counter; ... it does not."
pub record ChannelCleared (s : State) (value : ℕ) : Type 0 where
  pub scsi : (after_a s (Write (offset_of SXFRCTL0) value)).transfer.scsi ≡ []
  pub offset : (after_a s (Write (offset_of SXFRCTL0) value)).transfer.offset ≡ 0
  pub counter : (after_a s (Write (offset_of SXFRCTL0) value)).transfer.counter ≡ s.transfer.counter
  pub host : (after_a s (Write (offset_of SXFRCTL0) value)).transfer.host ≡ s.transfer.host

pub clrch_leaves_counter : (s : State) (value : ℕ) → bit value 1 ≡ true → bit value 4 ≡ false → ChannelCleared s value
unfolding after_a transfer_a counter_a host_a clrch clrstcnt rstfifo automatic_ack latch_access writes reads value_of offered asked port_write
clrch_leaves_counter s value one four = record { scsi = rw one; offset = rw one; counter = rw four; host = refl }

-- "CLRSTCNT zeroes the counter"
pub clrstcnt_zeroes : (s : State) (value : ℕ) → bit value 4 ≡ true → (after_a s (Write (offset_of SXFRCTL0) value)).transfer.counter ≡ 0
unfolding after_a transfer_a counter_a clrstcnt writes value_of
clrstcnt_zeroes s value four = rw four

-- "RSTFIFO empties the host FIFO."
pub rstfifo_empties : (s : State) (value : ℕ) → bit value 1 ≡ true → (after_a s (Write (offset_of DMACNTRL0) value)).transfer.host ≡ []
unfolding after_a transfer_a host_a rstfifo writes value_of
rstfifo_empties s value one = rw one
