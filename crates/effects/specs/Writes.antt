-- What a write to a register does, part by part, and the registers that are only stored.
use Rattle.std.specs.Prelude.{ℕ, ◌≤◌, ◌<◌, ◌≡◌, Bool, false, ◌||◌, cond, [], length}
use Rattle.rules.specs.Numbers.{bit}
use Rattle.rules.specs.Map.{table, written_at, offset_of}
use Rattle.rules.specs.State.{State}
use Rattle.rules.specs.Codes.{access_code}
use Rattle.rules.specs.Counter.{counter_step}
use Rattle.rules.specs.Events.{writes, reads, value_of, lines_after, offered, asked, port_write}
use Rattle.rules.specs.StepA.{latch_access, automatic_ack, registers_a, transfer_a, host_a, counter_a, error_a, status_a, latches_a, stack_a, identity_a, sequencer_a, gives_up, selection_a, noted_a, selection_latches_a, after_a, clears, clears_latch, clears_error, clrstcnt, clrch, rstfifo}
use Rattle.rules.specs.declared.codes.Code.TheVariants.{Done}
use Rattle.rules.specs.declared.counts.Direction.TheVariants.{Up}
use Rattle.rules.specs.declared.map.Register.{Register}
use Rattle.rules.specs.declared.records.Event.TheVariants.{Write, WordRead}
use Rattle.rules.specs.Changed.{with_registers, with_status, with_sequencer}
use Rattle.rules.specs.Changed.{with_host, with_scsi, with_counter, with_offset, with_ack}
use Rattle.writes.specs.WrittenRegister.{Written}

-- what is written is stored
abbrev pub storing : ℕ → State → ℕ → State
storing o s v = with_registers (registers_a s.registers (Write o v)) s

-- R-1: the sequencer by a write, before it is stored
abbrev pub sequencing : ℕ → State → ℕ → State
sequencing o s v = with_sequencer (sequencer_a s.registers s.quiet s.sequencer (Write o v)) s

-- "While ENSPCHK is 0, SCSIPERR is held at 0"
abbrev pub kept : State → State
kept s = with_status (status_a false false s.registers.sxfrctl1.enspchk s.keptbad s.status WordRead) s

-- "CLRCH empties the SCSI FIFO and zeroes the offset"
abbrev pub channel_cleared : State → ℕ → State
channel_cleared s v = with_offset (cond (bit v 1) 0 s.transfer.offset) (with_scsi (cond (bit v 1) [] s.transfer.scsi) s)

-- "CLRSTCNT zeroes the counter"
abbrev pub counter_cleared : State → ℕ → State
counter_cleared s v = with_counter (cond (bit v 4) 0 s.transfer.counter) s

-- "RSTFIFO empties the host FIFO"
abbrev pub host_cleared : State → ℕ → State
host_cleared s v = with_host (cond (bit v 1) [] s.transfer.host) s

-- an Automatic ACK "turns automatic ACK on, adds one to the counter"
abbrev pub ack_counted : Bool → State → State
ack_counted acked s =
    with_ack (acked || s.transfer.ack) (with_counter (cond acked (counter_step Up s.transfer.counter).value s.transfer.counter) s)

-- the state after a write at o; its unfolding is all that A looks at
unfoldable pub Leaving : ℕ → (State → ℕ → State) → Type 0
unfolding table written_at writes reads value_of lines_after offered asked port_write latch_access automatic_ack registers_a transfer_a host_a counter_a error_a status_a latches_a stack_a identity_a sequencer_a gives_up selection_a noted_a selection_latches_a after_a clears clears_latch clears_error clrstcnt clrch rstfifo
Leaving o left = (s : State) (v : ℕ) → left s v ≡ after_a s (Write o v)

-- a write at o is done, and that is the state after it
pub record Does (o : ℕ) (left : State → ℕ → State) : Type 0 where
  pub fits : o < 32
  pub done : (s : State) (v : ℕ) → length s.transfer.host ≤ 128 → access_code s (Write o v) ≡ Done
  pub after : Leaving o left

-- a register that a write only stores
pub record Plain (register : Register) : Type 0 where
  pub written : Written register
  pub does : Does (offset_of register) (λ (s : State) (v : ℕ). kept (storing (offset_of register) s v))

-- a register that moves the sequencer, and is stored
pub record Selects (register : Register) : Type 0 where
  pub written : Written register
  pub does : Does (offset_of register) (λ (s : State) (v : ℕ). kept (storing (offset_of register) (sequencing (offset_of register) s v) v))
