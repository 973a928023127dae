-- What a read of each register does beside the hold, and gives: the parts of A that are left out change nothing.
use Rattle.std.specs.Prelude.{Some}
use Prim.Native.Nat.{ℕ, ◌+◌, ◌%◌}
use mathlib.Core.Path.{◌≡◌, refl, ap}
use mathlib.Core.Bool.{Bool, false, ◌&&◌}
use mathlib.Core.List.{List}
use lib.Dec.{eqb}
use lib.ListN.{drop, get_or}
use Rattle.rules.specs.Seen.{io_seen}
use Rattle.rules.specs.State.{State}
use Rattle.rules.specs.Map.{table, read_at}
use Rattle.rules.specs.Events.{writes, reads, lines_after, asked, port_write}
use Rattle.rules.specs.Stack.{stack_read, stack_byte}
use Rattle.rules.specs.Reads.{scsibus, id_bytes, read_of, value_read}
use Rattle.rules.specs.StepA.{clears, clears_latch, clrstcnt, clrch, rstfifo, latch_access, automatic_ack, registers_a, host_a, counter_a, transfer_a, latches_a, stack_a, identity_a, sequencer_a, gives_up, selection_a, noted_a, selection_latches_a, after_a}
use Rattle.rules.specs.declared.map.Register.{Register}
use Rattle.rules.specs.declared.records.Event.TheVariants.{Read}
use Rattle.rules.specs.Changed.{with_stack, with_identity}
use Rattle.image.specs.Image.{state_at}
use Rattle.rules.specs.Changed.{with_host}
use Rattle.effects.specs.Writes.{ack_counted}
use Rattle.effects.proofs.ReadLaws.{unheld}

module _ (s : State) where
  pub port_left : with_host (drop 1 s.transfer.host) s ≡ unheld s 0x16
  unfolding after_a lines_after registers_a transfer_a host_a counter_a latches_a stack_a identity_a sequencer_a gives_up selection_a noted_a selection_latches_a clears clears_latch clrstcnt clrch rstfifo latch_access automatic_ack writes reads asked port_write
  port_left = refl

  pub latch_left : {acked : Bool} → acked ≡ automatic_ack s (Read 0x06) → ack_counted acked s ≡ unheld s 0x06
  unfolding after_a lines_after registers_a transfer_a host_a counter_a latches_a stack_a identity_a sequencer_a gives_up selection_a noted_a selection_latches_a clears clears_latch clrstcnt clrch rstfifo writes reads asked port_write
  latch_left q = ap (λ (b : Bool). ack_counted b s) q

  pub stack_left : with_stack (stack_read s.registers.dmacntrl1.enstk32 s.stack) s ≡ unheld s 0x1D
  unfolding after_a lines_after registers_a transfer_a host_a counter_a latches_a stack_a identity_a sequencer_a gives_up selection_a noted_a selection_latches_a clears clears_latch clrstcnt clrch rstfifo latch_access automatic_ack writes reads asked port_write
  stack_left = refl

  pub identity_left : with_identity ((s.identity + 1) % 32) s ≡ unheld s 0x1F
  unfolding after_a lines_after registers_a transfer_a host_a counter_a latches_a stack_a identity_a sequencer_a gives_up selection_a noted_a selection_latches_a clears clears_latch clrstcnt clrch rstfifo latch_access automatic_ack writes reads asked port_write
  identity_left = refl

  pub port_value : get_or s.transfer.host 0 0 ≡ value_read s (Read 0x16)
  unfolding value_read read_of read_at table
  port_value = refl

  pub latch_value : scsibus s ≡ value_read s (Read 0x06)
  unfolding value_read read_of read_at table
  latch_value = refl

  pub stack_value : stack_byte s.registers.dmacntrl1.enstk32 s.stack ≡ value_read s (Read 0x1D)
  unfolding value_read read_of read_at table
  stack_value = refl

  pub identity_value : get_or id_bytes s.identity 0 ≡ value_read s (Read 0x1F)
  unfolding value_read read_of read_at table
  identity_value = refl

  module _ (o : ℕ) (e : eqb o 0x06 ≡ false) where
    pub unaccessed : false ≡ latch_access s (Read o)
    unfolding latch_access writes reads
    unaccessed = rw e

    pub unacked : false ≡ automatic_ack s (Read o)
    unfolding automatic_ack
    unacked = rw (← unaccessed)

    -- a register that a read leaves as it is
    pub plain_left : eqb o 0x16 ≡ false → eqb o 0x1D ≡ false → eqb o 0x1F ≡ false → s ≡ unheld s o
    unfolding after_a lines_after registers_a transfer_a host_a counter_a latches_a stack_a identity_a sequencer_a gives_up selection_a noted_a selection_latches_a clears clears_latch clrstcnt clrch rstfifo writes reads asked port_write
    plain_left p k i = rw (← unacked, p, k, i)

  pub plain_value : (o : ℕ) (r : Register) → read_at o ≡ Some r → read_of s r ≡ value_read s (Read o)
  unfolding value_read
  plain_value o r found = rw found

-- "a read with IO seen, with SPIORDY"
pub latch_accessed : (m : List ℕ) {io ready : Bool} → io ≡ io_seen (state_at m) → ready ≡ (state_at m).status.spiordy → (io && ready) ≡ latch_access (state_at m) (Read 0x06)
unfolding latch_access writes reads
latch_accessed m e f = rw (e, f)
