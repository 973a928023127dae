-- R-1: what a write to each register leaves of the sequencer, by computing, and its ticks.
use Prim.Native.Nat.{ℕ, ◌<◌}
use mathlib.Core.Path.{◌≡◌}
use mathlib.Core.Bool.{Bool, true, false, cond}
use native.Mathlib.Omega.{arith}
use Rattle.rules.specs.Counter.{counter_size}
use Rattle.rules.specs.Events.{writes, value_of}
use Rattle.rules.specs.State.{State}
use Rattle.rules.specs.StepA.{clears, clears_latch, registers_a, gives_up, selection_a, noted_a, selection_latches_a, sequencer_a}
use Rattle.rules.specs.declared.map.Register.TheVariants.{SCSISEQ}
use Rattle.rules.specs.declared.records.Event.{Event}
use Rattle.writes.specs.SequencerWritten.{sequencer_written, gives_up_by, gave_up}

module _ (s : State) (v : ℕ) where
  -- 340h, where the processor gives up
  pub gave_up_is : gives_up_by s v ≡ true → gave_up s.sequencer ≡ sequencer_written SCSISEQ s v
  unfolding sequencer_a selection_a noted_a selection_latches_a clears clears_latch writes value_of
  gave_up_is h = rw h

  -- 340h, where it does not
  pub goes_on : gives_up_by s v ≡ false → s.sequencer ≡ sequencer_written SCSISEQ s v
  unfolding sequencer_a selection_a noted_a selection_latches_a clears clears_latch writes value_of
  goes_on h = rw h

none_or_kept : (b : Bool) (n : ℕ) → n < counter_size → cond b 0 n < counter_size
none_or_kept true n h = omega arith
none_or_kept false n h = h

-- no write lets the ticks grow
pub ticks_fit : (s : State) (e : Event) → s.sequencer.ticks < counter_size → (sequencer_a s.registers s.quiet s.sequencer e).ticks < counter_size
unfolding sequencer_a
ticks_fit s e h = none_or_kept (gives_up (registers_a s.registers e) s.sequencer e) s.sequencer.ticks h
