-- C and D as the code goes through them.
use mathlib.Core.Path.{◌≡◌, ap, sym}
use Rattle.rules.specs.State.{State}
use Rattle.rules.specs.Seen.{ack_seen, ack_driven}
use Rattle.rules.specs.StepA.{after_a}
use Rattle.rules.specs.StepB.{after_b}
use Rattle.rules.specs.StepC.{settled_c}
use Rattle.rules.specs.StepD.{finished, after_d}
use Rattle.rules.specs.Ranges.{InRange, InBytes}
use Rattle.rules.specs.declared.records.Event.{Event}
use Rattle.rules.specs.declared.chip.Latches.{Latches}
use Rattle.rules.proofs.Ranges.{settled_fits, settled_bytes}
use Rattle.rules.specs.Changed.{with_transfer, with_latches}
use Rattle.interrupts.proofs.Steady.{latches_from_registers}
use Rattle.event.specs.Closing.{raised_by, fallen_by, closed_by}

module _ (s : State) (e : Event) where
  -- what settling leaves
  abbrev pub settled_state : State
  settled_state = with_transfer (settled_c s e).transfer (after_b s e)

  pub settled_range : InRange (after_b s e) → InRange settled_state
  settled_range i = record { registers = i.registers; transfer = settled_fits s e i; stack = i.stack; quiet = i.quiet; identity = i.identity; sequencer = i.sequencer }

  pub settled_in_bytes : InBytes (after_b s e) → InBytes settled_state
  settled_in_bytes j = record { lines = j.lines; registers = j.registers; transfer = (settled_bytes s e j).transfer; stack = j.stack; selid = j.selid }

  pub all_of_d : closed_by s.registers.simode0 s.registers.simode1 (after_a s e).status (settled_c s e).acks settled_state ≡ after_d s e
  unfolding closed_by after_d finished ack_seen ack_driven
  all_of_d =
      let raised = raised_by settled_state in
      let fallen = fallen_by (settled_c s e).acks raised in
      ap (λ (k : Latches). with_latches k fallen)
      (sym (latches_from_registers s.registers fallen.registers (after_a s e).status raised.status fallen.latches))
