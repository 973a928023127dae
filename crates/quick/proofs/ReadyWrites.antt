-- A write that stores and no more leaves the answer as it was, where what is stored is not driven.
use mathlib.Core.Path.{◌≡◌, refl, sym, ◌∙◌}
use mathlib.Core.Bool.{cond}
use Prim.Native.Nat.{◌+◌}
use Rattle.rules.specs.State.{State}
use Rattle.rules.specs.Seen.{phase_drives, phase_data, ack_driven, automatic, bsy_seen, byte_driven, byte_driving, connected, data_driven, driving, manual, matched, mismatched, normal, parity_driven, rst_seen, sel_seen}
use Rattle.rules.specs.Interrupts.{instat, irq, phasemis}
use Rattle.rules.specs.Answers.{control_driven}
use Rattle.rules.specs.Ranges.{TransferFits}
use Rattle.quick.specs.Ready.{ready_of}
use Rattle.quick.proofs.ReadyMoves.{counts_of, driven_of, ready_sum}
use Rattle.quick.proofs.PlainWrites.{stored_of}

-- a state with the same counts and IRQ that drives the same shows the same
same_ready : (s n : State) → TransferFits s.transfer → TransferFits n.transfer → counts_of n ≡ counts_of s → driven_of n ≡ driven_of s
    → ready_of n ≡ ready_of s
same_ready s n f g c d = ready_sum n g ∙ (λ j. d j + c j) ∙ sym (ready_sum s f)

-- A WRITE THAT STORES AND NO MORE: what is stored is not driven
module _ (a s : State) (f : TransferFits s.transfer) (g : TransferFits (stored_of a s).transfer)
    (idle : phase_data s.sequencer.phase a.registers.scsiid ≡ phase_data s.sequencer.phase s.registers.scsiid)
    (byte : byte_driven (stored_of a s) ≡ byte_driven s) where
  abbrev n : State
  n = stored_of a s

  stored_driving : driving n ≡ driving s
  unfolding driving byte_driving connected rst_seen sel_seen bsy_seen manual automatic normal
  stored_driving = refl

  stored_data : data_driven n ≡ data_driven s
  unfolding data_driven
  stored_data = λ j. cond (phase_drives s.sequencer.phase) (idle j) (byte j)

  stored_parity : parity_driven n ≡ parity_driven s
  unfolding parity_driven
  stored_parity = rw (stored_driving, stored_data)

  stored_control : control_driven n ≡ control_driven s
  unfolding control_driven ack_driven manual
  stored_control = refl

  stored_irq : irq n ≡ irq s
  unfolding irq instat phasemis mismatched matched connected rst_seen sel_seen bsy_seen
  stored_irq = refl

  pub ready_stored : ready_of n ≡ ready_of s
  ready_stored =
      same_ready s n f g
      (rw stored_irq)
      (rw (stored_driving, stored_parity, stored_control, stored_data))
