-- While the chip is connected the sequencer gives no data; and with IO seen nothing is driven, so that the data seen are those of others.
use mathlib.Core.Path.{◌≡◌, refl, sym, ap, ◌∙◌}
use mathlib.Core.Bool.{Bool, true, false, not, ◌&&◌, ◌||◌, and-false, or-false}
use lib.Bits.{or_zero_r}
use Rattle.rules.specs.State.{State}
use Rattle.rules.specs.Seen.{phase_number, is_phase, phase_sel, phase_drives, rst_seen, bsy_seen, sel_seen, io_seen, connected, byte_driving, byte_driven, driving, data_driven, parity_driven, data_seen, parity_seen}
use Rattle.rules.specs.declared.chip.Phase.{Phase}
use Rattle.rules.specs.declared.chip.Phase.TheVariants.{Idle, Waiting, Arbitrating, Clearing, Selecting, Holding, Answering, Answered}
use Rattle.rules.proofs.Logic.{never, left_true, right_true}

or_true : (a : Bool) → (a || true) ≡ true
or_true true = refl
or_true false = refl

-- SEL driven by the sequencer, or its arbitration, is no connection
module _ (s : State) (h : connected s ≡ true) where
  sel_unseen : not (sel_seen s) ≡ true
  unfolding connected
  sel_unseen =
      right_true (bsy_seen s) _ (left_true (bsy_seen s && not (sel_seen s)) _ (left_true (bsy_seen s && not (sel_seen s) && not (rst_seen s)) _ h))

  no_sel : phase_sel s.sequencer.phase ≡ false
  unfolding sel_seen
  no_sel = go (phase_sel s.sequencer.phase) refl
    where
      go : (b : Bool) → phase_sel s.sequencer.phase ≡ b → b ≡ false
      go true e =
          absurd (never (sym (ap not (ap (λ (x : Bool). (s.lines.sel || s.registers.scsisig.selo) || x) e ∙ or_true (s.lines.sel || s.registers.scsisig.selo))) ∙ sel_unseen))
      go false e = refl

  no_arbitration : is_phase Arbitrating s.sequencer.phase ≡ false
  unfolding connected
  no_arbitration = go (is_phase Arbitrating s.sequencer.phase) refl
    where
      go : (b : Bool) → is_phase Arbitrating s.sequencer.phase ≡ b → b ≡ false
      go true e = absurd (never (sym (ap not e) ∙ right_true (bsy_seen s && not (sel_seen s) && not (rst_seen s)) _ h))
      go false e = refl

-- a phase that gives data arbitrates or drives SEL
silent_phase : (p : Phase) → phase_sel p ≡ false → is_phase Arbitrating p ≡ false → phase_drives p ≡ false
unfolding phase_sel phase_drives is_phase phase_number
silent_phase Idle a b = refl
silent_phase Waiting a b = refl
silent_phase Arbitrating a b = b
silent_phase Clearing a b = a
silent_phase Selecting a b = a
silent_phase Holding a b = a
silent_phase Answering a b = refl
silent_phase Answered a b = refl

module _ (s : State) (h : connected s ≡ true) where
  pub connected_silent : phase_drives s.sequencer.phase ≡ false
  connected_silent = silent_phase s.sequencer.phase (no_sel s h) (no_arbitration s h)

  module _ (io : io_seen s ≡ true) where
    pub inbound_undriven : driving s ≡ false
    unfolding driving byte_driving
    inbound_undriven = rw (connected_silent, io, and-false)

    pub inbound_data : data_seen s ≡ s.lines.byte
    unfolding data_seen data_driven byte_driven byte_driving
    inbound_data = rw (connected_silent, io, and-false, or_zero_r)

    pub inbound_parity : parity_seen s ≡ s.lines.parity
    unfolding parity_seen parity_driven
    inbound_parity = rw (inbound_undriven, or-false)
