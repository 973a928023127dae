-- Without a tick the sequencer has nothing to do where it waits as it is asked to, or is idle as it is not, while RST is not seen and
-- others do not drive SEL; two more bytes tell so.
use Prim.Native.Nat.{ℕ, ◌%◌}
use mathlib.Core.Path.{◌≡◌, refl, ap, ◌∙◌}
use mathlib.Core.Bool.{Bool, true, false, not, ◌&&◌, ◌||◌, cond, and-false}
use mathlib.Core.List.{List}
use lib.Dec.{eqb, ltb}
use lib.ListN.{get_or}
use borrow.Author.Tests.{eqb-true}
use Rattle.rules.specs.Numbers.{bit}
use Rattle.rules.specs.State.{State}
use Rattle.rules.specs.Changed.{with_quiet}
use Rattle.rules.specs.Seen.{phase_number, is_phase, rst_seen}
use Rattle.rules.specs.Sequencer.{asked_by, called, sequenced_of, selection_freed, silenced, uncalled, let_go, forestalled, selected, begun, withdrawn, answers, resolved, sequenced}
use Rattle.rules.specs.StepB.{ack_released, after_req_falls, rst_rises, after_rst_rises, req_rises, req_risen, after_req_rises, quiet_after, bus_free, bus_freed, after_quiet_ticks, after_sequencer, first_four}
use Rattle.rules.specs.declared.chip.Phase.{Phase}
use Rattle.rules.specs.declared.chip.Phase.TheVariants.{Idle, Waiting, Arbitrating, Selecting, Holding, Answering, Answered}
use Rattle.rules.specs.declared.chip.Sequenced.{Sequenced}
use Rattle.rules.proofs.InOrder.{falls_keeps}
use Rattle.rules.proofs.Logic.{left_true, right_true, cond_case}
use Rattle.rules.proofs.StayIdle.{dormant_four}
use Rattle.image.specs.Image.{state_at, phase_of}
use Rattle.image.specs.Layout.{scsiseq_place, sequencer_place}
use Rattle.sequencer.specs.Since.{dormant, as_asked, still, resting, sequenced_in}
use Rattle.sequencer.proofs.Dormant.{off, dormant_at}

-- no line of "In every event, ticks or not" speaks of a sequencer that waits as it is asked to, or is idle as it is not, and is not called
module _ (s : State) (x : Sequenced) (i : x.sequencer.phase ≡ cond (asked_by x.enselo s.registers.scsiseq.temodeo) Waiting Idle) where
  abbrev asks : Bool
  asks = asked_by x.enselo s.registers.scsiseq.temodeo

  -- what holds of the two phases
  either : (P : Phase → Bool → Bool) → P Waiting true ≡ false → P Idle false ≡ false → P x.sequencer.phase asks ≡ false
  either P w d = ap (λ (p : Phase). P p asks) i ∙ go asks
    where
      go : (b : Bool) → P (cond b Waiting Idle) b ≡ false
      go true = w
      go false = d

  keeps_uncalled : uncalled s x ≡ x
  unfolding uncalled is_phase phase_number
  keeps_uncalled = rw (either (λ p b. is_phase Answering p) refl refl)

  keeps_lets_go : let_go s x ≡ x
  unfolding let_go is_phase phase_number
  keeps_lets_go = rw (either (λ p b. is_phase Answered p) refl refl)

  keeps_forestalled : forestalled s x ≡ x
  unfolding forestalled is_phase phase_number
  keeps_forestalled = rw (either (λ p b. is_phase Arbitrating p) refl refl)

  keeps_selected : selected s x ≡ x
  unfolding selected is_phase phase_number
  keeps_selected = rw (either (λ p b. is_phase Selecting p || is_phase Holding p) refl refl)

  keeps_begun : begun s x ≡ x
  unfolding begun is_phase phase_number
  keeps_begun = rw (either (λ p b. is_phase Idle p && b) refl refl)

  keeps_withdrawn : withdrawn s x ≡ x
  unfolding withdrawn is_phase phase_number
  keeps_withdrawn = rw (either (λ p b. is_phase Waiting p && not b) refl refl)

  module _ (c : called s ≡ false) where
    keeps_answers : answers s x ≡ x
    unfolding answers
    keeps_answers = rw (c, and-false)

    keeps_resolved : resolved s x ≡ x
    unfolding resolved
    keeps_resolved = simp (keeps_uncalled, keeps_lets_go, keeps_forestalled, keeps_selected, keeps_begun, keeps_withdrawn, keeps_answers)

not_called : (s : State) → s.lines.sel ≡ false → called s ≡ false
unfolding called
not_called s h = rw (h, and-false)

pub record Still (s : State) : Type 0 where
  pub rst : rst_seen s ≡ false
  pub sel : s.lines.sel ≡ false
  pub phase : s.sequencer.phase ≡ cond (asked_by s.registers.scsiseq.enselo s.registers.scsiseq.temodeo) Waiting Idle

module _ (s : State) (h : Still s) where
  still_sequences : (before : ℕ) → sequenced false before s ≡ sequenced_of s
  unfolding sequenced sequenced_of
  still_sequences before =
      ap (λ (b : Bool). cond b (silenced (sequenced_of s)) (resolved s (sequenced_of s))) h.rst
      ∙ keeps_resolved s (sequenced_of s) h.phase (not_called s h.sel)

  still_left : (before : ℕ) → after_sequencer false before s ≡ s
  unfolding after_sequencer sequenced_of
  still_left before = ap (λ (x : Sequenced). sequenced_in x s) (still_sequences before)

-- the four steps before the sequencer leave it so: RST, which is not seen, does not rise
module _ (last n : State) (h : Still n) where
  still_falls : Still (after_req_falls last n)
  unfolding ack_released rst_seen
  still_falls = falls_keeps Still last n h (λ o. record { rst = o.rst; sel = o.sel; phase = o.phase })

  still_reset : Still (after_rst_rises last n)
  unfolding after_rst_rises rst_rises
  still_reset = rw h.rst h

  still_rises : Still (after_req_rises last n)
  unfolding after_req_rises req_risen rst_seen
  still_rises =
      cond_case Still (req_rises last n) (req_risen n) n (λ q. record { rst = h.rst; sel = h.sel; phase = h.phase }) (λ q. h)

  still_ticks : (ticks : ℕ) → Still (after_quiet_ticks ticks n)
  unfolding after_quiet_ticks bus_freed selection_freed rst_seen
  still_ticks ticks =
      let quiet = with_quiet (quiet_after ticks n) n in
      cond_case Still (bus_free ticks n) (bus_freed quiet) quiet (λ q. record { rst = h.rst; sel = h.sel; phase = h.phase }) (λ q. record { rst = h.rst; sel = h.sel; phase = h.phase })

still_four : (last : State) (ticks : ℕ) (now : State) → Still now → Still (first_four last ticks now)
unfolding first_four
still_four last ticks now h =
    let a = after_req_falls last now in
    let b = after_rst_rises last a in
    still_ticks last (after_req_rises last b) (still_rises last b (still_reset last a (still_falls last now h))) ticks

-- the phase by its number
as_asked_lem : (m : List ℕ) → as_asked m ≡ true → (state_at m).sequencer.phase ≡ cond (asked_by (bit (get_or m scsiseq_place 0) 6) (bit (get_or m scsiseq_place 0) 7)) Waiting Idle
unfolding state_at
as_asked_lem m = go (asked_by (bit (get_or m scsiseq_place 0) 6) (bit (get_or m scsiseq_place 0) 7))
  where
    go : (b : Bool) → cond b (eqb (get_or m sequencer_place 0 % 8) 1) (eqb (get_or m sequencer_place 0 % 8) 0) ≡ true → phase_of (get_or m sequencer_place 0 % 8) ≡ cond b Waiting Idle
    go true e = ap phase_of (eqb-true (get_or m sequencer_place 0 % 8) 1 e)
    go false e = ap phase_of (eqb-true (get_or m sequencer_place 0 % 8) 0 e)

still_at_lem : (m : List ℕ) → still m ≡ true → Still (state_at m)
unfolding state_at
still_at_lem m h =
    let sel = (state_at m).lines.sel in
    let rst = rst_seen (state_at m) in
    let first : (as_asked m && not sel) ≡ true = left_true (as_asked m && not sel) (not rst) h in
    record {
      rst = off rst (right_true (as_asked m && not sel) (not rst) h);
      sel = off sel (right_true (as_asked m) (not sel) first);
      phase = as_asked_lem m (left_true (as_asked m) (not sel) first);
    }

-- SO THE SEQUENCER LEAVES WHAT THE FOUR STEPS BEFORE IT LEFT
pub rests_four : (m : List ℕ) (ticks : ℕ) → resting m ticks ≡ true → (last : State) (before : ℕ) → after_sequencer (ltb 0 ticks) before (first_four last ticks (state_at m)) ≡ first_four last ticks (state_at m)
rests_four m ticks h last before = by (dormant m) refl h
  where
    rested : eqb ticks 0 ≡ true → still m ≡ true → after_sequencer (ltb 0 ticks) before (first_four last ticks (state_at m)) ≡ first_four last ticks (state_at m)
    rested z e =
        ap (λ (n : ℕ). after_sequencer (ltb 0 n) before (first_four last ticks (state_at m))) (eqb-true ticks 0 z)
        ∙ still_left (first_four last ticks (state_at m)) (still_four last ticks (state_at m) (still_at_lem m e)) before

    by : (d : Bool) → dormant m ≡ d → (d || (eqb ticks 0 && still m)) ≡ true → after_sequencer (ltb 0 ticks) before (first_four last ticks (state_at m)) ≡ first_four last ticks (state_at m)
    by true d e = dormant_four last ticks (state_at m) (ltb 0 ticks) before (dormant_at m d)
    by false d e = rested (left_true (eqb ticks 0) (still m) e) (right_true (eqb ticks 0) (still m) e)
