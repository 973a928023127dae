-- R-1: a sequencer that is idle stays idle while it is neither asked nor called, and RST makes it so.
use Prim.Native.Nat.{ℕ}
use mathlib.Core.Path.{◌≡◌, refl, ap, sym, subst, ◌∙◌}
use mathlib.Core.Bool.{Bool, true, false, cond}
use Rattle.rules.specs.State.{State}
use Rattle.rules.specs.Changed.{with_registers, with_quiet, with_sequencer}
use Rattle.rules.specs.Seen.{phase_number, is_phase, rst_seen}
use Rattle.rules.specs.Events.{writes, value_of}
use Rattle.rules.specs.Sequencer.{called, sequenced_of, in_phase, selingo_cleared, selection_freed, silenced, tick_in, uncalled, let_go, forestalled, selected, begun, withdrawn, answers, resolved, sequenced}
use Rattle.rules.specs.declared.chip.Sequenced.{Sequenced}
use Rattle.rules.specs.StepA.{with_atn, gives_up, registers_a, sequencer_a, after_a}
use Rattle.rules.specs.StepB.{registers_with, scsiseq_with, ack_released, bus_reset, req_risen, bus_free, bus_freed, phase_changes, phase_changed, after_req_rises, req_rises, after_quiet_ticks, after_phase_changes, after_sequencer, first_four, in_order, at_req, after_b}
use Rattle.rules.specs.StepD.{finished, after_d}
use Rattle.rules.specs.declared.chip.Phase.{Phase}
use Rattle.rules.specs.declared.chip.Phase.TheVariants.{Idle, Waiting, Arbitrating, Clearing, Selecting, Holding, Answering, Answered}
use Rattle.rules.specs.declared.chip.Sequencer.{Sequencer}
use Rattle.rules.specs.declared.map.Register.TheVariants.{SCSISEQ}
use Rattle.rules.specs.declared.records.Event.{Event}
use Rattle.rules.proofs.InOrder.{Spares, Keeps, before_req, four_keep, b_keeps}
use Rattle.rules.proofs.Logic.{never, cond_case}

-- "340h bits 6-4 clear and the sequencer idle"
pub record SequencerOff (s : State) : Type 0 where
  pub enselo : s.registers.scsiseq.enselo ≡ false
  pub enseli : s.registers.scsiseq.enseli ≡ false
  pub enrseli : s.registers.scsiseq.enrseli ≡ false
  pub idle : s.sequencer.phase ≡ Idle

-- the test of the phase
pub is_idle : (p : Phase) → is_phase Idle p ≡ true → p ≡ Idle
unfolding is_phase phase_number
is_idle Idle h = refl
is_idle Waiting h = absurd (never h)
is_idle Arbitrating h = absurd (never h)
is_idle Clearing h = absurd (never h)
is_idle Selecting h = absurd (never h)
is_idle Holding h = absurd (never h)
is_idle Answering h = absurd (never h)
is_idle Answered h = absurd (never h)

-- no line of "In every event, ticks or not" speaks of an idle sequencer that is neither asked nor called
module _ (s : State) (x : Sequenced) (i : x.sequencer.phase ≡ Idle) where
  idle_uncalled : uncalled s x ≡ x
  unfolding uncalled is_phase phase_number
  idle_uncalled = rw i

  idle_lets_go : let_go s x ≡ x
  unfolding let_go is_phase phase_number
  idle_lets_go = rw i

  idle_forestalled : forestalled s x ≡ x
  unfolding forestalled is_phase phase_number
  idle_forestalled = rw i

  idle_selected : selected s x ≡ x
  unfolding selected is_phase phase_number
  idle_selected = rw i

  idle_begun : x.enselo ≡ false → begun s x ≡ x
  unfolding begun is_phase phase_number
  idle_begun e = rw (i, e)

  idle_withdrawn : withdrawn s x ≡ x
  unfolding withdrawn is_phase phase_number
  idle_withdrawn = rw i

  idle_answers : called s ≡ false → answers s x ≡ x
  unfolding answers is_phase phase_number
  idle_answers c = rw (i, c)

not_called : (s : State) → s.registers.scsiseq.enrseli ≡ false → called s ≡ false
unfolding called
not_called s h = rw h

-- a tick counts nothing while it is idle
idle_ticks : (p : Phase) (before : ℕ) (s : State) (x : Sequenced) → p ≡ Idle → tick_in p before s x ≡ x
unfolding tick_in
idle_ticks p before s x i = rw i

idle_resolved : (s : State) (x : Sequenced) → x.sequencer.phase ≡ Idle → x.enselo ≡ false → called s ≡ false → resolved s x ≡ x
unfolding resolved
idle_resolved s x i e c =
    simp (idle_uncalled s x i, idle_lets_go s x i, idle_forestalled s x i, idle_selected s x i, idle_begun s x i e, idle_withdrawn s x i, idle_answers s x i c)

module _ (s : State) (x : Sequenced) (i : x.sequencer.phase ≡ Idle) (e : x.enselo ≡ false) (c : called s ≡ false) where
  idle_whole : (tick : Bool) (before : ℕ) → resolved s (cond tick (tick_in x.sequencer.phase before s x) x) ≡ x
  idle_whole true before = ap (resolved s) (idle_ticks x.sequencer.phase before s x i) ∙ idle_resolved s x i e c
  idle_whole false before = idle_resolved s x i e c

-- while it is off, the sequencer's part of B is SELINGO 0 where RST is seen, and nothing else
module _ (s : State) (o : SequencerOff s) where
  off_sequences : (tick : Bool) (before : ℕ) → sequenced tick before s ≡ cond (rst_seen s) (silenced (sequenced_of s)) (sequenced_of s)
  unfolding sequenced sequenced_of
  off_sequences tick before =
      ap (λ (y : Sequenced). cond (rst_seen s) (silenced (sequenced_of s)) y)
      (idle_whole s (sequenced_of s) o.idle o.enselo (not_called s o.enrseli) tick before)

  -- what it may change, put into the state
  abbrev placed : Sequenced → State
  placed x =
      let r = s.registers in
      with_sequencer x.sequencer
      (with_registers (registers_with (scsiseq_with x.enselo r.scsiseq) r.sxfrctl0 (with_atn x.atno r.scsisig) r)
      (with_quiet x.quiet s))

  off_silenced : placed (silenced (sequenced_of s)) ≡ with_sequencer (selingo_cleared s.sequencer) s
  unfolding silenced sequenced_of is_phase phase_number
  off_silenced =
      ap (λ (p : Phase). with_sequencer (selingo_cleared (cond (is_phase Idle p) s.sequencer (in_phase Idle s.sequencer))) s) o.idle

  pub off_leaves : (tick : Bool) (before : ℕ) → after_sequencer tick before s ≡ cond (rst_seen s) (with_sequencer (selingo_cleared s.sequencer) s) s
  unfolding after_sequencer sequenced_of
  off_leaves tick before = ap placed (off_sequences tick before) ∙ go (rst_seen s)
    where
      go : (t : Bool) → placed (cond t (silenced (sequenced_of s)) (sequenced_of s)) ≡ cond t (with_sequencer (selingo_cleared s.sequencer) s) s
      go true = off_silenced
      go false = refl

-- each change that B makes leaves it off
off_kept : (n : State) (t : Bool) → SequencerOff n → SequencerOff (cond t (with_sequencer (selingo_cleared n.sequencer) n) n)
unfolding selingo_cleared
off_kept n true o = record { enselo = o.enselo; enseli = o.enseli; enrseli = o.enrseli; idle = o.idle }
off_kept n false o = o

off_b : Keeps SequencerOff
unfolding ack_released bus_reset req_risen bus_freed selection_freed phase_changed
off_b =
    record {
      released = λ n o. record { enselo = o.enselo; enseli = o.enseli; enrseli = o.enrseli; idle = o.idle };
      reset = λ n o. record { enselo = refl; enseli = refl; enrseli = refl; idle = o.idle };
      risen = λ n o. record { enselo = o.enselo; enseli = o.enseli; enrseli = o.enrseli; idle = o.idle };
      ticked = λ n ticks o. record { enselo = o.enselo; enseli = o.enseli; enrseli = o.enrseli; idle = o.idle };
      freed = λ n o. record { enselo = o.enselo; enseli = o.enseli; enrseli = o.enrseli; idle = o.idle };
      sequenced = λ n tick before o. rw (off_leaves n o tick before) (off_kept n (rst_seen n) o);
      changed = λ n o. record { enselo = o.enselo; enseli = o.enseli; enrseli = o.enrseli; idle = o.idle };
    }

-- giving up leaves an idle phase idle
idle_either : (t : Bool) (p : Phase) → p ≡ Idle → cond t Idle p ≡ Idle
idle_either true p i = refl
idle_either false p i = i

module _ (s : State) (e : Event) where
  idle_a : s.sequencer.phase ≡ Idle → (after_a s e).sequencer.phase ≡ Idle
  unfolding after_a sequencer_a
  idle_a i = idle_either (gives_up (registers_a s.registers e) s.sequencer e) s.sequencer.phase i

  off_a : writes e SCSISEQ ≡ false → SequencerOff s → SequencerOff (after_a s e)
  unfolding after_a registers_a
  off_a w o =
      record { enselo = rw w o.enselo; enseli = rw w o.enseli; enrseli = rw w o.enrseli; idle = idle_a o.idle }

  -- from A to the end of the event
  off_after : SequencerOff (after_a s e) → SequencerOff (after_d s e)
  unfolding after_d finished
  off_after o =
      let b = b_keeps SequencerOff off_b s e o in
      record { enselo = b.enselo; enseli = b.enseli; enrseli = b.enrseli; idle = b.idle }

  -- IDLE STAYS: an event that does not write 340h leaves a sequencer that is off as it is, bus resets and bus free among them
  pub idle_stays : writes e SCSISEQ ≡ false → SequencerOff s → SequencerOff (after_d s e)
  idle_stays w o = off_after (off_a w o)

-- 340h written with 0 turns an idle sequencer off
module _ (s : State) (e : Event) (w : writes e SCSISEQ ≡ true) (v : value_of e ≡ 0) where
  cleared_a : s.sequencer.phase ≡ Idle → SequencerOff (after_a s e)
  unfolding after_a registers_a
  cleared_a i = record { enselo = rw (w, v); enseli = rw (w, v); enrseli = rw (w, v); idle = idle_a s e i }

  pub idle_cleared : s.sequencer.phase ≡ Idle → SequencerOff (after_d s e)
  idle_cleared i = off_after s e (cleared_a i)

-- RST, once it is seen after A, is so when the sequencer's turn comes
abbrev Resetting : State → Type 0
Resetting n = rst_seen n ≡ true

resetting : Spares Resetting
unfolding rst_seen ack_released bus_reset bus_freed after_sequencer phase_changed
resetting =
    record {
      released = λ n h. h;
      reset = λ n h. h;
      ticked = λ n ticks h. h;
      freed = λ n h. h;
      sequenced = λ n tick before h. h;
      changed = λ n h. h;
    }

resetting_rises : (last n : State) → Resetting n → Resetting (after_req_rises last n)
unfolding rst_seen after_req_rises req_risen
resetting_rises last n h = cond_case Resetting (req_rises last n) (req_risen n) n (λ q. h) (λ q. h)

resetting_ticks : (ticks : ℕ) (n : State) → Resetting n → Resetting (after_quiet_ticks ticks n)
unfolding rst_seen after_quiet_ticks bus_freed
resetting_ticks ticks n h = cond_case Resetting (bus_free ticks n) _ _ (λ q. h) (λ q. h)

-- "RST seen: idle"
silent_phase : (n : State) (tick : Bool) (before : ℕ) → Resetting n → (after_sequencer tick before n).sequencer.phase ≡ Idle
unfolding after_sequencer sequenced silenced selingo_cleared sequenced_of
silent_phase n tick before h =
    rw h
    (cond_case (λ (q : Sequencer). q.phase ≡ Idle) (is_phase Idle n.sequencer.phase) n.sequencer (in_phase Idle n.sequencer)
    (λ i. is_idle n.sequencer.phase i) (λ i. refl))

phase_stays : (last n : State) → n.sequencer.phase ≡ Idle → (after_phase_changes last n).sequencer.phase ≡ Idle
unfolding after_phase_changes phase_changed
phase_stays last n h = cond_case (λ (m : State). m.sequencer.phase ≡ Idle) (phase_changes last n) (phase_changed n) n (λ q. h) (λ q. h)

module _ (s : State) (e : Event) (r : rst_seen (after_a s e) ≡ true) where
  -- an event that finds or makes RST seen leaves the sequencer idle, whatever its phase was
  pub reset_idles : (after_d s e).sequencer.phase ≡ Idle
  unfolding after_d finished after_b in_order first_four at_req
  reset_idles =
      phase_stays s _ (silent_phase _ _ _ (resetting_ticks _ _ (resetting_rises s (at_req s e) (before_req Resetting resetting s e r))))

-- WITH SELINGO 0 TOO, AND WHATEVER ENSELI, IT HAS NOTHING TO DO: what the code tests before it asks for the rest
pub record Dormant (s : State) : Type 0 where
  pub enselo : s.registers.scsiseq.enselo ≡ false
  pub enrseli : s.registers.scsiseq.enrseli ≡ false
  pub idle : s.sequencer.phase ≡ Idle
  pub selingo : s.sequencer.status.selingo ≡ false

module _ (s : State) (o : Dormant s) where
  dormant_silenced : silenced (sequenced_of s) ≡ sequenced_of s
  unfolding silenced sequenced_of is_phase phase_number selingo_cleared
  dormant_silenced = rw (o.idle, o.selingo)

  dormant_sequences : (tick : Bool) (before : ℕ) → sequenced tick before s ≡ sequenced_of s
  unfolding sequenced sequenced_of
  dormant_sequences tick before =
      ap (λ (y : Sequenced). cond (rst_seen s) (silenced (sequenced_of s)) y)
      (idle_whole s (sequenced_of s) o.idle o.enselo (not_called s o.enrseli) tick before)
      ∙ go (rst_seen s)
    where
      go : (t : Bool) → cond t (silenced (sequenced_of s)) (sequenced_of s) ≡ sequenced_of s
      go true = dormant_silenced
      go false = refl

  pub dormant_still : (tick : Bool) (before : ℕ) → after_sequencer tick before s ≡ s
  unfolding after_sequencer sequenced_of
  dormant_still tick before =
      ap (λ (x : Sequenced). with_sequencer x.sequencer (with_registers (registers_with (scsiseq_with x.enselo s.registers.scsiseq) s.registers.sxfrctl0 (with_atn x.atno s.registers.scsisig) s.registers) (with_quiet x.quiet s)))
      (dormant_sequences tick before)

dormant_keeps : Keeps Dormant
unfolding ack_released bus_reset req_risen bus_freed selection_freed phase_changed
dormant_keeps =
    record {
      released = λ n o. record { enselo = o.enselo; enrseli = o.enrseli; idle = o.idle; selingo = o.selingo };
      reset = λ n o. record { enselo = refl; enrseli = refl; idle = o.idle; selingo = o.selingo };
      risen = λ n o. record { enselo = o.enselo; enrseli = o.enrseli; idle = o.idle; selingo = o.selingo };
      ticked = λ n ticks o. record { enselo = o.enselo; enrseli = o.enrseli; idle = o.idle; selingo = o.selingo };
      freed = λ n o. record { enselo = o.enselo; enrseli = o.enrseli; idle = o.idle; selingo = o.selingo };
      sequenced = λ n tick before o. subst Dormant (sym (dormant_still n o tick before)) o;
      changed = λ n o. record { enselo = o.enselo; enrseli = o.enrseli; idle = o.idle; selingo = o.selingo };
    }

-- so B is the five steps of document 01
pub dormant_four : (last : State) (ticks : ℕ) (now : State) (tick : Bool) (before : ℕ) → Dormant now → after_sequencer tick before (first_four last ticks now) ≡ first_four last ticks now
dormant_four last ticks now tick before o =
    dormant_still (first_four last ticks now) (four_keep Dormant dormant_keeps last ticks now o) tick before
