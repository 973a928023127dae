-- R-1: what a driver knows of the sequencer without seeing it. With ENSELI and ENRESELI 0, SELDO rises only as the sequencer turns off.
use mathlib.Core.Path.{◌≡◌, refl, sym, subst, ◌∙◌, ap}
use mathlib.Core.Bool.{Bool, true, false, not, ◌&&◌, ◌||◌, cond}
use Prim.Native.Nat.{ℕ, ◌+◌}
use lib.Dec.{leb}
use Rattle.rules.specs.State.{State}
use Rattle.rules.specs.Seen.{is_phase, rst_seen, bsy_seen, sel_seen}
use Rattle.rules.specs.Sequencer.{bus_free_delay, arbitration_delay, clearing_delay, settle_delay, timeout, asked_by, called, in_phase, sequenced_of, waited, entered, selingo_cleared, selingo_raised, selto_raised, seldo_raised, seldi_raised, selection_freed, silenced, arbitrates, waiting_for, arbitrating_for, selects, clearing_for, times_out, selecting_for, reselected, answering_for, tick_in, uncalled, let_go, forestalled, connects, selected, begun, withdrawn, answers, resolved, sequenced}
use Rattle.rules.specs.StepA.{after_a}
use Rattle.rules.specs.StepB.{ack_released, bus_reset, req_risen, bus_freed, after_sequencer, phase_changed, after_b}
use Rattle.rules.specs.declared.registers.Scsiseq.{Scsiseq}
use Rattle.rules.specs.declared.chip.Phase.{Phase}
use Rattle.rules.specs.declared.chip.Phase.TheVariants.{Idle, Waiting, Arbitrating, Clearing, Selecting, Holding, Answering, Answered}
use Rattle.rules.specs.declared.chip.Sequenced.{Sequenced}
use Rattle.rules.specs.declared.chip.Sequencer.{Sequencer}
use Rattle.rules.specs.declared.records.Event.{Event}
use Rattle.rules.proofs.InOrder.{Keeps, b_keeps}
use Rattle.rules.proofs.Logic.{never, right_true, cond_case}
use Rattle.rules.proofs.Sequencing.{sequenced_keeps}
use Rattle.rules.proofs.StayIdle.{SequencerOff, off_leaves}

-- 340h BITS 6-4 CLEAR: the chip sets none of them by itself
pub record Unasked (s : State) : Type 0 where
  pub enselo : s.registers.scsiseq.enselo ≡ false
  pub enseli : s.registers.scsiseq.enseli ≡ false
  pub enrseli : s.registers.scsiseq.enrseli ≡ false

enselo_sequenced :
    (n : State) (tick : Bool) (before : ℕ) → n.registers.scsiseq.enselo ≡ false → (sequenced tick before n).enselo ≡ false
unfolding sequenced_of waited entered arbitrates selects times_out reselected connects silenced
enselo_sequenced n tick before h =
    sequenced_keeps n (λ x. x.enselo ≡ false)
    (record {
      waits = λ m x small p. p;
      moved = λ p x q. q;
      arbitrated = λ x p. p;
      selecting = λ x p. p;
      ended = λ x p. refl;
      answered = λ x p. p;
      taken = λ x p. refl;
      silent = λ x p. p;
    })
    tick before h

unasked : Keeps Unasked
unfolding ack_released bus_reset req_risen bus_freed after_sequencer phase_changed
unasked =
    record {
      released = λ n o. record { enselo = o.enselo; enseli = o.enseli; enrseli = o.enrseli };
      reset = λ n o. record { enselo = refl; enseli = refl; enrseli = refl };
      risen = λ n o. record { enselo = o.enselo; enseli = o.enseli; enrseli = o.enrseli };
      ticked = λ n ticks o. record { enselo = o.enselo; enseli = o.enseli; enrseli = o.enrseli };
      freed = λ n o. record { enselo = o.enselo; enseli = o.enseli; enrseli = o.enrseli };
      sequenced =
          λ n tick before o.
          record { enselo = enselo_sequenced n tick before o.enselo; enseli = o.enseli; enrseli = o.enrseli };
      changed = λ n o. record { enselo = o.enselo; enseli = o.enseli; enrseli = o.enrseli };
    }

pub unasked_b : (s : State) (e : Event) → Unasked (after_a s e) → Unasked (after_b s e)
unasked_b s e o = b_keeps Unasked unasked s e o

-- ENSELI AND ENRESELI 0
pub record Uncalled (s : State) : Type 0 where
  pub enseli : s.registers.scsiseq.enseli ≡ false
  pub enrseli : s.registers.scsiseq.enrseli ≡ false

uncalled_keeps : Keeps Uncalled
unfolding ack_released bus_reset req_risen bus_freed after_sequencer phase_changed
uncalled_keeps =
    record {
      released = λ n o. record { enseli = o.enseli; enrseli = o.enrseli };
      reset = λ n o. record { enseli = refl; enrseli = refl };
      risen = λ n o. record { enseli = o.enseli; enrseli = o.enrseli };
      ticked = λ n ticks o. record { enseli = o.enseli; enrseli = o.enrseli };
      freed = λ n o. record { enseli = o.enseli; enrseli = o.enrseli };
      sequenced = λ n tick before o. record { enseli = o.enseli; enrseli = o.enrseli };
      changed = λ n o. record { enseli = o.enseli; enrseli = o.enrseli };
    }

pub uncalled_b : (s : State) (e : Event) → Uncalled (after_a s e) → Uncalled (after_b s e)
uncalled_b s e o = b_keeps Uncalled uncalled_keeps s e o

-- OFF, AND PERHAPS WITH SELDO 0: SELDO does not rise while it is off
pub record OffWith (b : Bool) (s : State) : Type 0 where
  pub off : SequencerOff s
  pub seldo : b ≡ true → s.sequencer.status.seldo ≡ false

off_sequenced : (b : Bool) (n : State) (tick : Bool) (before : ℕ) → OffWith b n → OffWith b (after_sequencer tick before n)
unfolding selingo_cleared
off_sequenced b n tick before o =
    subst (OffWith b) (sym (off_leaves n o.off tick before))
    (cond_case (OffWith b) (rst_seen n) _ n
    (λ q.
    record {
      off = record { enselo = o.off.enselo; enseli = o.off.enseli; enrseli = o.off.enrseli; idle = o.off.idle };
      seldo = o.seldo;
    })
    (λ q. o))

off_with : (b : Bool) → Keeps (OffWith b)
unfolding ack_released bus_reset req_risen bus_freed selection_freed phase_changed
off_with b =
    record {
      released =
          λ n o.
          record {
            off = record { enselo = o.off.enselo; enseli = o.off.enseli; enrseli = o.off.enrseli; idle = o.off.idle };
            seldo = o.seldo;
          };
      reset =
          λ n o. record { off = record { enselo = refl; enseli = refl; enrseli = refl; idle = o.off.idle }; seldo = o.seldo };
      risen =
          λ n o.
          record {
            off = record { enselo = o.off.enselo; enseli = o.off.enseli; enrseli = o.off.enrseli; idle = o.off.idle };
            seldo = o.seldo;
          };
      ticked =
          λ n ticks o.
          record {
            off = record { enselo = o.off.enselo; enseli = o.off.enseli; enrseli = o.off.enrseli; idle = o.off.idle };
            seldo = o.seldo;
          };
      freed =
          λ n o.
          record {
            off = record { enselo = o.off.enselo; enseli = o.off.enseli; enrseli = o.off.enrseli; idle = o.off.idle };
            seldo = λ t. refl;
          };
      sequenced = off_sequenced b;
      changed =
          λ n o.
          record {
            off = record { enselo = o.off.enselo; enseli = o.off.enseli; enrseli = o.off.enrseli; idle = o.off.idle };
            seldo = o.seldo;
          };
    }

pub off_with_b : (b : Bool) (s : State) (e : Event) → OffWith b (after_a s e) → OffWith b (after_b s e)
off_with_b b s e o = b_keeps (OffWith b) (off_with b) s e o

-- SELDO SHOWS THE SEQUENCER OFF
pub record Shows (s : State) : Type 0 where
  pub uncalled : Uncalled s
  pub off : s.sequencer.status.seldo ≡ true → SequencerOff s

-- no tick raises SELDO
module _ (n : State) where
  abbrev Missed : Sequenced → Type 0
  Missed x = x.sequencer.status.seldo ≡ false

  delayed : (t : Bool) (x y : Sequenced) → Missed x → Missed y → Missed (cond t x y)
  delayed t x y p q = cond_case Missed t x y (λ e. p) (λ e. q)

  tick_missed : (p : Phase) (before : ℕ) (x : Sequenced) → Missed x → Missed (tick_in p before n x)
  unfolding tick_in waiting_for arbitrating_for clearing_for selecting_for answering_for waited entered arbitrates selects times_out reselected selingo_cleared selingo_raised selto_raised seldi_raised
  tick_missed Idle before x h = h
  tick_missed Waiting before x h =
      delayed (leb bus_free_delay (cond (leb 8 before && not (bsy_seen n || sel_seen n)) (x.sequencer.ticks + 1) 0)) _ _ h h
  tick_missed Arbitrating before x h = delayed (leb arbitration_delay (x.sequencer.ticks + 1)) _ _ h h
  tick_missed Clearing before x h = delayed (leb clearing_delay (x.sequencer.ticks + 1)) _ _ h h
  tick_missed Selecting before x h =
      delayed (leb (timeout n.registers) (cond n.registers.sxfrctl1.enstimer (x.sequencer.ticks + 1) 0)) _ _ h h
  tick_missed Holding before x h = h
  tick_missed Answering before x h = delayed (leb settle_delay (x.sequencer.ticks + 1)) _ _ h h
  tick_missed Answered before x h = h

  -- where it rises, the sequencer is idle and ENSELO 0, and nobody calls
  module _ (c : called n ≡ false) where
    abbrev Tells : Sequenced → Type 0
    Tells x = x.sequencer.status.seldo ≡ true → (x.sequencer.phase ≡ Idle) × (x.enselo ≡ false)

    missed_tells : (x : Sequenced) → Missed x → Tells x
    missed_tells x h t = absurd (never (sym h ∙ t))

    -- what is resolved before it may rise
    uncalled_missed : (x : Sequenced) → Missed x → Missed (uncalled n x)
    unfolding uncalled entered
    uncalled_missed x h = delayed (is_phase Answering x.sequencer.phase && not (called n)) (entered Idle x) x h h

    let_go_missed : (x : Sequenced) → Missed x → Missed (let_go n x)
    unfolding let_go entered
    let_go_missed x h = delayed (is_phase Answered x.sequencer.phase && not n.lines.sel) (entered Idle x) x h h

    forestalled_missed : (x : Sequenced) → Missed x → Missed (forestalled n x)
    unfolding forestalled entered
    forestalled_missed x h = delayed (is_phase Arbitrating x.sequencer.phase && n.lines.sel) (entered Waiting x) x h h

    selected_tells : (x : Sequenced) → Missed x → Tells (selected n x)
    unfolding selected connects seldo_raised
    selected_tells x h =
        cond_case Tells ((is_phase Selecting x.sequencer.phase || is_phase Holding x.sequencer.phase) && n.lines.bsy)
        (connects n x) x
        (λ e t. (refl, refl))
        (λ e. missed_tells x h)

    -- "idle, and asked": with ENSELO 0 it is not asked
    begun_tells : (x : Sequenced) → Tells x → Tells (begun n x)
    unfolding begun entered
    begun_tells x h =
        cond_case Tells (is_phase Idle x.sequencer.phase && asked_by x.enselo n.registers.scsiseq.temodeo) (entered Waiting x) x
        (λ e t.
        absurd
        (never
        (sym (right_asked (h t).1)
        ∙ right_true (is_phase Idle x.sequencer.phase) (asked_by x.enselo n.registers.scsiseq.temodeo) e)))
        (λ e. h)
      where
        right_asked : x.enselo ≡ false → asked_by x.enselo n.registers.scsiseq.temodeo ≡ false
        right_asked o = rw o

    withdrawn_tells : (x : Sequenced) → Tells x → Tells (withdrawn n x)
    unfolding withdrawn entered
    withdrawn_tells x h =
        cond_case Tells
        (is_phase Waiting x.sequencer.phase && not (asked_by x.enselo n.registers.scsiseq.temodeo) && not (leb 8 x.quiet))
        (entered Idle x) x (λ e t. (refl, (h t).1)) (λ e. h)

    answers_tells : (x : Sequenced) → Tells x → Tells (answers n x)
    unfolding answers
    answers_tells x h =
        let a = is_phase Idle x.sequencer.phase || is_phase Waiting x.sequencer.phase in
        cond_case Tells (a && called n) (entered Answering x) x (λ e. absurd (never (sym c ∙ right_true a (called n) e))) (λ e. h)

    resolved_tells : (x : Sequenced) → Missed x → Tells (resolved n x)
    unfolding resolved
    resolved_tells x h =
        answers_tells _
        (withdrawn_tells _ (begun_tells _ (selected_tells _ (forestalled_missed _ (let_go_missed _ (uncalled_missed x h))))))

    sequenced_tells : (tick : Bool) (before : ℕ) → n.sequencer.status.seldo ≡ false → Tells (sequenced tick before n)
    unfolding sequenced sequenced_of silenced selingo_cleared
    sequenced_tells tick before h =
        let x = sequenced_of n in
        let q = tick_in x.sequencer.phase before n x in
        cond_case Tells (rst_seen n) (silenced x) (resolved n (cond tick q x))
        (λ e.
        missed_tells (silenced x)
        (cond_case (λ (y : Sequencer). y.status.seldo ≡ false) (is_phase Idle n.sequencer.phase) n.sequencer
        (in_phase Idle n.sequencer) (λ f. h) (λ f. h)))
        (λ e. resolved_tells (cond tick q x) (delayed tick q x (tick_missed x.sequencer.phase before x h) h))

not_called : (s : State) → s.registers.scsiseq.enrseli ≡ false → called s ≡ false
unfolding called
not_called s h = rw h

shows_sequenced : (n : State) (tick : Bool) (before : ℕ) → Shows n → Shows (after_sequencer tick before n)
unfolding after_sequencer
shows_sequenced n tick before o =
    record {
      uncalled = record { enseli = o.uncalled.enseli; enrseli = o.uncalled.enrseli };
      off = go n.sequencer.status.seldo refl;
    }
  where
    go :
        (t : Bool) → n.sequencer.status.seldo ≡ t → (after_sequencer tick before n).sequencer.status.seldo ≡ true →
        SequencerOff (after_sequencer tick before n)
    go true h q = (off_sequenced false n tick before (record { off = o.off h; seldo = λ t. absurd (never t) })).off
    go false h q =
        let r = sequenced_tells n (not_called n o.uncalled.enrseli) tick before h q in
        record { enselo = r.1; enseli = o.uncalled.enseli; enrseli = o.uncalled.enrseli; idle = r.0 }

-- SequencerOff speaks of 340h and the phase alone
again :
    (n m : State) → m.registers.scsiseq ≡ n.registers.scsiseq → m.sequencer.phase ≡ n.sequencer.phase → SequencerOff n →
    SequencerOff m
again n m r p o =
    record {
      enselo = ap (λ (q : Scsiseq). q.enselo) r ∙ o.enselo;
      enseli = ap (λ (q : Scsiseq). q.enseli) r ∙ o.enseli;
      enrseli = ap (λ (q : Scsiseq). q.enrseli) r ∙ o.enrseli;
      idle = p ∙ o.idle;
    }

shows_keeps : Keeps Shows
unfolding ack_released bus_reset req_risen bus_freed selection_freed phase_changed
shows_keeps =
    record {
      released =
          λ n o.
          record { uncalled = uncalled_keeps.released n o.uncalled; off = λ t. again n (ack_released n) refl refl (o.off t) };
      reset =
          λ n o.
          record {
            uncalled = uncalled_keeps.reset n o.uncalled;
            off = λ t. record { enselo = refl; enseli = refl; enrseli = refl; idle = (o.off t).idle };
          };
      risen = λ n o. record { uncalled = uncalled_keeps.risen n o.uncalled; off = λ t. again n (req_risen n) refl refl (o.off t) };
      ticked = λ n ticks o. record { uncalled = uncalled_keeps.ticked n ticks o.uncalled; off = λ t. again n _ refl refl (o.off t) };
      freed = λ n o. record { uncalled = uncalled_keeps.freed n o.uncalled; off = λ t. absurd (never t) };
      sequenced = shows_sequenced;
      changed =
          λ n o.
          record { uncalled = uncalled_keeps.changed n o.uncalled; off = λ t. again n (phase_changed n) refl refl (o.off t) };
    }

pub shows_b : (s : State) (e : Event) → Shows (after_a s e) → Shows (after_b s e)
shows_b s e o = b_keeps Shows shows_keeps s e o
