-- R-1: "a selection that nobody answers, with ENSTIMER set and STIMESEL, RST and 340h left alone, ends by SELTO at exactly its limit".
use mathlib.Core.Path.{◌≡◌, refl, ap, sym, subst, ◌∙◌}
use mathlib.Core.Bool.{Bool, true, false, not, ◌&&◌, ◌||◌, cond, and-not_self, or-true}
use Prim.Native.Nat.{ℕ, zero, suc, ◌+◌, ◌*◌, ◌/◌, ◌^◌, ◌≤◌, ◌<◌}
use native.Mathlib.Nat.{add-zero, zero-add}
use native.Mathlib.Omega.{arith}
use lib.Dec.{leb}
use mathlib.Core.List.{[], ◌∷◌}
use lib.ListN.{length, get_or}
use borrow.Author.Tests.{le-leb, lt-leb, le-ltb}
use Rattle.rules.specs.Numbers.{one, bit}
use Rattle.rules.specs.Registers.{sxfrctl1_of}
use Rattle.rules.specs.State.{State}
use Rattle.rules.specs.Ranges.{InRange}
use Rattle.rules.specs.Changed.{with_quiet}
use Rattle.rules.specs.Seen.{phase_number, is_phase, phase_bsy, phase_sel, phase_drives, rst_seen, sel_seen}
use Rattle.rules.specs.Events.{writes, ticks_of, lines_after, offered, asked, port_write, port_read}
use Rattle.rules.specs.Codes.{absent, test_value, shut, no_room, no_bytes, access_code}
use Rattle.rules.specs.Step.{ended, done, access, single_ticks, ticks_taken, step_event}
use Rattle.rules.specs.Sequencer.{timeout, called, sequenced_of, in_ticks, in_phase, waited, entered, selection_with, selto_raised, times_out, selecting_for, tick_in, uncalled, let_go, forestalled, connects, selected, begun, withdrawn, answers, resolved, sequenced}
use Rattle.rules.specs.declared.chip.Sequenced.{Sequenced}
use Rattle.rules.specs.StepA.{with_atn, clears, clears_latch, registers_a, gives_up, selection_a, noted_a, selection_latches_a, sequencer_a, after_a}
use Rattle.rules.specs.StepB.{req_falls, after_req_falls, rst_rises, after_rst_rises, req_rises, after_req_rises, quiet_after, bus_free, after_quiet_ticks, phase_changes, phase_changed, after_phase_changes, registers_with, scsiseq_with, after_sequencer, first_four, in_order, after_b}
use Rattle.rules.specs.StepD.{finished, after_d}
use Rattle.rules.specs.declared.registers.Registers.{Registers}
use Rattle.rules.specs.declared.chip.Phase.{Phase}
use Rattle.rules.specs.declared.chip.Phase.TheVariants.{Idle, Selecting, Holding, Answering}
use Rattle.rules.specs.declared.chip.Selection.{Selection}
use Rattle.rules.specs.declared.chip.Sequencer.{Sequencer}
use Rattle.rules.specs.declared.records.Lines.{Lines}
use Rattle.rules.specs.declared.records.Event.TheVariants.{Ticks}
use Rattle.rules.proofs.Logic.{never}
use Rattle.rules.proofs.Ranges.{single_in_range}
use Rattle.rules.proofs.Selection.{Changes, resolved_keeps, handed}

regrouped : (k m : ℕ) → k + suc m ≡ k + 1 + m
regrouped k m = omega arith

-- A TICK CHANGES NOTHING BY ITSELF

module _ (s : State) (m : ℕ) where
  sequencer_same : (after_a s (Ticks m)).sequencer ≡ s.sequencer
  unfolding after_a sequencer_a gives_up selection_a noted_a selection_latches_a registers_a clears clears_latch writes
  sequencer_same = refl

  registers_same : (after_a s (Ticks m)).registers ≡ s.registers
  unfolding after_a registers_a clears writes
  registers_same = refl

  lines_same : (after_a s (Ticks m)).lines ≡ s.lines
  unfolding after_a lines_after
  lines_same = refl

-- nor do the lines move: the steps of B that wait for an edge leave the state
module _ (s n : State) (h : n.lines ≡ s.lines) (r : rst_seen n ≡ rst_seen s) where
  falls_none : after_req_falls s n ≡ n
  unfolding after_req_falls req_falls
  falls_none = rw (h, and-not_self)

  reset_none : after_rst_rises s n ≡ n
  unfolding after_rst_rises rst_rises
  reset_none = rw (r, and-not_self)

  rises_none : after_req_rises s n ≡ n
  unfolding after_req_rises req_rises
  rises_none = rw (h, and-not_self)

  only_quiet : (m : ℕ) → first_four s m n ≡ after_quiet_ticks m n
  unfolding first_four
  only_quiet m = rw (falls_none, reset_none, rises_none)

-- with SEL driven by the sequencer the quiet ticks are 0 and the bus is not free
quiet_none : (m : ℕ) (n : State) → n.sequencer.phase ≡ Selecting → after_quiet_ticks m n ≡ with_quiet 0 n
unfolding after_quiet_ticks bus_free quiet_after sel_seen phase_sel
quiet_none m n h = rw (h, or-true, or-true)

-- so a tick while selecting hands the sequencer what was there, with the quiet ticks 0
module _ (s : State) (m : ℕ) (h : s.sequencer.phase ≡ Selecting) where
  handed_selecting : handed s (Ticks m) ≡ with_quiet 0 (after_a s (Ticks m))
  unfolding ticks_of rst_seen after_a lines_after registers_a writes
  handed_selecting =
      only_quiet s (after_a s (Ticks m)) (lines_same s m) refl m
      ∙ quiet_none m (after_a s (Ticks m)) (ap (λ (q : Sequencer). q.phase) (sequencer_same s m) ∙ h)

  handed_sequencer : (handed s (Ticks m)).sequencer ≡ s.sequencer
  handed_sequencer = ap (λ (n : State). n.sequencer) handed_selecting ∙ sequencer_same s m

  handed_registers : (handed s (Ticks m)).registers ≡ s.registers
  handed_registers = ap (λ (n : State). n.registers) handed_selecting ∙ registers_same s m

  handed_lines : (handed s (Ticks m)).lines ≡ s.lines
  handed_lines = ap (λ (n : State). n.lines) handed_selecting ∙ lines_same s m

-- A TICK WHILE SELECTING, where others do not drive BSY and RST is not seen

-- nothing ends it but the limit
pub stays_selecting : (n : State) (y : Sequenced) → n.lines.bsy ≡ false → y.sequencer.phase ≡ Selecting → resolved n y ≡ y
unfolding phase_bsy phase_sel phase_drives
stays_selecting n y bsy h = resolved_keeps n Stays kept (λ z e b q. cc) y refl
  where
    Stays : Sequenced → Type 0
    Stays z = z ≡ y

    kept : Changes n Stays
    kept =
        record {
          uncalls = λ z e q. cc;
          lets_go = λ z e q. cc;
          forestalls = λ z e t q. cc;
          begins = λ z e q. cc;
          withdraws = λ z e q. cc;
          replies = λ z e q. absurd (never (sym (rw (ap (λ (w : Sequenced). w.sequencer.phase) q ∙ h) at e)));
        }

-- at the limit SELTO rises; the phase is idle with ENSELTIMO, unless the chip is called in that very tick, else holding
abbrev out_phase : Bool → Bool → Phase
out_phase enseltimo calls = cond enseltimo (cond calls Answering Idle) Holding

abbrev out_status : Selection → Selection
out_status t = selection_with t.seldo t.seldi t.selingo true

out_with : State → Bool → Sequenced
out_with n enseltimo =
    record {
      sequencer = selto_raised n.registers (in_phase (cond enseltimo Idle Holding) n.sequencer);
      enselo = false;
      atno = n.registers.scsisig.atno;
      quiet = n.quiet;
    }

module _ (n : State) (before : ℕ) (h : n.sequencer.phase ≡ Selecting) (timer : n.registers.sxfrctl1.enstimer ≡ true) (bsy : n.lines.bsy ≡ false) (rst : rst_seen n ≡ false) where
  unreset : sequenced true before n ≡ resolved n (tick_in n.sequencer.phase before n (sequenced_of n))
  unfolding sequenced sequenced_of
  unreset = rw rst

  abbrev spent : ℕ
  spent = n.sequencer.ticks + 1

  timed : (b : Bool) → leb (timeout n.registers) spent ≡ b → tick_in Selecting before n (sequenced_of n) ≡ cond b (times_out n (sequenced_of n)) (waited spent (sequenced_of n))
  unfolding tick_in selecting_for sequenced_of
  timed b l =
      ap (λ (t : Bool). selecting_for n (cond t spent 0) (sequenced_of n)) timer
      ∙ ap (λ (t : Bool). cond t (times_out n (sequenced_of n)) (waited spent (sequenced_of n))) l

  ticks_to : {y : Sequenced} → tick_in Selecting before n (sequenced_of n) ≡ y → sequenced true before n ≡ resolved n y
  ticks_to e = unreset ∙ ap (λ (p : Phase). resolved n (tick_in p before n (sequenced_of n))) h ∙ ap (resolved n) e

  -- below the limit it goes on
  goes_on : leb (timeout n.registers) spent ≡ false → sequenced true before n ≡ waited spent (sequenced_of n)
  unfolding sequenced_of waited
  goes_on l = ticks_to (timed false l) ∙ stays_selecting n (waited spent (sequenced_of n)) bsy h

  out_phase_lem : (b : Bool) → (resolved n (out_with n b)).sequencer.phase ≡ out_phase b (called n)
  unfolding out_with resolved uncalled let_go forestalled selected begun withdrawn answers entered selto_raised is_phase phase_number
  out_phase_lem true = go (called n)
    where
      go : (c : Bool) → (cond c (entered Answering (out_with n true)) (out_with n true)).sequencer.phase ≡ cond c Answering Idle
      go true = refl
      go false = refl
  out_phase_lem false = rw bsy

  out_enselo : (b : Bool) → (resolved n (out_with n b)).enselo ≡ false
  unfolding out_with
  out_enselo b = resolved_keeps n (λ y. y.enselo ≡ false) kept (λ y e c q. taken y) (out_with n b) refl
    where
      kept : Changes n (λ y. y.enselo ≡ false)
      kept =
          unfold entered in
          record {
            uncalls = λ y e q. q;
            lets_go = λ y e q. q;
            forestalls = λ y e t q. q;
            begins = λ y e q. q;
            withdraws = λ y e q. q;
            replies = λ y e q. q;
          }

      taken : (y : Sequenced) → (connects n y).enselo ≡ false
      taken y = unfold connects in refl

  out_status_lem : (b : Bool) → (resolved n (out_with n b)).sequencer.status ≡ out_status n.sequencer.status
  unfolding out_with selto_raised entered
  out_status_lem b = resolved_keeps n Stays kept (λ y e c q. absurd (never (sym bsy ∙ c))) (out_with n b) refl
    where
      Stays : Sequenced → Type 0
      Stays y = y.sequencer.status ≡ out_status n.sequencer.status

      kept : Changes n Stays
      kept =
          record {
            uncalls = λ y e q. q;
            lets_go = λ y e q. q;
            forestalls = λ y e t q. q;
            begins = λ y e q. q;
            withdraws = λ y e q. q;
            replies = λ y e q. q;
          }

  times_out_lem : leb (timeout n.registers) spent ≡ true → sequenced true before n ≡ resolved n (out_with n n.registers.simode1.enseltimo)
  unfolding times_out out_with sequenced_of
  times_out_lem l = ticks_to (timed true l)

-- WHAT AN EVENT OF ONE TICK LEAVES

-- the sequencer, the registers and the lines
pub record Standing : Type 0 where
  pub sequencer : Sequencer
  pub registers : Registers
  pub lines : Lines

abbrev pub standing_of : State → Standing
standing_of s = record { sequencer = s.sequencer; registers = s.registers; lines = s.lines }

-- the same with what the sequencer may change
abbrev sequenced_to : Sequenced → Standing → Standing
sequenced_to x t =
    let r = t.registers in
    record {
      sequencer = x.sequencer;
      registers = registers_with (scsiseq_with x.enselo r.scsiseq) r.sxfrctl0 (with_atn x.atno r.scsisig) r;
      lines = t.lines;
    }

standing_after : (s : State) → standing_of (after_d s (Ticks 1)) ≡ sequenced_to (sequenced true s.quiet (handed s (Ticks 1))) (standing_of (handed s (Ticks 1)))
unfolding after_d finished after_b in_order after_phase_changes phase_changed after_sequencer ticks_of
standing_after s = go (phase_changes s n)
  where
    n : State
    n = after_sequencer true s.quiet (handed s (Ticks 1))

    go : (b : Bool) → standing_of (cond b (phase_changed n) n) ≡ standing_of n
    go true = refl
    go false = refl

-- a tick is done where the host FIFO holds what it can
tick_done : (s : State) → length s.transfer.host ≤ 128 → (access s (Ticks 1)).state ≡ after_d s (Ticks 1)
unfolding access done ended access_code absent test_value shut no_room no_bytes writes port_write port_read offered asked
tick_done s h =
    rw (le-ltb 128 (length s.transfer.host + 0) (omega arith), le-ltb (length s.transfer.host) 0 (omega arith))

-- a selection that is timed and that nobody answers, RST not seen
pub record Unanswered (s : State) : Type 0 where
  pub phase : s.sequencer.phase ≡ Selecting
  pub timer : s.registers.sxfrctl1.enstimer ≡ true
  pub bsy : s.lines.bsy ≡ false
  pub rst : rst_seen s ≡ false

-- after k of its ticks, from s: nothing else of the sequencer, the registers and the lines has changed
abbrev pub Spent : State → ℕ → State → Type 0
Spent s k t = standing_of t ≡ record { sequencer = in_ticks k s.sequencer; registers = s.registers; lines = s.lines }

-- at its limit: SELTO is 1, ENSELO 0, and it is idle with ENSELTIMO, unless the chip is called in that very tick, else holding
pub record TimedOut (s t : State) : Type 0 where
  pub status : t.sequencer.status ≡ selection_with s.sequencer.status.seldo s.sequencer.status.seldi s.sequencer.status.selingo true
  pub enselo : t.registers.scsiseq.enselo ≡ false
  pub phase : t.sequencer.phase ≡ cond s.registers.simode1.enseltimo (cond (called s) Answering Idle) Holding

module _ (s : State) (u : Unanswered s) where
  n : State
  n = handed s (Ticks 1)

  at_phase : n.sequencer.phase ≡ Selecting
  unfolding n
  at_phase = ap (λ (q : Sequencer). q.phase) (handed_sequencer s 1 u.phase) ∙ u.phase

  at_timer : n.registers.sxfrctl1.enstimer ≡ true
  unfolding n
  at_timer = ap (λ (r : Registers). r.sxfrctl1.enstimer) (handed_registers s 1 u.phase) ∙ u.timer

  at_bsy : n.lines.bsy ≡ false
  unfolding n
  at_bsy = ap (λ (l : Lines). l.bsy) (handed_lines s 1 u.phase) ∙ u.bsy

  at_rst : rst_seen n ≡ false
  unfolding n rst_seen
  at_rst =
      (λ i. (handed_lines s 1 u.phase i).rst || (handed_registers s 1 u.phase i).scsiseq.scsirsto) ∙ u.rst

  at_limit : (b : Bool) → leb (timeout s.registers) (s.sequencer.ticks + 1) ≡ b → leb (timeout n.registers) (n.sequencer.ticks + 1) ≡ b
  unfolding n
  at_limit b l =
      (λ i. leb (timeout (handed_registers s 1 u.phase i)) ((handed_sequencer s 1 u.phase i).ticks + 1)) ∙ l

  -- one tick more, below the limit
  tick_more : leb (timeout s.registers) (s.sequencer.ticks + 1) ≡ false → Spent s (s.sequencer.ticks + 1) (after_d s (Ticks 1))
  unfolding n sequenced_of waited
  tick_more l =
      standing_after s
      ∙ ap (λ (x : Sequenced). sequenced_to x (standing_of n)) (goes_on n s.quiet at_phase at_timer at_bsy at_rst (at_limit false l))
      ∙ (λ i.
      record {
        sequencer = in_ticks ((handed_sequencer s 1 u.phase i).ticks + 1) (handed_sequencer s 1 u.phase i);
        registers = handed_registers s 1 u.phase i;
        lines = handed_lines s 1 u.phase i;
      })

  called_same : called n ≡ called s
  unfolding n called
  called_same i =
      let r = handed_registers s 1 u.phase i in
      let l = handed_lines s 1 u.phase i in
      r.scsiseq.enrseli && l.sel && l.io && bit l.byte r.scsiid.oid && not (l.bsy || r.scsisig.bsyo)

  -- the last
  tick_last : leb (timeout s.registers) (s.sequencer.ticks + 1) ≡ true → TimedOut s (after_d s (Ticks 1))
  unfolding n
  tick_last l =
      record {
        status =
            ap (λ (t : Standing). t.sequencer.status) out ∙ out_status_lem n s.quiet at_phase at_timer at_bsy at_rst to
            ∙ ap (λ (q : Sequencer). out_status q.status) (handed_sequencer s 1 u.phase);
        enselo =
            ap (λ (t : Standing). t.registers.scsiseq.enselo) out ∙ out_enselo n s.quiet at_phase at_timer at_bsy at_rst to;
        phase =
            ap (λ (t : Standing). t.sequencer.phase) out ∙ out_phase_lem n s.quiet at_phase at_timer at_bsy at_rst to
            ∙ (λ i. out_phase (handed_registers s 1 u.phase i).simode1.enseltimo (called_same i));
      }
    where
      to : Bool
      to = n.registers.simode1.enseltimo

      out : standing_of (after_d s (Ticks 1)) ≡ sequenced_to (resolved n (out_with n to)) (standing_of n)
      out =
          standing_after s
          ∙ ap (λ (x : Sequenced). sequenced_to x (standing_of n)) (times_out_lem n s.quiet at_phase at_timer at_bsy at_rst (at_limit true l))

-- TICK AFTER TICK

module _ (s : State) (u : Unanswered s) where
  -- what holds of s holds after k ticks too
  module _ (k : ℕ) (t : State) (h : Spent s k t) where
    pub unanswered_then : Unanswered t
    unfolding rst_seen
    unanswered_then =
        record {
          phase = ap (λ (x : Standing). x.sequencer.phase) h ∙ u.phase;
          timer = ap (λ (x : Standing). x.registers.sxfrctl1.enstimer) h ∙ u.timer;
          bsy = ap (λ (x : Standing). x.lines.bsy) h ∙ u.bsy;
          rst = ap (λ (x : Standing). x.lines.rst || x.registers.scsiseq.scsirsto) h ∙ u.rst;
        }

    limit_then : (b : Bool) → leb (timeout s.registers) (k + 1) ≡ b → leb (timeout t.registers) (t.sequencer.ticks + 1) ≡ b
    limit_then b l = ap (λ (x : Standing). leb (timeout x.registers) (x.sequencer.ticks + 1)) h ∙ l

    spends_one : k + 1 < timeout s.registers → Spent s (k + 1) (after_d t (Ticks 1))
    spends_one l =
        tick_more t unanswered_then (limit_then false (lt-leb (timeout s.registers) (k + 1) l))
        ∙ ap (λ (x : Standing). record { sequencer = in_ticks (x.sequencer.ticks + 1) x.sequencer; registers = x.registers; lines = x.lines }) h

    called_then : called t ≡ called s
    unfolding called
    called_then =
        ap (λ (x : Standing). x.registers.scsiseq.enrseli && x.lines.sel && x.lines.io && bit x.lines.byte x.registers.scsiid.oid && not (x.lines.bsy || x.registers.scsisig.bsyo)) h

    ends_one : timeout s.registers ≤ k + 1 → TimedOut s (after_d t (Ticks 1))
    ends_one l =
        let o = tick_last t unanswered_then (limit_then true (le-leb (timeout s.registers) (k + 1) l)) in
        record {
          status = o.status ∙ ap (λ (x : Standing). out_status x.sequencer.status) h;
          enselo = o.enselo;
          phase = o.phase ∙ (λ i. out_phase (h i).registers.simode1.enseltimo (called_then i));
        }

  one_more_lem : (t : State) → InRange t → InRange (access t (Ticks 1)).state
  unfolding single_ticks ended
  one_more_lem t i = single_in_range 1 t i

  pub spends : (m k : ℕ) (t : State) → InRange t → Spent s k t → k + m < timeout s.registers → Spent s (k + m) (single_ticks m t).state
  unfolding single_ticks ended
  spends zero k t i h l = rw add-zero h
  spends (suc m) k t i h l =
      rw (regrouped k m)
      (spends m (k + 1) (access t (Ticks 1)).state (one_more_lem t i)
      (ap standing_of (tick_done t i.transfer.host) ∙ spends_one k t h (omega arith)) (omega arith))

  pub ends : (m k : ℕ) (t : State) → InRange t → Spent s k t → k + suc m ≡ timeout s.registers → TimedOut s (single_ticks (suc m) t).state
  unfolding single_ticks ended
  ends zero k t i h l = subst (TimedOut s) (sym (tick_done t i.transfer.host)) (ends_one k t h (omega arith))
  ends (suc m) k t i h l =
      ends m (k + 1) (access t (Ticks 1)).state (one_more_lem t i)
      (ap standing_of (tick_done t i.transfer.host) ∙ spends_one k t h (omega arith)) (omega arith)

-- A SELECTION THAT NOBODY ANSWERS ENDS BY SELTO AT EXACTLY ITS LIMIT: an event of fewer ticks changes nothing of the sequencer, the
-- registers and the lines but the ticks spent; an event of just those ticks ends it
pub record EndsAtLimit (s : State) : Type 0 where
  pub before : (n : ℕ) → 0 < n → n < timeout s.registers → Spent s n (step_event s (Ticks n)).state
  pub at : (n : ℕ) → n ≡ timeout s.registers → TimedOut s (step_event s (Ticks n)).state

-- the shortest limit
timeout_most : (r : Registers) → 640000 ≤ timeout r
unfolding timeout
timeout_most r = go r.sxfrctl1.stimesel1 r.sxfrctl1.stimesel0
  where
    go : (a b : Bool) → 640000 ≤ get_or (5120000 ∷ 2560000 ∷ 1280000 ∷ 640000 ∷ []) (one a * 2 + one b) 0
    go true true = omega arith
    go true false = omega arith
    go false true = omega arith
    go false false = omega arith

pub unanswered_ends : (s : State) → InRange s → Unanswered s → s.sequencer.ticks ≡ 0 → EndsAtLimit s
unfolding step_event ticks_taken
unanswered_ends s i u z = record { before = before; at = at }
  where
    fresh : Spent s 0 s
    fresh j = record { sequencer = in_ticks (z j) s.sequencer; registers = s.registers; lines = s.lines }

    before : (n : ℕ) → 0 < n → n < timeout s.registers → Spent s n (ticks_taken n s).state
    before zero p l = absurd (omega arith)
    before (suc m) p l = rw (zero-add (suc m)) at (spends s u (suc m) 0 s i fresh (omega arith))

    at : (n : ℕ) → n ≡ timeout s.registers → TimedOut s (ticks_taken n s).state
    at zero e = absurd (omega (arith, timeout_most s.registers))
    at (suc m) e = ends s u m 0 s i fresh (omega arith)

-- "the timeouts of 342h: 5,120,000, 2,560,000, 1,280,000 and 640,000 ticks", by the code that STIMESEL has in 342h
pub limits_are : (r : Registers) (code : ℕ) → r.sxfrctl1 ≡ sxfrctl1_of (code * 8) → code < 4 → timeout r ≡ 5120000 / 2 ^ code
unfolding timeout
limits_are r zero e h = rw e
limits_are r (suc zero) e h = rw e
limits_are r (suc (suc zero)) e h = rw e
limits_are r (suc (suc (suc zero))) e h = rw e
limits_are r (suc (suc (suc (suc n)))) e h = absurd (omega arith)
