-- What the sequencer keeps: a property that its changes keep.
use mathlib.Core.Path.{◌≡◌, refl}
use mathlib.Core.Bool.{Bool, true, false, not, ◌&&◌, ◌||◌, cond}
use mathlib.Core.List.{[], ◌∷◌}
use Prim.Native.Nat.{ℕ, ◌+◌, ◌*◌, ◌<◌, ◌≤◌}
use native.Mathlib.Omega.{arith}
use lib.Dec.{leb}
use lib.ListN.{get_or}
use borrow.Author.Tests.{leb-false}
use Rattle.rules.specs.Numbers.{one}
use Rattle.rules.specs.State.{State}
use Rattle.rules.specs.Seen.{is_phase, phase_drives, rst_seen, bsy_seen, sel_seen}
use Rattle.rules.specs.Sequencer.{bus_free_delay, arbitration_delay, clearing_delay, settle_delay, timeout, asked_by, called, higher_id, sequenced_of, waited, entered, silenced, arbitrates, waiting_for, arbitrating_for, selects, clearing_for, times_out, selecting_for, reselected, answering_for, tick_in, uncalled, let_go, forestalled, connects, selected, begun, withdrawn, answers, resolved, sequenced}
use Rattle.rules.specs.declared.chip.Sequenced.{Sequenced}
use Rattle.rules.specs.declared.registers.Registers.{Registers}
use Rattle.rules.specs.declared.chip.Phase.{Phase}
use Rattle.rules.specs.declared.chip.Phase.TheVariants.{Idle, Waiting, Arbitrating, Clearing, Selecting, Holding, Answering, Answered}
use Rattle.rules.proofs.Logic.{cond_case}

-- what is handed on by each change of phase in "In every event, ticks or not", and by SELDO: none of them enters a phase that
-- gives data
module _ (s : State) (P : Sequenced → Type 0) (moved : (p : Phase) (x : Sequenced) → phase_drives p ≡ false → P x → P (entered p x)) (taken : (x : Sequenced) → P x → P (connects s x)) where
  step : (t : Bool) (q : Phase) (y : Sequenced) → phase_drives q ≡ false → P y → P (cond t (entered q y) y)
  step t q y d h = cond_case P t (entered q y) y (λ e. moved q y d h) (λ e. h)

  keeps_uncalled : (x : Sequenced) → P x → P (uncalled s x)
  unfolding uncalled phase_drives
  keeps_uncalled x h = step (is_phase Answering x.sequencer.phase && not (called s)) Idle x refl h

  keeps_let_go : (x : Sequenced) → P x → P (let_go s x)
  unfolding let_go phase_drives
  keeps_let_go x h = step (is_phase Answered x.sequencer.phase && not s.lines.sel) Idle x refl h

  keeps_forestalled : (x : Sequenced) → P x → P (forestalled s x)
  unfolding forestalled phase_drives
  keeps_forestalled x h = step (is_phase Arbitrating x.sequencer.phase && s.lines.sel) Waiting x refl h

  keeps_selected : (x : Sequenced) → P x → P (selected s x)
  unfolding selected
  keeps_selected x h =
      cond_case P ((is_phase Selecting x.sequencer.phase || is_phase Holding x.sequencer.phase) && s.lines.bsy) (connects s x) x (λ e. taken x h) (λ e. h)

  keeps_begun : (x : Sequenced) → P x → P (begun s x)
  unfolding begun phase_drives
  keeps_begun x h =
      step (is_phase Idle x.sequencer.phase && asked_by x.enselo s.registers.scsiseq.temodeo) Waiting x refl h

  keeps_withdrawn : (x : Sequenced) → P x → P (withdrawn s x)
  unfolding withdrawn phase_drives
  keeps_withdrawn x h =
      step (is_phase Waiting x.sequencer.phase && not (asked_by x.enselo s.registers.scsiseq.temodeo) && not (leb 8 x.quiet)) Idle x refl h

  keeps_answers : (x : Sequenced) → P x → P (answers s x)
  unfolding answers phase_drives
  keeps_answers x h =
      step ((is_phase Idle x.sequencer.phase || is_phase Waiting x.sequencer.phase) && called s) Answering x refl h

  pub resolved_keeps : (x : Sequenced) → P x → P (resolved s x)
  unfolding resolved
  resolved_keeps x h =
      keeps_answers _ (keeps_withdrawn _ (keeps_begun _ (keeps_selected _ (keeps_forestalled _ (keeps_let_go _ (keeps_uncalled x h))))))

-- the same of a tick, where a wait keeps it too
module _ (s : State) (P : Sequenced → Type 0) where
  pub record Ticking : Type 0 where
    pub waits : (n : ℕ) (x : Sequenced) → n < 5120000 → P x → P (waited n x)
    pub moved : (p : Phase) (x : Sequenced) → P x → P (entered p x)
    pub arbitrated : (x : Sequenced) → P x → P (arbitrates x)
    pub selecting : (x : Sequenced) → P x → P (selects s x)
    pub ended : (x : Sequenced) → P x → P (times_out s x)
    pub answered : (x : Sequenced) → P x → P (reselected s x)
    pub taken : (x : Sequenced) → P x → P (connects s x)
    pub silent : (x : Sequenced) → P x → P (silenced x)

-- the longest timeout
pub timeout_least : (r : Registers) → timeout r ≤ 5120000
unfolding timeout
timeout_least r = go r.sxfrctl1.stimesel1 r.sxfrctl1.stimesel0
  where
    go : (a b : Bool) → get_or (5120000 ∷ 2560000 ∷ 1280000 ∷ 640000 ∷ []) (one a * 2 + one b) 0 ≤ 5120000
    go true true = omega arith
    go true false = omega arith
    go false true = omega arith
    go false false = omega arith

module _ (s : State) (P : Sequenced → Type 0) (k : Ticking s P) where
  -- up to a delay it waits, then it changes
  delayed : (d n : ℕ) (x y : Sequenced) → d ≤ 5120000 → P x → P y → P (cond (leb d n) y (waited n x))
  delayed d n x y h p q =
      cond_case P (leb d n) y (waited n x) (λ e. q) (λ e. k.waits n x (omega (arith, leb-false d n e)) p)

  pub tick_keeps : (p : Phase) (before : ℕ) (x : Sequenced) → P x → P (tick_in p before s x)
  unfolding tick_in waiting_for arbitrating_for clearing_for selecting_for answering_for
  tick_keeps Idle before x h = h
  tick_keeps Waiting before x h =
      delayed bus_free_delay (cond (leb 8 before && not (bsy_seen s || sel_seen s)) (x.sequencer.ticks + 1) 0) x (arbitrates x) (omega arith) h
      (k.arbitrated x h)
  tick_keeps Arbitrating before x h =
      let p = cond (higher_id s) Waiting Clearing in
      delayed arbitration_delay (x.sequencer.ticks + 1) x (entered p x) (omega arith) h (k.moved p x h)
  tick_keeps Clearing before x h =
      delayed clearing_delay (x.sequencer.ticks + 1) x (selects s x) (omega arith) h (k.selecting x h)
  tick_keeps Selecting before x h =
      delayed (timeout s.registers) (cond s.registers.sxfrctl1.enstimer (x.sequencer.ticks + 1) 0) x (times_out s x)
      (timeout_least s.registers) h (k.ended x h)
  tick_keeps Holding before x h = h
  tick_keeps Answering before x h =
      delayed settle_delay (x.sequencer.ticks + 1) x (reselected s x) (omega arith) h (k.answered x h)
  tick_keeps Answered before x h = h

  -- THE SEQUENCER KEEPS WHAT ITS CHANGES KEEP
  pub sequenced_keeps : (tick : Bool) (before : ℕ) → P (sequenced_of s) → P (sequenced tick before s)
  unfolding sequenced
  sequenced_keeps tick before h =
      let x = sequenced_of s in
      cond_case P (rst_seen s) _ _ (λ e. k.silent x h)
      (λ e.
      resolved_keeps s P (λ p y d. k.moved p y) k.taken (cond tick (tick_in x.sequencer.phase before s x) x)
      (cond_case P tick (tick_in x.sequencer.phase before s x) x (λ t. tick_keeps x.sequencer.phase before x h) (λ t. h)))
