-- R-1, "What a reader asks" of the sequencer: over any state and any event.
use Rattle.std.specs.Prelude.{Option, Some, None}
use mathlib.Core.Path.{◌≡◌, refl, ap, ap₂, sym, subst, ◌∙◌}
use mathlib.Core.Bool.{Bool, true, false, not, ◌&&◌, ◌||◌, cond, or-false}
use mathlib.Core.List.{List, [], ◌∷◌}
use Prim.Native.Nat.{ℕ, zero, suc, ◌+◌, ◌/◌, ◌^◌, ◌≤◌}
use native.Mathlib.Omega.{arith}
use lib.Dec.{T, leb, ltb, eqb→eq}
use lib.ListN.{get_or}
use borrow.Author.Tests.{leb-true}
use Rattle.rules.specs.Numbers.{one, byte_of}
use Rattle.rules.specs.State.{State, power_reset}
use Rattle.rules.specs.Records.{decode}
use Rattle.rules.specs.Codes.{access_code, is_done}
use Rattle.rules.specs.Answers.{Stepped, control_driven}
use Rattle.rules.specs.Step.{ended, done, access, single_ticks, ticks_taken, step_event, step_decoded, step, after}
use Rattle.rules.specs.Changed.{with_quiet}
use Rattle.rules.specs.Seen.{phase_number, is_phase, phase_bsy, phase_sel, phase_drives, phase_data, rst_seen, bsy_seen, sel_seen, ack_driven, byte_driven, data_driven}
use Rattle.rules.specs.Events.{writes, ticks_of, lines_after}
use Rattle.rules.specs.Sequencer.{bus_free_delay, arbitration_delay, clearing_delay, settle_delay, timeout, asked_by, selection_asked, called, higher_id, sequenced_of, waited, entered, selection_with, selingo_cleared, selingo_raised, selto_raised, seldo_raised, seldi_raised, selection_freed, silenced, arbitrates, waiting_for, arbitrating_for, selects, clearing_for, times_out, selecting_for, reselected, answering_for, tick_in, uncalled, let_go, forestalled, connects, selected, begun, withdrawn, answers, resolved, sequenced}
use Rattle.rules.specs.declared.chip.Sequenced.{Sequenced}
use Rattle.rules.specs.StepA.{clears, clears_latch, registers_a, gives_up, selection_a, noted_a, sequencer_a, after_a}
use Rattle.rules.specs.StepB.{req_falls, ack_released, after_req_falls, rst_rises, bus_reset, after_rst_rises, req_rises, req_risen, after_req_rises, quiet_after, bus_free, bus_freed, after_quiet_ticks, phase_changes, phase_changed, after_phase_changes, after_sequencer, first_four, in_order, after_b, at_req}
use Rattle.rules.specs.StepD.{finished, after_d}
use Rattle.rules.specs.declared.registers.Scsiid.{Scsiid}
use Rattle.rules.specs.declared.registers.Registers.{Registers}
use Rattle.rules.specs.declared.map.Register.TheVariants.{SCSISEQ}
use Rattle.rules.specs.declared.chip.Phase.{Phase}
use Rattle.rules.specs.declared.chip.Phase.TheVariants.{Idle, Waiting, Arbitrating, Clearing, Selecting, Holding, Answering, Answered}
use Rattle.rules.specs.declared.chip.Selection.{Selection}
use Rattle.rules.specs.declared.chip.Sequencer.{Sequencer}
use Rattle.rules.specs.declared.records.Lines.{Lines}
use Rattle.rules.specs.declared.records.Event.{Event}
use Rattle.rules.specs.declared.records.Event.TheVariants.{PowerReset, Write, Read, WordWrite, WordRead, Drive, Ticks}
use Rattle.rules.proofs.Logic.{never, left_true, right_true, cond_case}

-- WHAT THE SEQUENCER IS HANDED

-- what the steps of B before it leave of what it looks at
record Left : Type 0 where
  lines : Lines
  scsiid : Scsiid
  sequencer : Sequencer

abbrev left_of : State → Left
left_of n =
    record {
      lines = n.lines;
      scsiid = n.registers.scsiid;
      sequencer = n.sequencer;
    }

-- the first three leave all of it
module _ (l : Left) (last : State) where
  abbrev Leaves : State → Type 0
  Leaves n = left_of n ≡ l

  leaves_falls : (n : State) → Leaves n → Leaves (after_req_falls last n)
  unfolding after_req_falls ack_released
  leaves_falls n h = cond_case Leaves (req_falls last n) (ack_released n) n (λ q. h) (λ q. h)

  leaves_reset : (n : State) → Leaves n → Leaves (after_rst_rises last n)
  unfolding after_rst_rises bus_reset
  leaves_reset n h = cond_case Leaves (rst_rises last n) (bus_reset n) n (λ q. h) (λ q. h)

  leaves_risen : (n : State) → Leaves n → Leaves (after_req_rises last n)
  unfolding after_req_rises req_risen
  leaves_risen n h = cond_case Leaves (req_rises last n) (req_risen n) n (λ q. h) (λ q. h)

-- bus free clears SELDO, and SELDI where noted
abbrev freed : Bool → Left → Left
freed free l =
    record {
      lines = l.lines;
      scsiid = l.scsiid;
      sequencer = cond free (selection_freed l.sequencer) l.sequencer;
    }

frees : (ticks : ℕ) (n : State) → left_of (after_quiet_ticks ticks n) ≡ freed (bus_free ticks n) (left_of n)
unfolding after_quiet_ticks bus_freed
frees ticks n = go (bus_free ticks n)
  where
    q : State
    q = with_quiet (quiet_after ticks n) n

    go : (b : Bool) → left_of (cond b (bus_freed q) q) ≡ freed b (left_of n)
    go true = refl
    go false = refl

-- what is asked of the state after an event
record Outcome : Type 0 where
  sequencer : Sequencer
  lines : Lines
  rst : Bool
  higher : Bool

abbrev outcome_of : State → Outcome
outcome_of n = record { sequencer = n.sequencer; lines = n.lines; rst = rst_seen n; higher = higher_id n }

module _ (s : State) (e : Event) where
  -- the state that the quiet ticks are handed, and that which the sequencer is handed
  abbrev pub at_quiet : State
  at_quiet = after_req_rises s (at_req s e)

  abbrev pub handed : State
  handed = first_four s (ticks_of e) (after_a s e)

  -- does the bus come free, and is it a tick?
  abbrev pub free : Bool
  free = bus_free (ticks_of e) at_quiet

  abbrev pub tick : Bool
  tick = ltb 0 (ticks_of e)

  handed_left : left_of handed ≡ freed free (left_of (after_a s e))
  unfolding first_four at_req
  handed_left =
      frees (ticks_of e) at_quiet
      ∙ ap (freed free)
      (leaves_risen (left_of (after_a s e)) s (at_req s e)
      (leaves_reset (left_of (after_a s e)) s (after_req_falls s (after_a s e)) (leaves_falls (left_of (after_a s e)) s (after_a s e) refl)))

  -- what the sequencer makes of it stands in the state after the event, with the lines that it was handed
  after_is : outcome_of (after_d s e) ≡ record { sequencer = (sequenced tick s.quiet handed).sequencer; lines = handed.lines; rst = rst_seen handed; higher = higher_id handed }
  unfolding rst_seen higher_id after_d finished after_b in_order after_phase_changes phase_changed after_sequencer
  after_is = go (phase_changes s n)
    where
      n : State
      n = after_sequencer tick s.quiet handed

      go : (b : Bool) → outcome_of (cond b (phase_changed n) n) ≡ outcome_of n
      go true = refl
      go false = refl

  pub sequencer_is : (after_d s e).sequencer ≡ (sequenced tick s.quiet handed).sequencer
  sequencer_is = ap (λ (o : Outcome). o.sequencer) after_is

  pub rst_after : rst_seen (after_d s e) ≡ rst_seen handed
  rst_after = ap (λ (o : Outcome). o.rst) after_is

  higher_after : higher_id (after_d s e) ≡ higher_id handed
  higher_after = ap (λ (o : Outcome). o.higher) after_is

  pub lines_after_lem : (after_d s e).lines ≡ handed.lines
  lines_after_lem = ap (λ (o : Outcome). o.lines) after_is

-- PHASES

-- a phase by its number
phase_of : ℕ → Phase
phase_of k = get_or (Idle ∷ Waiting ∷ Arbitrating ∷ Clearing ∷ Selecting ∷ Holding ∷ Answering ∷ Answered ∷ []) k Idle

phase_of_lem : (p : Phase) → phase_of (phase_number p) ≡ p
unfolding phase_of phase_number
phase_of_lem Idle = refl
phase_of_lem Waiting = refl
phase_of_lem Arbitrating = refl
phase_of_lem Clearing = refl
phase_of_lem Selecting = refl
phase_of_lem Holding = refl
phase_of_lem Answering = refl
phase_of_lem Answered = refl

is_phase_lem : (p q : Phase) → is_phase p q ≡ true → q ≡ p
unfolding is_phase
is_phase_lem p q h =
    sym (phase_of_lem q) ∙ ap phase_of (sym (eqb→eq (phase_number p) (phase_number q) (subst T (sym h) tt))) ∙ phase_of_lem p

-- A leaves the phase, or makes it idle
unidle : (g : Bool) (p q : Phase) → is_phase Idle q ≡ false → cond g Idle p ≡ q → p ≡ q
unfolding is_phase phase_number
unidle true p q h e = absurd (never (sym (subst (λ (z : Phase). is_phase Idle z ≡ false) (sym e) h)))
unidle false p q h e = e

-- does the sequencer drive a line or data?
abbrev pub drives : Phase → Bool
drives p = phase_bsy p || phase_sel p || phase_drives p

-- idle and waiting drive nothing
resting : (p : Phase) → (is_phase Idle p || is_phase Waiting p) ≡ true → drives p ≡ false
unfolding is_phase phase_number phase_bsy phase_sel phase_drives
resting Idle h = refl
resting Waiting h = refl
resting Arbitrating h = absurd (never h)
resting Clearing h = absurd (never h)
resting Selecting h = absurd (never h)
resting Holding h = absurd (never h)
resting Answering h = absurd (never h)
resting Answered h = absurd (never h)

-- selecting or holding
abbrev pub selecting : Phase → Bool
selecting p = is_phase Selecting p || is_phase Holding p

-- a phase that drives nothing
pub record Silent (p : Phase) : Type 0 where
  pub bsy : phase_bsy p ≡ false
  pub sel : phase_sel p ≡ false
  pub drives : phase_drives p ≡ false

-- idle, as RST leaves it, and waiting drive nothing
pub idle_silent : Silent Idle
unfolding phase_bsy phase_sel phase_drives
idle_silent = record { bsy = refl; sel = refl; drives = refl }

pub waiting_silent : Silent Waiting
unfolding phase_bsy phase_sel phase_drives
waiting_silent = record { bsy = refl; sel = refl; drives = refl }

-- so the answer tells of 343h, of ACK and of document 01's data alone
pub record Undriven (s : State) : Type 0 where
  pub control : control_driven s ≡ byte_of false false false s.registers.scsisig.atno s.registers.scsisig.selo s.registers.scsisig.bsyo false (ack_driven s)
  pub driven : data_driven s ≡ byte_driven s

pub silent_answers : (s : State) → Silent s.sequencer.phase → Undriven s
unfolding control_driven data_driven
silent_answers s q =
    record {
      control =
          (λ i.
          byte_of false false false s.registers.scsisig.atno (s.registers.scsisig.selo || q.sel i)
          (s.registers.scsisig.bsyo || q.bsy i) false (ack_driven s))
          ∙ (λ i.
          byte_of false false false s.registers.scsisig.atno (or-false s.registers.scsisig.selo i)
          (or-false s.registers.scsisig.bsyo i) false (ack_driven s));
      driven = ap (λ (b : Bool). cond b (phase_data s.sequencer.phase s.registers.scsiid) (byte_driven s)) q.drives;
    }

-- "IN EVERY EVENT, TICKS OR NOT"

-- what its changes of phase keep, each from the phase that it leaves
module _ (n : State) (P : Sequenced → Type 0) where
  pub record Changes : Type 0 where
    pub uncalls : (x : Sequenced) → x.sequencer.phase ≡ Answering → P x → P (entered Idle x)
    pub lets_go : (x : Sequenced) → x.sequencer.phase ≡ Answered → P x → P (entered Idle x)
    pub forestalls : (x : Sequenced) → x.sequencer.phase ≡ Arbitrating → n.lines.sel ≡ true → P x → P (entered Waiting x)
    pub begins : (x : Sequenced) → x.sequencer.phase ≡ Idle → P x → P (entered Waiting x)
    pub withdraws : (x : Sequenced) → x.sequencer.phase ≡ Waiting → P x → P (entered Idle x)
    pub replies : (x : Sequenced) → drives x.sequencer.phase ≡ false → P x → P (entered Answering x)

  -- a test of the phase and of something else
  from : (p : Phase) (b : Bool) (x y : Sequenced) → (x.sequencer.phase ≡ p → b ≡ true → P y) → P x → P (cond (is_phase p x.sequencer.phase && b) y x)
  from p b x y f h =
      let q = x.sequencer.phase in
      cond_case P (is_phase p q && b) y x
      (λ e. f (is_phase_lem p q (left_true (is_phase p q) b e)) (right_true (is_phase p q) b e)) (λ e. h)

  module _ (k : Changes) where
    keeps_uncalled : (x : Sequenced) → P x → P (uncalled n x)
    unfolding uncalled
    keeps_uncalled x h = from Answering (not (called n)) x (entered Idle x) (λ e t. k.uncalls x e h) h

    keeps_let_go : (x : Sequenced) → P x → P (let_go n x)
    unfolding let_go
    keeps_let_go x h = from Answered (not n.lines.sel) x (entered Idle x) (λ e t. k.lets_go x e h) h

    keeps_forestalled : (x : Sequenced) → P x → P (forestalled n x)
    unfolding forestalled
    keeps_forestalled x h = from Arbitrating n.lines.sel x (entered Waiting x) (λ e t. k.forestalls x e t h) h

    keeps_begun : (x : Sequenced) → P x → P (begun n x)
    unfolding begun
    keeps_begun x h =
        from Idle (asked_by x.enselo n.registers.scsiseq.temodeo) x (entered Waiting x) (λ e t. k.begins x e h) h

    keeps_withdrawn : (x : Sequenced) → P x → P (withdrawn n x)
    unfolding withdrawn
    keeps_withdrawn x h =
        let p = x.sequencer.phase in
        let u = not (asked_by x.enselo n.registers.scsiseq.temodeo) in
        cond_case P (is_phase Waiting p && u && not (leb 8 x.quiet)) (entered Idle x) x
        (λ e. k.withdraws x (is_phase_lem Waiting p (left_true (is_phase Waiting p) u (left_true (is_phase Waiting p && u) (not (leb 8 x.quiet)) e))) h)
        (λ e. h)

    keeps_answers : (x : Sequenced) → P x → P (answers n x)
    unfolding answers
    keeps_answers x h =
        let p = x.sequencer.phase in
        cond_case P ((is_phase Idle p || is_phase Waiting p) && called n) (entered Answering x) x
        (λ e. k.replies x (resting p (left_true (is_phase Idle p || is_phase Waiting p) (called n) e)) h) (λ e. h)

    -- those before SELDO, and those after it
    pub sooner_keeps : (x : Sequenced) → P x → P (forestalled n (let_go n (uncalled n x)))
    sooner_keeps x h = keeps_forestalled _ (keeps_let_go _ (keeps_uncalled x h))

    pub later_keeps : (x : Sequenced) → P x → P (answers n (withdrawn n (begun n x)))
    later_keeps x h = keeps_answers _ (keeps_withdrawn _ (keeps_begun x h))

    -- ALL OF THEM, where SELDO keeps it too
    pub resolved_keeps : ((x : Sequenced) → selecting x.sequencer.phase ≡ true → n.lines.bsy ≡ true → P x → P (connects n x)) → (x : Sequenced) → P x → P (resolved n x)
    unfolding resolved selected
    resolved_keeps f x h =
        later_keeps _
        (cond_case P (selecting y.sequencer.phase && n.lines.bsy) (connects n y) y
        (λ e. f y (left_true (selecting y.sequencer.phase) n.lines.bsy e) (right_true (selecting y.sequencer.phase) n.lines.bsy e) (sooner_keeps x h))
        (λ e. sooner_keeps x h))
      where
        y : Sequenced
        y = forestalled n (let_go n (uncalled n x))

-- a change of phase leaves the statuses
held : (n : State) (h : Selection) → Changes n (λ x. x.sequencer.status ≡ h)
unfolding entered
held n h =
    record {
      uncalls = λ x e q. q;
      lets_go = λ x e q. q;
      forestalls = λ x e t q. q;
      begins = λ x e q. q;
      withdraws = λ x e q. q;
      replies = λ x e q. q;
    }

-- selecting or holding, which none of them begins or ends
silent_unselecting : (p : Phase) → drives p ≡ false → selecting p ≡ false
unfolding is_phase phase_number phase_bsy phase_sel phase_drives
silent_unselecting Idle h = refl
silent_unselecting Waiting h = refl
silent_unselecting Arbitrating h = refl
silent_unselecting Clearing h = refl
silent_unselecting Selecting h = h
silent_unselecting Holding h = h
silent_unselecting Answering h = refl
silent_unselecting Answered h = refl

selecting_held : (n : State) (b : Bool) → Changes n (λ x. selecting x.sequencer.phase ≡ b)
unfolding entered is_phase phase_number
selecting_held n b =
    record {
      uncalls = λ x e q. rw e at q;
      lets_go = λ x e q. rw e at q;
      forestalls = λ x e t q. rw e at q;
      begins = λ x e q. rw e at q;
      withdraws = λ x e q. rw e at q;
      replies = λ x e q. rw (silent_unselecting x.sequencer.phase e) at q;
    }

-- none of them begins to drive: where a line is driven afterwards, nothing was changed
still : (n : State) (y : Sequenced) → Changes n (λ x. drives x.sequencer.phase ≡ true → x ≡ y)
unfolding entered phase_bsy phase_sel phase_drives
still n y =
    record {
      uncalls = λ x e q h. absurd (never h);
      lets_go = λ x e q h. absurd (never h);
      forestalls = λ x e t q h. absurd (never h);
      begins = λ x e q h. absurd (never h);
      withdraws = λ x e q h. absurd (never h);
      replies = λ x e q h. absurd (never h);
    }

-- SELDO rises and SELINGO falls
abbrev connected_status : Selection → Selection
connected_status t = selection_with true t.seldi false t.selto

module _ (n : State) where
  pub resolved_still : (x : Sequenced) → drives (resolved n x).sequencer.phase ≡ true → resolved n x ≡ x
  unfolding connects seldo_raised phase_bsy phase_sel phase_drives
  resolved_still x =
      resolved_keeps n (λ y. drives y.sequencer.phase ≡ true → y ≡ x) (still n x) (λ y e b q h. absurd (never h)) x (λ h. refl)

  selected_status : (x : Sequenced) → (selected n x).sequencer.status ≡ cond (selecting x.sequencer.phase && n.lines.bsy) (connected_status x.sequencer.status) x.sequencer.status
  unfolding selected connects seldo_raised
  selected_status x = go (selecting x.sequencer.phase && n.lines.bsy)
    where
      go : (b : Bool) → (cond b (connects n x) x).sequencer.status ≡ cond b (connected_status x.sequencer.status) x.sequencer.status
      go true = refl
      go false = refl

  resolved_status : (x : Sequenced) → (resolved n x).sequencer.status ≡ cond (selecting x.sequencer.phase && n.lines.bsy) (connected_status x.sequencer.status) x.sequencer.status
  unfolding resolved
  resolved_status x =
      (later_keeps n (λ y. y.sequencer.status ≡ (selected n z).sequencer.status) (held n (selected n z).sequencer.status) (selected n z) refl)
      ∙ selected_status z
      ∙ ap₂ (λ (b : Bool) (t : Selection). cond (b && n.lines.bsy) (connected_status t) t)
      (sooner_keeps n (λ y. selecting y.sequencer.phase ≡ selecting x.sequencer.phase) (selecting_held n (selecting x.sequencer.phase)) x refl)
      (sooner_keeps n (λ y. y.sequencer.status ≡ x.sequencer.status) (held n x.sequencer.status) x refl)
    where
      z : Sequenced
      z = forestalled n (let_go n (uncalled n x))

  resolved_noted : (x : Sequenced) → (resolved n x).sequencer.noted ≡ x.sequencer.noted
  unfolding connects seldo_raised entered
  resolved_noted x =
      resolved_keeps n (λ y. y.sequencer.noted ≡ x.sequencer.noted) noted_held (λ y e b q. q) x refl
    where
      noted_held : Changes n (λ y. y.sequencer.noted ≡ x.sequencer.noted)
      noted_held =
          record {
            uncalls = λ y e q. q;
            lets_go = λ y e q. q;
            forestalls = λ y e t q. q;
            begins = λ y e q. q;
            withdraws = λ y e q. q;
            replies = λ y e q. q;
          }

-- "IF THE EVENT IS A TICK, BY PHASE": the tick at which each phase ends, where k ticks were spent in it before; n is the state that
-- the sequencer is handed, before the number of quiet ticks before the event
module _ (n : State) (before : ℕ) where
  -- "at 16 or more: arbitrating"
  abbrev pub arbitrates_at : Phase → ℕ → Bool
  arbitrates_at p k =
      is_phase Waiting p && leb bus_free_delay (cond (leb 8 before && not (bsy_seen n || sel_seen n)) (k + 1) 0)

  -- "at 24 (16 and 8) or more: selecting"
  abbrev pub selects_at : Phase → ℕ → Bool
  selects_at p k = is_phase Clearing p && leb clearing_delay (k + 1)

  -- "at or above the limit of STIMESEL: SELTO rises"
  abbrev pub times_out_at : Phase → ℕ → Bool
  times_out_at p k = is_phase Selecting p && leb (timeout n.registers) (cond n.registers.sxfrctl1.enstimer (k + 1) 0)

  -- "at 8 or more: answered"
  abbrev pub answers_at : Phase → ℕ → Bool
  answers_at p k = is_phase Answering p && leb settle_delay (k + 1)

  -- the statuses after the tick
  abbrev ticked_status : Phase → ℕ → Selection → Selection
  ticked_status p k t =
      selection_with t.seldo (answers_at p k || t.seldi) (selects_at p k || (not (arbitrates_at p k) && t.selingo))
      (times_out_at p k || t.selto)

  ticked_status_lem : (p : Phase) (x : Sequenced) → (tick_in p before n x).sequencer.status ≡ ticked_status p x.sequencer.ticks x.sequencer.status
  unfolding tick_in waiting_for arbitrating_for clearing_for selecting_for answering_for arbitrates selects times_out reselected waited entered selingo_cleared selingo_raised selto_raised seldi_raised is_phase phase_number
  ticked_status_lem Idle x = refl
  ticked_status_lem Waiting x = go (leb bus_free_delay k) k
    where
      k : ℕ
      k = cond (leb 8 before && not (bsy_seen n || sel_seen n)) (x.sequencer.ticks + 1) 0

      go : (b : Bool) (m : ℕ) → (cond b (arbitrates x) (waited m x)).sequencer.status ≡ selection_with x.sequencer.status.seldo x.sequencer.status.seldi (not b && x.sequencer.status.selingo) x.sequencer.status.selto
      go true m = refl
      go false m = refl
  ticked_status_lem Arbitrating x = go (leb arbitration_delay (x.sequencer.ticks + 1)) (cond (higher_id n) Waiting Clearing) (x.sequencer.ticks + 1)
    where
      go : (b : Bool) (q : Phase) (m : ℕ) → (cond b (entered q x) (waited m x)).sequencer.status ≡ x.sequencer.status
      go true q m = refl
      go false q m = refl
  ticked_status_lem Clearing x = go (leb clearing_delay (x.sequencer.ticks + 1)) (x.sequencer.ticks + 1)
    where
      go : (b : Bool) (m : ℕ) → (cond b (selects n x) (waited m x)).sequencer.status ≡ selection_with x.sequencer.status.seldo x.sequencer.status.seldi (b || x.sequencer.status.selingo) x.sequencer.status.selto
      go true m = refl
      go false m = refl
  ticked_status_lem Selecting x = go (leb (timeout n.registers) k) k
    where
      k : ℕ
      k = cond n.registers.sxfrctl1.enstimer (x.sequencer.ticks + 1) 0

      go : (b : Bool) (m : ℕ) → (cond b (times_out n x) (waited m x)).sequencer.status ≡ selection_with x.sequencer.status.seldo x.sequencer.status.seldi x.sequencer.status.selingo (b || x.sequencer.status.selto)
      go true m = refl
      go false m = refl
  ticked_status_lem Holding x = refl
  ticked_status_lem Answering x = go (leb settle_delay (x.sequencer.ticks + 1)) (x.sequencer.ticks + 1)
    where
      go : (b : Bool) (m : ℕ) → (cond b (reselected n x) (waited m x)).sequencer.status ≡ selection_with x.sequencer.status.seldo (b || x.sequencer.status.seldi) x.sequencer.status.selingo x.sequencer.status.selto
      go true m = refl
      go false m = refl
  ticked_status_lem Answered x = refl

  -- "noted becomes 0"
  ticked_noted : (p : Phase) (x : Sequenced) → (tick_in p before n x).sequencer.noted ≡ (not (answers_at p x.sequencer.ticks) && x.sequencer.noted)
  unfolding tick_in waiting_for arbitrating_for clearing_for selecting_for answering_for arbitrates selects times_out reselected waited entered selingo_cleared selingo_raised selto_raised seldi_raised is_phase phase_number
  ticked_noted Idle x = refl
  ticked_noted Waiting x = cond_case (λ (y : Sequenced). y.sequencer.noted ≡ x.sequencer.noted) (leb bus_free_delay (cond (leb 8 before && not (bsy_seen n || sel_seen n)) (x.sequencer.ticks + 1) 0)) _ _ (λ e. refl) (λ e. refl)
  ticked_noted Arbitrating x = cond_case (λ (y : Sequenced). y.sequencer.noted ≡ x.sequencer.noted) (leb arbitration_delay (x.sequencer.ticks + 1)) _ _ (λ e. refl) (λ e. refl)
  ticked_noted Clearing x = cond_case (λ (y : Sequenced). y.sequencer.noted ≡ x.sequencer.noted) (leb clearing_delay (x.sequencer.ticks + 1)) _ _ (λ e. refl) (λ e. refl)
  ticked_noted Selecting x = cond_case (λ (y : Sequenced). y.sequencer.noted ≡ x.sequencer.noted) (leb (timeout n.registers) (cond n.registers.sxfrctl1.enstimer (x.sequencer.ticks + 1) 0)) _ _ (λ e. refl) (λ e. refl)
  ticked_noted Holding x = refl
  ticked_noted Answering x = go (leb settle_delay (x.sequencer.ticks + 1)) (x.sequencer.ticks + 1)
    where
      go : (b : Bool) (m : ℕ) → (cond b (reselected n x) (waited m x)).sequencer.noted ≡ (not b && x.sequencer.noted)
      go true m = refl
      go false m = refl
  ticked_noted Answered x = refl

  -- selecting or holding after the tick: SELTO with ENSELTIMO ends it
  abbrev ticked_selecting : Phase → ℕ → Bool
  ticked_selecting p k =
      selects_at p k || is_phase Holding p || (is_phase Selecting p && not (times_out_at p k && n.registers.simode1.enseltimo))

  ticked_selecting_lem : (p : Phase) (x : Sequenced) → x.sequencer.phase ≡ p → selecting (tick_in p before n x).sequencer.phase ≡ ticked_selecting p x.sequencer.ticks
  unfolding tick_in waiting_for arbitrating_for clearing_for selecting_for answering_for arbitrates selects times_out reselected waited entered selingo_cleared selingo_raised selto_raised seldi_raised is_phase phase_number
  ticked_selecting_lem Idle x e = rw e
  ticked_selecting_lem Waiting x e = cond_case (λ (y : Sequenced). selecting y.sequencer.phase ≡ false) (leb bus_free_delay (cond (leb 8 before && not (bsy_seen n || sel_seen n)) (x.sequencer.ticks + 1) 0)) _ _ (λ h. refl) (λ h. rw e)
  ticked_selecting_lem Arbitrating x e = cond_case (λ (y : Sequenced). selecting y.sequencer.phase ≡ false) (leb arbitration_delay (x.sequencer.ticks + 1)) _ _ (λ h. cond_case (λ (q : Phase). selecting q ≡ false) (higher_id n) Waiting Clearing (λ t. refl) (λ t. refl)) (λ h. rw e)
  ticked_selecting_lem Clearing x e = go (leb clearing_delay (x.sequencer.ticks + 1)) (x.sequencer.ticks + 1)
    where
      go : (b : Bool) (m : ℕ) → selecting (cond b (selects n x) (waited m x)).sequencer.phase ≡ ((b || false) || false)
      go true m = refl
      go false m = rw e
  ticked_selecting_lem Selecting x e = go (leb (timeout n.registers) k) n.registers.simode1.enseltimo k refl
    where
      k : ℕ
      k = cond n.registers.sxfrctl1.enstimer (x.sequencer.ticks + 1) 0

      go : (b c : Bool) (m : ℕ) → n.registers.simode1.enseltimo ≡ c → selecting (cond b (times_out n x) (waited m x)).sequencer.phase ≡ not (b && c)
      go true true m h = rw h
      go true false m h = rw h
      go false c m h = rw e
  ticked_selecting_lem Holding x e = rw e
  ticked_selecting_lem Answering x e = cond_case (λ (y : Sequenced). selecting y.sequencer.phase ≡ false) (leb settle_delay (x.sequencer.ticks + 1)) _ _ (λ h. refl) (λ h. rw e)
  ticked_selecting_lem Answered x e = rw e

  -- SELDO rises, where t tells whether the event is a tick
  abbrev pub connects_at : Bool → Phase → ℕ → Bool
  connects_at t p k = cond t (ticked_selecting p k) (selecting p) && n.lines.bsy

  -- the statuses after the sequencer: r, RST is seen; t, the event is a tick
  abbrev sequenced_status : Bool → Bool → Phase → ℕ → Selection → Selection
  sequenced_status r t p k u =
      selection_with ((not r && connects_at t p k) || u.seldo) ((not r && (t && answers_at p k)) || u.seldi)
      (not r && (not (connects_at t p k) && ((t && selects_at p k) || (not (t && arbitrates_at p k) && u.selingo))))
      ((not r && (t && times_out_at p k)) || u.selto)

  connected_or : (c : Bool) (u : Selection) → cond c (connected_status u) u ≡ selection_with (c || u.seldo) u.seldi (not c && u.selingo) u.selto
  connected_or true u = refl
  connected_or false u = refl

  silenced_status : (x : Sequenced) → (silenced x).sequencer.status ≡ selection_with x.sequencer.status.seldo x.sequencer.status.seldi false x.sequencer.status.selto
  unfolding silenced selingo_cleared
  silenced_status x =
      cond_case (λ (q : Sequencer). (selingo_cleared q).status ≡ selection_with x.sequencer.status.seldo x.sequencer.status.seldi false x.sequencer.status.selto)
      (is_phase Idle x.sequencer.phase) _ _ (λ e. refl) (λ e. refl)

  sequenced_status_lem : (t : Bool) → (sequenced t before n).sequencer.status ≡ sequenced_status (rst_seen n) t n.sequencer.phase n.sequencer.ticks n.sequencer.status
  unfolding sequenced sequenced_of
  sequenced_status_lem t = go (rst_seen n) t
    where
      x : Sequenced
      x = sequenced_of n

      p : Phase
      p = n.sequencer.phase

      go : (r t : Bool) → (cond r (silenced x) (resolved n (cond t (tick_in p before n x) x))).sequencer.status ≡ sequenced_status r t p n.sequencer.ticks n.sequencer.status
      go true t = silenced_status x
      go false false = resolved_status n x ∙ connected_or (selecting p && n.lines.bsy) n.sequencer.status
      go false true =
          resolved_status n (tick_in p before n x)
          ∙ ap₂ (λ (b : Bool) (u : Selection). cond (b && n.lines.bsy) (connected_status u) u) (ticked_selecting_lem p x refl) (ticked_status_lem p x)
          ∙ connected_or (ticked_selecting p n.sequencer.ticks && n.lines.bsy) (ticked_status p n.sequencer.ticks n.sequencer.status)

  sequenced_noted : (t : Bool) → (sequenced t before n).sequencer.noted ≡ (not (not (rst_seen n) && (t && answers_at n.sequencer.phase n.sequencer.ticks)) && n.sequencer.noted)
  unfolding sequenced sequenced_of silenced selingo_cleared
  sequenced_noted t = go (rst_seen n) t
    where
      x : Sequenced
      x = sequenced_of n

      p : Phase
      p = n.sequencer.phase

      go : (r t : Bool) → (cond r (silenced x) (resolved n (cond t (tick_in p before n x) x))).sequencer.noted ≡ (not (not r && (t && answers_at p n.sequencer.ticks)) && n.sequencer.noted)
      go true t =
          cond_case (λ (q : Sequencer). (selingo_cleared q).noted ≡ n.sequencer.noted) (is_phase Idle p) _ _ (λ e. refl) (λ e. refl)
      go false false = resolved_noted n x
      go false true = resolved_noted n (tick_in p before n x) ∙ ticked_noted p x

-- SELDI and noted, by the tests that they hang on: a answers, f the bus comes free, n noted before, w 34Bh bit 5 is written, q the
-- quiet ticks stood at 8, d SELDI before
fallen : (a f n w q d : Bool) → d ≡ true → (a || (not (f && cond w (not q && d) n) && (not (w && q) && d))) ≡ false → ((w && q) || (f && (n || w))) ≡ true
fallen true f n w q d h g = absurd (never (sym g))
fallen false true n true true d h g = refl
fallen false true true true false d h g = refl
fallen false true false true false d h g = refl
fallen false true true false q d h g = refl
fallen false true false false q d h g = sym g ∙ h
fallen false false n true true d h g = refl
fallen false false n true false d h g = sym g ∙ h
fallen false false n false q d h g = sym g ∙ h

rises : (a f n w q d : Bool) → n ≡ false → (not a && (not f && cond w (not q && d) n)) ≡ true → (w && d) ≡ true
rises true f n w q d h g = absurd (never g)
rises false true n w q d h g = absurd (never g)
rises false false n true true d h g = absurd (never g)
rises false false n true false d h g = g
rises false false n false q d h g = sym h ∙ g

noted_only : (a f n w q d : Bool) → (n ≡ true → d ≡ true) → (not a && (not f && cond w (not q && d) n)) ≡ true → (a || (not (f && cond w (not q && d) n) && (not (w && q) && d))) ≡ true
noted_only true f n w q d h g = refl
noted_only false true n w q d h g = absurd (never g)
noted_only false false n true true d h g = g
noted_only false false n true false d h g = g
noted_only false false n false q d h g = h g

-- THE STATUSES AFTER ANY EVENT

module _ (s : State) (e : Event) where
  -- the sequencer as A leaves it
  abbrev left : Sequencer
  left = (after_a s e).sequencer

  pub handed_phase : (handed s e).sequencer.phase ≡ left.phase
  unfolding selection_freed
  handed_phase =
      ap (λ (l : Left). l.sequencer.phase) (handed_left s e)
      ∙ cond_case (λ (q : Sequencer). q.phase ≡ left.phase) (free s e) (selection_freed left) left (λ h. refl) (λ h. refl)

  pub handed_ticks : (handed s e).sequencer.ticks ≡ left.ticks
  unfolding selection_freed
  handed_ticks =
      ap (λ (l : Left). l.sequencer.ticks) (handed_left s e)
      ∙ cond_case (λ (q : Sequencer). q.ticks ≡ left.ticks) (free s e) (selection_freed left) left (λ h. refl) (λ h. refl)

  handed_noted : (handed s e).sequencer.noted ≡ (not (free s e) && left.noted)
  unfolding selection_freed
  handed_noted = ap (λ (l : Left). l.sequencer.noted) (handed_left s e) ∙ go (free s e)
    where
      go : (b : Bool) → (cond b (selection_freed left) left).noted ≡ (not b && left.noted)
      go true = refl
      go false = refl

  abbrev freed_status : Selection → Selection
  freed_status t =
      selection_with (not (free s e) && t.seldo) (not (free s e && left.noted) && t.seldi) t.selingo t.selto

  handed_status : (handed s e).sequencer.status ≡ freed_status left.status
  unfolding selection_freed
  handed_status = ap (λ (l : Left). l.sequencer.status) (handed_left s e) ∙ go (free s e)
    where
      go : (b : Bool) → (cond b (selection_freed left) left).status ≡ selection_with (not b && left.status.seldo) (not (b && left.noted) && left.status.seldi) left.status.selingo left.status.selto
      go true = refl
      go false = refl

  -- RST is seen; and the moments at which a status rises or falls
  abbrev pub resets : Bool
  resets = rst_seen (handed s e)

  abbrev pub arbitrates_now : Bool
  arbitrates_now = tick s e && arbitrates_at (handed s e) s.quiet left.phase left.ticks

  abbrev pub selects_now : Bool
  selects_now = tick s e && selects_at (handed s e) s.quiet left.phase left.ticks

  abbrev pub times_out_now : Bool
  times_out_now = not resets && (tick s e && times_out_at (handed s e) s.quiet left.phase left.ticks)

  abbrev pub answers_now : Bool
  answers_now = not resets && (tick s e && answers_at (handed s e) s.quiet left.phase left.ticks)

  abbrev pub connects_now : Bool
  connects_now = connects_at (handed s e) s.quiet (tick s e) left.phase left.ticks

  -- "the processor gives up" while selecting
  abbrev pub gives_up_now : Bool
  gives_up_now = gives_up (registers_a s.registers e) s.sequencer e && is_phase Selecting s.sequencer.phase

  status_left : (after_d s e).sequencer.status ≡ sequenced_status (handed s e) s.quiet resets (tick s e) left.phase left.ticks (freed_status left.status)
  status_left =
      ap (λ (q : Sequencer). q.status) (sequencer_is s e)
      ∙ sequenced_status_lem (handed s e) s.quiet (tick s e)
      ∙ (λ i. sequenced_status (handed s e) s.quiet resets (tick s e) (handed_phase i) (handed_ticks i) (handed_status i))

  -- THE STATUSES after any event but power reset
  pub status_is : (after_d s e).sequencer.status ≡ selection_with ((not resets && connects_now) || (not (free s e) && s.sequencer.status.seldo)) (answers_now || (not (free s e && left.noted) && (not (clears_latch e 5 && leb 8 s.quiet) && s.sequencer.status.seldi))) (not resets && (not connects_now && (selects_now || (not arbitrates_now && (not gives_up_now && s.sequencer.status.selingo))))) (times_out_now || (not (clears e 7) && s.sequencer.status.selto))
  unfolding after_a sequencer_a selection_a
  status_is = status_left

  -- NOTED after any event but power reset
  pub noted_is : (after_d s e).sequencer.noted ≡ (not answers_now && (not (free s e) && cond (clears_latch e 5) (not (leb 8 s.quiet) && s.sequencer.status.seldi) s.sequencer.noted))
  unfolding after_a sequencer_a noted_a
  noted_is =
      ap (λ (q : Sequencer). q.noted) (sequencer_is s e)
      ∙ sequenced_noted (handed s e) s.quiet (tick s e)
      ∙ (λ i. not (not resets && (tick s e && answers_at (handed s e) s.quiet (handed_phase i) (handed_ticks i))) && handed_noted i)

  -- SELDI, AND NOTED

  -- 34Bh bit 5 is written while the quiet ticks stand at 8; or the bus comes free, and it was noted or that bit is written now
  abbrev pub seldi_ends : Bool
  seldi_ends = (clears_latch e 5 && leb 8 s.quiet) || (free s e && (s.sequencer.noted || clears_latch e 5))

  -- SELDI, ONCE RISEN, FALLS ONLY so, power reset apart
  pub seldi_falls : s.sequencer.status.seldi ≡ true → (after_d s e).sequencer.status.seldi ≡ false → seldi_ends ≡ true
  unfolding after_a sequencer_a noted_a
  seldi_falls h g =
      fallen answers_now (free s e) s.sequencer.noted (clears_latch e 5) (leb 8 s.quiet) s.sequencer.status.seldi h
      (sym (ap (λ (t : Selection). t.seldi) status_is) ∙ g)

  -- NOTED RISES ONLY by a write of 34Bh bit 5 while SELDI is 1
  pub noted_rises : s.sequencer.noted ≡ false → (after_d s e).sequencer.noted ≡ true → (clears_latch e 5 && s.sequencer.status.seldi) ≡ true
  noted_rises h g =
      rises answers_now (free s e) s.sequencer.noted (clears_latch e 5) (leb 8 s.quiet) s.sequencer.status.seldi h (sym noted_is ∙ g)

  -- "Noted is 0 whenever SELDI is 0."
  pub noted_keeps : (s.sequencer.noted ≡ true → s.sequencer.status.seldi ≡ true) → (after_d s e).sequencer.noted ≡ true → (after_d s e).sequencer.status.seldi ≡ true
  unfolding after_a sequencer_a noted_a
  noted_keeps h g =
      ap (λ (t : Selection). t.seldi) status_is
      ∙ noted_only answers_now (free s e) s.sequencer.noted (clears_latch e 5) (leb 8 s.quiet) s.sequencer.status.seldi h (sym noted_is ∙ g)

-- SELDO, AND SELINGO

-- a phase that A may end: it is another than idle only where it was so before
unended : (n : State) (before : ℕ) (t g : Bool) (p : Phase) (k : ℕ) → connects_at n before t (cond g Idle p) (cond g 0 k) ≡ true → (selecting p || (t && selects_at n before p k)) ≡ true
unfolding is_phase phase_number
unended n before true true p k h = absurd (never h)
unended n before false true p k h = absurd (never h)
unended n before true false p k h =
    go (selects_at n before p k) (is_phase Holding p) (is_phase Selecting p) _ (left_true (ticked_selecting n before p k) n.lines.bsy h)
  where
    go : (a b c d : Bool) → ((a || b) || (c && d)) ≡ true → ((c || b) || a) ≡ true
    go true true true d h = refl
    go true true false d h = refl
    go true false true d h = refl
    go true false false d h = refl
    go false true true d h = refl
    go false true false d h = refl
    go false false true d h = refl
    go false false false d h = h
unended n before false false p k h =
    go (selecting p) (left_true (selecting p) n.lines.bsy h)
  where
    go : (a : Bool) → a ≡ true → (a || false) ≡ true
    go true h = refl
    go false h = h

-- others drive BSY, and the phase before was selecting or holding, or the tick ended the clearing
pub record Connects (s : State) (e : Event) : Type 0 where
  pub bsy : (after_d s e).lines.bsy ≡ true
  pub phase : (selecting s.sequencer.phase || (tick s e && (is_phase Clearing s.sequencer.phase && leb clearing_delay (s.sequencer.ticks + 1)))) ≡ true

module _ (s : State) (e : Event) where
  connects_from : connects_now s e ≡ true → Connects s e
  unfolding after_a sequencer_a
  connects_from h =
      record {
        bsy = ap (λ (l : Lines). l.bsy) (lines_after_lem s e) ∙ right_true (cond (tick s e) (ticked_selecting (handed s e) s.quiet (left s e).phase (left s e).ticks) (selecting (left s e).phase)) (handed s e).lines.bsy h;
        phase =
            unended (handed s e) s.quiet (tick s e) (gives_up (registers_a s.registers e) s.sequencer e) s.sequencer.phase
            s.sequencer.ticks h;
      }

  -- SELDO COMES ONLY FROM BSY OF OTHERS while selecting or holding
  pub seldo_comes : s.sequencer.status.seldo ≡ false → (after_d s e).sequencer.status.seldo ≡ true → Connects s e
  seldo_comes h g =
      connects_from (go (resets s e) (connects_now s e) (free s e) _ h (sym (ap (λ (t : Selection). t.seldo) (status_is s e)) ∙ g))
    where
      go : (r c f d : Bool) → d ≡ false → ((not r && c) || (not f && d)) ≡ true → c ≡ true
      go r true f d h g = refl
      go true false true d h g = g
      go true false false d h g = sym h ∙ g
      go false false true d h g = g
      go false false false d h g = sym h ∙ g

-- a tick that makes it arbitrate leaves it so: then others do not drive SEL
unseen_unsel : (n : State) → not (bsy_seen n || sel_seen n) ≡ true → n.lines.sel ≡ false
unfolding sel_seen
unseen_unsel n = go (bsy_seen n) n.lines.sel n.registers.scsisig.selo (phase_sel n.sequencer.phase)
  where
    go : (a b c d : Bool) → not (a || ((b || c) || d)) ≡ true → b ≡ false
    go true b c d h = absurd (never h)
    go false true c d h = absurd (never h)
    go false false c d h = refl

module _ (n : State) (before : ℕ) where
  arbitrating_unsel : (p : Phase) (k : ℕ) → arbitrates_at n before p k ≡ true → n.lines.sel ≡ false
  arbitrating_unsel p k h =
      unseen_unsel n
      (right_true (leb 8 before) (not (bsy_seen n || sel_seen n))
      (go (leb 8 before && not (bsy_seen n || sel_seen n)) (right_true (is_phase Waiting p) _ h)))
    where
      go : (c : Bool) → leb bus_free_delay (cond c (k + 1) 0) ≡ true → c ≡ true
      go true h = refl
      go false h = h

  stays_arbitrating : (x : Sequenced) → n.lines.sel ≡ false → x.sequencer.phase ≡ Arbitrating → (resolved n x).sequencer.phase ≡ Arbitrating
  unfolding entered connects is_phase phase_number phase_bsy phase_sel phase_drives
  stays_arbitrating x unsel h =
      resolved_keeps n (λ y. y.sequencer.phase ≡ Arbitrating) kept
      (λ y e b q. absurd (never (rw q at e))) x h
    where
      kept : Changes n (λ y. y.sequencer.phase ≡ Arbitrating)
      kept =
          record {
            uncalls = λ y e q. cc;
            lets_go = λ y e q. cc;
            forestalls = λ y e t q. cc;
            begins = λ y e q. cc;
            withdraws = λ y e q. cc;
            replies = λ y e q. absurd (never (sym (rw q at e)));
          }

  arbitrates_tick : (p : Phase) (x : Sequenced) → arbitrates_at n before p x.sequencer.ticks ≡ true → (tick_in p before n x).sequencer.phase ≡ Arbitrating
  unfolding tick_in waiting_for arbitrates selingo_cleared is_phase phase_number
  arbitrates_tick Idle x h = absurd (never h)
  arbitrates_tick Waiting x h = rw h
  arbitrates_tick Arbitrating x h = absurd (never h)
  arbitrates_tick Clearing x h = absurd (never h)
  arbitrates_tick Selecting x h = absurd (never h)
  arbitrates_tick Holding x h = absurd (never h)
  arbitrates_tick Answering x h = absurd (never h)
  arbitrates_tick Answered x h = absurd (never h)

module _ (s : State) (e : Event) where
  -- what the sequencer starts from, and what a tick makes of it
  abbrev start : Sequenced
  start = sequenced_of (handed s e)

  abbrev ticked : Sequenced
  ticked = cond (tick s e) (tick_in start.sequencer.phase s.quiet (handed s e) start) start

  under_reset : resets s e ≡ true → (after_d s e).sequencer ≡ (silenced start).sequencer
  unfolding sequenced
  under_reset r = sequencer_is s e ∙ rw r

  no_reset : resets s e ≡ false → (after_d s e).sequencer ≡ (resolved (handed s e) ticked).sequencer
  unfolding sequenced
  no_reset r = sequencer_is s e ∙ rw r

  start_phase : start.sequencer.phase ≡ (left s e).phase
  unfolding sequenced_of
  start_phase = handed_phase s e

  start_ticks : start.sequencer.ticks ≡ (left s e).ticks
  unfolding sequenced_of
  start_ticks = handed_ticks s e

  -- THE SEQUENCER DRIVES NOTHING WHILE RST IS SEEN: it is idle after every event at whose end RST is seen
  pub idle_under_reset : rst_seen (after_d s e) ≡ true → (after_d s e).sequencer.phase ≡ Idle
  unfolding silenced selingo_cleared
  idle_under_reset h =
      ap (λ (q : Sequencer). q.phase) (under_reset (sym (rst_after s e) ∙ h))
      ∙ cond_case (λ (q : Sequencer). q.phase ≡ Idle) (is_phase Idle start.sequencer.phase) start.sequencer _ (λ i. is_phase_lem Idle start.sequencer.phase i) (λ i. refl)

  pub silent_under_reset : rst_seen (after_d s e) ≡ true → Silent (after_d s e).sequencer.phase
  silent_under_reset h = subst Silent (sym (idle_under_reset h)) idle_silent

  -- SELINGO falls here
  pub data Falls : Type 0 where
    at_reset : rst_seen (after_d s e) ≡ true → Falls
    at_seldo : (after_d s e).sequencer.status.seldo ≡ true → Connects s e → Falls
    at_arbitrating : s.sequencer.phase ≡ Waiting → (after_d s e).sequencer.phase ≡ Arbitrating → Falls
    at_giving_up : gives_up (registers_a s.registers e) s.sequencer e ≡ true → s.sequencer.phase ≡ Selecting → Falls

  left_unidle : (q : Phase) → is_phase Idle q ≡ false → (left s e).phase ≡ q → s.sequencer.phase ≡ q
  unfolding after_a sequencer_a
  left_unidle = unidle (gives_up (registers_a s.registers e) s.sequencer e) s.sequencer.phase

  arbitrates_phase : resets s e ≡ false → arbitrates_now s e ≡ true → (after_d s e).sequencer.phase ≡ Arbitrating
  arbitrates_phase r a =
      ap (λ (q : Sequencer). q.phase) (no_reset r)
      ∙ stays_arbitrating n s.quiet ticked (arbitrating_unsel n s.quiet q.phase q.ticks at)
      (rw t (arbitrates_tick n s.quiet start.sequencer.phase start ((λ i. arbitrates_at n s.quiet (start_phase i) (start_ticks i)) ∙ at)))
    where
      q : Sequencer
      q = left s e

      n : State
      n = handed s e

      t : tick s e ≡ true
      t = left_true (tick s e) (arbitrates_at n s.quiet q.phase q.ticks) a

      at : arbitrates_at n s.quiet q.phase q.ticks ≡ true
      at = right_true (tick s e) (arbitrates_at n s.quiet q.phase q.ticks) a

  arbitrates_before : arbitrates_now s e ≡ true → s.sequencer.phase ≡ Waiting
  unfolding is_phase phase_number
  arbitrates_before a =
      left_unidle Waiting refl
      (is_phase_lem Waiting (left s e).phase (left_true (is_phase Waiting (left s e).phase) _ (right_true (tick s e) (arbitrates_at (handed s e) s.quiet (left s e).phase (left s e).ticks) a)))

  -- SELINGO FALLS ONLY at arbitrating, SELDO, RST, and giving up while selecting (power reset apart)
  pub selingo_falls : s.sequencer.status.selingo ≡ true → (after_d s e).sequencer.status.selingo ≡ false → Falls
  selingo_falls h g =
      go (resets s e) (connects_now s e) (selects_now s e) (arbitrates_now s e) (gives_up_now s e) s.sequencer.status.selingo refl refl refl refl h
      (sym (ap (λ (t : Selection). t.selingo) (status_is s e)) ∙ g)
    where
      risen : resets s e ≡ false → connects_now s e ≡ true → (after_d s e).sequencer.status.seldo ≡ true
      risen r c = ap (λ (t : Selection). t.seldo) (status_is s e) ∙ rw (r, c)

      go : (r c v a g d : Bool) → resets s e ≡ r → connects_now s e ≡ c → arbitrates_now s e ≡ a → gives_up_now s e ≡ g → d ≡ true → (not r && (not c && (v || (not a && (not g && d))))) ≡ false → Falls
      go true c v a g d er ec ea eg h q = at_reset (rst_after s e ∙ er)
      go false true v a g d er ec ea eg h q = at_seldo (risen er ec) (connects_from s e ec)
      go false false true a g d er ec ea eg h q = absurd (never (sym q))
      go false false false true g d er ec ea eg h q = at_arbitrating (arbitrates_before ea) (arbitrates_phase er ea)
      go false false false false true d er ec ea eg h q =
          at_giving_up (left_true (gives_up (registers_a s.registers e) s.sequencer e) _ eg)
          (is_phase_lem Selecting s.sequencer.phase (right_true (gives_up (registers_a s.registers e) s.sequencer e) _ eg))
      go false false false false false d er ec ea eg h q = absurd (never (sym q ∙ h))

-- NOTHING IS DRIVEN

silent : (p : Phase) → drives p ≡ false → Silent p
silent p = go (phase_bsy p) (phase_sel p) (phase_drives p) refl refl refl
  where
    go : (a b c : Bool) → phase_bsy p ≡ a → phase_sel p ≡ b → phase_drives p ≡ c → ((a || b) || c) ≡ false → Silent p
    go true b c ea eb ec h = absurd (never (sym h))
    go false true c ea eb ec h = absurd (never (sym h))
    go false false true ea eb ec h = absurd (never (sym h))
    go false false false ea eb ec h = record { bsy = ea; sel = eb; drives = ec }

-- none of the changes of phase begins to drive
silences : (n : State) → Changes n (λ x. drives x.sequencer.phase ≡ false)
unfolding entered phase_bsy phase_sel phase_drives
silences n =
    record {
      uncalls = λ x e q. refl;
      lets_go = λ x e q. refl;
      forestalls = λ x e t q. refl;
      begins = λ x e q. refl;
      withdraws = λ x e q. refl;
      replies = λ x e q. refl;
    }

-- arbitrating, and others drive SEL: nothing is driven afterwards
module _ (n : State) where
  arbitrating_kept : (x : Sequenced) → x.sequencer.phase ≡ Arbitrating → (let_go n (uncalled n x)).sequencer.phase ≡ Arbitrating
  unfolding let_go uncalled entered
  arbitrating_kept x h =
      from n Kept Answered (not n.lines.sel) y (entered Idle y) (λ e t. other e kept) kept
    where
      Kept : Sequenced → Type 0
      Kept z = z.sequencer.phase ≡ Arbitrating

      y : Sequenced
      y = uncalled n x

      other : {p : Phase} → p ≡ Answered → p ≡ Arbitrating → Idle ≡ Arbitrating
      other a b = cc

      kept : y.sequencer.phase ≡ Arbitrating
      kept = from n Kept Answering (not (called n)) x (entered Idle x) (λ e t. cc) h

  forestalled_silent : (x : Sequenced) → x.sequencer.phase ≡ Arbitrating → n.lines.sel ≡ true → drives (resolved n x).sequencer.phase ≡ false
  unfolding resolved selected connects seldo_raised forestalled entered is_phase phase_number phase_bsy phase_sel phase_drives
  forestalled_silent x h l =
      later_keeps n Quiet (silences n) _
      (cond_case Quiet (selecting z.sequencer.phase && n.lines.bsy) (connects n z) z (λ e. refl) (λ e. lost))
    where
      Quiet : Sequenced → Type 0
      Quiet w = drives w.sequencer.phase ≡ false

      y : Sequenced
      y = let_go n (uncalled n x)

      z : Sequenced
      z = forestalled n y

      lost : drives z.sequencer.phase ≡ false
      lost =
          cond_case Quiet (is_phase Arbitrating y.sequencer.phase && n.lines.sel) (entered Waiting y) y (λ e. refl)
          (λ e. absurd (never (sym (rw (arbitrating_kept x h, l) at e))))

  -- what drives nothing goes on so
  resolved_silent : (x : Sequenced) → drives x.sequencer.phase ≡ false → drives (resolved n x).sequencer.phase ≡ false
  unfolding connects seldo_raised phase_bsy phase_sel phase_drives
  resolved_silent = resolved_keeps n (λ x. drives x.sequencer.phase ≡ false) (silences n) (λ x e b q. refl)

  -- an arbitration that is lost: at its last tick others drive a higher ID, or before it they drive SEL
  lost_tick : (before : ℕ) (x : Sequenced) → x.sequencer.phase ≡ Arbitrating → cond (leb arbitration_delay (x.sequencer.ticks + 1)) (higher_id n) n.lines.sel ≡ true → drives (resolved n (tick_in Arbitrating before n x)).sequencer.phase ≡ false
  unfolding tick_in arbitrating_for waited entered phase_bsy phase_sel phase_drives
  lost_tick before x h = go (leb arbitration_delay (x.sequencer.ticks + 1))
    where
      go : (b : Bool) → cond b (higher_id n) n.lines.sel ≡ true → drives (resolved n (cond b (entered (cond (higher_id n) Waiting Clearing) x) (waited (x.sequencer.ticks + 1) x))).sequencer.phase ≡ false
      go true l = resolved_silent (entered (cond (higher_id n) Waiting Clearing) x) (rw l)
      go false l = forestalled_silent (waited (x.sequencer.ticks + 1) x) h l

  lost_ticked : (t : Bool) (before : ℕ) (x : Sequenced) → x.sequencer.phase ≡ Arbitrating → cond (t && leb arbitration_delay (x.sequencer.ticks + 1)) (higher_id n) n.lines.sel ≡ true → drives (resolved n (cond t (tick_in x.sequencer.phase before n x) x)).sequencer.phase ≡ false
  lost_ticked true before x h l =
      subst (λ (p : Phase). drives (resolved n (tick_in p before n x)).sequencer.phase ≡ false) (sym h) (lost_tick before x h l)
  lost_ticked false before x h l = forestalled_silent x h l

module _ (s : State) (e : Event) where
  -- only while selecting or holding can the processor give up
  keeps_on : selecting s.sequencer.phase ≡ false → gives_up (registers_a s.registers e) s.sequencer e ≡ false
  unfolding gives_up
  keeps_on h =
      go (writes e SCSISEQ && not (selection_asked r)) (is_phase Selecting p) (is_phase Holding p) (not r.sxfrctl1.enstimer) h
    where
      r : Registers
      r = registers_a s.registers e

      p : Phase
      p = s.sequencer.phase

      go : (a b c d : Bool) → (b || c) ≡ false → (a && (c || (b && d))) ≡ false
      go true true c d h = absurd (never (sym h))
      go true false true d h = h
      go true false false d h = refl
      go false b c d h = refl

  left_phase : selecting s.sequencer.phase ≡ false → (left s e).phase ≡ s.sequencer.phase
  unfolding after_a sequencer_a
  left_phase h = rw (keeps_on h)

  left_ticks : selecting s.sequencer.phase ≡ false → (left s e).ticks ≡ s.sequencer.ticks
  unfolding after_a sequencer_a
  left_ticks h = rw (keeps_on h)

  -- others drive a higher ID at the last tick of the arbitration, or SEL before it
  abbrev pub lost : Bool
  lost =
      cond (tick s e && leb arbitration_delay (s.sequencer.ticks + 1)) (higher_id (after_d s e)) (after_d s e).lines.sel

  -- A LOST ARBITRATION DRIVES NOTHING, from the event that loses it
  pub lost_drives_nothing : s.sequencer.phase ≡ Arbitrating → lost ≡ true → Silent (after_d s e).sequencer.phase
  unfolding sequenced_of is_phase phase_number phase_bsy phase_sel phase_drives
  lost_drives_nothing h l = silent (after_d s e).sequencer.phase (go (resets s e) refl)
    where
      n : State
      n = handed s e

      unselecting : selecting s.sequencer.phase ≡ false
      unselecting = rw h

      phase : n.sequencer.phase ≡ Arbitrating
      phase = handed_phase s e ∙ left_phase unselecting ∙ h

      ticks : n.sequencer.ticks ≡ s.sequencer.ticks
      ticks = handed_ticks s e ∙ left_ticks unselecting

      lost_there : cond (tick s e && leb arbitration_delay (n.sequencer.ticks + 1)) (higher_id n) n.lines.sel ≡ true
      lost_there =
          (λ i. cond (tick s e && leb arbitration_delay (ticks i + 1)) (sym (higher_after s e) i) (sym (lines_after_lem s e) i).sel) ∙ l

      go : (b : Bool) → resets s e ≡ b → drives (after_d s e).sequencer.phase ≡ false
      go true r = rw (idle_under_reset s e (rst_after s e ∙ r))
      go false r =
          ap (λ (q : Sequencer). drives q.phase) (no_reset s e r)
          ∙ lost_ticked n (tick s e) s.quiet (sequenced_of n) phase lost_there

-- SEL AFTER ARBITRATION

-- the tick that ends an arbitration, with 47 ticks or more behind it, and wins it
record Won (n : State) (p : Phase) (k : ℕ) : Type 0 where
  phase : p ≡ Arbitrating
  ticks : leb arbitration_delay (k + 1) ≡ true
  highest : higher_id n ≡ false

module _ (n : State) (before : ℕ) where
  -- by no other tick does it begin to drive SEL
  ticked_sel : (p : Phase) (x : Sequenced) → x.sequencer.phase ≡ p → phase_sel p ≡ false → phase_sel (tick_in p before n x).sequencer.phase ≡ true → Won n p x.sequencer.ticks
  unfolding tick_in waiting_for arbitrating_for clearing_for selecting_for answering_for arbitrates selects times_out reselected waited entered selingo_cleared selingo_raised selto_raised seldi_raised phase_sel
  ticked_sel Idle x e u = λ h. absurd (never (rw e at h))
  ticked_sel Waiting x e u =
      cond_case (λ (y : Sequenced). phase_sel y.sequencer.phase ≡ true → Won n Waiting x.sequencer.ticks)
      (leb bus_free_delay (cond (leb 8 before && not (bsy_seen n || sel_seen n)) (x.sequencer.ticks + 1) 0)) _ _
      (λ t h. absurd (never h)) (λ t h. absurd (never (rw e at h)))
  ticked_sel Arbitrating x e u = go (leb arbitration_delay (x.sequencer.ticks + 1)) (higher_id n) refl refl
    where
      go : (b c : Bool) → leb arbitration_delay (x.sequencer.ticks + 1) ≡ b → higher_id n ≡ c → phase_sel (cond b (entered (cond c Waiting Clearing) x) (waited (x.sequencer.ticks + 1) x)).sequencer.phase ≡ true → Won n Arbitrating x.sequencer.ticks
      go true true eb ec h = absurd (never h)
      go true false eb ec h = record { phase = refl; ticks = eb; highest = ec }
      go false c eb ec h = absurd (never (rw e at h))
  ticked_sel Clearing x e u = λ h. absurd (never (sym u))
  ticked_sel Selecting x e u = λ h. absurd (never (sym u))
  ticked_sel Holding x e u = λ h. absurd (never (sym u))
  ticked_sel Answering x e u =
      cond_case (λ (y : Sequenced). phase_sel y.sequencer.phase ≡ true → Won n Answering x.sequencer.ticks)
      (leb settle_delay (x.sequencer.ticks + 1)) _ _ (λ t h. absurd (never h)) (λ t h. absurd (never (rw e at h)))
  ticked_sel Answered x e u = λ h. absurd (never (rw e at h))

  -- while it arbitrates its ticks grow by one, from 0 where it begins
  ticked_arbitrating : (p : Phase) (x : Sequenced) → x.sequencer.phase ≡ p → (tick_in p before n x).sequencer.phase ≡ Arbitrating → (tick_in p before n x).sequencer.ticks ≡ cond (is_phase Arbitrating p) (x.sequencer.ticks + 1) 0
  unfolding tick_in waiting_for arbitrating_for clearing_for selecting_for answering_for arbitrates selects times_out reselected waited entered selingo_cleared selingo_raised selto_raised seldi_raised is_phase phase_number
  ticked_arbitrating Idle x e = λ h. cc
  ticked_arbitrating Waiting x e =
      cond_case (λ (y : Sequenced). y.sequencer.phase ≡ Arbitrating → y.sequencer.ticks ≡ 0)
      (leb bus_free_delay (cond (leb 8 before && not (bsy_seen n || sel_seen n)) (x.sequencer.ticks + 1) 0)) _ _
      (λ t h. refl) (λ t h. cc)
  ticked_arbitrating Arbitrating x e = go (leb arbitration_delay (x.sequencer.ticks + 1)) (higher_id n)
    where
      go : (b c : Bool) → (cond b (entered (cond c Waiting Clearing) x) (waited (x.sequencer.ticks + 1) x)).sequencer.phase ≡ Arbitrating → (cond b (entered (cond c Waiting Clearing) x) (waited (x.sequencer.ticks + 1) x)).sequencer.ticks ≡ x.sequencer.ticks + 1
      go true true h = cc
      go true false h = cc
      go false c h = refl
  ticked_arbitrating Clearing x e =
      cond_case (λ (y : Sequenced). y.sequencer.phase ≡ Arbitrating → y.sequencer.ticks ≡ 0) (leb clearing_delay (x.sequencer.ticks + 1)) _ _
      (λ t h. refl) (λ t h. cc)
  ticked_arbitrating Selecting x e =
      cond_case (λ (y : Sequenced). y.sequencer.phase ≡ Arbitrating → y.sequencer.ticks ≡ 0)
      (leb (timeout n.registers) (cond n.registers.sxfrctl1.enstimer (x.sequencer.ticks + 1) 0)) _ _ (λ t h. refl) (λ t h. cc)
  ticked_arbitrating Holding x e = λ h. cc
  ticked_arbitrating Answering x e =
      cond_case (λ (y : Sequenced). y.sequencer.phase ≡ Arbitrating → y.sequencer.ticks ≡ 0) (leb settle_delay (x.sequencer.ticks + 1)) _ _
      (λ t h. refl) (λ t h. cc)
  ticked_arbitrating Answered x e = λ h. cc

-- a tick leaves the lines and the IDs
is_tick : (e : Event) → ltb 0 (ticks_of e) ≡ true → (k : ℕ) × (e ≡ Ticks (suc k))
unfolding ticks_of
is_tick PowerReset h = absurd (never h)
is_tick (Write offset value) h = absurd (never h)
is_tick (Read offset) h = absurd (never h)
is_tick (WordWrite word) h = absurd (never h)
is_tick WordRead h = absurd (never h)
is_tick (Drive lines) h = absurd (never h)
is_tick (Ticks zero) h = absurd (never h)
is_tick (Ticks (suc k)) h = (k, refl)

ticks_leave_lem : (s : State) (k : ℕ) → higher_id (handed s (Ticks k)) ≡ higher_id s
unfolding higher_id after_a lines_after registers_a writes
ticks_leave_lem s k = ap (λ (l : Left). ltb 0 (l.lines.byte / 2 ^ (l.scsiid.oid + 1))) (handed_left s (Ticks k))

-- before the event it arbitrated, 47 ticks or more; the event is a tick; others drive no data bit above OID
pub record Arbitrated (s : State) (e : Event) : Type 0 where
  pub tick : (k : ℕ) × (e ≡ Ticks (suc k))
  pub phase : s.sequencer.phase ≡ Arbitrating
  pub ticks : 47 ≤ s.sequencer.ticks
  pub highest : higher_id s ≡ false

sel_drives : (p : Phase) → phase_sel p ≡ true → drives p ≡ true
sel_drives p h = go (phase_bsy p) (phase_sel p) (phase_drives p) h
  where
    go : (a b c : Bool) → b ≡ true → ((a || b) || c) ≡ true
    go true b c h = refl
    go false true c h = refl
    go false false c h = absurd (never h)

module _ (s : State) (e : Event) where
  -- what drives a line after the event is what its tick left, or what was before
  driving_is : (p : Phase) → drives p ≡ true → (after_d s e).sequencer.phase ≡ p → (after_d s e).sequencer ≡ (ticked s e).sequencer
  unfolding phase_bsy phase_sel phase_drives
  driving_is p d h = go (resets s e) refl
    where
      go : (b : Bool) → resets s e ≡ b → (after_d s e).sequencer ≡ (ticked s e).sequencer
      go true r = absurd (never (rw (sym h ∙ idle_under_reset s e (rst_after s e ∙ r)) at d))
      go false r =
          no_reset s e r
          ∙ ap (λ (x : Sequenced). x.sequencer)
          (resolved_still (handed s e) (ticked s e) (ap (λ (q : Sequencer). drives q.phase) (sym (no_reset s e r)) ∙ rw h d))

  unsel : phase_sel s.sequencer.phase ≡ false → phase_sel (start s e).sequencer.phase ≡ false
  unfolding after_a sequencer_a phase_sel
  unsel u =
      ap phase_sel (start_phase s e)
      ∙ cond_case (λ (p : Phase). phase_sel p ≡ false) (gives_up (registers_a s.registers e) s.sequencer e) Idle s.sequencer.phase (λ g. refl) (λ g. u)

  -- SEL IS DRIVEN ONLY AFTER 48 TICKS OF ARBITRATION at whose last tick others drive no higher ID
  pub sel_after_arbitration : phase_sel s.sequencer.phase ≡ false → phase_sel (after_d s e).sequencer.phase ≡ true → Arbitrated s e
  unfolding is_phase phase_number
  sel_after_arbitration u h =
      go (tick s e) refl
      (ap (λ (q : Sequencer). phase_sel q.phase) (sym (driving_is (after_d s e).sequencer.phase (sel_drives (after_d s e).sequencer.phase h) refl)) ∙ h)
    where
      n : State
      n = handed s e

      x : Sequenced
      x = start s e

      won : tick s e ≡ true → Won n x.sequencer.phase x.sequencer.ticks → Arbitrated s e
      won t w = record { tick = is_tick e t; phase = phase; ticks = ticks; highest = highest }
        where
          phase : s.sequencer.phase ≡ Arbitrating
          phase = left_unidle s e Arbitrating refl (sym (start_phase s e) ∙ w.phase)

          same : x.sequencer.ticks ≡ s.sequencer.ticks
          same = start_ticks s e ∙ left_ticks s e (rw phase)

          ticks : 47 ≤ s.sequencer.ticks
          ticks = omega (arith, leb-true arbitration_delay (x.sequencer.ticks + 1) w.ticks, same)

          highest : higher_id s ≡ false
          highest =
              sym (ticks_leave_lem s (suc (is_tick e t).0)) ∙ sym (ap (λ (f : Event). higher_id (handed s f)) (is_tick e t).1) ∙ w.highest

      go : (b : Bool) → tick s e ≡ b → phase_sel (cond b (tick_in x.sequencer.phase s.quiet n x) x).sequencer.phase ≡ true → Arbitrated s e
      go true t g = won t (ticked_sel n s.quiet x.sequencer.phase x refl (unsel u) g)
      go false t g = absurd (never (sym (unsel u) ∙ g))

  left_tick : tick s e ≡ true → (left s e).phase ≡ s.sequencer.phase
  unfolding after_a sequencer_a gives_up writes
  left_tick t = ap (λ (f : Event). (left s f).phase) (is_tick e t).1

  left_tick_ticks : tick s e ≡ true → (left s e).ticks ≡ s.sequencer.ticks
  unfolding after_a sequencer_a gives_up writes
  left_tick_ticks t = ap (λ (f : Event). (left s f).ticks) (is_tick e t).1

  -- THE TICKS OF AN ARBITRATION: 0 where it begins, then one more at each tick
  pub arbitrating_counts : (after_d s e).sequencer.phase ≡ Arbitrating → (after_d s e).sequencer.ticks ≡ cond (is_phase Arbitrating s.sequencer.phase) (s.sequencer.ticks + one (tick s e)) 0
  unfolding is_phase phase_number phase_bsy phase_sel phase_drives
  arbitrating_counts h = ap (λ (q : Sequencer). q.ticks) d ∙ go (tick s e) refl (ap (λ (q : Sequencer). q.phase) (sym d) ∙ h)
    where
      n : State
      n = handed s e

      x : Sequenced
      x = start s e

      d : (after_d s e).sequencer ≡ (ticked s e).sequencer
      d = driving_is Arbitrating refl h

      go : (b : Bool) → tick s e ≡ b → (cond b (tick_in x.sequencer.phase s.quiet n x) x).sequencer.phase ≡ Arbitrating → (cond b (tick_in x.sequencer.phase s.quiet n x) x).sequencer.ticks ≡ cond (is_phase Arbitrating s.sequencer.phase) (s.sequencer.ticks + one b) 0
      go true t g =
          ticked_arbitrating n s.quiet x.sequencer.phase x refl g
          ∙ (λ i. cond (is_phase Arbitrating ((start_phase s e ∙ left_tick t) i)) ((start_ticks s e ∙ left_tick_ticks t) i + 1) 0)
      go false t g =
          let p : s.sequencer.phase ≡ Arbitrating = left_unidle s e Arbitrating refl (sym (start_phase s e) ∙ g) in
          start_ticks s e ∙ left_ticks s e (rw p) ∙ rw p (omega arith)

-- AFTER ANY RECORDS: what power reset and every event keep
module _ (P : State → Type 0) (reset : P power_reset) (kept : (s : State) (e : Event) → P s → P (after_d s e)) where
  access_keeps : (s : State) (e : Event) → P s → P (access s e).state
  unfolding access done ended
  access_keeps s e h =
      cond_case (λ (r : Stepped). P r.state) (is_done (access_code s e)) _ _ (λ d. kept s e h) (λ d. h)

  ticks_keep : (n : ℕ) (s : State) → P s → P (single_ticks n s).state
  unfolding single_ticks ended
  ticks_keep zero s h = h
  ticks_keep (suc n) s h = ticks_keep n (access s (Ticks 1)).state (access_keeps s (Ticks 1) h)

  taken_keep : (n : ℕ) (s : State) → P s → P (ticks_taken n s).state
  unfolding ticks_taken
  taken_keep zero s h = access_keeps s (Ticks 0) h
  taken_keep (suc n) s h = ticks_keep (suc n) s h

  event_keeps : (e : Event) (s : State) → P s → P (step_event s e).state
  unfolding step_event ended
  event_keeps PowerReset s h = reset
  event_keeps (Write offset value) s h = access_keeps s (Write offset value) h
  event_keeps (Read offset) s h = access_keeps s (Read offset) h
  event_keeps (WordWrite word) s h = access_keeps s (WordWrite word) h
  event_keeps WordRead s h = access_keeps s WordRead h
  event_keeps (Drive lines) s h = access_keeps s (Drive lines) h
  event_keeps (Ticks n) s h = taken_keep n s h

  step_keeps : (s : State) (bytes : List ℕ) → P s → P (step s bytes).state
  unfolding step step_decoded ended
  step_keeps s bytes h = go (decode bytes)
    where
      go : (d : Option Event) → P (step_decoded s d).state
      go (Some e) = event_keeps e s h
      go None = h

  pub records_keep : (records : List (List ℕ)) (s : State) → P s → P (after s records)
  records_keep [] s h = h
  records_keep (bytes ∷ more) s h = records_keep more (step s bytes).state (step_keeps s bytes h)

-- from power reset, whatever the records: with RST seen nothing is driven by the sequencer, and only SELDI is noted
pub always_silent_under_reset : (records : List (List ℕ)) → rst_seen (after power_reset records) ≡ true → Silent (after power_reset records).sequencer.phase
always_silent_under_reset records =
    records_keep (λ s. rst_seen s ≡ true → Silent s.sequencer.phase) (λ h. at_first) (λ s e h. silent_under_reset s e) records power_reset (λ h. at_first)
  where
    at_first : Silent power_reset.sequencer.phase
    at_first = unfold power_reset in idle_silent

pub always_noted_seldi : (records : List (List ℕ)) → (after power_reset records).sequencer.noted ≡ true → (after power_reset records).sequencer.status.seldi ≡ true
always_noted_seldi records =
    records_keep (λ s. s.sequencer.noted ≡ true → s.sequencer.status.seldi ≡ true) at_first noted_keeps records power_reset at_first
  where
    at_first : power_reset.sequencer.noted ≡ true → power_reset.sequencer.status.seldi ≡ true
    at_first = unfold power_reset in λ h. h
