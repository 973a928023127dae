-- The sequencer without a tick: what it resolves stays resolved, and where it drives BSY or SEL no quiet ticks stand.
use mathlib.Core.Path.{◌≡◌, refl, sym, ◌∙◌, ap, subst}
use mathlib.Core.Bool.{Bool, true, false, not, ◌&&◌, ◌||◌, cond}
use Prim.Native.Nat.{ℕ, ◌+◌}
use lib.Dec.{leb}
use Rattle.rules.specs.State.{State, Transfer}
use Rattle.rules.specs.Changed.{with_registers, with_transfer, with_status, with_latches, with_quiet, with_sequencer}
use Rattle.rules.specs.Seen.{phase_number, is_phase, phase_bsy, phase_sel, phase_drives, rst_seen, bsy_seen, sel_seen}
use Rattle.rules.specs.Sequencer.{bus_free_delay, arbitration_delay, clearing_delay, settle_delay, timeout, asked_by, called, higher_id, in_phase, sequenced_of, waited, entered, selingo_cleared, selingo_raised, selto_raised, seldo_raised, seldi_raised, silenced, arbitrates, waiting_for, arbitrating_for, selects, clearing_for, times_out, selecting_for, reselected, answering_for, tick_in, uncalled, let_go, forestalled, connects, selected, begun, withdrawn, answers, resolved, sequenced}
use Rattle.rules.specs.declared.chip.Sequenced.{Sequenced}
use Rattle.rules.specs.StepA.{with_atn}
use Rattle.rules.specs.StepB.{registers_with, scsiseq_with, after_sequencer}
use Rattle.rules.specs.declared.chip.Status.{Status}
use Rattle.rules.specs.declared.chip.Latches.{Latches}
use Rattle.rules.specs.declared.chip.Phase.{Phase}
use Rattle.rules.specs.declared.chip.Phase.TheVariants.{Idle, Waiting, Arbitrating, Clearing, Selecting, Holding, Answering, Answered}
use Rattle.rules.specs.declared.chip.Sequencer.{Sequencer}
use Rattle.rules.proofs.Logic.{never, cond_case}
use Rattle.rules.proofs.Sequencing.{Ticking, resolved_keeps, sequenced_keeps}

-- the tests of "In every event, ticks or not", in their order
module _ (s : State) (x : Sequenced) where
  abbrev pub to_uncall : Bool
  to_uncall = is_phase Answering x.sequencer.phase && not (called s)

  abbrev pub to_let_go : Bool
  to_let_go = is_phase Answered x.sequencer.phase && not s.lines.sel

  abbrev pub to_forestall : Bool
  to_forestall = is_phase Arbitrating x.sequencer.phase && s.lines.sel

  abbrev pub to_connect : Bool
  to_connect = (is_phase Selecting x.sequencer.phase || is_phase Holding x.sequencer.phase) && s.lines.bsy

  abbrev pub to_begin : Bool
  to_begin = is_phase Idle x.sequencer.phase && asked_by x.enselo s.registers.scsiseq.temodeo

  abbrev pub to_withdraw : Bool
  to_withdraw =
      is_phase Waiting x.sequencer.phase && not (asked_by x.enselo s.registers.scsiseq.temodeo)
      && not (leb 8 x.quiet)

  abbrev pub to_answer : Bool
  to_answer = (is_phase Idle x.sequencer.phase || is_phase Waiting x.sequencer.phase) && called s

-- nothing to resolve
pub record Calm (s : State) (x : Sequenced) : Type 0 where
  pub uncalled : to_uncall s x ≡ false
  pub let_go : to_let_go s x ≡ false
  pub forestalled : to_forestall s x ≡ false
  pub connected : to_connect s x ≡ false
  pub begun : to_begin s x ≡ false
  pub withdrawn : to_withdraw s x ≡ false
  pub answered : to_answer s x ≡ false

-- where there is nothing to resolve, nothing changes
module _ (s : State) (x : Sequenced) (k : Calm s x) where
  pub calm_still : resolved s x ≡ x
  unfolding resolved uncalled let_go forestalled selected begun withdrawn answers
  calm_still =
      rw (k.uncalled, k.let_go, k.forestalled, k.connected, k.begun, k.withdrawn, k.answered)

-- EACH CHANGE LEAVES NOTHING FOR ITSELF OR THOSE BEFORE IT TO DO
module _ (s : State) where
  record Four (x : Sequenced) : Type 0 where
    uncalled : to_uncall s x ≡ false
    let_go : to_let_go s x ≡ false
    forestalled : to_forestall s x ≡ false
    connected : to_connect s x ≡ false

  -- a change by a test that is false afterwards
  uncalls : (x : Sequenced) → to_uncall s (uncalled s x) ≡ false
  unfolding uncalled entered is_phase phase_number
  uncalls x = cond_case (λ y. to_uncall s y ≡ false) (to_uncall s x) _ _ (λ e. refl) (λ e. e)

  lets_go : (x : Sequenced) → to_uncall s x ≡ false → (to_uncall s (let_go s x) ≡ false) × (to_let_go s (let_go s x) ≡ false)
  unfolding let_go entered is_phase phase_number
  lets_go x h =
      cond_case (λ y. (to_uncall s y ≡ false) × (to_let_go s y ≡ false)) (to_let_go s x) _ _ (λ e. (refl, refl)) (λ e. (h, e))

  abbrev Three : Sequenced → Type 0
  Three y = (to_uncall s y ≡ false) × (to_let_go s y ≡ false) × (to_forestall s y ≡ false)

  forestalls : (x : Sequenced) → (to_uncall s x ≡ false) × (to_let_go s x ≡ false) → Three (forestalled s x)
  unfolding forestalled entered is_phase phase_number
  forestalls x h = cond_case Three (to_forestall s x) _ _ (λ e. (refl, refl, refl)) (λ e. (h.0, h.1, e))

  selects_done : (x : Sequenced) → Three x → Four (selected s x)
  unfolding selected connects seldo_raised is_phase phase_number
  selects_done x h =
      cond_case Four (to_connect s x) _ _
      (λ e. record { uncalled = refl; let_go = refl; forestalled = refl; connected = refl })
      (λ e. record { uncalled = h.0; let_go = h.1; forestalled = h.2; connected = e })

  begins : (x : Sequenced) → Four x → Four (begun s x) × (to_begin s (begun s x) ≡ false)
  unfolding begun entered is_phase phase_number
  begins x h =
      cond_case (λ y. Four y × (to_begin s y ≡ false)) (to_begin s x) _ _
      (λ e. (record { uncalled = refl; let_go = refl; forestalled = refl; connected = refl }, refl))
      (λ e. (h, e))

  -- it is withdrawn where it is not asked, so that it does not begin
  unasked : (a b c : Bool) → (a && not b && c) ≡ true → b ≡ false
  unasked true true c e = absurd (never e)
  unasked true false c e = refl
  unasked false b c e = absurd (never e)

  abbrev Six : Sequenced → Type 0
  Six y = Four y × (to_begin s y ≡ false) × (to_withdraw s y ≡ false)

  withdraws : (x : Sequenced) → Four x × (to_begin s x ≡ false) → Six (withdrawn s x)
  unfolding withdrawn entered is_phase phase_number
  withdraws x h =
      cond_case Six (to_withdraw s x) _ _
      (λ e. (
        record { uncalled = refl; let_go = refl; forestalled = refl; connected = refl },
        unasked (is_phase Waiting x.sequencer.phase) (asked_by x.enselo s.registers.scsiseq.temodeo) (not (leb 8 x.quiet)) e,
        refl,
      ))
      (λ e. (h.0, h.1, e))

  -- it answers where it is called
  heard : (a c : Bool) → (a && c) ≡ true → not c ≡ false
  heard true true e = refl
  heard true false e = absurd (never e)
  heard false c e = absurd (never e)

  answers_done : (x : Sequenced) → Six x → Calm s (answers s x)
  unfolding answers entered is_phase phase_number
  answers_done x h =
      cond_case (Calm s) (to_answer s x) _ _
      (λ e.
      record {
        uncalled = heard (is_phase Idle x.sequencer.phase || is_phase Waiting x.sequencer.phase) (called s) e;
        let_go = refl;
        forestalled = refl;
        connected = refl;
        begun = refl;
        withdrawn = refl;
        answered = refl;
      })
      (λ e.
      record {
        uncalled = h.0.uncalled;
        let_go = h.0.let_go;
        forestalled = h.0.forestalled;
        connected = h.0.connected;
        begun = h.1;
        withdrawn = h.2;
        answered = e;
      })

  -- WHAT IS RESOLVED HAS NOTHING LEFT TO RESOLVE
  pub resolved_calm : (x : Sequenced) → Calm s (resolved s x)
  unfolding resolved
  resolved_calm x =
      answers_done _ (withdraws _ (begins _ (selects_done _ (forestalls _ (lets_go _ (uncalls x))))))

  pub resolved_twice : (x : Sequenced) → resolved s (resolved s x) ≡ resolved s x
  resolved_twice x = calm_still s (resolved s x) (resolved_calm x)

-- RST seen: silenced twice is silenced once
silenced_idle : (b : Bool) (q : Sequencer) → is_phase Idle q.phase ≡ b → is_phase Idle (cond b q (in_phase Idle q)).phase ≡ true
unfolding is_phase phase_number
silenced_idle true q e = e
silenced_idle false q e = refl

pub silenced_phase : (x : Sequenced) → is_phase Idle (silenced x).sequencer.phase ≡ true
unfolding silenced selingo_cleared
silenced_phase x = silenced_idle (is_phase Idle x.sequencer.phase) x.sequencer refl

pub silenced_selingo : (x : Sequenced) → (silenced x).sequencer.status.selingo ≡ false
unfolding silenced selingo_cleared
silenced_selingo x = refl

-- SELINGO that is 0 may be cleared
pub selingo_still : (q : Sequencer) → q.status.selingo ≡ false → selingo_cleared q ≡ q
unfolding selingo_cleared
selingo_still q e =
    λ i.
    record {
      phase = q.phase;
      ticks = q.ticks;
      noted = q.noted;
      selid = q.selid;
      status =
          record { seldo = q.status.seldo; seldi = q.status.seldi; selingo = sym e i; selto = q.status.selto };
      latches = q.latches;
    }

pub silenced_still : (y : Sequenced) → is_phase Idle y.sequencer.phase ≡ true → y.sequencer.status.selingo ≡ false → silenced y ≡ y
unfolding silenced
silenced_still y e f = rw e (rw (selingo_still y.sequencer f))

pub silenced_twice : (x : Sequenced) → silenced (silenced x) ≡ silenced x
silenced_twice x = silenced_still (silenced x) (silenced_phase x) (silenced_selingo x)

-- WHAT THE SEQUENCER LEAVES, IT LEAVES AGAIN WITHOUT A TICK
calm_or_silent : (n : State) (b : Bool) (x y : Sequenced) → cond b (silenced (cond b (silenced x) (resolved n y))) (resolved n (cond b (silenced x) (resolved n y))) ≡ cond b (silenced x) (resolved n y)
calm_or_silent n true x y = silenced_twice x
calm_or_silent n false x y = resolved_twice n y

-- the sequencer has nothing to do without a tick
abbrev pub Sequential : State → Type 0
Sequential n = sequenced false 0 n ≡ sequenced_of n

-- it looks at the registers that it does not change
same_resolved : (n : State) (q : Sequenced) (tick : Bool) (before : ℕ) → resolved (after_sequencer tick before n) q ≡ resolved n q
unfolding after_sequencer resolved uncalled let_go forestalled selected begun withdrawn answers called connects seldo_raised
same_resolved n q tick before = refl

same_rst : (n : State) (tick : Bool) (before : ℕ) → rst_seen (after_sequencer tick before n) ≡ rst_seen n
unfolding after_sequencer rst_seen
same_rst n tick before = refl

-- what it may change, put into a state
abbrev pub sequenced_into : Sequenced → State → State
sequenced_into x n =
    let r = n.registers in
    with_sequencer x.sequencer
    (with_registers (registers_with (scsiseq_with x.enselo r.scsiseq) r.sxfrctl0 (with_atn x.atno r.scsisig) r)
    (with_quiet x.quiet n))

pub sequenced_into_lem : (n : State) (tick : Bool) (before : ℕ) → after_sequencer tick before n ≡ sequenced_into (sequenced tick before n) n
unfolding after_sequencer
sequenced_into_lem n tick before = refl

pub same_into : (n : State) → sequenced_into (sequenced_of n) n ≡ n
unfolding sequenced_of
same_into n = refl

left_sequenced : (n : State) (tick : Bool) (before : ℕ) → sequenced_of (after_sequencer tick before n) ≡ sequenced tick before n
unfolding after_sequencer sequenced_of
left_sequenced n tick before = refl

pub tickless : (m : State) (before : ℕ) → sequenced false before m ≡ cond (rst_seen m) (silenced (sequenced_of m)) (resolved m (sequenced_of m))
unfolding sequenced
tickless m before = refl

-- resolved once more
sequenced_again : (n : State) (tick : Bool) (before : ℕ) → cond (rst_seen n) (silenced (sequenced tick before n)) (resolved n (sequenced tick before n)) ≡ sequenced tick before n
unfolding sequenced
sequenced_again n tick before = calm_or_silent n (rst_seen n) _ _

pub sequencer_calm : (n : State) (tick : Bool) (before : ℕ) → Sequential (after_sequencer tick before n)
sequencer_calm n tick before =
    let m = after_sequencer tick before n in
    tickless m 0
    ∙ (λ i. cond (same_rst n tick before i) (silenced (left_sequenced n tick before i)) (same_resolved n (left_sequenced n tick before i) tick before i))
    ∙ sequenced_again n tick before ∙ sym (left_sequenced n tick before)

-- the sequencer has nothing to do: with RST seen it is idle and SELINGO is 0, else there is nothing to resolve
chosen_true : {A : Type 0} (b : Bool) (x y z : A) → b ≡ true → cond b x y ≡ z → x ≡ z
chosen_true true x y z e h = h
chosen_true false x y z e h = absurd (never e)

chosen_false : {A : Type 0} (b : Bool) (x y z : A) → b ≡ false → cond b x y ≡ z → y ≡ z
chosen_false true x y z e h = absurd (never (sym e))
chosen_false false x y z e h = h

pub record Quieted (n : State) : Type 0 where
  pub phase : is_phase Idle n.sequencer.phase ≡ true
  pub selingo : n.sequencer.status.selingo ≡ false

module _ (n : State) where
  pub rest_quieted : Sequential n → rst_seen n ≡ true → Quieted n
  unfolding sequenced_of
  rest_quieted h e =
      let x = sequenced_of n in
      let k = chosen_true (rst_seen n) (silenced x) (resolved n x) x e (sym (tickless n 0) ∙ h) in
      record {
        phase = subst (λ (y : Sequenced). is_phase Idle y.sequencer.phase ≡ true) k (silenced_phase x);
        selingo = subst (λ (y : Sequenced). y.sequencer.status.selingo ≡ false) k (silenced_selingo x);
      }

  pub rest_calm : Sequential n → rst_seen n ≡ false → Calm n (sequenced_of n)
  rest_calm h e =
      let x = sequenced_of n in
      let k = chosen_false (rst_seen n) (silenced x) (resolved n x) x e (sym (tickless n 0) ∙ h) in
      subst (λ (y : Sequenced). Calm n y) k (resolved_calm n x)

  pub sequential_by : (rst_seen n ≡ true → Quieted n) → (rst_seen n ≡ false → Calm n (sequenced_of n)) → Sequential n
  unfolding sequenced_of
  sequential_by f g =
      let x = sequenced_of n in
      tickless n 0
      ∙ cond_case (λ (y : Sequenced). y ≡ x) (rst_seen n) (silenced x) (resolved n x)
      (λ e. silenced_still x (f e).phase (f e).selingo)
      (λ e. calm_still n x (g e))

-- PHASECHG, settling and D do not touch what the sequencer looks at
pub sequential_status : (x : Status) (n : State) → Sequential n → Sequential (with_status x n)
unfolding sequenced sequenced_of rst_seen resolved uncalled let_go forestalled selected begun withdrawn answers called connects
sequential_status x n h = h

pub sequential_latches : (x : Latches) (n : State) → Sequential n → Sequential (with_latches x n)
unfolding sequenced sequenced_of rst_seen resolved uncalled let_go forestalled selected begun withdrawn answers called connects
sequential_latches x n h = h

pub sequential_transfer : (x : Transfer) (n : State) → Sequential n → Sequential (with_transfer x n)
unfolding sequenced sequenced_of rst_seen resolved uncalled let_go forestalled selected begun withdrawn answers called connects
sequential_transfer x n h = h

-- QUIET TICKS: what drives BSY or SEL beside the sequencer
abbrev pub busy_at : State → Bool
busy_at n = bsy_seen n || sel_seen n

abbrev pub Hushed : State → Type 0
Hushed n = busy_at n ≡ true → n.quiet ≡ 0

-- a phase that gives data drives BSY or SEL, and so no quiet ticks stand in it
abbrev Silent : Sequenced → Type 0
Silent x = phase_drives x.sequencer.phase ≡ true → x.quiet ≡ 0

pub drives_line : (p : Phase) (a b : Bool) → phase_drives p ≡ true → ((a || phase_bsy p) || (b || phase_sel p)) ≡ true
unfolding phase_drives phase_bsy phase_sel
drives_line Idle a b e = absurd (never e)
drives_line Waiting a b e = absurd (never e)
drives_line Arbitrating true b e = refl
drives_line Arbitrating false b e = refl
drives_line Clearing true b e = refl
drives_line Clearing false b e = refl
drives_line Selecting true b e = refl
drives_line Selecting false true e = refl
drives_line Selecting false false e = refl
drives_line Holding true b e = refl
drives_line Holding false true e = refl
drives_line Holding false false e = refl
drives_line Answering a b e = absurd (never e)
drives_line Answered a b e = absurd (never e)

silent_before : (n : State) → Hushed n → Silent (sequenced_of n)
unfolding sequenced_of bsy_seen sel_seen
silent_before n h e =
    h (drives_line n.sequencer.phase (n.lines.bsy || n.registers.scsisig.bsyo) (n.lines.sel || n.registers.scsisig.selo) e)

-- not so in a phase that gives none
driveless : (p : Phase) (n : ℕ) → phase_drives p ≡ false → phase_drives p ≡ true → n ≡ 0
driveless p n d e = absurd (never (sym d ∙ e))

-- a tick: it arbitrates with quiet ticks 0, and the other changes start from a phase that gives data or lead to one that gives none
silent_tick : (s : State) (p : Phase) (before : ℕ) (x : Sequenced) → x.sequencer.phase ≡ p → Silent x → Silent (tick_in p before s x)
unfolding tick_in waiting_for arbitrating_for clearing_for selecting_for answering_for waited arbitrates entered selects times_out reselected phase_drives selingo_cleared selingo_raised selto_raised seldi_raised
silent_tick s Idle before x e h = h
silent_tick s Waiting before x e h =
    cond_case Silent (leb bus_free_delay (cond (leb 8 before && not (bsy_seen s || sel_seen s)) (x.sequencer.ticks + 1) 0)) (arbitrates x) (waited _ x) (λ t d. refl) (λ t. h)
silent_tick s Arbitrating before x e h =
    cond_case Silent (leb arbitration_delay (x.sequencer.ticks + 1)) (entered (cond (higher_id s) Waiting Clearing) x) (waited (x.sequencer.ticks + 1) x) (λ t d. h (ap phase_drives e)) (λ t. h)
silent_tick s Clearing before x e h =
    cond_case Silent (leb clearing_delay (x.sequencer.ticks + 1)) (selects s x) (waited (x.sequencer.ticks + 1) x) (λ t d. h (ap phase_drives e)) (λ t. h)
silent_tick s Selecting before x e h =
    cond_case Silent (leb (timeout s.registers) (cond s.registers.sxfrctl1.enstimer (x.sequencer.ticks + 1) 0)) (times_out s x) (waited _ x) (λ t d. h (ap phase_drives e)) (λ t. h)
silent_tick s Holding before x e h = h
silent_tick s Answering before x e h =
    cond_case Silent (leb settle_delay (x.sequencer.ticks + 1)) (reselected s x) (waited (x.sequencer.ticks + 1) x) (λ t d. absurd (never d)) (λ t. h)
silent_tick s Answered before x e h = h

silent_resolved : (s : State) (x : Sequenced) → Silent x → Silent (resolved s x)
unfolding entered connects seldo_raised phase_drives
silent_resolved s x h =
    resolved_keeps s Silent (λ p y d k. driveless p y.quiet d) (λ y k d. absurd (never d)) x h

idle_silent : (p : Phase) → is_phase Idle p ≡ true → phase_drives p ≡ false
unfolding is_phase phase_number phase_drives
idle_silent Idle e = refl
idle_silent Waiting e = refl
idle_silent Arbitrating e = absurd (never e)
idle_silent Clearing e = absurd (never e)
idle_silent Selecting e = absurd (never e)
idle_silent Holding e = absurd (never e)
idle_silent Answering e = refl
idle_silent Answered e = refl

silent_silenced : (x : Sequenced) → Silent (silenced x)
silent_silenced x =
    driveless (silenced x).sequencer.phase (silenced x).quiet (idle_silent (silenced x).sequencer.phase (silenced_phase x))

silent_after : (n : State) (tick : Bool) (before : ℕ) → Silent (sequenced_of n) → Silent (sequenced tick before n)
unfolding sequenced
silent_after n tick before h =
    let x = sequenced_of n in
    cond_case Silent (rst_seen n) _ _ (λ e. silent_silenced x)
    (λ e.
    silent_resolved n _
    (cond_case Silent tick (tick_in x.sequencer.phase before n x) x (λ t. silent_tick n x.sequencer.phase before x refl h) (λ t. h)))

-- the quiet ticks change to 0 or not at all
abbrev Kept : State → Sequenced → Type 0
Kept s x = s.quiet ≡ 0 → x.quiet ≡ 0

kept_ticking : (s : State) → Ticking s (Kept s)
unfolding waited entered arbitrates selects times_out reselected connects silenced
kept_ticking s =
    record {
      waits = λ n x d h. h;
      moved = λ p x h. h;
      arbitrated = λ x h e. refl;
      selecting = λ x h. h;
      ended = λ x h. h;
      answered = λ x h. h;
      taken = λ x h. h;
      silent = λ x h. h;
    }

kept_after_lem : (n : State) (tick : Bool) (before : ℕ) → n.quiet ≡ 0 → (sequenced tick before n).quiet ≡ 0
unfolding sequenced_of
kept_after_lem n tick before = sequenced_keeps n (Kept n) (kept_ticking n) tick before (λ e. e)

-- it answers only while others drive SEL
abbrev pub Held : State → Sequenced → Type 0
Held s x = (is_phase Answered x.sequencer.phase && not s.lines.sel) ≡ false

idle_held : (p : Phase) (b : Bool) → is_phase Idle p ≡ true → (is_phase Answered p && b) ≡ false
unfolding is_phase phase_number
idle_held Idle b e = refl
idle_held Waiting b e = refl
idle_held Arbitrating b e = refl
idle_held Clearing b e = refl
idle_held Selecting b e = refl
idle_held Holding b e = refl
idle_held Answering b e = refl
idle_held Answered b e = absurd (never e)

pub held_after : (n : State) (tick : Bool) (before : ℕ) → Held n (sequenced tick before n)
unfolding sequenced
held_after n tick before =
    let x = sequenced_of n in
    cond_case (Held n) (rst_seen n) _ _ (λ e. idle_held (silenced x).sequencer.phase (not n.lines.sel) (silenced_phase x))
    (λ e. (resolved_calm n _).let_go)

-- BSY or SEL that is seen then is driven by others or by 343h, or by a phase that gives data
seen_so : (p : Phase) (lb gb ls gs : Bool) → (is_phase Answered p && not ls) ≡ false → (((lb || gb) || phase_bsy p) || ((ls || gs) || phase_sel p)) ≡ true → ((lb || gb) || (ls || gs)) ≡ false → phase_drives p ≡ true
unfolding is_phase phase_number phase_drives phase_bsy phase_sel
seen_so p true gb ls gs a e f = absurd (never (sym f))
seen_so p false true ls gs a e f = absurd (never (sym f))
seen_so p false false true gs a e f = absurd (never (sym f))
seen_so p false false false true a e f = absurd (never (sym f))
seen_so Idle false false false false a e f = absurd (never e)
seen_so Waiting false false false false a e f = absurd (never e)
seen_so Arbitrating false false false false a e f = refl
seen_so Clearing false false false false a e f = refl
seen_so Selecting false false false false a e f = refl
seen_so Holding false false false false a e f = refl
seen_so Answering false false false false a e f = absurd (never e)
seen_so Answered false false false false a e f = absurd (never (sym a))

-- what others and 343h drive is seen
seen_outside : (lb gb pb ls gs ps : Bool) → ((lb || gb) || (ls || gs)) ≡ true → (((lb || gb) || pb) || ((ls || gs) || ps)) ≡ true
seen_outside true gb pb ls gs ps e = refl
seen_outside false true pb ls gs ps e = refl
seen_outside false false true ls gs ps e = refl
seen_outside false false false true gs ps e = refl
seen_outside false false false false true ps e = refl
seen_outside false false false false false ps e = absurd (never e)

-- THE SEQUENCER LEAVES NO QUIET TICKS WHERE BSY OR SEL IS SEEN
pub hushed_sequenced : (n : State) (tick : Bool) (before : ℕ) → Hushed n → Hushed (after_sequencer tick before n)
unfolding after_sequencer bsy_seen sel_seen
hushed_sequenced n tick before h e = go ((lb || gb) || (ls || gs)) refl
  where
    lb : Bool
    lb = n.lines.bsy

    gb : Bool
    gb = n.registers.scsisig.bsyo

    ls : Bool
    ls = n.lines.sel

    gs : Bool
    gs = n.registers.scsisig.selo

    p : Phase
    p = n.sequencer.phase

    go : (b : Bool) → ((lb || gb) || (ls || gs)) ≡ b → (sequenced tick before n).quiet ≡ 0
    go true f = kept_after_lem n tick before (h (seen_outside lb gb (phase_bsy p) ls gs (phase_sel p) f))
    go false f =
        silent_after n tick before (silent_before n h)
        (seen_so (sequenced tick before n).sequencer.phase lb gb ls gs (held_after n tick before) e f)
