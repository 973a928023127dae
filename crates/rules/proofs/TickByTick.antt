-- THE TICKS OF AN EVENT, MANY AT A TIME: below the distance they only count, a number of them splits, and a round that leaves all as
-- it was may be left out.
use Prim.Native.Nat.{ℕ, zero, suc, ◌+◌, ◌*◌, ◌-◌, ◌/◌, ◌%◌, ◌≤◌, ◌<◌, min}
use mathlib.Core.Path.{◌≡◌, refl, ap, sym, ◌∙◌}
use mathlib.Core.Bool.{Bool, true, false, not, ◌&&◌, ◌||◌, cond}
use mathlib.Core.List.{List, append_assoc}
use native.Mathlib.Omega.{arith}
use native.Mathlib.Nat.{zero-add, suc-add, add_assoc, div-add-mod'}
use lib.Dec.{eqb, leb, eqb-suc-zero}
use borrow.Author.Tests.{leb-false, eqb-true}
use Rattle.rules.specs.State.{State, power_reset}
use Rattle.rules.specs.Changed.{with_quiet, with_sequencer}
use Rattle.rules.specs.Seen.{bsy_seen, sel_seen}
use Rattle.rules.specs.Records.{well_formed, fields_of, decode}
use Rattle.rules.specs.Sequencer.{bus_free_delay, arbitration_delay, clearing_delay, settle_delay, timeout, in_ticks}
use Rattle.rules.specs.StepB.{quiet_after}
use Rattle.rules.specs.Answers.{Stepped}
use Rattle.rules.specs.Step.{ended, access, joined, single_ticks, ticks_taken, step_event, step_decoded, step, after}
use Rattle.rules.specs.Ticks.{bus_taken, bus_waits, ticks_in, advanced, unreached, bus_free_distance, delay_left, distance_in, distance}
use Rattle.rules.specs.Ranges.{InRange}
use Rattle.rules.specs.declared.codes.Code.TheVariants.{Done}
use Rattle.rules.specs.declared.registers.Registers.{Registers}
use Rattle.rules.specs.declared.chip.Phase.{Phase}
use Rattle.rules.specs.declared.chip.Phase.TheVariants.{Idle, Waiting, Arbitrating, Clearing, Selecting, Holding, Answering, Answered}
use Rattle.rules.specs.declared.records.Event.TheVariants.{Ticks}
use Rattle.rules.proofs.Logic.{never}
use Rattle.rules.proofs.Sequencing.{timeout_least}
use Rattle.rules.proofs.Still.{quiet_still, zero_ticks_at_rest, always_at_rest}
use Rattle.rules.specs.Rest.{AtRest}
use Rattle.rules.proofs.Ranges.{always_in_range}
use Rattle.rules.proofs.OneTick.{no_free, advanced_rests, advanced_fits, steady_tick}

-- no ticks
pub advanced_none : (s : State) → AtRest s → InRange s → advanced 0 s ≡ s
unfolding advanced
advanced_none s r i = ap (λ (n : ℕ). with_quiet n s) (quiet_still s r i.quiet)

-- a count that a test lets go on, or sets to 0
counts_more : (b c : Bool) (t u k : ℕ) → c ≡ b → u ≡ cond b (t + 1) 0 → cond c (u + k) 0 ≡ cond b (t + suc k) 0
counts_more true true t u k e h = omega arith
counts_more true false t u k e h = absurd (never e)
counts_more false true t u k e h = absurd (never (sym e))
counts_more false false t u k e h = refl

-- the distance to the end of a delay, one tick on
delay_less : (d f t u : ℕ) → f ≡ d → u ≡ t + 1 → delay_left d t ≤ suc (delay_left f u)
delay_less d f t u g e = omega arith

picked_less : (b c : Bool) (x y z w : ℕ) → c ≡ b → (b ≡ true → x ≤ suc z) → (b ≡ false → y ≤ suc w) → cond b x y ≤ suc (cond c z w)
picked_less true true x y z w e f g = f refl
picked_less true false x y z w e f g = absurd (never e)
picked_less false true x y z w e f g = absurd (never (sym e))
picked_less false false x y z w e f g = g refl

counted_on : (b : Bool) (t u : ℕ) → b ≡ true → u ≡ cond b (t + 1) 0 → u ≡ t + 1
counted_on true t u e h = h
counted_on false t u e h = absurd (never e)

-- ONE TICK AND k MORE ARE k + 1
module _ (s : State) (r : AtRest s) (i : InRange s) (h : 1 < distance s) where
  abbrev once : State
  once = advanced 1 s

  same_taken : bus_taken once ≡ bus_taken s
  unfolding advanced bsy_seen sel_seen
  same_taken = refl

  once_quiet : once.quiet ≡ quiet_after 1 s
  unfolding advanced
  once_quiet = refl

  once_ticks : once.sequencer.ticks ≡ ticks_in s.sequencer.phase 1 s
  unfolding advanced
  once_ticks = refl

  same_registers : once.registers ≡ s.registers
  unfolding advanced
  same_registers = refl

  same_phase : once.sequencer.phase ≡ s.sequencer.phase
  unfolding advanced
  same_phase = refl

  same_waits : bus_waits once ≡ bus_waits s
  same_waits =
      λ j. ((ap (leb 8) once_quiet ∙ no_free s r 1 i h) j) && not (same_taken j)

  more_quiet : (k : ℕ) → quiet_after k once ≡ quiet_after (suc k) s
  unfolding quiet_after advanced bsy_seen sel_seen
  more_quiet k = go (bus_taken s)
    where
      go : (b : Bool) → cond b 0 (min 8 (cond b 0 (min 8 (s.quiet + 1)) + k)) ≡ cond b 0 (min 8 (s.quiet + suc k))
      go true = refl
      go false = omega arith

  -- of a phase, over its ticks before and after one
  more_ticks : (p : Phase) (k : ℕ) → once.sequencer.ticks ≡ ticks_in p 1 s → ticks_in p k once ≡ ticks_in p (suc k) s
  unfolding ticks_in
  more_ticks Idle k e = e
  more_ticks Waiting k e = counts_more (bus_waits s) (bus_waits once) s.sequencer.ticks once.sequencer.ticks k same_waits e
  more_ticks Arbitrating k e = omega arith
  more_ticks Clearing k e = omega arith
  more_ticks Selecting k e =
      counts_more s.registers.sxfrctl1.enstimer once.registers.sxfrctl1.enstimer s.sequencer.ticks once.sequencer.ticks k (ap (λ (g : Registers). g.sxfrctl1.enstimer) same_registers) e
  more_ticks Holding k e = e
  more_ticks Answering k e = omega arith
  more_ticks Answered k e = e

  more_counts : (k : ℕ) → cond (eqb k 0) once.sequencer.ticks (ticks_in s.sequencer.phase k once) ≡ cond (eqb (suc k) 0) s.sequencer.ticks (ticks_in s.sequencer.phase (suc k) s)
  more_counts k =
      go (eqb k 0) refl ∙ ap (λ (b : Bool). cond b s.sequencer.ticks (ticks_in p (suc k) s)) (sym (eqb-suc-zero k))
    where
      p : Phase
      p = s.sequencer.phase

      go : (b : Bool) → eqb k 0 ≡ b → cond b once.sequencer.ticks (ticks_in p k once) ≡ ticks_in p (suc k) s
      go true e = once_ticks ∙ ap (λ (n : ℕ). ticks_in p (suc n) s) (sym (eqb-true k 0 e))
      go false e = more_ticks p k once_ticks

  pub advanced_more : (k : ℕ) → advanced k once ≡ advanced (suc k) s
  unfolding advanced
  advanced_more k =
      λ j. with_quiet (more_quiet k j) (with_sequencer (in_ticks (more_counts k j) s.sequencer) s)

  -- AND THE DISTANCE IS ONE LESS
  one_more_lem : once.quiet ≤ s.quiet + 1
  unfolding advanced quiet_after
  one_more_lem = go (bus_taken s)
    where
      go : (b : Bool) → cond b 0 (min 8 (s.quiet + 1)) ≤ s.quiet + 1
      go true = omega arith
      go false = omega arith

  free_less : bus_free_distance s ≤ suc (bus_free_distance once)
  unfolding bus_free_distance
  free_less =
      picked_less (bus_taken s || leb 8 s.quiet) (bus_taken once || leb 8 once.quiet) unreached (8 - s.quiet) unreached (8 - once.quiet)
      (λ j. same_taken j || (ap (leb 8) once_quiet ∙ no_free s r 1 i h) j) (λ e. omega arith) (λ e. omega (arith, one_more_lem))

  less_in : (p : Phase) → once.sequencer.ticks ≡ ticks_in p 1 s → distance_in p s ≤ suc (distance_in p once)
  unfolding distance_in ticks_in
  less_in Idle e = free_less
  less_in Waiting e =
      picked_less (bus_waits s) (bus_waits once) (delay_left bus_free_delay s.sequencer.ticks) (bus_free_distance s) (delay_left bus_free_delay once.sequencer.ticks) (bus_free_distance once) same_waits
      (λ w. delay_less bus_free_delay bus_free_delay s.sequencer.ticks once.sequencer.ticks refl (counted_on (bus_waits s) s.sequencer.ticks once.sequencer.ticks w e)) (λ w. free_less)
  less_in Arbitrating e = delay_less arbitration_delay arbitration_delay s.sequencer.ticks once.sequencer.ticks refl e
  less_in Clearing e = delay_less clearing_delay clearing_delay s.sequencer.ticks once.sequencer.ticks refl e
  less_in Selecting e =
      picked_less s.registers.sxfrctl1.enstimer once.registers.sxfrctl1.enstimer (delay_left (timeout s.registers) s.sequencer.ticks) unreached (delay_left (timeout once.registers) once.sequencer.ticks) unreached (ap (λ (g : Registers). g.sxfrctl1.enstimer) same_registers)
      (λ w.
      delay_less (timeout s.registers) (timeout once.registers) s.sequencer.ticks once.sequencer.ticks (ap timeout same_registers)
      (counted_on s.registers.sxfrctl1.enstimer s.sequencer.ticks once.sequencer.ticks w e))
      (λ w. omega arith)
  less_in Holding e = free_less
  less_in Answering e = delay_less settle_delay settle_delay s.sequencer.ticks once.sequencer.ticks refl e
  less_in Answered e = free_less

  pub distance_less : distance s ≤ suc (distance once)
  unfolding distance advanced
  distance_less = less_in s.sequencer.phase once_ticks

-- BELOW THE DISTANCE, TICKS ONLY COUNT
pub steady : (k : ℕ) (s : State) → AtRest s → InRange s → k < distance s → single_ticks k s ≡ ended (advanced k s) Done 0
unfolding single_ticks ended
steady zero s r i h = ap (λ (t : State). ended t Done 0) (sym (advanced_none s r i))
steady (suc k) s r i h =
    let far : 1 < distance s = omega arith in
    let t = steady_tick s r i far in
    (λ j. joined (t j) (single_ticks k (t j).state))
    ∙ ap (joined (ended (advanced 1 s) Done 0))
    (steady k (advanced 1 s) (advanced_rests s r 1 i far) (advanced_fits s r 1 i far) (omega (arith, distance_less s r i far)))
    ∙ ap (λ (n : State). ended n Done 0) (advanced_more s r i far k)

-- ticks report code 0 and no value
pub ticks_code : (n : ℕ) (s : State) → ((single_ticks n s).code ≡ Done) × ((single_ticks n s).value ≡ 0)
unfolding single_ticks ended
ticks_code zero s = (refl, refl)
ticks_code (suc n) s = (refl, refl)

-- after nothing, what comes is all there is
pub joined_none : (t s : State) (n : ℕ) → joined (ended t Done 0) (single_ticks n s) ≡ single_ticks n s
unfolding ended
joined_none t s n =
    let r = single_ticks n s in
    λ j.
    record {
      state = r.state;
      code = sym (ticks_code n s).0 j;
      value = sym (ticks_code n s).1 j;
      moves = zero-add r.moves j;
      acks = zero-add r.acks j;
      sent = r.sent;
    }

pub joined_assoc : (a b c : Stepped) → joined a (joined b c) ≡ joined (joined a b) c
joined_assoc a b c =
    λ j.
    record {
      state = c.state;
      code = Done;
      value = 0;
      moves = sym (add_assoc a.moves b.moves c.moves) j;
      acks = sym (add_assoc a.acks b.acks c.acks) j;
      sent = sym (append_assoc a.sent b.sent c.sent) j;
    }

-- a + b TICKS ARE a AND THEN b
pub ticks_split : (a b : ℕ) (s : State) → single_ticks (a + b) s ≡ joined (single_ticks a s) (single_ticks b (single_ticks a s).state)
unfolding single_ticks ended
ticks_split zero b s = ap (λ (n : ℕ). single_ticks n s) (zero-add b) ∙ sym (joined_none s s b)
ticks_split (suc a) b s =
    let first = access s (Ticks 1) in
    let t = first.state in
    ap (λ (n : ℕ). single_ticks n s) (suc-add a b) ∙ ap (joined first) (ticks_split a b t)
    ∙ joined_assoc first (single_ticks a t) (single_ticks b (single_ticks a t).state)

-- so that ticks below the distance may be left out, and the rest taken from where they lead
pub steady_more : (k m : ℕ) (s : State) → AtRest s → InRange s → k < distance s → single_ticks (k + m) s ≡ single_ticks m (advanced k s)
unfolding ended
steady_more k m s r i h =
    let e = steady k s r i h in
    ticks_split k m s ∙ (λ j. joined (e j) (single_ticks m (e j).state)) ∙ joined_none (advanced k s) (advanced k s) m

-- the distance is at least one tick, and no more than an event has, and one
bounded_in : (b : Bool) (x y : ℕ) → (1 ≤ x) × (x ≤ unreached) → (b ≡ false → (1 ≤ y) × (y ≤ unreached)) → (1 ≤ cond b x y) × (cond b x y ≤ unreached)
bounded_in true x y f g = f
bounded_in false x y f g = g refl

free_bounded : (s : State) → (1 ≤ bus_free_distance s) × (bus_free_distance s ≤ unreached)
unfolding bus_free_distance
free_bounded s =
    bounded_in (bus_taken s || leb 8 s.quiet) unreached (8 - s.quiet) (omega arith) (λ e. below (bus_taken s) (leb 8 s.quiet) refl e)
  where
    below : (b c : Bool) → leb 8 s.quiet ≡ c → (b || c) ≡ false → (1 ≤ 8 - s.quiet) × (8 - s.quiet ≤ unreached)
    below true c f e = absurd (never (sym e))
    below false true f e = absurd (never (sym e))
    below false false f e =
        let q = leb-false 8 s.quiet f in
        (omega arith, omega arith)

bounded_phase : (p : Phase) (s : State) → (1 ≤ distance_in p s) × (distance_in p s ≤ unreached)
unfolding distance_in
bounded_phase Idle s = free_bounded s
bounded_phase Waiting s =
    bounded_in (bus_waits s) (delay_left bus_free_delay s.sequencer.ticks) (bus_free_distance s) (omega arith) (λ e. free_bounded s)
bounded_phase Arbitrating s = (omega arith, omega arith)
bounded_phase Clearing s = (omega arith, omega arith)
bounded_phase Selecting s =
    bounded_in s.registers.sxfrctl1.enstimer (delay_left (timeout s.registers) s.sequencer.ticks) unreached
    (omega arith, omega (arith, timeout_least s.registers)) (λ e. (omega arith, omega arith))
bounded_phase Holding s = free_bounded s
bounded_phase Answering s = (omega arith, omega arith)
bounded_phase Answered s = free_bounded s

pub distance_bounded : (s : State) → (1 ≤ distance s) × (distance s ≤ unreached)
unfolding distance
distance_bounded s = bounded_phase s.sequencer.phase s

-- A ROUND THAT LEAVES ALL AS IT WAS, AND REPORTS NOTHING, MAY BE LEFT OUT
module _ (p : ℕ) (s : State) (e : single_ticks p s ≡ ended s Done 0) where
  round_out : (m : ℕ) → single_ticks (p + m) s ≡ single_ticks m s
  unfolding ended
  round_out m =
      ticks_split p m s ∙ (λ j. joined (e j) (single_ticks m (e j).state)) ∙ joined_none s s m

  rounds_out : (q m : ℕ) → single_ticks (q * p + m) s ≡ single_ticks m s
  rounds_out zero m =
      let z : zero * p + m ≡ m = omega arith in
      ap (λ (n : ℕ). single_ticks n s) z
  rounds_out (suc q) m =
      let z : suc q * p + m ≡ p + (q * p + m) = omega arith in
      ap (λ (n : ℕ). single_ticks n s) z ∙ round_out (q * p + m) ∙ rounds_out q m

pub round : (n p : ℕ) (s : State) → 0 < p → single_ticks p s ≡ ended s Done 0 → single_ticks n s ≡ single_ticks (n % p) s
round n p s h e = ap (λ (k : ℕ). single_ticks k s) (sym (div-add-mod' n p)) ∙ rounds_out p s e (n / p) (n % p)

-- AN EVENT OF n TICKS IS n EVENTS OF ONE, none of 0 ticks included
pub ticks_are_single : (n : ℕ) (s : State) → AtRest s → InRange s → step_event s (Ticks n) ≡ single_ticks n s
unfolding step_event ticks_taken single_ticks ended step decode fields_of well_formed step_decoded
ticks_are_single zero s r i = zero_ticks_at_rest s r i
ticks_are_single (suc n) s r i = refl

-- so of every chip that records from power reset reach
pub always_single : (n : ℕ) (records : List (List ℕ)) → step_event (after power_reset records) (Ticks n) ≡ single_ticks n (after power_reset records)
always_single n records = ticks_are_single n (after power_reset records) (always_at_rest records) (always_in_range records)
