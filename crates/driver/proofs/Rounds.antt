-- The cut and the chain over a trace: the rounds of a driver's exchanges are rounds of the definition.
use mathlib.Core.Path.{◌≡◌, refl, ap, ap₂, sym, ◌∙◌}
use mathlib.Core.Bool.{true}
use mathlib.Core.List.{List, [], ◌∷◌, ◌++◌, append_assoc}
use Prim.Native.Nat.{ℕ, ◌+◌, ◌%◌, ◌≤◌}
use native.Mathlib.Omega.{arith}
use lib.ListN.{length, take, drop}
use Rattle.rules.specs.State.{State}
use Rattle.rules.specs.Step.{step, after}
use Rattle.rules.specs.declared.map.Register.{Register}
use Rattle.rules.specs.declared.map.Register.TheVariants.{STCNT0, STCNT1, STCNT2}
use Rattle.runs.specs.Comes.{all_come, along}
use Rattle.runs.specs.Run.{Starts, run_allows, accepted, sent_by}
use Rattle.runs.specs.Cut.{calm, read_answers}
use Rattle.runs.specs.Rounds as records
use Rattle.runs.proofs.Along.{after_append}
use Rattle.runs.proofs.Cut.{cut_and_read, still_a_run}
use Rattle.runs.proofs.Rounds.{chain_going}
use Rattle.runs.proofs.Stages.{held_at_start}
use Rattle.driver.specs.Exchanges.{Exchange, handed, handed_over, taken_of, accepted_of, over, register_read, counter_of}
use Rattle.driver.specs.Driving.{Round, exchanges_of, whole_round, taken_in, Keeps, Chain, all_rounds, taken, reached, Drives, taken_so_far}
use Rattle.driver.specs.Calls.{Ranged, Trace}
use Rattle.driver.specs.DemandThree.{CutRead}
use Rattle.driver.proofs.Shown.{code_shown, done_by_number}
use Rattle.driver.proofs.Traces.{handed_append, trace_append, ranged_step, ranged_after, accepted_along, registers_along, comes_along, offers_along, taken_along}

-- the records of a round
abbrev pub records_in : Round → records.Round
records_in r =
    record {
      run = handed_over r.run;
      cut = handed r.cut;
      reading = handed_over r.reading;
      clearing = handed_over r.clearing;
    }

below : (n : ℕ) → n ≤ 16777215 → n % 16777216 ≡ n
below n h = omega arith

module _ (s : State) (r : Round) (i : Ranged s) (start : Starts true s) (k : Keeps r) (t : Trace s (exchanges_of r)) where
  abbrev cut_state : State
  cut_state = after s (handed_over r.run)

  abbrev read_state : State
  read_state = (step cut_state (handed r.cut)).state

  in_run_lem : Trace s r.run
  in_run_lem = (trace_append s r.run (r.cut ∷ r.reading) t).0

  at_cut : Trace cut_state (r.cut ∷ r.reading)
  at_cut = (trace_append s r.run (r.cut ∷ r.reading) t).1

  cut_ranged : Ranged cut_state
  cut_ranged = ranged_after s (handed_over r.run) i

  read_ranged : Ranged read_state
  read_ranged = ranged_step cut_state (handed r.cut) cut_ranged

  read_along : (x : Register) → over (register_read x) r.reading ≡ read_answers x read_state (handed_over r.reading)
  read_along x = registers_along read_state r.reading read_ranged at_cut.1 x

  pub round_proceeds : records.Proceeds s (records_in r)
  round_proceeds =
      record {
        start = start;
        run = sym (comes_along run_allows s r.run i in_run_lem) ∙ k.run;
        cut = k.cut;
        cut_code = done_by_number (step cut_state (handed r.cut)).code (sym (code_shown cut_state r.cut cut_ranged at_cut.0) ∙ k.cut_code);
        reading = sym (comes_along calm read_state r.reading read_ranged at_cut.1) ∙ k.reading;
        low = rw (read_along STCNT0) at k.low;
        middle = rw (read_along STCNT1) at k.middle;
        high = rw (read_along STCNT2) at k.high;
      }

  same_records : handed_over (exchanges_of r) ≡ records.records_of (records_in r)
  same_records = handed_append r.run (r.cut ∷ r.reading)

  pub round_taken : taken_in r ≡ records.taken_in s (records_in r)
  round_taken =
      taken_along s (exchanges_of r) i t (held_at_start true s start) (ap (all_come run_allows s) same_records ∙ still_a_run s (records_in r) round_proceeds)
      ∙ ap (along sent_by s) same_records

  pub round_number : counter_of r.reading ≡ records.number_read s (records_in r)
  round_number = rw (read_along STCNT0, read_along STCNT1, read_along STCNT2)

  round_accepted : over accepted_of (exchanges_of r) ≡ along accepted s (records.records_of (records_in r))
  round_accepted = accepted_along s (exchanges_of r) i t ∙ ap (along accepted s) same_records

  -- THE CUT: the counter so read is the number of bytes taken since the start, and these are the first so many accepted
  pub cut_of_trace : CutRead r
  cut_of_trace =
      let c = cut_and_read s (records_in r) round_proceeds in
      let n : counter_of r.reading ≡ length (taken_in r) % 16777216 =
      round_number ∙ c.number ∙ ap (λ (l : List ℕ). length l % 16777216) (sym round_taken) in
      record { number = n; exact = λ b. n ∙ below (length (taken_in r)) b; first = rw (round_taken, round_accepted) c.first }

-- a round leaves the chip where its records do
pub round_after : (s : State) (r : Round) → after s (handed_over (whole_round r)) ≡ records.after_round s (records_in r)
round_after s r =
    ap (after s) (handed_append (exchanges_of r) r.clearing)
    ∙ after_append s (handed_over (exchanges_of r)) (handed_over r.clearing)
    ∙ ap (λ (x : State). after x (handed_over r.clearing))
    (ap (after s) (handed_append r.run (r.cut ∷ r.reading)) ∙ after_append s (handed_over r.run) (handed_over (r.cut ∷ r.reading)))

abbrev pub all_records_in : List Round → List records.Round
all_records_in [] = []
all_records_in (r ∷ more) = records_in r ∷ all_records_in more

-- the rounds of a trace are rounds of the definition, with the same bytes taken and the same numbers read
pub record Matches (whole : List ℕ) (first : ℕ) (s : State) (rounds : List Round) (last : List Exchange) : Type 0 where
  pub chain : records.Chain whole first s (all_records_in rounds)
  pub taken : taken rounds ≡ records.taken s (all_records_in rounds)
  pub reached : reached first rounds ≡ records.reached first s (all_records_in rounds)
  pub state : after s (handed_over (all_rounds rounds)) ≡ records.after_rounds s (all_records_in rounds)
  pub later : Trace (after s (handed_over (all_rounds rounds))) last

pub rounds_match : (whole : List ℕ) (first : ℕ) (s : State) (rounds : List Round) (last : List Exchange) → Ranged s → Chain whole first s rounds → Trace s (all_rounds rounds ++ last) → Matches whole first s rounds last
rounds_match whole first s [] last i c t = record { chain = tt; taken = refl; reached = refl; state = refl; later = t }
rounds_match whole first s (r ∷ more) last i c t =
    let u : Trace s (whole_round r ++ (all_rounds more ++ last)) = rw (append_assoc (whole_round r) (all_rounds more) last) at t in
    let both = trace_append s (whole_round r) (all_rounds more ++ last) u in
    let one = (trace_append s (exchanges_of r) r.clearing both.0).0 in
    let next = after s (handed_over (whole_round r)) in
    let k = c.1.0.keeps in
    let p = round_proceeds s r i c.0 k one in
    let n = round_number s r i c.0 k one in
    let q = round_taken s r i c.0 k one in
    let a = round_after s r in
    let m = rounds_match whole (first + counter_of r.reading) next more last (ranged_after s (handed_over (whole_round r)) i) c.1.1 both.1 in
    let j : after s (handed_over (whole_round r ++ all_rounds more)) ≡ after next (handed_over (all_rounds more)) =
    ap (after s) (handed_append (whole_round r) (all_rounds more)) ∙ after_append s (handed_over (whole_round r)) (handed_over (all_rounds more)) in
    let rest = m.chain in
    record {
      chain = (
        record {
          proceeds = p;
          offers = offers_along (drop first whole) s r.run i (trace_append s r.run (r.cut ∷ r.reading) one).0 c.1.0.offers;
          bound = rw q at c.1.0.bound;
        },
        rw (n, a) at rest,
      );
      taken = ap₂ (λ (x y : List ℕ). x ++ y) q (m.taken ∙ ap (λ (x : State). records.taken x (all_records_in more)) a);
      reached = m.reached ∙ rw (n, a);
      state = j ∙ m.state ∙ ap (λ (x : State). records.after_rounds x (all_records_in more)) a;
      later = rw j m.later;
    }

-- THE CHAIN WITH ITS LAST RUN: over any number of cuts all bytes taken are a beginning of the data
pub chain_of_trace : (whole : List ℕ) (s : State) (rounds : List Round) (last : List Exchange) → Ranged s → Drives whole s rounds last → Trace s (all_rounds rounds ++ last) → taken_so_far rounds last ≡ take (length (taken_so_far rounds last)) whole
chain_of_trace whole s rounds last i d t =
    let m = rounds_match whole 0 s rounds last i d.chain t in
    let e = after s (handed_over (all_rounds rounds)) in
    let j = ranged_after s (handed_over (all_rounds rounds)) i in
    let come = sym (comes_along run_allows e last j m.later) ∙ d.goes.run in
    let offer = offers_along (drop (reached 0 rounds) whole) e last j m.later d.goes.offers in
    let sent : over taken_of last ≡ along sent_by e (handed_over last) = taken_along e last j m.later (held_at_start true e d.start) come in
    let so : taken_so_far rounds last ≡ records.taken_so_far s (all_records_in rounds) (handed_over last) =
    ap₂ (λ (x y : List ℕ). x ++ y) m.taken (sent ∙ ap (λ (x : State). along sent_by x (handed_over last)) m.state) in
    let going : records.Going (drop (records.reached 0 s (all_records_in rounds)) whole) (records.after_rounds s (all_records_in rounds)) (handed_over last) =
    rw (← m.state, ← m.reached) (record { start = d.start; run = come; offers = offer }) in
    rw so (chain_going whole s (all_records_in rounds) (handed_over last) (record { chain = m.chain; last = going }))
