-- Clearings that a driver knows from its records: each ends at a start, and nothing is sent in it.
use mathlib.Core.Path.{◌≡◌, refl, ap, ap₂, sym, ◌∙◌}
use mathlib.Core.Bool.{Bool, true, false, not, ◌||◌}
use mathlib.Core.List.{List, [], ◌∷◌, ◌++◌, append_assoc}
use Prim.Native.Nat.{ℕ, ◌+◌, ◌≤◌}
use lib.ListN.{length}
use borrow.Author.Tests.{not-true}
use Rattle.rules.specs.State.{State}
use Rattle.rules.specs.Events.{writes}
use Rattle.rules.specs.Step.{after}
use Rattle.rules.specs.declared.map.Register.TheVariants.{SCSISEQ}
use Rattle.rules.proofs.Logic.{left_true, right_true}
use Rattle.rules.proofs.StayIdle.{SequencerOff}
use Rattle.runs.specs.Comes.{all_come, along}
use Rattle.runs.specs.Run.{Starts, sent_by}
use Rattle.runs.specs.Clearing.{stays_off, all_clear, clearing_of}
use Rattle.runs.specs.Rounds as records
use Rattle.runs.proofs.Along.{after_append}
use Rattle.runs.proofs.Clearing.{off_by, stays_clear}
use Rattle.runs.proofs.Cut.{all_come_more, cut_and_read}
use Rattle.runs.proofs.Rounds.{only_taken_is_sent, idle_after_cut}
use Rattle.runs.proofs.Sequence.{Works, clearing_works, short_clearing_works}
use Rattle.runs.proofs.StaysIdle.{off_along}
use Rattle.driver.specs.Exchanges.{Exchange, handed_over, counter_of}
use Rattle.driver.specs.Driving.{Round, exchanges_of, whole_round, Chain, all_rounds, taken, Drives, last_records, may_precede, Clears, AllClear, Rounds, DrivesBlind}
use Rattle.driver.specs.Calls.{Ranged, Trace}
use Rattle.driver.proofs.Traces.{handed_append, trace_append, ranged_after, comes_along}
use Rattle.driver.proofs.Rounds.{records_in, all_records_in, round_proceeds, round_after, rounds_match}

-- the seven records lead to a start from any state
pub starts_by_records : (s : State) (earlier final : List Exchange) (eightbit : Bool) → Ranged s → handed_over final ≡ clearing_of eightbit → Starts true (after s (handed_over (earlier ++ final)))
starts_by_records s earlier final eightbit i e =
    let m = after s (handed_over earlier) in
    let w = clearing_works m eightbit (ranged_after s (handed_over earlier) i).range.transfer.host in
    rw (handed_append earlier final, after_append s (handed_over earlier) (handed_over final), e) w.starts

pub reading_after : (s : State) (r : Round) → after s (handed_over (exchanges_of r)) ≡ records.after_reading s (records_in r)
reading_after s r =
    ap (after s) (handed_append r.run (r.cut ∷ r.reading)) ∙ after_append s (handed_over r.run) (handed_over (r.cut ∷ r.reading))

-- one round whose clearing is known by its records
module _ (s : State) (r : Round) (i : Ranged s) (p : records.Proceeds s (records_in r)) (c : Clears r.clearing) (t : Trace s (whole_round r)) where
  abbrev read : State
  read = after s (handed_over (exchanges_of r))

  read_ranged : Ranged read
  read_ranged = ranged_after s (handed_over (exchanges_of r)) i

  cleared_records_lem : handed_over r.clearing ≡ handed_over c.earlier ++ last_records c.pulse c.eightbit
  cleared_records_lem =
      ap handed_over c.whole ∙ handed_append c.earlier c.final ∙ ap (λ (l : List (List ℕ)). handed_over c.earlier ++ l) c.sequence

  in_clearing : Trace read c.earlier
  in_clearing =
      let u : Trace read (c.earlier ++ c.final) = rw c.whole at (trace_append s (exchanges_of r) r.clearing t).1 in
      (trace_append read c.earlier c.final u).0

  abbrev earlier : List (List ℕ)
  earlier = handed_over c.earlier

  -- where the clearing's last records find the chip
  abbrev before : State
  before = after read earlier

  come_before : all_come (may_precede c.pulse) read earlier ≡ true
  come_before = sym (comes_along (may_precede c.pulse) read c.earlier read_ranged in_clearing) ∙ c.off

  -- the run leaves the sequencer off, and so do records that do not write 340h
  still_off : all_come (may_precede false) read earlier ≡ true → SequencerOff before
  still_off =
      off_along (may_precede false) refl (λ e a. not-true (writes e SCSISEQ) (right_true (stays_off e) (not (writes e SCSISEQ)) a)) read earlier
      (rw (reading_after s r) (idle_after_cut s (records_in r) p))

  room_before : length before.transfer.host ≤ 128
  room_before = (ranged_after read earlier read_ranged).range.transfer.host

  last_works : Works before (last_records c.pulse c.eightbit)
  last_works = go c.pulse come_before
    where
      go : (pulse : Bool) → all_come (may_precede pulse) read earlier ≡ true → Works before (last_records pulse c.eightbit)
      go true h = clearing_works before c.eightbit room_before
      go false h = short_clearing_works before c.eightbit room_before (still_off h)

  pub round_starts : Starts true (after s (handed_over (whole_round r)))
  round_starts =
      rw (handed_append (exchanges_of r) r.clearing, after_append s (handed_over (exchanges_of r)) (handed_over r.clearing), cleared_records_lem, after_append read earlier (last_records c.pulse c.eightbit))
      last_works.starts

  pub round_clears : all_clear (records.after_reading s (records_in r)) (handed_over r.clearing) ≡ true
  round_clears =
      let q = cut_and_read s (records_in r) p in
      let off = off_by (records.after_reading s (records_in r)) q.off q.moment.held.spioen in
      let come = all_come_more (may_precede c.pulse) stays_off (λ e a. left_true (stays_off e) (c.pulse || not (writes e SCSISEQ)) a) read earlier come_before in
      rw (cleared_records_lem, ← reading_after s r)
      (stays_clear read earlier (last_records c.pulse c.eightbit) (rw (reading_after s r) off) come last_works.allowed)

-- any number of such rounds
pub record Restarts (whole : List ℕ) (first : ℕ) (s : State) (rounds : List Round) : Type 0 where
  pub chain : Chain whole first s rounds
  pub start : Starts true (after s (handed_over (all_rounds rounds)))
  pub cleared : records.AllCleared s (all_records_in rounds)

pub restarts : (whole : List ℕ) (first : ℕ) (s : State) (rounds : List Round) → Ranged s → Starts true s → Rounds whole first rounds → AllClear rounds → Trace s (all_rounds rounds) → Restarts whole first s rounds
restarts whole first s [] i start q a t = record { chain = tt; start = start; cleared = tt }
restarts whole first s (r ∷ more) i start q a t =
    let both = trace_append s (whole_round r) (all_rounds more) t in
    let one = (trace_append s (exchanges_of r) r.clearing both.0).0 in
    let p = round_proceeds s r i start q.0.keeps one in
    let begun = round_starts s r i p a.0 both.0 in
    let next = after s (handed_over (whole_round r)) in
    let m = restarts whole (first + counter_of r.reading) next more (ranged_after s (handed_over (whole_round r)) i) begun q.1 a.1 both.1 in
    let j = ap (after s) (handed_append (whole_round r) (all_rounds more)) ∙ after_append s (handed_over (whole_round r)) (handed_over (all_rounds more)) in
    let rest = m.cleared in
    record {
      chain = (start, (q.0, m.chain));
      start = rw j m.start;
      cleared = (round_clears s r i p a.0 both.0, rw (round_after s r) at rest);
    }

all_handed : (rounds : List Round) → handed_over (all_rounds rounds) ≡ records.all_records (all_records_in rounds)
all_handed [] = refl
all_handed (r ∷ more) =
    handed_append (whole_round r) (all_rounds more)
    ∙ ap₂ (λ (a b : List (List ℕ)). a ++ b) (handed_append (exchanges_of r) r.clearing) (all_handed more)
    ∙ append_assoc (handed_over (exchanges_of r)) (handed_over r.clearing) (records.all_records (all_records_in more))
    ∙ ap (λ (a : List (List ℕ)). a ++ (handed_over r.clearing ++ records.all_records (all_records_in more))) (handed_append r.run (r.cut ∷ r.reading))

module _ (whole : List ℕ) (s : State) (rounds : List Round) (last : List Exchange) (i : Ranged s) (start : Starts true s) (d : DrivesBlind whole rounds last) (t : Trace s (all_rounds rounds ++ last)) where
  all_restart : Restarts whole 0 s rounds
  all_restart = restarts whole 0 s rounds i start d.rules d.clear (trace_append s (all_rounds rounds) last t).0

  -- records and buffers say that the rounds are a chain
  pub blind_drives : Drives whole s rounds last
  blind_drives = record { chain = all_restart.chain; start = all_restart.start; goes = d.goes }

  -- and nothing is sent between the cut and the next start: all that was sent in the rounds was taken in their runs
  pub blind_sends_only_taken : along sent_by s (handed_over (all_rounds rounds)) ≡ taken rounds
  blind_sends_only_taken =
      ap (along sent_by s) (all_handed rounds) ∙ only_taken_is_sent s (all_records_in rounds) all_restart.cleared
      ∙ sym (rounds_match whole 0 s rounds last i all_restart.chain t).taken
