-- The chain: over any number of rounds the target takes a beginning of the driver's data, each byte once, in order.
use mathlib.Core.Path.{◌≡◌, refl, sym, ◌∙◌, ap}
use mathlib.Core.Bool.{Bool, true, false, cond}
use mathlib.Core.List.{List, [], ◌∷◌, ◌++◌}
use Prim.Native.Nat.{ℕ, ◌+◌, ◌%◌, ◌≤◌}
use native.Mathlib.Nat.{add-zero, zero-add}
use native.Mathlib.Omega.{arith}
use lib.ListN.{length, take, drop, length-append}
use lib.Seq.{take-add, drop-drop, take-take}
use Rattle.rules.specs.State.{State}
use Rattle.rules.specs.Records.{decode}
use Rattle.rules.specs.Events.{offered}
use Rattle.rules.specs.Step.{step, after}
use Rattle.rules.proofs.StayIdle.{SequencerOff}
use Rattle.runs.specs.Comes.{is_refusal, event_bytes, along, acks_along}
use Rattle.runs.specs.Run.{run_allows, accepted, sent_by}
use Rattle.runs.specs.Clearing.{all_off, all_clear, short_clearing_of}
use Rattle.runs.specs.Rounds.{Offers, Round, records_of, after_reading, after_round, taken_in, number_read, Proceeds, Follows, Chain, taken, reached, after_rounds, Going, ChainGoing, taken_so_far, AllCleared, all_records}
use Rattle.runs.proofs.Along.{after_append, along_append, earlier_comes}
use Rattle.runs.proofs.StaysIdle.{run_stays_idle}
use Rattle.runs.proofs.Clearing.{clearing_sends_nothing, Silent, off_by, no_ack_until_empty}
use Rattle.runs.proofs.Sequence.{Works, ClearingWorks, clearing_works, short_clearing_works}
use Rattle.runs.proofs.WriteRun.{write_run}
use Rattle.runs.proofs.Cut.{cut_and_read, front, still_a_run}

-- what the port accepts of an offer in order is the front of the data
accepted_front : (rest : List ℕ) (s : State) (bytes : List ℕ) → take (length (event_bytes offered (decode bytes))) rest ≡ event_bytes offered (decode bytes) → accepted s bytes ≡ take (length (accepted s bytes)) rest
accepted_front rest s bytes h = go (is_refusal (step s bytes).code)
  where
    go : (t : Bool) → cond t [] (event_bytes offered (decode bytes)) ≡ take (length (cond t [] (event_bytes offered (decode bytes)))) rest
    go true = refl
    go false = sym h

pub accepted_prefix : (rest : List ℕ) (s : State) (records : List (List ℕ)) → Offers rest s records → along accepted s records ≡ take (length (along accepted s records)) rest
accepted_prefix rest s [] h = refl
accepted_prefix rest s (bytes ∷ more) h =
    rw (length-append, take-add)
    (ap (λ (x : List ℕ). x ++ along accepted (step s bytes).state more) (accepted_front rest s bytes h.0)
    ∙ ap (λ (x : List ℕ). take (length (accepted s bytes)) rest ++ x) (accepted_prefix (drop (length (accepted s bytes)) rest) (step s bytes).state more h.1))

-- what the target of a run took is the front of the driver's data
pub run_prefix : (rest : List ℕ) (s : State) (records : List (List ℕ)) → Going rest s records → along sent_by s records ≡ take (length (along sent_by s records)) rest
run_prefix rest s records g =
    let m = write_run s records g.start g.run in
    let short : length (along sent_by s records) ≤ length (along accepted s records) = omega (arith, simp length-append at (ap length m.order)) in
    front (along sent_by s records) _ (along accepted s records) m.order
    ∙ ap (λ (x : List ℕ). take (length (along sent_by s records)) x) (accepted_prefix rest s records g.offers)
    ∙ take-take (length (along sent_by s records)) (length (along accepted s records)) rest short

-- the run of a round is such a run, up to its cut
pub round_goes : (rest : List ℕ) (s : State) (r : Round) → Follows rest s r → Going rest s r.run
round_goes rest s r f = record { start = f.proceeds.start; run = f.proceeds.run; offers = f.offers }

-- one round
pub record RoundSound (rest : List ℕ) (s : State) (r : Round) : Type 0 where
  pub number : number_read s r ≡ length (taken_in s r)
  pub beginning : taken_in s r ≡ take (length (taken_in s r)) rest

below : (n : ℕ) → n ≤ 16777215 → n % 16777216 ≡ n
below n h = omega arith

pub round : (rest : List ℕ) (s : State) (r : Round) → Follows rest s r → RoundSound rest s r
round rest s r f =
    let c = cut_and_read s r f.proceeds in
    record {
      number = c.number ∙ below (length (taken_in s r)) f.bound;
      beginning = c.in_run ∙ run_prefix rest s r.run (round_goes rest s r f) ∙ ap (λ (x : List ℕ). take (length x) rest) (sym c.in_run);
    }

-- THE CHAIN, from the byte at which a round begins
pub chain_from : (whole : List ℕ) (first : ℕ) (s : State) (rounds : List Round) → Chain whole first s rounds → taken s rounds ≡ take (length (taken s rounds)) (drop first whole)
chain_from whole first s [] h = refl
chain_from whole first s (r ∷ more) h =
    let n = round (drop first whole) s r h.0 in
    let p : taken_in s r ≡ take (number_read s r) (drop first whole) = rw n.number n.beginning in
    let later = chain_from whole (first + number_read s r) (after_round s r) more h.1 in
    rw (length-append, take-add, drop-drop, ← n.number)
    (ap (λ (x : List ℕ). x ++ taken (after_round s r) more) p ∙ ap (λ (x : List ℕ). take (number_read s r) (drop first whole) ++ x) later)

-- over any number of rounds the target takes a beginning of the driver's data
pub chain : (whole : List ℕ) (s : State) (rounds : List Round) → Chain whole 0 s rounds → taken s rounds ≡ take (length (taken s rounds)) whole
chain whole s rounds h = chain_from whole 0 s rounds h

-- and the driver knows how many: where it has come to is the number taken
pub chain_reached : (whole : List ℕ) (first : ℕ) (s : State) (rounds : List Round) → Chain whole first s rounds → reached first s rounds ≡ first + length (taken s rounds)
chain_reached whole first s [] h = sym (add-zero first)
chain_reached whole first s (r ∷ more) h =
    let n = (round (drop first whole) s r h.0).number in
    chain_reached whole (first + number_read s r) (after_round s r) more h.1 ∙ rw (length-append, n) (omega arith)

-- THE CHAIN WITH ITS LAST RUN: what the target took in the rounds, then what it took so far, is a beginning of the driver's data
pub chain_going : (whole : List ℕ) (s : State) (rounds : List Round) (records : List (List ℕ)) → ChainGoing whole s rounds records → taken_so_far s rounds records ≡ take (length (taken_so_far s rounds records)) whole
chain_going whole s rounds records h =
    let n : reached 0 s rounds ≡ length (taken s rounds) = chain_reached whole 0 s rounds h.chain ∙ zero-add (length (taken s rounds)) in
    let q : taken s rounds ≡ take (reached 0 s rounds) whole = rw n (chain whole s rounds h.chain) in
    let l = run_prefix (drop (reached 0 s rounds) whole) (after_rounds s rounds) records h.last in
    rw (length-append, take-add, ← n)
    (ap (λ (x : List ℕ). x ++ along sent_by (after_rounds s rounds) records) q ∙ ap (λ (x : List ℕ). take (reached 0 s rounds) whole ++ x) l)

-- the records up to any moment of a run that is going are such a run: every moment is a case of the chain
offers_earlier : (rest : List ℕ) (s : State) (earlier later : List (List ℕ)) → Offers rest s (earlier ++ later) → Offers rest s earlier
offers_earlier rest s [] later h = tt
offers_earlier rest s (bytes ∷ more) later h =
    (h.0, offers_earlier (drop (length (accepted s bytes)) rest) (step s bytes).state more later h.1)

pub goes_earlier : (rest : List ℕ) (s : State) (earlier later : List (List ℕ)) → Going rest s (earlier ++ later) → Going rest s earlier
goes_earlier rest s earlier later g =
    record {
      start = g.start;
      run = earlier_comes run_allows s earlier later g.run;
      offers = offers_earlier rest s earlier later g.offers;
    }

-- where every clearing keeps the paper's condition, no byte is sent but those taken in runs
pub only_taken_is_sent : (s : State) (rounds : List Round) → AllCleared s rounds → along sent_by s (all_records rounds) ≡ taken s rounds
only_taken_is_sent s [] h = refl
only_taken_is_sent s (r ∷ more) h =
    along_append sent_by s (records_of r) (r.clearing ++ all_records more)
    ∙ ap (λ (x : List ℕ). taken_in s r ++ x)
    (ap (λ (x : State). along sent_by x (r.clearing ++ all_records more)) (after_append s r.run (r.cut ∷ r.reading))
    ∙ along_append sent_by (after_reading s r) r.clearing (all_records more)
    ∙ rw (clearing_sends_nothing (after_reading s r) r.clearing h.0) (only_taken_is_sent (after_round s r) more h.1))

-- from the cut to the next start no byte is sent
pub cut_to_start : (s : State) (r : Round) → Proceeds s r → all_clear (after_reading s r) r.clearing ≡ true → along sent_by (after s r.run) (r.cut ∷ r.reading ++ r.clearing) ≡ []
cut_to_start s r p h =
    along_append sent_by (after s r.run) (r.cut ∷ r.reading) r.clearing
    ∙ rw (cut_and_read s r p).afterwards (clearing_sends_nothing (after_reading s r) r.clearing h)

-- and until the FIFOs are empty the chip issues no ACK of any kind
pub cut_to_empty : (s : State) (r : Round) → Proceeds s r → (records : List (List ℕ)) → all_off (after_reading s r) records ≡ true → Silent (after_reading s r) (after (after_reading s r) records) (acks_along (after_reading s r) records)
cut_to_empty s r p records h =
    let c = cut_and_read s r p in
    no_ack_until_empty (after_reading s r) records (off_by (after_reading s r) c.off c.moment.held.spioen) c.moment.held.acko h

-- after a cut the concrete clearing is always there
pub clearing_after_cut : (s : State) (r : Round) → Proceeds s r → (eightbit : Bool) → ClearingWorks (after_reading s r) eightbit
clearing_after_cut s r p eightbit = clearing_works (after_reading s r) eightbit (cut_and_read s r p).moment.room

-- the run leaves the sequencer off, so that the clearing without a pulse on RST is there too
pub idle_after_cut : (s : State) (r : Round) → Proceeds s r → SequencerOff (after_reading s r)
idle_after_cut s r p =
    rw (after_append s r.run (r.cut ∷ r.reading)) at (run_stays_idle true s (records_of r) p.start (still_a_run s r p))

pub short_clearing_after_cut : (s : State) (r : Round) → Proceeds s r → (eightbit : Bool) → Works (after_reading s r) (short_clearing_of eightbit)
short_clearing_after_cut s r p eightbit =
    short_clearing_works (after_reading s r) eightbit (cut_and_read s r p).moment.room (idle_after_cut s r p)

-- AT THE BOUND: a round of 16,777,216 bytes reads 0, and the driver would begin again with the bytes that the target has taken
pub at_the_bound : (s : State) (r : Round) → Proceeds s r → length (taken_in s r) ≡ 16777216 → number_read s r ≡ 0
at_the_bound s r p h = (cut_and_read s r p).number ∙ ap (λ (n : ℕ). n % 16777216) h
