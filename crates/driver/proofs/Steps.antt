-- Calls of the public functions are traces of the definition: the chips stand for its states, and the buffers hold its answers.
use mathlib.Core.Path.{◌≡◌, refl, ap, sym, ◌∙◌}
use mathlib.Core.Bool.{Bool, true, false, cond}
use mathlib.Core.List.{List, [], ◌∷◌, ◌++◌, append_assoc}
use Prim.Native.Nat.{ℕ, zero, suc}
use lib.Dec.{eqb}
use lib.ListN.{length, take, drop}
use lib.Seq.{take_at, drop_at}
use borrow.Author.Tests.{eq-eqb}
use Rattle.rules.specs.State.{State}
use Rattle.rules.specs.Chips.{view, chip_of}
use Rattle.rules.specs.Answers.{answer_size}
use Rattle.rules.specs.Step.{Called, called, ended, step, answer, after, answers}
use Rattle.rules.specs.declared.chip.Chip.{Chip}
use Rattle.rules.specs.declared.codes.Code.TheVariants.{Malformed}
use Rattle.rules.proofs.Logic.{never}
use Rattle.rules.proofs.Reports.{answer_fits}
use Rattle.step.specs.declared.Returned.{Returned}
use Rattle.step.specs.Outcomes.{returned_of, IsStep}
use Rattle.step.specs.Runs.{records_of, joined}
use Rattle.step.proofs.Parts.{view_of}
use Rattle.driver.specs.Exchanges.{Exchange, is_answered, handed, handed_over}
use Rattle.driver.specs.Calls.{Ranged, Trace, Call, Calls, last_chip, exchange_of, exchanges_of, exchanges_in}
use Rattle.driver.proofs.Shown.{empty_refused}
use Rattle.driver.proofs.Traces.{ranged_step}

pub answer_size_lem : (s : State) (bytes : List ℕ) → Ranged s → eqb (length (answer s bytes)) answer_size ≡ true
answer_size_lem s bytes i = eq-eqb (length (answer s bytes)) 16 (answer_fits s bytes i.range i.bytes).size

-- what one call is to a driver: an answer of the state that the chip stands for, and a chip that stands for the next
pub record Steps (s : State) (x : Exchange) (c : Chip) : Type 0 where
  pub answered : is_answered x ≡ true → x.buffer ≡ answer s x.bytes
  pub state : view c ≡ (step s (handed x)).state

module _ (c : Chip) (k : Call) (i : Ranged (view c)) (made : IsStep c k.bytes k.before k.buffer k.returned) where
  with_sixteen : eqb (length k.before) answer_size ≡ true → Steps (view c) (exchange_of k) k.returned.chip
  unfolding called returned_of
  with_sixteen e =
      let b : k.buffer ≡ answer (view c) k.bytes = made.answer ∙ rw e in
      let r : k.returned.chip ≡ chip_of (step (view c) k.bytes).state = ap (λ (r : Returned). r.chip) made.returns ∙ rw e in
      let sized : is_answered (exchange_of k) ≡ true = rw b (answer_size_lem (view c) k.bytes i) in
      record {
        answered = λ q. b;
        state = view_of (step (view c) k.bytes).state k.returned.chip (ranged_step (view c) k.bytes i).range r ∙ rw sized;
      }

  with_another : eqb (length k.before) answer_size ≡ false → Steps (view c) (exchange_of k) k.returned.chip
  unfolding called returned_of ended
  with_another e =
      let b : k.buffer ≡ k.before = made.answer ∙ rw e in
      let r : k.returned.chip ≡ chip_of (view c) = ap (λ (r : Returned). r.chip) made.returns ∙ rw e in
      let unsized : is_answered (exchange_of k) ≡ false = rw b e in
      record {
        answered = λ q. absurd (never (sym unsized ∙ q));
        state = view_of (view c) k.returned.chip i.range r ∙ rw (unsized, empty_refused (view c));
      }

  pub call_steps : Steps (view c) (exchange_of k) k.returned.chip
  call_steps = go (eqb (length k.before) answer_size) refl
    where
      go : (t : Bool) → eqb (length k.before) answer_size ≡ t → Steps (view c) (exchange_of k) k.returned.chip
      go true e = with_sixteen e
      go false e = with_another e

  pub chip_ranged : Ranged (view k.returned.chip)
  chip_ranged = rw call_steps.state (ranged_step (view c) (handed (exchange_of k)) i)

-- THE CALLS ARE STEPS: the buffers hold the answers of the states, one after the other
pub calls_trace : (c : Chip) (ks : List Call) → Ranged (view c) → Calls c ks → Trace (view c) (exchanges_of ks)
calls_trace c [] i h = tt
calls_trace c (k ∷ more) i h =
    let one = call_steps c k i h.0 in
    let later = calls_trace k.returned.chip more (chip_ranged c k i h.0) h.1 in
    (one.answered, rw one.state at later)

-- and the last chip stands for the state after the records
pub chips_are_states : (c : Chip) (ks : List Call) → Ranged (view c) → Calls c ks → view (last_chip c ks) ≡ after (view c) (handed_over (exchanges_of ks))
chips_are_states c [] i h = refl
chips_are_states c (k ∷ more) i h =
    chips_are_states k.returned.chip more (chip_ranged c k i h.0) h.1
    ∙ ap (λ (s : State). after s (handed_over (exchanges_of more))) (call_steps c k i h.0).state

-- and every trace is what some calls leave: each is lent a buffer of the size that it shows
abbrev call_for : Chip → Exchange → Call
call_for c x =
    record { bytes = x.bytes; before = x.buffer; buffer = x.buffer; returned = returned_of (called (view c) x.bytes x.buffer) }

call_made : (c : Chip) (x : Exchange) → (is_answered x ≡ true → x.buffer ≡ answer (view c) x.bytes) → IsStep c x.bytes x.buffer x.buffer (call_for c x).returned
unfolding called
call_made c x h = record { returns = refl; answer = go (is_answered x) refl }
  where
    go : (t : Bool) → is_answered x ≡ t → x.buffer ≡ (cond {A = Called} t (record { state = (step (view c) x.bytes).state; code = (step (view c) x.bytes).code; buffer = answer (view c) x.bytes }) (record { state = view c; code = Malformed; buffer = x.buffer })).buffer
    go true e = h e
    go false e = refl

pub trace_calls : (c : Chip) (xs : List Exchange) → Ranged (view c) → Trace (view c) xs → (ks : List Call) × (Calls c ks × (exchanges_of ks ≡ xs))
trace_calls c [] i t = ([], (tt, refl))
trace_calls c (x ∷ more) i t =
    let k = call_for c x in
    let made = call_made c x t.0 in
    let one = call_steps c k i made in
    let rest : Trace (view k.returned.chip) more = rw one.state t.1 in
    let later = trace_calls k.returned.chip more (chip_ranged c k i made) rest in
    (k ∷ later.0, ((made, later.1.0), ap (λ (l : List Exchange). x ∷ l) later.1.1))

-- A RUN OF RECORDS IS A TRACE: sixteen bytes of the answers belong to four of the records
pub run_trace : (s : State) (n : ℕ) (records rest : List ℕ) → Ranged s → Trace s (exchanges_in n records (joined (answers s (records_of n records)) ++ rest))
run_trace s zero records rest i = tt
run_trace s (suc n) records rest i =
    let bytes = take 4 records in
    let later = joined (answers (step s bytes).state (records_of n (drop 4 records))) in
    let size = (answer_fits s bytes i.range i.bytes).size in
    let sized : eqb (length (answer s bytes)) answer_size ≡ true = answer_size_lem s bytes i in
    rw (append_assoc (answer s bytes) later rest, take_at (answer s bytes) (later ++ rest) 16 size, drop_at (answer s bytes) (later ++ rest) 16 size, sized)
    (λ q. refl, run_trace (step s bytes).state n (drop 4 records) rest (ranged_step s bytes i))
