-- A trace, exchange by exchange: what the buffers show is what the definition gives along the records.
use mathlib.Core.Path.{◌≡◌, refl, ap, ap₂, sym, ◌∙◌}
use mathlib.Core.Bool.{Bool, true, ◌&&◌}
use mathlib.Core.List.{List, [], ◌∷◌, ◌++◌, append_assoc}
use Prim.Native.Nat.{ℕ}
use lib.ListN.{length, drop}
use Rattle.rules.specs.State.{State}
use Rattle.rules.specs.Step.{step, after}
use Rattle.rules.specs.declared.map.Register.{Register}
use Rattle.rules.specs.declared.records.Event.{Event}
use Rattle.rules.proofs.Logic.{left_true, right_true}
use Rattle.rules.proofs.Ranges.{step_in_range, step_bytes}
use Rattle.runs.specs.Comes.{all_come, along, may_come as recordMayCome}
use Rattle.runs.specs.Run.{run_allows, accepted, sent_by, host_read}
use Rattle.runs.specs.Cut.{read_answer}
use Rattle.runs.specs.Rounds.{Offers as RecordsOffer}
use Rattle.runs.proofs.Acks.{step_pairs}
use Rattle.runs.proofs.Stages.{Held}
use Rattle.driver.specs.Exchanges.{Exchange, handed, handed_over, taken_of, accepted_of, read_of, may_come, all_over, over, register_read}
use Rattle.driver.specs.Driving.{Offers}
use Rattle.driver.specs.Calls.{Ranged, Trace}
use Rattle.driver.proofs.Shown.{accepted_shown, come_shown, register_shown, read_shown, taken_shown}

-- lists of exchanges join
pub handed_append : (a b : List Exchange) → handed_over (a ++ b) ≡ handed_over a ++ handed_over b
handed_append [] b = refl
handed_append (x ∷ a) b = ap (λ (l : List (List ℕ)). handed x ∷ l) (handed_append a b)

pub over_append : (f : Exchange → List ℕ) (a b : List Exchange) → over f (a ++ b) ≡ over f a ++ over f b
over_append f [] b = refl
over_append f (x ∷ a) b =
    ap (λ (l : List ℕ). f x ++ l) (over_append f a b) ∙ sym (append_assoc (f x) (over f a) (over f b))

pub trace_append : (s : State) (a b : List Exchange) → Trace s (a ++ b) → Trace s a × Trace (after s (handed_over a)) b
trace_append s [] b t = (tt, t)
trace_append s (x ∷ a) b t =
    let later = trace_append (step s (handed x)).state a b t.1 in
    ((t.0, later.0), later.1)

-- a state in range stays in range
pub ranged_step : (s : State) (bytes : List ℕ) → Ranged s → Ranged (step s bytes).state
ranged_step s bytes i =
    record { range = step_in_range s bytes i.range; bytes = (step_bytes s bytes i.range i.bytes).state }

pub ranged_after : (s : State) (records : List (List ℕ)) → Ranged s → Ranged (after s records)
ranged_after s [] i = i
ranged_after s (bytes ∷ more) i = ranged_after (step s bytes).state more (ranged_step s bytes i)

-- what one exchange shows, the exchanges show one after the other
module _ (f : Exchange → List ℕ) (g : State → List ℕ → List ℕ) (shows : (s : State) (x : Exchange) → Ranged s → Trace s (x ∷ []) → f x ≡ g s (handed x)) where
  pub over_trace : (s : State) (xs : List Exchange) → Ranged s → Trace s xs → over f xs ≡ along g s (handed_over xs)
  over_trace s [] i t = refl
  over_trace s (x ∷ more) i t =
      ap₂ (λ (a b : List ℕ). a ++ b) (shows s x i (t.0, tt))
      (over_trace (step s (handed x)).state more (ranged_step s (handed x) i) t.1)

module _ (s : State) (xs : List Exchange) (i : Ranged s) (t : Trace s xs) where
  pub accepted_along : over accepted_of xs ≡ along accepted s (handed_over xs)
  accepted_along = over_trace accepted_of accepted (λ s x i t. accepted_shown s x i t.0) s xs i t

  pub registers_along : (r : Register) → over (register_read r) xs ≡ along (read_answer r) s (handed_over xs)
  registers_along r = over_trace (register_read r) (read_answer r) (λ s x i t. register_shown s x i t.0 r) s xs i t

  pub reads_along : over read_of xs ≡ along host_read s (handed_over xs)
  reads_along = over_trace read_of host_read (λ s x i t. read_shown s x i t.0) s xs i t

pub comes_along : (allows : Event → Bool) (s : State) (xs : List Exchange) → Ranged s → Trace s xs → all_over (may_come allows) xs ≡ all_come allows s (handed_over xs)
comes_along allows s [] i t = refl
comes_along allows s (x ∷ more) i t =
    ap₂ (λ (a b : Bool). a && b) (come_shown s x i t.0 allows)
    (comes_along allows (step s (handed x)).state more (ranged_step s (handed x) i) t.1)

pub offers_along : (rest : List ℕ) (s : State) (xs : List Exchange) → Ranged s → Trace s xs → Offers rest xs → RecordsOffer rest s (handed_over xs)
offers_along rest s [] i t h = tt
offers_along rest s (x ∷ more) i t h =
    let same = accepted_shown s x i t.0 in (
      h.0,
      offers_along (drop (length (accepted s (handed x))) rest) (step s (handed x)).state more (ranged_step s (handed x) i) t.1 (rw same at h.1),
    )

-- in a write run each ACK sends one byte, so that the bytes taken are those sent
pub taken_along : (s : State) (xs : List Exchange) → Ranged s → Trace s xs → Held true s.registers → all_come run_allows s (handed_over xs) ≡ true → over taken_of xs ≡ along sent_by s (handed_over xs)
taken_along s [] i t h q = refl
taken_along s (x ∷ more) i t h q =
    let later = all_come run_allows (step s (handed x)).state (handed_over more) in
    let p = step_pairs s h (handed x) (left_true (recordMayCome run_allows s (handed x)) later q) in
    ap₂ (λ (a b : List ℕ). a ++ b) (taken_shown s x i t.0 p.pair)
    (taken_along (step s (handed x)).state more (ranged_step s (handed x) i) t.1 p.held
    (right_true (recordMayCome run_allows s (handed x)) later q))
