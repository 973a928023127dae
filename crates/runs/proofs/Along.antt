-- Lists of records: what holds along them, and how they join.
use mathlib.Core.Path.{◌≡◌, refl, sym, ◌∙◌, ap}
use mathlib.Core.Bool.{Bool, true, ◌&&◌, and_assoc, or-true}
use mathlib.Core.List.{List, [], ◌∷◌, ◌++◌, append_assoc, append-nil}
use Prim.Native.Nat.{ℕ}
use Rattle.rules.specs.State.{State}
use Rattle.rules.specs.Records.{decode}
use Rattle.rules.specs.Step.{step, after}
use Rattle.rules.specs.declared.records.Event.{Event}
use Rattle.rules.proofs.Logic.{left_true, right_true}
use Rattle.runs.specs.Comes.{is_refusal, says, may_come, all_come, along}

-- an invariant over two growing lists holds along records that may come
module _ (allows : Event → Bool) (I : State → List ℕ → List ℕ → Type 0) (f g : State → List ℕ → List ℕ) (keeps : (s : State) (a b : List ℕ) → I s a b → (bytes : List ℕ) → may_come allows s bytes ≡ true → I (step s bytes).state (a ++ f s bytes) (b ++ g s bytes)) where
  pub along_law : (s : State) (records : List (List ℕ)) (a b : List ℕ) → I s a b → all_come allows s records ≡ true → I (after s records) (a ++ along f s records) (b ++ along g s records)
  along_law s [] a b i h = rw (append-nil a, append-nil b) i
  along_law s (bytes ∷ more) a b i h =
      rw (← append_assoc a (f s bytes) (along f (step s bytes).state more), ← append_assoc b (g s bytes) (along g (step s bytes).state more))
      (along_law (step s bytes).state more (a ++ f s bytes) (b ++ g s bytes)
      (keeps s a b i bytes (left_true (may_come allows s bytes) (all_come allows (step s bytes).state more) h))
      (right_true (may_come allows s bytes) (all_come allows (step s bytes).state more) h))

pub after_append : (s : State) (a b : List (List ℕ)) → after s (a ++ b) ≡ after (after s a) b
after_append s [] b = refl
after_append s (bytes ∷ more) b = after_append (step s bytes).state more b

pub along_append : (f : State → List ℕ → List ℕ) (s : State) (a b : List (List ℕ)) → along f s (a ++ b) ≡ along f s a ++ along f (after s a) b
along_append f s [] b = refl
along_append f s (bytes ∷ more) b =
    ap (λ (x : List ℕ). f s bytes ++ x) (along_append f (step s bytes).state more b)
    ∙ sym (append_assoc (f s bytes) (along f (step s bytes).state more) (along f (after (step s bytes).state more) b))

pub come_append : (allows : Event → Bool) (s : State) (a b : List (List ℕ)) → all_come allows s (a ++ b) ≡ (all_come allows s a && all_come allows (after s a) b)
come_append allows s [] b = refl
come_append allows s (bytes ∷ more) b =
    ap (λ (x : Bool). may_come allows s bytes && x) (come_append allows (step s bytes).state more b)
    ∙ sym (and_assoc (may_come allows s bytes) (all_come allows (step s bytes).state more) (all_come allows (after (step s bytes).state more) b))

-- the records up to any moment are such a list too
pub earlier_comes : (allows : Event → Bool) (s : State) (earlier later : List (List ℕ)) → all_come allows s (earlier ++ later) ≡ true → all_come allows s earlier ≡ true
earlier_comes allows s earlier later h =
    left_true (all_come allows s earlier) (all_come allows (after s earlier) later) (rw (come_append allows s earlier later) at h)

-- a record whose event is allowed may come in any state
pub said_comes : (allows : Event → Bool) (s : State) (bytes : List ℕ) → says allows (decode bytes) ≡ true → may_come allows s bytes ≡ true
unfolding may_come
said_comes allows s bytes h = rw h (or-true (is_refusal (step s bytes).code))
