-- An event that is done, and one that is refused.
use Rattle.std.specs.Prelude.{Result, Ok, Err}
use Rattle.std.specs.Result.{IsErrAnd}
use Rattle.std.proofs.lemmas.Result.{err_from_is_err_and}
use Prim.Native.Nat.{ℕ}
use mathlib.Core.Path.{◌≡◌, refl, ◌∙◌}
use mathlib.Core.Bool.{Bool, true, false, cond}
use mathlib.Core.List.{List}
use Rattle.rules.specs.State.{State}
use Rattle.rules.specs.Events.{ticks_of}
use Rattle.rules.specs.Codes.{access_code, is_done, refused_value}
use Rattle.rules.specs.Reads.{value_read}
use Rattle.rules.specs.StepA.{after_a}
use Rattle.rules.specs.declared.codes.Code.{Code}
use Rattle.rules.specs.declared.codes.Code.TheVariants.{Done}
use Rattle.rules.specs.declared.records.Event.{Event}
use Rattle.image.specs.Image.{image_of}
use Rattle.effects.specs.declared.Effect.{Effect}
use Rattle.effects.specs.declared.Ended.{Ended}
use Rattle.effects.specs.Acting.{Acts, ended_with, refused_as, done_with, checked_as}

pub acts_done : (s : State) (e : Event) {m : List ℕ} {v t : ℕ} {a : Result Effect Ended} → access_code s e ≡ Done → m ≡ image_of (after_a s e) → v ≡ value_read s e → t ≡ ticks_of e → a ≡ done_with v t → Acts s e m a
acts_done s e d i v t a = record { image = rw d i; acted = rw d (a ∙ (λ k. done_with (v k) (t k))) }

pub acts_refused : (s : State) (e : Event) (k : Code) {m : List ℕ} {a : Result Effect Ended} → access_code s e ≡ k → is_done k ≡ false → m ≡ image_of s → a ≡ refused_as k (refused_value e) → Acts s e m a
acts_refused s e k d f i a = record { image = rw (d, f) i; acted = rw (d, f) a }

-- one of two, by a test: which it is tells the test
one_ok : {A : Type 0} (b : Bool) {x y : A} (z : Ended) → Ok y ≡ cond b (Ok x) (Err z) → (b ≡ true) × (y ≡ x)
one_ok true z e = (refl, cc)
one_ok false z e = absurd cc

one_err : {A : Type 0} (b : Bool) (x : A) {y z : Ended} → Err y ≡ cond b (Ok x) (Err z) → (b ≡ false) × (y ≡ z)
one_err true x e = absurd cc
one_err false x e = (refl, cc)

-- an event that goes on to B is done
pub went_on : (s : State) (e : Event) {m : List ℕ} {f : Effect} → Acts s e m (Ok f) → (is_done (access_code s e) ≡ true) × (f ≡ record { value = value_read s e; ticks = ticks_of e })
went_on s e a = one_ok (is_done (access_code s e)) _ a.acted

-- and one whose answer is ready is refused
pub was_refused : (s : State) (e : Event) {m : List ℕ} {x : Ended} → Acts s e m (Err x) → (is_done (access_code s e) ≡ false) × (x ≡ ended_with (access_code s e) (refused_value e))
was_refused s e a = one_err (is_done (access_code s e)) _ a.acted

-- a check that finds something, which `?` hands up, and one that does not
pub is_found : {A : Type 0} {r : Result (Unit {0}) Ended} {x : Ended} {up : Result A Ended} (found : Bool) (code : Code) (e : Event) → r ≡ checked_as found code e → r ≡ Err x → IsErrAnd up (λ (y : Ended). y ≡ x) → (found ≡ true) × (up ≡ Err (ended_with code (refused_value e)))
is_found {up = up} true code e p q h =
    let o = err_from_is_err_and up h in
    (refl, cc (o.1, o.2))
is_found false code e p q h = absurd cc

pub is_passed : {r : Result (Unit {0}) Ended} {x : Unit {0}} (found : Bool) (code : Code) (e : Event) → r ≡ checked_as found code e → r ≡ Ok x → found ≡ false
is_passed true code e p q = absurd cc
is_passed false code e p q = refl
