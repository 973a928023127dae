-- Tests that are both true, and tests that are true together.
use mathlib.Core.Path.{◌≡◌, refl, sym, ap, ◌∙◌}
use mathlib.Core.Bool.{Bool, true, false, ◌&&◌}
use mathlib.Core.List.{List, [], ◌∷◌}
use Prim.Native.Nat.{ℕ, zero, suc}
use lib.Dec.{eqb}
use lib.ListN.{get_or}
use borrow.Author.Tests.{eqb-true, eq-eqb}
use Rattle.rules.proofs.Logic.{never, left_true, right_true}
use Rattle.saved.specs.Accepted.{same_bytes}
use Rattle.saved.specs.Tests.{all}

pub both_true : {a b : Bool} → a ≡ true → b ≡ true → (a && b) ≡ true
both_true e f = rw (e, f)

-- two tests, each true where the other is
pub same_truth : (a b : Bool) → (a ≡ true → b ≡ true) → (b ≡ true → a ≡ true) → a ≡ b
same_truth true b f g = sym (f refl)
same_truth false true f g = g refl
same_truth false false f g = refl

pub same_true : (m n : List ℕ) → same_bytes m n ≡ true → m ≡ n
unfolding same_bytes
same_true [] [] e = refl
same_true [] (y ∷ n) e = absurd (never e)
same_true (x ∷ m) [] e = absurd (never e)
same_true (x ∷ m) (y ∷ n) e =
    let p = eqb-true x y (left_true (eqb x y) (same_bytes m n) e) in
    let q = same_true m n (right_true (eqb x y) (same_bytes m n) e) in
    λ i. p i ∷ q i

pub true_same : (m : List ℕ) → same_bytes m m ≡ true
unfolding same_bytes
true_same [] = refl
true_same (x ∷ m) = both_true (eq-eqb x x refl) (true_same m)

pub equal_same : (m n : List ℕ) → m ≡ n → same_bytes m n ≡ true
equal_same m n e = ap (same_bytes m) (sym e) ∙ true_same m

-- one of some tests
pub all_at : (l : List Bool) → all l ≡ true → (k : ℕ) → get_or l k true ≡ true
all_at [] e k = refl
all_at (b ∷ []) e zero = e
all_at (b ∷ []) e (suc k) = refl
all_at (b ∷ c ∷ l) e zero = left_true b (all (c ∷ l)) e
all_at (b ∷ c ∷ l) e (suc k) = all_at (c ∷ l) (right_true b (all (c ∷ l)) e) k
