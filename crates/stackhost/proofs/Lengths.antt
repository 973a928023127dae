-- Lists of a known length: the one of one.
use Prim.Native.Nat.{ℕ}
use mathlib.Core.Path.{◌≡◌, refl}
use mathlib.Core.List.{List, [], ◌∷◌}
use native.Mathlib.Omega.{arith}
use lib.ListN.{length, set}

pub one_set : (l : List ℕ) (b : ℕ) → length l ≡ 1 → set l 0 b ≡ b ∷ []
one_set [] b e = absurd (omega arith)
one_set (x ∷ []) b e = refl
one_set (x ∷ y ∷ l) b e = absurd (omega arith)
