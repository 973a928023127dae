-- Bytes that are joined, and looked at once: 0 exactly where each of them is.
use Prim.Native.Nat.{ℕ}
use mathlib.Core.Path.{◌≡◌, refl, sym, ap, ◌∙◌}
use mathlib.Core.Bool.{Bool, true, false, ◌&&◌}
use mathlib.Core.List.{List, [], ◌∷◌}
use native.Mathlib.Omega.{arith}
use borrow.Author.Tests.{eqb-true, eq-eqb}
use lib.Dec.{eqb}
use lib.Bits.{bit_or, or_add_and, and_le_l, and_le_r, or_zero_l}
use Rattle.std.specs.Prelude.{fold}
use Rattle.rules.proofs.Logic.{left_true, right_true}
use Rattle.saved.specs.Tests.{all_zero}
use Rattle.saved.proofs.Truth.{both_true, same_truth}

-- two joined are 0 exactly where both are
module _ (a b : ℕ) where
  to : eqb (bit_or a b) 0 ≡ true → (eqb a 0 && eqb b 0) ≡ true
  to e =
      let z : bit_or a b ≡ 0 = eqb-true (bit_or a b) 0 e in
      both_true (eq-eqb a 0 (omega (arith, z, or_add_and a b, and_le_l a b, and_le_r a b)))
      (eq-eqb b 0 (omega (arith, z, or_add_and a b, and_le_l a b, and_le_r a b)))

  from : (eqb a 0 && eqb b 0) ≡ true → eqb (bit_or a b) 0 ≡ true
  from e =
      let x : a ≡ 0 = eqb-true a 0 (left_true (eqb a 0) (eqb b 0) e) in
      let y : b ≡ 0 = eqb-true b 0 (right_true (eqb a 0) (eqb b 0) e) in
      eq-eqb (bit_or a b) 0 (rw (x, y) (or_zero_l 0))

  two_zero : eqb (bit_or a b) 0 ≡ (eqb a 0 && eqb b 0)
  two_zero = same_truth _ _ to from

and_assoc : (a b c : Bool) → ((a && b) && c) ≡ (a && (b && c))
and_assoc true b c = refl
and_assoc false b c = refl

all_joined : (a : ℕ) (l : List ℕ) → eqb (fold bit_or a l) 0 ≡ (eqb a 0 && all_zero l)
unfolding all_zero
all_joined a [] = sym (go (eqb a 0))
  where
    go : (b : Bool) → (b && true) ≡ b
    go true = refl
    go false = refl
all_joined a (b ∷ l) =
    all_joined (bit_or a b) l ∙ ap (λ (t : Bool). t && all_zero l) (two_zero a b) ∙ and_assoc (eqb a 0) (eqb b 0) (all_zero l)

pub joined_zero : (l : List ℕ) → eqb (fold bit_or 0 l) 0 ≡ all_zero l
joined_zero l = all_joined 0 l
