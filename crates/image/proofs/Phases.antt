-- "CD, IO, MSG equal 343h bits 7-5": the equalities of three bits as one of the field of three bits.
use mathlib.Core.Path.{◌≡◌, refl, sym, ◌∙◌}
use mathlib.Core.Bool.{Bool, true, false, not, ◌&&◌, beq, and-true, and-false}
use mathlib.Core.List.{List}
use Prim.Native.Nat.{ℕ, zero, suc, ◌+◌, ◌*◌, ◌/◌, ◌%◌, ◌^◌, ◌<◌}
use native.Mathlib.Nat.{div-div-eq-div-mul}
use native.Mathlib.Omega.{arith}
use lib.Dec.{eqb}
use lib.ListN.{get_or}
use borrow.Author.Tests.{eq-eqb, ne_eqb}
use Rattle.rules.specs.Numbers.{bit, field}
use Rattle.rules.specs.Seen.{connected, matched, mismatched}
use Rattle.rules.proofs.Logic.{never, left_true, right_true}
use Rattle.image.specs.Image.{state_at}
use Rattle.image.specs.Layout.{control_place, scsisig_place}

-- two digits with the same test are the same
digits : (x y : ℕ) → x < 2 → y < 2 → beq (eqb x 1) (eqb y 1) ≡ true → x ≡ y
digits zero zero h k e = refl
digits zero (suc zero) h k e = absurd (never e)
digits zero (suc (suc y)) h k e = omega arith
digits (suc zero) zero h k e = absurd (never e)
digits (suc zero) (suc zero) h k e = refl
digits (suc zero) (suc (suc y)) h k e = omega arith
digits (suc (suc x)) y h k e = omega arith

same_test : (b : Bool) → beq b b ≡ true
same_test true = refl
same_test false = refl

-- a test that is true at equal numbers alone is the test of their equality
test_is : (t : Bool) (x y : ℕ) → (t ≡ true → x ≡ y) → (x ≡ y → t ≡ true) → t ≡ eqb x y
test_is true x y f g = sym (eq-eqb x y (f refl))
test_is false x y f g = sym (ne_eqb x y (λ e. never (g e)))

-- the field by its three digits
octal : (n : ℕ) → n % 8 ≡ n / 4 % 2 * 4 + n / 2 % 2 * 2 + n % 2
octal n = omega (arith, div-div-eq-div-mul n 2 2, div-div-eq-div-mul n 4 2)

by_digits : (a : ℕ) → field a 5 3 ≡ a / 2 ^ 7 % 2 * 4 + a / 2 ^ 6 % 2 * 2 + a / 2 ^ 5 % 2
by_digits a = rw (← div-div-eq-div-mul a 32 4, ← div-div-eq-div-mul a 32 2) (octal (a / 32))

module _ (a b : ℕ) where
  abbrev seven : Bool
  seven = beq (bit a 7) (bit b 7)

  abbrev six : Bool
  six = beq (bit a 6) (bit b 6)

  abbrev five : Bool
  five = beq (bit a 5) (bit b 5)

  to : (seven && six && five) ≡ true → field a 5 3 ≡ field b 5 3
  to e =
      let f = left_true (seven && six) five e in
      let p = digits (a / 2 ^ 7 % 2) (b / 2 ^ 7 % 2) (omega arith) (omega arith) (left_true seven six f) in
      let q = digits (a / 2 ^ 6 % 2) (b / 2 ^ 6 % 2) (omega arith) (omega arith) (right_true seven six f) in
      let r = digits (a / 2 ^ 5 % 2) (b / 2 ^ 5 % 2) (omega arith) (omega arith) (right_true (seven && six) five e) in
      by_digits a ∙ rw (p, q, r) (sym (by_digits b))

  from : field a 5 3 ≡ field b 5 3 → (seven && six && five) ≡ true
  from e =
      let p : a / 2 ^ 7 % 2 ≡ b / 2 ^ 7 % 2 = omega arith in
      let q : a / 2 ^ 6 % 2 ≡ b / 2 ^ 6 % 2 = omega arith in
      let r : a / 2 ^ 5 % 2 ≡ b / 2 ^ 5 % 2 = omega arith in
      rw (p, q, r, same_test (bit b 7), same_test (bit b 6), same_test (bit b 5))

  pub same_phase : (seven && six && five) ≡ eqb (field a 5 3) (field b 5 3)
  same_phase = test_is (seven && six && five) (field a 5 3) (field b 5 3) to from

-- connected is asked after the phase
last_first : (k x y z : Bool) → (k && x && y && z) ≡ ((x && y && z) && k)
last_first true x y z = sym (and-true (x && y && z))
last_first false x y z = sym (and-false (x && y && z))

not_both : (k e : Bool) → (k && not (e && k)) ≡ (not e && k)
not_both true true = refl
not_both true false = refl
not_both false true = refl
not_both false false = refl

module _ (m : List ℕ) where
  abbrev pub phase : Bool
  phase = eqb (field (get_or m control_place 0) 5 3) (field (get_or m scsisig_place 0) 5 3)

  pub matched_by : matched (state_at m) ≡ (phase && connected (state_at m))
  unfolding matched state_at
  matched_by = rw (last_first (connected (state_at m)), same_phase (get_or m control_place 0) (get_or m scsisig_place 0))

  pub mismatched_by : mismatched (state_at m) ≡ (not phase && connected (state_at m))
  unfolding mismatched
  mismatched_by = rw (matched_by, not_both)
