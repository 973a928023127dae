-- Where a text is cut.
use Rattle.std.proofs.Common.{◌≡◌, ℕ, suc, ◌+◌, ◌-◌, ◌<◌, ◌≤◌, Bool, true, false, cond, eqb, ltb, List, [], ◌∷◌, length, take, drop, Option, Some, None, sym, refl, ap, ◌∙◌, arith, take_all, length-drop, length-take-le}
use borrow.Author.Tests.{ltb-true, ltb-false}
use Rattle.std.specs.List.{position, position_or_len}
use Rattle.std.proofs.lemmas.List.Recursion.{is_position_or_len}
use Rattle.stored.specs.Words.{place_of, past}

found_at : (n k i : ℕ) (t : Bool) → ltb n k ≡ t → ◌≡◌ {A = Option ℕ} (cond t (Some n) None) (Some i) → (i ≡ n) × (i < k)
found_at n k i true e h =
    let p : i ≡ n = cc in
    (p, omega (arith, ltb-true n k e))
found_at n k i false e h = cc

found_none : (n k : ℕ) (t : Bool) → ltb n k ≡ t → ◌≡◌ {A = Option ℕ} (cond t (Some n) None) None → k ≤ n
found_none n k true e h = cc
found_none n k false e h = omega (arith, ltb-false n k e)

-- a place is at most the length, so that so many bytes can be cut off
place_step : (t : Bool) (n m : ℕ) → n ≤ m → cond t 0 (suc n) ≤ suc m
place_step true n m h = omega arith
place_step false n m h = omega arith

place_le : (b : ℕ) (l : List ℕ) → place_of b l ≤ length l
place_le b [] = omega arith
place_le b (x ∷ l) = place_step (eqb x b) (place_of b l) (length l) (place_le b l)

pub cut_length : (b : ℕ) (l : List ℕ) (n : ℕ) → n ≡ place_of b l → n ≡ length (take n l)
cut_length b l n e = sym (length-take-le n l (omega (arith, place_le b l)))

module _ (b : ℕ) (l : List ℕ) where
  step : (x : ℕ) (xs : List ℕ) → place_of b (x ∷ xs) ≡ cond (eqb x b) 0 (1 + place_of b xs)
  step x xs =
      let e : suc (place_of b xs) ≡ 1 + place_of b xs = omega arith in
      ap (λ (k : ℕ). cond (eqb x b) 0 k) e

  place_is : place_of b l ≡ position_or_len (λ x. eqb x b) l
  place_is = is_position_or_len (place_of b) (λ x. eqb x b) refl step l

  pub place_found : (i : ℕ) → position (λ x. eqb x b) l ≡ Some i → (i ≡ place_of b l) × (i < length l)
  place_found i h =
      let f = found_at (position_or_len (λ x. eqb x b) l) (length l) i (ltb (position_or_len (λ x. eqb x b) l) (length l)) refl h in
      (f.0 ∙ sym place_is, f.1)

  pub place_not_found : position (λ x. eqb x b) l ≡ None → length l ≤ place_of b l
  place_not_found h = rw place_is (found_none (position_or_len (λ x. eqb x b) l) (length l) (ltb (position_or_len (λ x. eqb x b) l) (length l)) refl h)

  pub cut_before : (i : ℕ) → position (λ x. eqb x b) l ≡ Some i → take i l ≡ take (place_of b l) l
  cut_before i h = ap (λ (k : ℕ). take k l) (place_found i h).0

  pub cut_behind : (i : ℕ) → position (λ x. eqb x b) l ≡ Some i → take (length l - (i + 1)) (drop (i + 1) l) ≡ drop (past (place_of b l) l) l
  cut_behind i h =
      let f = place_found i h in
      let e : i + 1 ≡ past (place_of b l) l = omega (arith, f.0, f.1) in
      take_all (length l - (i + 1)) (drop (i + 1) l) (omega (arith, length-drop (i + 1) l)) ∙ ap (λ (k : ℕ). drop k l) e

  pub uncut_before : position (λ x. eqb x b) l ≡ None → l ≡ take (place_of b l) l
  uncut_before h = sym (take_all (place_of b l) l (place_not_found h))

  pub uncut_behind : position (λ x. eqb x b) l ≡ None → take (length l - length l) (drop (length l) l) ≡ drop (past (place_of b l) l) l
  uncut_behind h =
      let e : length l ≡ past (place_of b l) l = omega (arith, place_not_found h) in
      take_all (length l - length l) (drop (length l) l) (omega (arith, length-drop (length l) l)) ∙ ap (λ (k : ℕ). drop k l) e
