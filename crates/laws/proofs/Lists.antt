-- Bytes in places: laws of padded lists and of their parts, over the number of places.
use Prim.Native.Nat.{ℕ, zero, suc, ◌+◌, ◌-◌, ◌<◌, ◌≤◌, min}
use mathlib.Core.Path.{◌≡◌, refl, ap, sym, ◌∙◌}
use mathlib.Core.List.{List, [], ◌∷◌, ◌++◌, append_assoc}
use native.Mathlib.Omega.{arith}
use native.Mathlib.Decide.{dec_le}
use lib.ListN.{length, take, drop, set, get_or, replicate, length-append, length-take, length-drop, length-replicate, replicate-append-replicate, drop_of_length-le}
use lib.Seq.{set-append_seam, take-append_seam, take-suc, length-take-le, take_all, take-add, drop_at, drop-append-le}
use Rattle.rules.specs.Numbers.{padded}

-- the places that are left are one and those after it
room : (n : ℕ) (l : List ℕ) → length l < n → (b : ℕ) → n - length l ≡ suc (n - length (l ++ (b ∷ [])))
room n l h b = simp length-append (omega arith)

-- a store at the first free place is one byte more
pub padded_push : (n : ℕ) (l : List ℕ) (b : ℕ) → length l < n → set (padded n l) (length l) b ≡ padded n (l ++ (b ∷ []))
unfolding padded
padded_push n l b h = rw (room n l h b, set-append_seam, append_assoc)

pub padded_length : (n : ℕ) (l : List ℕ) → length l ≤ n → length (padded n l) ≡ n
unfolding padded
padded_length n l h = simp (length-append, length-replicate) (omega arith)

-- what stands before the zeros
pub padded_take : (n : ℕ) (l : List ℕ) → take (length l) (padded n l) ≡ l
unfolding padded
padded_take n l = take-append_seam l _

-- what is dropped off a part is not in it
pub drop_take : (k m : ℕ) (l : List ℕ) → k ≤ m → m ≤ length l → drop k (take m l) ≡ take (m - k) (drop k l)
drop_take k m l h g =
    let e : m ≡ k + (m - k) = omega arith in
    let p : take m l ≡ take k l ++ take (m - k) (drop k l) = ap (λ (n : ℕ). take n l) e ∙ take-add k (m - k) l in
    rw p (drop_at (take k l) (take (m - k) (drop k l)) k (length-take-le k l (omega arith)))

-- a clamped count takes as much
pub take_clamped : (m k n : ℕ) (l : List ℕ) → length l ≡ m → n ≡ min k m → take n l ≡ take k l
take_clamped m k n l e p = go (dec_le k m)
  where
    go : Dec (k ≤ m) → take n l ≡ take k l
    go (yes h) =
        let z : n ≡ k = omega arith in
        ap (λ (j : ℕ). take j l) z
    go (no h) = take_all n l (omega arith) ∙ sym (take_all k l (omega arith))

-- the first, where there is one
pub take_one : (l : List ℕ) → 0 < length l → take 1 l ≡ get_or l 0 0 ∷ []
take_one l h = take-suc l 0 0 h

-- bytes with a count c, in their one form: what the count shows, then zeros
module _ (n c : ℕ) (bs : List ℕ) (b : ℕ) (e : bs ≡ padded n (take c bs)) (q : c ≡ length (take c bs)) where
  -- a store at the count
  pub push_at : c < n → set bs c b ≡ padded n (take c bs ++ (b ∷ []))
  push_at h =
      let p : set (padded n (take c bs)) (length (take c bs)) b ≡ padded n (take c bs ++ (b ∷ [])) = padded_push n (take c bs) b (omega arith) in
      cc

-- all places moved up by k, of which as many are taken
pub padded_shift : (n k : ℕ) (l : List ℕ) → k ≤ length l → length l ≤ n → padded n (take (n - k) (drop k (padded n l))) ≡ padded n (drop k l)
unfolding padded
padded_shift n k l h g =
    let z : List ℕ = replicate (n - length l) 0 in
    let y : List ℕ = replicate (n - (n - k)) 0 in
    let d : drop k (l ++ z) ≡ drop k l ++ z = drop-append-le k l z h in
    let m : length (drop k l ++ z) ≡ n - k = simp (length-append, length-drop, length-replicate) (omega arith) in
    let t : take (n - k) (drop k l ++ z) ≡ drop k l ++ z = take_all (n - k) (drop k l ++ z) (omega arith) in
    let q : n - length l + (n - (n - k)) ≡ n - length (drop k l) = simp length-drop (omega arith) in
    let r : z ++ y ≡ replicate (n - length (drop k l)) 0 = replicate-append-replicate (n - length l) (n - (n - k)) 0 ∙ ap (λ (j : ℕ). replicate j 0) q in
    rw (d, t, m, append_assoc, r)

-- bytes with any count c, of which m can be there
module _ (n c m : ℕ) (bs : List ℕ) (e : length bs ≡ n) (p : m ≡ min c n) where
  shown : length (take c bs) ≡ m
  shown = simp length-take (omega arith)

  -- those after the k oldest stand in the middle
  pub dropped : (k : ℕ) → k ≤ m → take (m - k) (drop k bs) ≡ drop k (take c bs)
  dropped k h = sym (ap (λ (l : List ℕ). drop k l) (sym (take_clamped n c m bs e p)) ∙ drop_take k m bs h (omega arith))

  pub length_dropped : (k : ℕ) → m - k ≡ length (drop k (take c bs))
  length_dropped k = sym (length-drop k (take c bs) ∙ ap (λ (j : ℕ). j - k) shown)

  pub dropped_all : (k : ℕ) → m < k → [] ≡ drop k (take c bs)
  dropped_all k h =
      let z : length (take c bs) ≤ k = omega (arith, shown) in
      sym (drop_of_length-le (take c bs) z)

-- a type whose values keep bytes with their count, at most n, and the value of a list
module _ (F : Type 0) (n : ℕ) (bytes : F → List ℕ) (count : F → ℕ) (of : List ℕ → F) (at-bytes : (l : List ℕ) → bytes (of l) ≡ padded n l) (at_count : (l : List ℕ) → count (of l) ≡ length l) where
  pub count_of : (f : F) (l : List ℕ) → f ≡ of l → count f ≡ length l
  count_of f l e = ap count e ∙ at_count l

  pub bytes_of : (f : F) (l : List ℕ) → f ≡ of l → bytes f ≡ padded n l
  bytes_of f l e = ap bytes e ∙ at-bytes l

-- n elements from a place on, one by one
abbrev pub elements : List ℕ → ℕ → ℕ → List ℕ
elements l i zero = []
elements l i (suc n) = get_or l i 0 ∷ elements l (suc i) n

elements_tail : (x : ℕ) (l : List ℕ) (i n : ℕ) → elements (x ∷ l) (suc i) n ≡ elements l i n
elements_tail x l i zero = refl
elements_tail x l i (suc n) = ap (λ (r : List ℕ). get_or l i 0 ∷ r) (elements_tail x l (suc i) n)

-- all of them are the list
pub elements_all : (n : ℕ) (l : List ℕ) → length l ≡ n → elements l 0 n ≡ l
elements_all zero [] e = refl
elements_all zero (x ∷ l) e = absurd (omega arith)
elements_all (suc n) [] e = absurd (omega arith)
elements_all (suc n) (x ∷ l) e = ap (λ (r : List ℕ). x ∷ r) (elements_tail x l 0 n ∙ elements_all n l (omega arith))
