-- Bytes that the library's methods have copied and zeroed, in their one form.
use Prim.Native.Nat.{ℕ, ◌+◌, ◌-◌, ◌≤◌}
use mathlib.Core.Path.{◌≡◌, refl, sym, ◌∙◌}
use mathlib.Core.List.{List, [], ◌++◌, append_assoc}
use native.Mathlib.Omega.{arith}
use native.Mathlib.Numerals.{unary_clauses}
use lib.ListN.{length, take, drop, replicate, length-append, length-take, length-drop}
use borrow.Rule.Slice.PartMut.{put_mid}
use Rattle.std.specs.List.{copy_within}
use Rattle.std.proofs.lemmas.List.Edits.{take-paste}
use Rattle.std.proofs.lemmas.Grind.{common_steps}
use Rattle.std.proofs.lemmas.List.{drop-replicate}
use Rattle.rules.specs.Numbers.{padded}

pub zeros : (size : ℕ) → replicate size 0 ≡ padded size []
unfolding padded
zeros size = simp unary_clauses

-- a part that reaches the end
put_end : (a k : ℕ) (xs ys : List ℕ) → length xs ≤ a + k → put_mid a k xs ys ≡ take a xs ++ ys
put_end a k xs ys h = grind (arith, common_steps)

-- j bytes from the k-th on, moved to the front
moved : (xs : List ℕ) (k m : ℕ) → k ≤ m → m ≤ length xs → take (m - k) (copy_within xs k m 0) ≡ take (m - k) (drop k xs)
moved xs k m h g = grind (arith, common_steps, take-paste)

pub moved_padded :
    (size : ℕ) (xs : List ℕ) (k m : ℕ) {ys zs : List ℕ} → length xs ≡ size → k ≤ m → m ≤ size → ys ≡ copy_within xs k m 0 → length ys ≡ length xs
    → zs ≡ replicate (length (take (length ys - (m - k)) (drop (m - k) ys))) 0 → put_mid (m - k) (length ys - (m - k)) ys zs ≡ padded size (take (m - k) (drop k xs))
unfolding padded
moved_padded size xs k m {ys} {zs} e h g p q z =
    let front : take (m - k) ys ≡ take (m - k) (drop k xs) = rw p (moved xs k m h (omega arith)) in
    let left : length (take (length ys - (m - k)) (drop (m - k) ys)) ≡ size - length (take (m - k) (drop k xs)) = simp (length-take, length-drop) (omega arith) in
    put_end (m - k) (length ys - (m - k)) ys zs (omega arith) ∙ rw (front, z, left) refl

seam : (l zs ys : List ℕ) (k : ℕ) → put_mid (length l) k (l ++ zs) ys ≡ l ++ (ys ++ drop k zs)
seam l zs ys k = grind (arith, common_steps)

-- the bytes of r behind those of l
pub joined_padded : (size k : ℕ) (l r : List ℕ) → length l + length r ≤ size → k ≡ length r → put_mid (length l) k (padded size l) r ≡ padded size (l ++ r)
unfolding padded
joined_padded size k l r h e =
    let left : size - length l - k ≡ size - length (l ++ r) = simp length-append (omega arith) in
    seam l (replicate (size - length l) 0) r k ∙ rw (drop-replicate, left) (sym (append_assoc l r _))
