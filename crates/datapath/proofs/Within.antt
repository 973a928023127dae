-- Bytes put behind a list, and taken off its front, in the middle of a longer one.
use Prim.Native.Nat.{ℕ, ◌+◌, ◌-◌, ◌≤◌}
use mathlib.Core.Path.{◌≡◌, sym, ap, ◌∙◌}
use mathlib.Core.List.{List, ◌++◌, append_assoc}
use native.Mathlib.Omega.{arith}
use lib.ListN.{length, take, drop, replicate, length-append, length-drop, length-replicate, take-append-drop, replicate-append-replicate}
use lib.Seq.{paste, take_at, drop_at, take_all, drop-drop, length-take-le}
use Rattle.rules.specs.Numbers.{padded}
use Rattle.datapath.specs.Laid.{lowered}

-- what stands where the bytes go is as long as they are
put_at : (p z r s : List ℕ) (at n : ℕ) → at ≡ length p → n ≡ length z → paste (p ++ (z ++ r)) at s n ≡ p ++ take n s ++ r
put_at p z r s at n e f =
    let t : take at (p ++ (z ++ r)) ≡ p = take_at p (z ++ r) at (sym e) in
    let l : length (p ++ z) ≡ at + n = simp length-append (omega arith) in
    let d : drop (at + n) (p ++ (z ++ r)) ≡ r = ap (drop (at + n)) (sym (append_assoc p z r)) ∙ drop_at (p ++ z) r (at + n) l in
    ap (λ (x : List ℕ). x ++ take n s ++ drop (at + n) (p ++ (z ++ r))) t ∙ ap (λ (x : List ℕ). p ++ take n s ++ x) d

zeros_split : (n r : ℕ) → n ≤ r → replicate {A = ℕ} r 0 ≡ replicate {A = ℕ} n 0 ++ replicate {A = ℕ} (r - n) 0
zeros_split n r h =
    let e : n + (r - n) ≡ r = omega arith in
    sym (replicate-append-replicate n (r - n) 0 ∙ ap (λ (j : ℕ). replicate {A = ℕ} j 0) e)

regroup : (a l x y r : List ℕ) → a ++ ((l ++ (x ++ y)) ++ r) ≡ (a ++ l) ++ (x ++ (y ++ r))
regroup a l x y r = simp append_assoc

gathered : (a l x y r : List ℕ) → (a ++ l) ++ x ++ (y ++ r) ≡ a ++ ((l ++ x ++ y) ++ r)
gathered a l x y r = simp append_assoc

-- n more behind a list in its places
pub join_at : (size : ℕ) (a l r s : List ℕ) (at n : ℕ) → at ≡ length a + length l → length l + n ≤ size → n ≤ length s → paste (a ++ (padded size l ++ r)) at s n ≡ a ++ (padded size (l ++ take n s) ++ r)
unfolding padded
join_at size a l r s at n e h k =
    let z : replicate {A = ℕ} (size - length l) 0 ≡ replicate {A = ℕ} n 0 ++ replicate {A = ℕ} (size - length l - n) 0 = zeros_split n (size - length l) (omega arith) in
    let w : a ++ ((l ++ replicate {A = ℕ} (size - length l) 0) ++ r) ≡ (a ++ l) ++ (replicate {A = ℕ} n 0 ++ (replicate {A = ℕ} (size - length l - n) 0 ++ r)) = ap (λ (x : List ℕ). a ++ ((l ++ x) ++ r)) z ∙ regroup a l (replicate {A = ℕ} n 0) (replicate {A = ℕ} (size - length l - n) 0) r in
    let q : length (a ++ l) ≡ length a + length l = length-append a l in
    let t : length (take n s) ≡ n = length-take-le n s k in
    let u : length (l ++ take n s) ≡ length l + n = length-append l (take n s) ∙ ap (λ (j : ℕ). length l + j) t in
    let c : size - length l - n ≡ size - length (l ++ take n s) = omega arith in
    ap (λ (x : List ℕ). paste x at s n) w
    ∙ put_at (a ++ l) (replicate {A = ℕ} n 0) (replicate {A = ℕ} (size - length l - n) 0 ++ r) s at n (omega arith) (sym (length-replicate {A = ℕ} n 0))
    ∙ gathered a l (take n s) (replicate {A = ℕ} (size - length l - n) 0) r
    ∙ ap (λ (j : ℕ). a ++ ((l ++ take n s ++ replicate {A = ℕ} j 0) ++ r)) c

-- the part y moved down over x
low_at : (a x y r : List ℕ) (at n k : ℕ) → at ≡ length a → k ≡ length x → n ≡ k + length y → lowered (a ++ (x ++ (y ++ r))) at n k ≡ a ++ y ++ replicate {A = ℕ} k 0 ++ r
unfolding lowered
low_at a x y r at n k e f g =
    let m : List ℕ = a ++ (x ++ (y ++ r)) in
    let j : ℕ = n - k in
    let ax : length (a ++ x) ≡ at + k = simp length-append (omega arith) in
    let ay : length (a ++ y) ≡ at + j = simp length-append (omega arith) in
    let axy : length (a ++ x ++ y) ≡ at + j + k = simp length-append (omega arith) in
    let source : drop (at + k) m ≡ y ++ r = ap (drop (at + k)) (sym (append_assoc a x (y ++ r))) ∙ drop_at (a ++ x) (y ++ r) (at + k) ax in
    let first : take j (drop (at + k) m) ≡ y = ap (take j) source ∙ take_at y r j (omega arith) in
    let rest : List ℕ = drop (at + j) m in
    let one : paste m at (drop (at + k) m) j ≡ a ++ y ++ rest = ap (λ (p : List ℕ). p ++ take j (drop (at + k) m) ++ rest) (take_at a (x ++ (y ++ r)) at (sym e)) ∙ ap (λ (p : List ℕ). a ++ p ++ rest) first in
    let flat : m ≡ (a ++ x ++ y) ++ r = simp append_assoc in
    let last : drop (at + j + k) m ≡ r = ap (drop (at + j + k)) flat ∙ drop_at (a ++ x ++ y) r (at + j + k) axy in
    let behind : drop (at + j + k) (a ++ y ++ rest) ≡ r = sym (drop-drop k (at + j) (a ++ y ++ rest)) ∙ ap (drop k) (drop_at (a ++ y) rest (at + j) ay) ∙ drop-drop k (at + j) m ∙ last in
    ap (λ (p : List ℕ). paste p (at + j) (replicate {A = ℕ} k 0) k) one
    ∙ ap (λ (p : List ℕ). p ++ take k (replicate {A = ℕ} k 0) ++ drop (at + j + k) (a ++ y ++ rest)) (take_at (a ++ y) rest (at + j) ay)
    ∙ ap (λ (p : List ℕ). a ++ y ++ p ++ drop (at + j + k) (a ++ y ++ rest)) (take_all k (replicate {A = ℕ} k 0) (omega (arith, length-replicate {A = ℕ} k 0)))
    ∙ ap (λ (p : List ℕ). a ++ y ++ replicate {A = ℕ} k 0 ++ p) behind

spread : (a x y z r : List ℕ) → a ++ ((x ++ y ++ z) ++ r) ≡ a ++ (x ++ (y ++ (z ++ r)))
spread a x y z r = simp append_assoc

closed : (a y z w r : List ℕ) → a ++ y ++ z ++ (w ++ r) ≡ a ++ ((y ++ (z ++ w)) ++ r)
closed a y z w r = simp append_assoc

-- k taken off the front of a list in its places
pub lower_at : (size : ℕ) (a l r : List ℕ) (at n k : ℕ) → at ≡ length a → n ≡ length l → k ≤ length l → length l ≤ size → lowered (a ++ (padded size l ++ r)) at n k ≡ a ++ (padded size (drop k l) ++ r)
unfolding padded
lower_at size a l r at n k e f h g =
    let z : List ℕ = replicate {A = ℕ} (size - length l) 0 in
    let t : length (take k l) ≡ k = length-take-le k l h in
    let d : length (drop k l) ≡ length l - k = length-drop k l in
    let w : a ++ ((l ++ z) ++ r) ≡ a ++ (take k l ++ (drop k l ++ (z ++ r))) = ap (λ (x : List ℕ). a ++ ((x ++ z) ++ r)) (sym (take-append-drop k l)) ∙ spread a (take k l) (drop k l) z r in
    let c : k + (size - length l) ≡ size - length (drop k l) = omega arith in
    let b : replicate {A = ℕ} k 0 ++ z ≡ replicate {A = ℕ} (size - length (drop k l)) 0 = replicate-append-replicate k (size - length l) 0 ∙ ap (λ (j : ℕ). replicate {A = ℕ} j 0) c in
    ap (λ (x : List ℕ). lowered x at n k) w
    ∙ low_at a (take k l) (drop k l) (z ++ r) at n k e (sym t) (omega arith)
    ∙ closed a (drop k l) (replicate {A = ℕ} k 0) z r
    ∙ ap (λ (x : List ℕ). a ++ ((drop k l ++ x) ++ r)) b
