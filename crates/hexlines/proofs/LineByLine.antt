-- Digits put into a line and lines put one after the other, each as one more turn of the loop that puts them.
use Prim.Native.Nat.{ℕ, zero, suc, ◌+◌, ◌-◌, ◌*◌, ◌/◌, ◌%◌, ◌≤◌, ◌<◌}
use mathlib.Core.Path.{◌≡◌, refl, ap, sym, ◌∙◌}
use mathlib.Core.List.{List, [], ◌∷◌, ◌++◌, append_assoc, append-nil}
use native.Mathlib.Omega.{arith}
use native.Mathlib.Numerals.{add-one}
use lib.ListN.{length, take, drop, set, get_or, length-append, length-drop, drop_of_length-le}
use lib.Seq.{drop-cons, take_all, take_at, drop_at, drop-drop, length-take-le, paste, paste-suc}
use Rattle.hexlines.specs.Hex.{digit_of, line_of, lines_of}

line_length : (l : List ℕ) → length (line_of l) ≡ 2 * length l + 1
unfolding line_of
line_length [] = refl
line_length (x ∷ l) = omega (arith, line_length l)

-- past the digits of i bytes stands the line of the others
line_at : (l : List ℕ) (i j : ℕ) → i ≤ length l → get_or (line_of l) (2 * i + j) 0 ≡ get_or (line_of (drop i l)) j 0
unfolding line_of
line_at l zero j h =
    let e : 2 * 0 + j ≡ j = omega arith in
    rw e
line_at [] (suc i) j h = absurd (omega arith)
line_at (x ∷ l) (suc i) j h =
    let e : 2 * suc i + j ≡ suc (suc (2 * i + j)) = omega arith in
    rw e (line_at l i j (omega arith))

-- the line of b goes into o from a place on, and k bytes of it stand there: the next one, j past the digits of i bytes
put_next : (o b : List ℕ) (at i j k p v : ℕ) (out : List ℕ) → i ≤ length b → k ≤ 2 * length b → k ≡ 2 * i + j → p ≡ at + k → p < length o
    → v ≡ get_or (line_of (drop i b)) j 0 → out ≡ paste o at (line_of b) k → set out p v ≡ paste o at (line_of b) (k + 1)
put_next o b at i j k p v out f n s q h w e =
    let m : length (line_of b) ≡ 2 * length b + 1 = line_length b in
    let x : v ≡ get_or (line_of b) k 0 = w ∙ sym (line_at b i j f) ∙ ap (λ (r : ℕ). get_or (line_of b) r 0) (sym s) in
    rw (e, q, x, add-one k) (paste-suc o at (line_of b) k 0 (omega arith) (omega arith))

-- both digits of one byte more
pub put_byte : (o b : List ℕ) (at i first second : ℕ) (out : List ℕ) → i < length b → at + 2 * i + 1 < length o
    → first ≡ digit_of (get_or b i 0 / 16) → second ≡ digit_of (get_or b i 0 % 16) → out ≡ paste o at (line_of b) (2 * i)
    → set (set out (at + 2 * i) first) (at + 2 * i + 1) second ≡ paste o at (line_of b) (2 * (i + 1))
unfolding line_of
put_byte o b at i first second out h k f s e =
    let d : get_or b i 0 ∷ drop (suc i) b ≡ drop i b = sym (drop-cons b i 0 h) in
    let one = put_next o b at i 0 (2 * i) (at + 2 * i) first out (omega arith) (omega arith) (omega arith) (omega arith) (omega arith)
    (f ∙ ap (λ (l : List ℕ). get_or (line_of l) 0 0) d) e in
    let two = put_next o b at i 1 (2 * i + 1) (at + 2 * i + 1) second (set out (at + 2 * i) first) (omega arith) (omega arith) (omega arith) (omega arith) k
    (s ∙ ap (λ (l : List ℕ). get_or (line_of l) 1 0) d) one in
    let n : 2 * i + 1 + 1 ≡ 2 * (i + 1) = omega arith in
    two ∙ ap (λ (j : ℕ). paste o at (line_of b) j) n

-- the line end after sixteen bytes
pub put_end : (o b : List ℕ) (at : ℕ) (out : List ℕ) → length b ≡ 16 → at + 33 ≤ length o → out ≡ paste o at (line_of b) 32
    → set out (at + 32) 10 ≡ paste o at (line_of b) 33
unfolding line_of
put_end o b at out h k e =
    let n : length b ≤ 16 = omega arith in
    let d : [] ≡ drop 16 b = sym (drop_of_length-le b n) in
    put_next o b at 16 0 32 (at + 32) 10 out (omega arith) (omega arith) (omega arith) (omega arith) (omega arith) (ap (λ (l : List ℕ). get_or (line_of l) 0 0) d) e

-- the lines of one answer more
lines_next : (k : ℕ) (a : List ℕ) → lines_of (suc k) a ≡ lines_of k a ++ line_of (take 16 (drop (16 * k) a))
lines_next zero a = append-nil (line_of (take 16 a))
lines_next (suc k) a =
    let e : 16 + 16 * k ≡ 16 * suc k = omega arith in
    let d : drop (16 * k) (drop 16 a) ≡ drop (16 * suc k) a = drop-drop (16 * k) 16 a ∙ ap (λ (j : ℕ). drop j a) e in
    ap (λ (r : List ℕ). line_of (take 16 a) ++ r)
    (lines_next k (drop 16 a) ∙ ap (λ (r : List ℕ). lines_of k (drop 16 a) ++ line_of (take 16 r)) d)
    ∙ sym (append_assoc (line_of (take 16 a)) (lines_of k (drop 16 a)) (line_of (take 16 (drop (16 * suc k) a))))

answer_length : (a : List ℕ) (from : ℕ) → from + 16 ≤ length a → length (line_of (take 16 (drop from a))) ≡ 33
answer_length a from h =
    let d : length (drop from a) ≡ length a - from = length-drop from a in
    let t : length (take 16 (drop from a)) ≡ 16 = length-take-le 16 (drop from a) (omega arith) in
    line_length (take 16 (drop from a)) ∙ ap (λ (n : ℕ). 2 * n + 1) t

pub lines_length : (k : ℕ) (a : List ℕ) → 16 * k ≤ length a → length (lines_of k a) ≡ 33 * k
lines_length zero a h = refl
lines_length (suc k) a h =
    let d : length (drop 16 a) ≡ length a - 16 = length-drop 16 a in
    let l : length (line_of (take 16 a)) ≡ 33 = answer_length a 0 (omega arith) in
    simp length-append (omega (arith, lines_length k (drop 16 a) (omega arith)))

-- one line more, behind those of k answers
pub put_line : (a o : List ℕ) (k : ℕ) (out after : List ℕ) → 16 * k + 16 ≤ length a → out ≡ lines_of k a ++ drop (33 * k) o
    → after ≡ paste out (33 * k) (line_of (take 16 (drop (16 * k) a))) 33 → after ≡ lines_of (k + 1) a ++ drop (33 * (k + 1)) o
put_line a o k out after h e p =
    let x : List ℕ = line_of (take 16 (drop (16 * k) a)) in
    let n : length (lines_of k a) ≡ 33 * k = lines_length k a (omega arith) in
    let front : take (33 * k) out ≡ lines_of k a = rw e (take_at (lines_of k a) (drop (33 * k) o) (33 * k) n) in
    let whole : take 33 x ≡ x = take_all 33 x (omega (arith, answer_length a (16 * k) h)) in
    let rest : drop (33 * k) out ≡ drop (33 * k) o = rw e (drop_at (lines_of k a) (drop (33 * k) o) (33 * k) n) in
    let t : 33 * k + 33 ≡ 33 * (k + 1) = omega arith in
    let behind : drop (33 * k + 33) out ≡ drop (33 * (k + 1)) o =
    sym (drop-drop 33 (33 * k) out) ∙ ap (λ (r : List ℕ). drop 33 r) rest ∙ drop-drop 33 (33 * k) o ∙ ap (λ (j : ℕ). drop j o) t in
    p ∙ rw (front, whole, behind, add-one k, lines_next k a)
