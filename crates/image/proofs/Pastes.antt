-- The loop that copies bytes to other places of one list.
use Prim.Native.Nat.{ℕ, ◌+◌, ◌-◌, ◌<◌, ◌≤◌}
use mathlib.Core.Path.{◌≡◌, sym, ap, ◌∙◌}
use mathlib.Core.List.{List, ◌++◌}
use native.Mathlib.Omega.{arith}
use native.Mathlib.Numerals.{add-one}
use native.Mathlib.Decide.{dec_le}
use lib.ListN.{length, take, drop, set, get_or, get_or-append}
use lib.Seq.{paste, paste-zero, paste-suc, length_paste_head, length-take-le, get_or-take, get_or-drop, get_or-append-add}

-- i of the first n of s stand in m₀ from a place on
pub record Pasted (m₀ : List ℕ) (at : ℕ) (s : List ℕ) (n : ℕ) (m : List ℕ) (i : ℕ) : Type 0 where
  pub within : i ≤ n
  pub room : at + n ≤ length m₀
  pub enough : n ≤ length s
  pub placed : m ≡ paste m₀ at s i

pub begun : (m : List ℕ) (at : ℕ) (s : List ℕ) (n : ℕ) → at + n ≤ length m → n ≤ length s → Pasted m at s n m 0
begun m at s n h k = record { within = omega arith; room = h; enough = k; placed = paste-zero m at s }

module _ {m₀ : List ℕ} {at : ℕ} {s : List ℕ} {n : ℕ} {m : List ℕ} {i : ℕ} (c : Pasted m₀ at s n m i) where
  pub again : {p x : ℕ} → p ≡ at + i → x ≡ get_or s i 0 → i < n → Pasted m₀ at s n (set m p x) (i + 1)
  again e g h =
      record {
        within = omega arith;
        room = c.room;
        enough = c.enough;
        placed = rw (e, g) (ap (λ (l : List ℕ). set l (at + i) (get_or s i 0)) c.placed ∙ paste-suc m₀ at s i 0 (omega (arith, c.room)) (omega (arith, c.enough)) ∙ ap (paste m₀ at s) (sym (add-one i)));
      }

  pub ended : n ≤ i → m ≡ paste m₀ at s n
  ended h =
      let e : i ≡ n = omega (arith, c.within) in
      c.placed ∙ ap (paste m₀ at s) e

  -- what is read next is not yet written over
  pub unwritten : (from : ℕ) → (from < at → from + n ≤ at) → i < n → get_or m (from + i) 0 ≡ get_or (drop from m₀) i 0
  unwritten from f h = ap (λ (l : List ℕ). get_or l (from + i) 0) c.placed ∙ go (dec_le at from) ∙ sym (get_or-drop from m₀ i 0)
    where
      p : List ℕ
      p = take at m₀ ++ take i s

      q : length p ≡ at + i
      q = length_paste_head m₀ at s i (omega (arith, c.room)) (omega (arith, c.enough))

      t : length (take at m₀) ≡ at
      t = length-take-le at m₀ (omega (arith, c.room))

      go : Dec (at ≤ from) → get_or (paste m₀ at s i) (from + i) 0 ≡ get_or m₀ (from + i) 0
      go (yes y) =
          let e : from + i ≡ length p + (from - at) = omega (arith, q) in
          let d : at + i + (from - at) ≡ from + i = omega arith in
          ap (λ (j : ℕ). get_or (p ++ drop (at + i) m₀) j 0) e ∙ get_or-append-add p (drop (at + i) m₀) (from - at) 0
          ∙ get_or-drop (at + i) m₀ (from - at) 0 ∙ ap (λ (j : ℕ). get_or m₀ j 0) d
      go (no y) =
          let z : from + n ≤ at = f (omega arith) in
          get_or-append p (drop (at + i) m₀) 0 (from + i) (omega (arith, q))
          ∙ get_or-append (take at m₀) (take i s) 0 (from + i) (omega (arith, t))
          ∙ get_or-take at m₀ (from + i) 0 (omega arith)
