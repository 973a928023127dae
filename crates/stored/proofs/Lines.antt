-- A text's first line and the rest of it, as the loop over the lines takes them.
use Rattle.std.proofs.Common.{◌≡◌, ℕ, suc, ◌+◌, ◌<◌, min, Bool, true, false, cond, eqb, List, [], ◌∷◌, length, take, drop, sym, refl, ap, ◌∙◌, arith, length-drop}
use Rattle.stored.specs.declared.Tally.{Tally}
use Rattle.stored.specs.Words.{line_end, past, prepended, lines_in}
use Rattle.stored.specs.Tallies.{next_line, after_line, tallied}

first_of : (x : ℕ) (l : List ℕ) (q : ℕ) (t : Bool) → prepended x (lines_in l) ≡ (x ∷ take q l) ∷ lines_in (drop (past q l) l)
    → cond t ([] ∷ lines_in l) (prepended x (lines_in l)) ≡ take (cond t 0 (suc q)) (x ∷ l) ∷ lines_in (drop (past (cond t 0 (suc q)) (x ∷ l)) (x ∷ l))
first_of x l q true e =
    let m : min (0 + 1) (suc (length l)) ≡ 1 = omega arith in
    ap (λ (k : ℕ). [] ∷ lines_in (drop k (x ∷ l))) (sym m)
first_of x l q false e =
    let m : min (suc q + 1) (suc (length l)) ≡ suc (min (q + 1) (length l)) = omega arith in
    e ∙ ap (λ (k : ℕ). (x ∷ take q l) ∷ lines_in (drop k (x ∷ l))) (sym m)

first_line : (x : ℕ) (l : List ℕ) → lines_in (x ∷ l) ≡ take (line_end (x ∷ l)) (x ∷ l) ∷ lines_in (drop (past (line_end (x ∷ l)) (x ∷ l)) (x ∷ l))
first_line x [] = first_of x [] 0 (eqb x 10) refl
first_line x (y ∷ l) = first_of x (y ∷ l) (line_end (y ∷ l)) (eqb x 10) (ap (prepended x) (first_line y l))

-- one turn of the loop: the first line counted, the rest still to count
line_tallied : (t : Tally) (l : List ℕ) → 0 < length l
    → tallied (after_line (next_line t) (take (line_end l) l)) (lines_in (drop (past (line_end l) l) l)) ≡ tallied t (lines_in l)
line_tallied t [] h = absurd (omega arith)
line_tallied t (x ∷ l) h = sym (ap (tallied t) (first_line x l))

module _ (t n u : Tally) (text first behind : List ℕ) where
  pub turn : 0 < length text → n ≡ next_line t → first ≡ take (line_end text) text → u ≡ after_line n first
      → behind ≡ drop (past (line_end text) text) text → tallied u (lines_in behind) ≡ tallied t (lines_in text)
  turn h p q r s =
      let line : u ≡ after_line (next_line t) (take (line_end text) text) =
      r ∙ ap (λ (m : Tally). after_line m first) p ∙ ap (after_line (next_line t)) q in
      ap (λ (x : Tally). tallied x (lines_in behind)) line
      ∙ ap (λ (x : List ℕ). tallied (after_line (next_line t) (take (line_end text) text)) (lines_in x)) s
      ∙ line_tallied t text h

  pub shorter : 0 < length text → behind ≡ drop (past (line_end text) text) text → length behind < length text
  shorter h s = rw s (omega (arith, length-drop (past (line_end text) text) text))
