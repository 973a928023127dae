-- A turn is made of its parts: one read, the lines of the whole records, and the bytes that wait.
use mathlib.Core.Path.{◌≡◌, refl, ap, subst, ◌∙◌}
use mathlib.Core.Bool.{Bool, not, ◌&&◌}
use mathlib.Core.List.{List, [], ◌∷◌, ◌++◌}
use Prim.Native.Nat.{ℕ, ◌*◌, ◌-◌, ◌≤◌}
use native.Mathlib.Omega.{arith}
use lib.ListN.{length, take, drop}
use Rattle.rules.specs.declared.chip.Chip.{Chip}
use Rattle.hexlines.specs.Hex.{lines_of}
use Rattle.adapter.specs.declared.Printed.{Printed}
use Rattle.adapter.specs.declared.Received.{Received}
use Rattle.adapter.specs.Texts.{stepped, printed, answered, IsPrinted, left_over, tail_from, IsReceived, with_front, IsAfterRead}

-- the size is known by the records and the room
sized : {c : Chip} {bytes before now : List ℕ} {p : Printed} → IsPrinted c bytes before now p → IsPrinted c bytes before now (record { chip = p.chip; size = 33 * printed bytes before })
sized {c = c} {bytes = bytes} {before = before} w =
    record {
      chip = w.chip;
      size = refl;
      text = w.text ∙ ap (λ (n : ℕ). lines_of (printed bytes before) (answered c bytes) ++ drop n before) w.size;
    }

-- what is held without the n bytes that wait
abbrev without : Received → List ℕ → ℕ → List ℕ
without r read n = take (r.held - n) read

module _ (c : Chip) (waited input : List ℕ) {count : ℕ} {read : List ℕ} {r : Received} (got : IsReceived count (with_front waited input) read r) {rest : ℕ} (e : rest ≡ left_over r.held r.is_end) where
  pub turned : {room filled blank lines : List ℕ} {p : Printed} → IsPrinted c (without r read rest) blank lines p → filled ≡ answered c (without r read rest) ++ drop (16 * stepped (without r read rest)) room → {tail : List ℕ} → tail ≡ tail_from (take r.held read) (r.held - rest) → (written : Bool) → IsAfterRead c waited count input read room filled blank lines (record { received = r; is_written = written; chip = p.chip; left = record { bytes = tail; count = rest }; more = written && not r.is_end })
  turned {room = room} {blank = blank} {lines = lines} {p = p} shown answers left written =
      record {
        received = got;
        shown = sized (subst (λ (n : ℕ). IsPrinted c (without r read n) blank lines p) e shown);
        answers = answers ∙ ap (λ (n : ℕ). answered c (without r read n) ++ drop (16 * stepped (without r read n)) room) e;
        left = left ∙ ap (λ (n : ℕ). tail_from (take r.held read) (r.held - n)) e;
        kept = e;
        more = refl;
      }

-- three bytes written over the front are those that waited
pub front_is : (w i n : List ℕ) → 3 ≤ length w → 3 ≤ length i → n ≡ take 3 w → n ++ drop 3 i ≡ with_front w i
front_is (a ∷ b ∷ d ∷ w) (x ∷ y ∷ z ∷ i) n h k e = rw e
front_is [] i n h k e = absurd (omega arith)
front_is (a ∷ []) i n h k e = absurd (omega arith)
front_is (a ∷ b ∷ []) i n h k e = absurd (omega arith)
front_is (a ∷ b ∷ d ∷ w) [] n h k e = absurd (omega arith)
front_is (a ∷ b ∷ d ∷ w) (x ∷ []) n h k e = absurd (omega arith)
front_is (a ∷ b ∷ d ∷ w) (x ∷ y ∷ []) n h k e = absurd (omega arith)
