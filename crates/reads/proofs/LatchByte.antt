-- A latch is set where the byte of the latches is not 0, and so with the latches of selection.
use Prim.Native.Nat.{ℕ, zero, suc, ◌+◌, ◌*◌, ◌/◌, ◌%◌, ◌^◌, ◌<◌}
use mathlib.Core.Path.{◌≡◌, refl, ap, ◌∙◌, sym}
use mathlib.Core.Bool.{Bool, true, false, not, ◌||◌}
use native.Mathlib.Omega.{arith}
use lib.Dec.{eqb}
use borrow.Author.Tests.{ne_eqb}
use Rattle.rules.specs.Numbers.{bit, one, byte_of}
use Rattle.rules.specs.Interrupts.{any_latch, any_selection}
use Rattle.image.specs.Image.{latches_of, selection_of}

pub one_bit_lem : (x : ℕ) → x < 2 → one (eqb x 1) ≡ x
one_bit_lem zero h = refl
one_bit_lem (suc zero) h = refl
one_bit_lem (suc (suc x)) h = absurd (omega arith)

-- each bit of the six above those below it
top_5 : (v : ℕ) → v % 64 ≡ one (bit v 5) * 32 + v % 32
top_5 v = rw (one_bit_lem (v / 2 ^ 5 % 2) (omega arith)) (omega arith)

top_4 : (v : ℕ) → v % 32 ≡ one (bit v 4) * 16 + v % 16
top_4 v = rw (one_bit_lem (v / 2 ^ 4 % 2) (omega arith)) (omega arith)

top_3 : (v : ℕ) → v % 16 ≡ one (bit v 3) * 8 + v % 8
top_3 v = rw (one_bit_lem (v / 2 ^ 3 % 2) (omega arith)) (omega arith)

top_2 : (v : ℕ) → v % 8 ≡ one (bit v 2) * 4 + v % 4
top_2 v = rw (one_bit_lem (v / 2 ^ 2 % 2) (omega arith)) (omega arith)

pub top_1 : (v : ℕ) → v % 4 ≡ one (bit v 1) * 2 + v % 2
top_1 v = rw (one_bit_lem (v / 2 ^ 1 % 2) (omega arith)) (omega arith)

pub top_0 : (v : ℕ) → v % 2 ≡ one (bit v 0)
top_0 v = rw (one_bit_lem (v / 2 ^ 0 % 2) (omega arith)) (omega arith)

sum : (b5 b4 b3 b2 b1 b0 r5 r4 r3 r2 r1 r0 : ℕ) → r5 ≡ b5 * 32 + r4 → r4 ≡ b4 * 16 + r3 → r3 ≡ b3 * 8 + r2 → r2 ≡ b2 * 4 + r1 → r1 ≡ b1 * 2 + r0 → r0 ≡ b0 → 0 * 128 + 0 * 64 + b5 * 32 + b4 * 16 + b3 * 8 + b2 * 4 + b1 * 2 + b0 ≡ r5
sum b5 b4 b3 b2 b1 b0 r5 r4 r3 r2 r1 r0 h5 h4 h3 h2 h1 h0 = omega arith

-- the six low bits of a number
pub six : (v : ℕ) → byte_of false false (bit v 5) (bit v 4) (bit v 3) (bit v 2) (bit v 1) (bit v 0) ≡ v % 64
six v = sum (one (bit v 5)) (one (bit v 4)) (one (bit v 3)) (one (bit v 2)) (one (bit v 1)) (one (bit v 0)) (v % 64) (v % 32) (v % 16) (v % 8) (v % 4) (v % 2) (top_5 v) (top_4 v) (top_3 v) (top_2 v) (top_1 v) (top_0 v)

some_set : (a b c d e f : Bool) → not (eqb (byte_of false false a b c d e f) 0) ≡ (a || b || c || d || e || f)
some_set true b c d e f = ap not (ne_eqb (byte_of false false true b c d e f) 0 (omega arith))
some_set false true c d e f = ap not (ne_eqb (byte_of false false false true c d e f) 0 (omega arith))
some_set false false true d e f = ap not (ne_eqb (byte_of false false false false true d e f) 0 (omega arith))
some_set false false false true e f = ap not (ne_eqb (byte_of false false false false false true e f) 0 (omega arith))
some_set false false false false true f = ap not (ne_eqb (byte_of false false false false false false true f) 0 (omega arith))
some_set false false false false false true = refl
some_set false false false false false false = refl

pub any_set : (v : ℕ) → not (eqb (v % 64) 0) ≡ any_latch (latches_of v)
any_set v = ap (λ (n : ℕ). not (eqb n 0)) (sym (six v)) ∙ some_set (bit v 5) (bit v 4) (bit v 3) (bit v 2) (bit v 1) (bit v 0)

sum_of_four : (b3 b2 b1 b0 r3 r2 r1 r0 : ℕ) → r3 ≡ b3 * 8 + r2 → r2 ≡ b2 * 4 + r1 → r1 ≡ b1 * 2 + r0 → r0 ≡ b0 → 0 * 128 + 0 * 64 + 0 * 32 + 0 * 16 + b3 * 8 + b2 * 4 + b1 * 2 + b0 ≡ r3
sum_of_four b3 b2 b1 b0 r3 r2 r1 r0 h3 h2 h1 h0 = omega arith

-- the four low bits of a number
four : (v : ℕ) → byte_of false false false false (bit v 3) (bit v 2) (bit v 1) (bit v 0) ≡ v % 16
four v = sum_of_four (one (bit v 3)) (one (bit v 2)) (one (bit v 1)) (one (bit v 0)) (v % 16) (v % 8) (v % 4) (v % 2) (top_3 v) (top_2 v) (top_1 v) (top_0 v)

pub any_selection_set : (v : ℕ) → not (eqb (v % 16) 0) ≡ any_selection (selection_of v)
any_selection_set v = ap (λ (n : ℕ). not (eqb n 0)) (sym (four v)) ∙ some_set false false (bit v 3) (bit v 2) (bit v 1) (bit v 0)
