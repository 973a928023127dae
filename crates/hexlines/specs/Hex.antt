-- "prints each answer as 32 hex digits on a line": capital letters, as in the printed examples.
use Rattle.std.specs.Prelude.{ℕ, zero, suc, ◌+◌, ◌*◌, ◌/◌, ◌%◌, min, ◌≡◌, cond, List, [], ◌∷◌, ◌++◌, ltb, length, take, drop}

-- the digit of a number below 16: 0 is at 48, A at 65
abbrev pub digit_of : ℕ → ℕ
digit_of n = cond (ltb 9 n) (n + 55) (n + 48)

-- both digits of a byte in one number, the first in its low half
pub record Digits (b r : ℕ) : Type 0 where
  pub first : r % 256 ≡ digit_of (b / 16)
  pub second : r / 256 ≡ digit_of (b % 16)

-- two digits for each byte
abbrev pub hex_of : List ℕ → List ℕ
hex_of [] = []
hex_of (b ∷ l) = digit_of (b / 16) ∷ digit_of (b % 16) ∷ hex_of l

-- a line: the digits and a line end
unfoldable pub line_of : List ℕ → List ℕ
line_of l = hex_of l ++ (10 ∷ [])

-- the lines of n answers, one after the other
abbrev pub lines_of : ℕ → List ℕ → List ℕ
lines_of zero l = []
lines_of (suc n) l = line_of (take 16 l) ++ lines_of n (drop 16 l)

-- how many answers are printed: whole ones, and as many as there is room for
abbrev pub answers_in : List ℕ → List ℕ → ℕ
answers_in answers out = min (length answers / 16) (length out / 33)

-- the lines at the front, the rest as it was, and the number of bytes written
pub record Printed (answers before after : List ℕ) (written : ℕ) : Type 0 where
  pub text : after ≡ lines_of (answers_in answers before) answers ++ drop written before
  pub count : written ≡ 33 * answers_in answers before
