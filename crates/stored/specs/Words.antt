-- The lines and words of a text, and the record that hex digits name.
use Rattle.std.specs.Prelude.{ℕ, suc, ◌+◌, ◌*◌, ◌/◌, ◌%◌, min, Bool, cond, not, ◌&&◌, List, [], ◌∷◌, length, take, drop, ◌==◌, nat_le, Option, Some, None, is_some, unwrap_or, option_and_then, position, slice_get}
use Rattle.std.specs.List.{list_all}
use Rattle.stored.specs.declared.words.Named.{Named}

-- how many bytes stand before the first b; all of them where none is
abbrev pub place_of : ℕ → List ℕ → ℕ
place_of b [] = 0
place_of b (x ∷ l) = cond (x == b) 0 (suc (place_of b l))

-- where the first line of a text ends
abbrev pub line_end : List ℕ → ℕ
line_end text = place_of 10 text

-- where its first word ends
abbrev pub word_end : List ℕ → ℕ
word_end text = place_of 32 text

-- past the byte at a place, and never past the end
abbrev pub past : ℕ → List ℕ → ℕ
past end text = min (end + 1) (length text)

abbrev pub first_word : List ℕ → List ℕ
first_word text = take (word_end text) text

abbrev pub second_word : List ℕ → List ℕ
second_word text = first_word (drop (past (word_end text) text) text)

-- a byte put before the first of some lines
abbrev pub prepended : ℕ → List (List ℕ) → List (List ℕ)
prepended b [] = (b ∷ []) ∷ []
prepended b (l ∷ ls) = (b ∷ l) ∷ ls

-- the lines of a text, without their ends
abbrev pub lines_in : List ℕ → List (List ℕ)
lines_in [] = []
lines_in (b ∷ l) = cond (b == 10) ([] ∷ lines_in l) (prepended b (lines_in l))

-- 0 to 9 and A to F
abbrev pub hex_digits : List ℕ
hex_digits = 48 ∷ 49 ∷ 50 ∷ 51 ∷ 52 ∷ 53 ∷ 54 ∷ 55 ∷ 56 ∷ 57 ∷ 65 ∷ 66 ∷ 67 ∷ 68 ∷ 69 ∷ 70 ∷ []

-- the value of a digit is its place among the sixteen; none of any other byte
abbrev pub digit_value : ℕ → Option ℕ
digit_value b = position (λ digit. digit == b) hex_digits

abbrev pub is_hex : List ℕ → Bool
is_hex text = list_all (λ b. is_some (digit_value b)) text

-- 2, 4, 6 or 8 digits, two to a byte
abbrev pub is_record : List ℕ → Bool
is_record text = not (length text == 0) && nat_le (length text) 8 && length text % 2 == 0 && is_hex text

-- past the end of a text, 0
abbrev pub digit_at : List ℕ → ℕ → ℕ
digit_at text i = unwrap_or (option_and_then digit_value (slice_get text i)) 0

abbrev pub byte_at : List ℕ → ℕ → ℕ
byte_at text i = 16 * digit_at text (2 * i) + digit_at text (2 * i + 1)

-- the record that a text names: its bytes, zeros to fill the array, and their number; none where it names none
unfoldable pub record_named : List ℕ → Option Named
record_named text =
    cond (is_record text)
    (Some (record { bytes = byte_at text 0 ∷ byte_at text 1 ∷ byte_at text 2 ∷ byte_at text 3 ∷ []; count = length text / 2 }))
    None
