-- What a text counts up to: of its events, how many have the answer of the step stored beside them.
use Rattle.std.specs.Prelude.{ℕ, ◌+◌, ◌%◌, ◌^◌, Bool, true, false, cond, List, [], ◌∷◌, length, take, ◌==◌, slice_index_or, Option, Some, None}
use Rattle.hexlines.specs.Hex.{hex_of}
use Rattle.rules.specs.State.{power_reset}
use Rattle.rules.specs.Chips.{view, chip_of}
use Rattle.rules.specs.Step.{step, answer}
use Rattle.rules.specs.declared.chip.Chip.{Chip}
use Rattle.stored.specs.Words.{first_word, second_word, lines_in, record_named}
use Rattle.stored.specs.declared.words.Named.{Named}
use Rattle.stored.specs.declared.Tally.{Tally}

-- counts are kept in 64 bits
abbrev pub one_more : ℕ → ℕ
one_more n = (n + 1) % 2 ^ 64

abbrev pub is_same : List ℕ → List ℕ → Bool
is_same [] [] = true
is_same [] (y ∷ m) = false
is_same (x ∷ l) [] = false
is_same (x ∷ l) (y ∷ m) = cond (x == y) (is_same l m) false

-- before the first line, the chip of power reset
abbrev pub nothing_yet : Tally
nothing_yet = record { chip = chip_of power_reset; line = 0; streams = 0; events = 0; agreed = 0 }

abbrev pub next_line : Tally → Tally
next_line t = record { chip = t.chip; line = one_more t.line; streams = t.streams; events = t.events; agreed = t.agreed }

-- a stream starts from power reset
unfoldable pub after_stream : Tally → Tally
after_stream t =
    record { chip = chip_of power_reset; line = t.line; streams = one_more t.streams; events = t.events; agreed = t.agreed }

-- an event leaves its chip, and agrees or not
unfoldable pub with_event : Tally → Chip → Bool → Tally
with_event t chip agrees =
    record {
      chip = chip;
      line = t.line;
      streams = t.streams;
      events = one_more t.events;
      agreed = cond agrees (one_more t.agreed) t.agreed;
    }

-- a record is stepped; it agrees if the stored answer is the step's, in hex digits
unfoldable pub after_event : Tally → List ℕ → List ℕ → Tally
after_event t bytes stored =
    let s = view t.chip in
    with_event t (chip_of (step s bytes).state) (is_same stored (hex_of (answer s bytes)))

-- a record and the answer stored beside it; no record counts nothing
abbrev pub after_record : Tally → List ℕ → Option Named → Tally
after_record t stored None = t
after_record t stored (Some named) = after_event t (take named.count named.bytes) stored

-- a record and its stored answer, a word each; a line whose first word names no record counts nothing
unfoldable pub after_event_line : Tally → List ℕ → Tally
after_event_line t text = after_record t (second_word text) (record_named (first_word text))

-- an empty line and one that starts with # count nothing; one that starts with = starts a stream
unfoldable pub after_line : Tally → List ℕ → Tally
after_line t text =
    let first = slice_index_or text 0 0 in
    cond (length text == 0) t (cond (first == 35) t (cond (first == 61) (after_stream t) (after_event_line t text)))

-- lines, one after the other
abbrev pub tallied : Tally → List (List ℕ) → Tally
tallied t [] = t
tallied t (l ∷ ls) = tallied (after_line (next_line t) l) ls

-- all lines of a text
abbrev pub tally_of : List ℕ → Tally
tally_of text = tallied nothing_yet (lines_in text)
