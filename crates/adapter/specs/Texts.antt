-- The lines that records give, and the bytes that wait for the next read: what the program does between a read and a write.
use Rattle.std.specs.Prelude.{ℕ, ◌+◌, ◌*◌, ◌-◌, ◌/◌, ◌%◌, ◌≤◌, ◌<◌, min, ◌≡◌, Bool, true, false, not, ◌&&◌, cond, List, [], ◌∷◌, ◌++◌, length, take, drop, get_or, set}
use Rattle.rules.specs.Chips.{view, chip_of}
use Rattle.rules.specs.Step.{after, answers}
use Rattle.rules.specs.declared.chip.Chip.{Chip}
use Rattle.hexlines.specs.Hex.{lines_of}
use Rattle.step.specs.Runs.{records_of, records_in, joined}
use Rattle.adapter.specs.declared.Printed.{Printed}
use Rattle.adapter.specs.declared.Received.{Received}
use Rattle.adapter.specs.declared.AfterRead.{AfterRead}

-- what one read can bring, behind a piece of a record: 1,025 records, their answers and their lines
abbrev pub input_size : ℕ
input_size = 4100

abbrev pub answers_size : ℕ
answers_size = 16400

abbrev pub text_size : ℕ
text_size = 33825

-- how many records are stepped, and how many of their answers have room for a line
abbrev pub stepped : List ℕ → ℕ
stepped bytes = min (records_in bytes) 1025

abbrev pub printed : List ℕ → List ℕ → ℕ
printed bytes before = min (stepped bytes) (length before / 33)

-- the answers of the records stepped
abbrev pub answered : Chip → List ℕ → List ℕ
answered c bytes = joined (answers (view c) (records_of (stepped bytes) bytes))

pub record IsPrinted (c : Chip) (bytes before now : List ℕ) (r : Printed) : Type 0 where
  pub chip : r.chip ≡ chip_of (after (view c) (records_of (stepped bytes) bytes))
  pub size : r.size ≡ 33 * printed bytes before
  pub text : now ≡ lines_of (printed bytes before) (answered c bytes) ++ drop r.size before

-- how many bytes of those held wait for the next read: the piece of a record, and none at the end, where it is a record
abbrev pub left_over : ℕ → Bool → ℕ
left_over held isEnd = cond isEnd 0 (held % 4)

-- the bytes that can wait: three from a place on, 0 past the end, and a fourth that is always 0
abbrev pub tail_from : List ℕ → ℕ → List ℕ
tail_from bytes from = get_or bytes from 0 ∷ get_or bytes (from + 1) 0 ∷ get_or bytes (from + 2) 0 ∷ 0 ∷ []

-- what a failed read leaves: nothing held, and no further read
abbrev pub nothing : Received
nothing = record { held = 0; is_end = true }

-- the bytes kept stay in front, those held have room, and a new one is among them exactly before the end
pub record IsReceived (kept : ℕ) (before now : List ℕ) (r : Received) : Type 0 where
  pub front : take kept now ≡ take kept before
  pub held : r.held ≤ length now
  pub grown : r.is_end ≡ false → kept < r.held
  pub ended : r.is_end ≡ true → r.held ≤ kept

-- the bytes that waited, in front of the input
abbrev pub with_front : List ℕ → List ℕ → List ℕ
with_front waited input = set (set (set input 0 (get_or waited 0 0)) 1 (get_or waited 1 0)) 2 (get_or waited 2 0)

-- where the whole records of what is held end, and those records
abbrev pub whole_end : Received → ℕ
whole_end r = r.held - left_over r.held r.is_end

abbrev pub whole : Received → List ℕ → List ℕ
whole r input = take (whole_end r) input

-- the lines of all that were stepped, as many as there is room for
abbrev pub printed_as : Chip → List ℕ → List ℕ → Printed
printed_as chip bytes before = record { chip = chip; size = 33 * printed bytes before }

-- one turn: what was read, and whether the lines were written, decide all else
pub record IsAfterRead (c : Chip) (waited : List ℕ) (count : ℕ) (input read room filled blank lines : List ℕ) (r : AfterRead) : Type 0 where
  pub received : IsReceived count (with_front waited input) read r.received
  pub shown : IsPrinted c (whole r.received read) blank lines (printed_as r.chip (whole r.received read) blank)
  pub answers : filled ≡ answered c (whole r.received read) ++ drop (16 * stepped (whole r.received read)) room
  pub left : r.left.bytes ≡ tail_from (take r.received.held read) (whole_end r.received)
  pub kept : r.left.count ≡ left_over r.received.held r.received.is_end
  pub more : r.more ≡ (r.is_written && not r.received.is_end)
