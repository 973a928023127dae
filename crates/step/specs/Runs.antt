-- A run of records in one lent slice, "four each (a last piece of 1 to 3 bytes is a record too)", and of answers in another.
use Rattle.std.specs.Prelude.{ℕ, zero, suc, ◌+◌, ◌*◌, ◌/◌, min, ◌≡◌, List, [], ◌∷◌, ◌++◌, length, take, drop}
use Rattle.rules.specs.Chips.{view, chip_of}
use Rattle.rules.specs.Step.{step, answer, after, answers}
use Rattle.rules.specs.declared.chip.Chip.{Chip}
use Rattle.image.specs.Image.{image_of, state_at}
use Rattle.step.specs.declared.Ran.{Ran}

-- the first n records of a slice
abbrev pub records_of : ℕ → List ℕ → List (List ℕ)
records_of zero bytes = []
records_of (suc n) bytes = take 4 bytes ∷ records_of n (drop 4 bytes)

-- how many records a slice holds
abbrev pub records_in : List ℕ → ℕ
records_in bytes = (length bytes + 3) / 4

-- how many are stepped: as many as there is room for whole answers
abbrev pub stepped_in : List ℕ → List ℕ → ℕ
stepped_in bytes buffer = min (records_in bytes) (length buffer / 16)

-- lists one after the other
abbrev pub joined : List (List ℕ) → List ℕ
joined [] = []
joined (l ∷ ls) = l ++ joined ls

-- record i of a slice
abbrev pub record_at : ℕ → List ℕ → List ℕ
record_at i bytes = take 4 (drop (4 * i) bytes)

-- one of them on an image: the image that record i leaves, and its answer in its place
pub record IsRecordAnswered (m bytes before : List ℕ) (i : ℕ) (n buffer : List ℕ) : Type 0 where
  pub image : n ≡ image_of (step (state_at m) (record_at i bytes)).state
  pub answers : buffer ≡ (take (16 * i) before ++ answer (state_at m) (record_at i bytes)) ++ drop (16 * i + 16) before

-- the single steps one after another on an image: the image they leave, how many, and their answers with the rest of the buffer as it was
pub record IsRunOver (m bytes before n buffer : List ℕ) (r : ℕ) : Type 0 where
  pub count : r ≡ stepped_in bytes before
  pub image : n ≡ image_of (after (state_at m) (records_of (stepped_in bytes before) bytes))
  pub answers : buffer ≡ joined (answers (state_at m) (records_of (stepped_in bytes before) bytes)) ++ drop (16 * stepped_in bytes before) before

-- the same of a chip by value: the chip they leave, how many, and their answers with the rest of the buffer as it was
pub record IsRun (c : Chip) (bytes before buffer : List ℕ) (r : Ran) : Type 0 where
  pub count : r.count ≡ stepped_in bytes before
  pub chip : r.chip ≡ chip_of (after (view c) (records_of (stepped_in bytes before) bytes))
  pub answers : buffer ≡ joined (answers (view c) (records_of (stepped_in bytes before) bytes)) ++ drop (16 * stepped_in bytes before) before
