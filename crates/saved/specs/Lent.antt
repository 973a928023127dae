-- A CHIP IN A LENT SLICE: what is written into one and what is read from one, of any length.
use Rattle.std.specs.Prelude.{ℕ, ◌≡◌, true, false, cond, List, Result, Ok, Err}
use Rattle.rules.specs.State.{power_reset}
use Rattle.rules.specs.Chips.{view, chip_of}
use Rattle.rules.specs.declared.chip.Chip.{Chip}
use Rattle.image.specs.Image.{IsImage, image_of, state_at}
use Rattle.saved.specs.Accepted.{length_right, accepted}
use Rattle.saved.specs.declared.slices.Refused.{Refused}
use Rattle.saved.specs.declared.slices.Unread.{Unread}
use Rattle.saved.specs.declared.slices.Refused.TheVariants.{OtherLength, NotAccepted}

-- "the image if the slice has the right length, else nothing is written"
unfoldable pub chip_written : Chip → List ℕ → List ℕ
chip_written c out = cond (length_right out) (image_of (view c)) out

-- "and the answer says so"
pub record IsWritten (c : Chip) (before after : List ℕ) (told : Result (Unit {0}) Refused) : Type 0 where
  pub fits : told ≡ cond (length_right before) (Ok tt) (Err OtherLength)
  pub bytes : after ≡ chip_written c before

-- why a slice that is not accepted is refused
abbrev pub refusal : List ℕ → Refused
refusal image = cond (length_right image) NotAccepted OtherLength

-- beside a refusal stands the chip of power reset
abbrev pub refused_chip : Refused → Unread
refused_chip why = record { why = why; chip = chip_of power_reset }

-- "the chip, or the refusal"
unfoldable pub chip_read : List ℕ → Result Chip Unread
chip_read image = cond (accepted image) (Ok (chip_of (state_at image))) (Err (refused_chip (refusal image)))

-- the array where a slice is refused: as it was where the length is another, else the bytes of the slice
abbrev pub left_by : List ℕ → List ℕ → List ℕ
left_by image before = cond (length_right image) image before

-- after is the image that a slice holds, or the slice is refused
abbrev pub IsTaken : List ℕ → List ℕ → List ℕ → Result (Unit {0}) Refused → Type 0
IsTaken image before after (Ok done) = (accepted image ≡ true) × (after ≡ image) × IsImage after
IsTaken image before after (Err e) = (accepted image ≡ false) × (e ≡ refusal image) × (after ≡ left_by image before)
