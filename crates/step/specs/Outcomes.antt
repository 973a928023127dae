-- What a call hands back, and what it leaves in the lent buffer.
use Rattle.std.specs.Prelude.{ℕ, ◌≡◌, List}
use Rattle.rules.specs.Chips.{view, chip_of}
use Rattle.rules.specs.Step.{Called, called}
use Rattle.rules.specs.declared.chip.Chip.{Chip}
use Rattle.step.specs.declared.Returned.{Returned}

-- "The call also returns the code"
unfoldable pub returned_of : Called → Returned
returned_of r = record { chip = chip_of r.state; code = r.code }

-- the call: what it returns, and what it leaves in the lent buffer
pub record IsStep (c : Chip) (bytes before buffer : List ℕ) (r : Returned) : Type 0 where
  pub returns : r ≡ returned_of (called (view c) bytes before)
  pub answer : buffer ≡ (called (view c) bytes before).buffer
