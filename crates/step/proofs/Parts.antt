-- A packed state in range: the chip value is tidy, and stands for that state.
use mathlib.Core.Path.{◌≡◌, ap, sym, ◌∙◌}
use Rattle.rules.specs.State.{State}
use Rattle.rules.specs.Chips.{view, chip_of}
use Rattle.rules.specs.Ranges.{InRange, Tidy}
use Rattle.rules.specs.declared.chip.Chip.{Chip}
use Rattle.rules.proofs.Packing.{read_back}

module _ (s : State) (c : Chip) (i : InRange s) (e : c ≡ chip_of s) where
  pub view_of : view c ≡ s
  view_of = ap view e ∙ read_back s i

  pub tidy_of : Tidy c
  tidy_of = record { packed = e ∙ ap chip_of (sym view_of); range = rw view_of i }
