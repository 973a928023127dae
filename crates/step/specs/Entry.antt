-- A chip value at the entry: its one form, and its state in range. The state is in range whatever the value, since its view is.
use Rattle.std.specs.Prelude.{◌≡◌}
use Rattle.rules.specs.Chips.{path_view, path_of, stack_view, view, chip_of}
use Rattle.rules.specs.Ranges.{TransferFits, StackFits, InRange}
use Rattle.rules.specs.declared.chip.DataPath.{DataPath}
use Rattle.rules.specs.declared.chip.Stack.{Stack}
use Rattle.rules.specs.declared.chip.Chip.{Chip}

pub record PathEntered (p r : DataPath) : Type 0 where
  pub packed : r ≡ path_of (path_view p)
  pub range : TransferFits (path_view p)

pub record StackEntered (k r : Stack) : Type 0 where
  pub packed : r ≡ stack_view k
  pub range : StackFits (stack_view k)

pub record Entered (c r : Chip) : Type 0 where
  pub packed : r ≡ chip_of (view c)
  pub range : InRange (view c)
