use mathlib.Core.Path.{refl}
use Rattle.rules.specs.Chips.{registers_view}
use Rattle.step.proofs.reset.registers_tidied.Goals as goal

pub returns : goal.returns
unfolding registers_view
returns c = refl
