use mathlib.Core.Path.{ap}
use Rattle.rules.specs.Numbers.{even}
use Rattle.parity.proofs.parity_for.Goals as goal

pub returns : goal.returns
returns c = ap even c.ones.ensures
