use Rattle.rules.specs.Chips.{path_of}
use Rattle.rules.specs.State.{power_reset}
use Rattle.step.proofs.reset.path_reset.Goals as goal

pub returns : goal.returns
unfolding path_of power_reset
returns c = cc
