use Rattle.rules.specs.Chips.{chip_of}
use Rattle.rules.specs.State.{power_reset}
use Rattle.step.proofs.reset.power_reset.Goals as goal

pub returns : goal.returns
unfolding chip_of power_reset
returns c = cc
