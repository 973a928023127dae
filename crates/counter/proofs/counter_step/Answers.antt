use mathlib.Core.Path.{ap}
use Rattle.rules.specs.Counter.{counter_step}
use Rattle.counter.proofs.Steps.{said}
use Rattle.counter.proofs.counter_step.Goals as goal

pub returns : goal.returns
unfolding counter_step said
returns c = ap said c.stepped_to-value.ensures
