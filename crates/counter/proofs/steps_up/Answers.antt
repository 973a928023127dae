use mathlib.Core.Path.{sym}
use native.Mathlib.Omega.{arith}
use Rattle.counter.proofs.Steps.{up_steps}
use Rattle.counter.proofs.steps_up.Goals as goal

pub returns : goal.returns
returns c = sym (up_steps c.args.k c.args.n c.requires)

pub overflow_add-sum : goal.overflow_add-sum
overflow_add-sum c = omega (arith, c.requires, c.ranges.k.fits)
