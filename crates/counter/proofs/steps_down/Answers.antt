use mathlib.Core.Path.{sym}
use native.Mathlib.Omega.{arith}
use Rattle.counter.proofs.Steps.{down_steps}
use Rattle.counter.proofs.steps_down.Goals as goal

pub returns : goal.returns
returns c = sym (down_steps c.args.k c.args.n c.requires (omega (arith, c.ranges.k.fits)))
