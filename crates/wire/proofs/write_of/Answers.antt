use mathlib.Core.Path.{sym}
use native.Mathlib.Omega.{arith}
use Rattle.rules.specs.Records.{well_formed}
use Rattle.wire.proofs.Formed.{by_test, fits}
use Rattle.wire.proofs.write_of.Goals as goal

pub returns-then-p-offset : goal.returns-then-p-offset
unfolding well_formed
returns-then-p-offset c = by_test 1 c.args.offset c.args.p (sym c.if-p-offset.true)

pub returns-else-p-offset : goal.returns-else-p-offset
unfolding well_formed
returns-else-p-offset c = by_test 1 c.args.offset c.args.p (sym c.if-p-offset.false)

pub overflow_cast-result : goal.overflow_cast-result
unfolding well_formed
overflow_cast-result c = omega (arith, fits 1 c.args.offset c.args.p c.if-p-offset.true)
