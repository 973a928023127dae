use mathlib.Core.Path.{sym}
use Rattle.rules.specs.Records.{well_formed}
use Rattle.wire.proofs.Formed.{by_test}
use Rattle.wire.proofs.drive_of.Goals as goal

pub returns-then-p-offset : goal.returns-then-p-offset
unfolding well_formed
returns-then-p-offset c = rw c.lines_of.ensures (by_test 5 c.args.offset c.args.p (sym c.if-p-offset.true))

pub returns-else-p-offset : goal.returns-else-p-offset
unfolding well_formed
returns-else-p-offset c = by_test 5 c.args.offset c.args.p (sym c.if-p-offset.false)
