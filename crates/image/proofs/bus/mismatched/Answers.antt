use borrow.Author.Tests.{eq-eqb, ne_eqb}
use Rattle.image.proofs.Phases.{mismatched_by}
use Rattle.image.proofs.bus.mismatched.Goals as goal

pub returns-then-m : goal.returns-then-m
returns-then-m c =
    let m = c.args.m.now in
    rw (mismatched_by m, ne_eqb _ _ c.if-m.true) c.connected.ensures

pub returns-else-m : goal.returns-else-m
returns-else-m c =
    let m = c.args.m.now in
    rw (mismatched_by m, eq-eqb _ _ c.if-m.false)
