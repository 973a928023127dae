use borrow.Author.Tests.{ne_eqb}
use Rattle.rules.specs.Events.{writes, value_of}
use Rattle.rules.specs.StepA.{clears_latch, noted_a}
use Rattle.writes.proofs.selecting.noted.Goals as goal

pub returns-then-clears : goal.returns-then-clears
unfolding noted_a clears_latch writes value_of
returns-then-clears c = rw c.if-clears.true

pub returns : goal.returns
unfolding noted_a clears_latch writes value_of
returns c = rw (ne_eqb _ 1 c.if-clears.false)
