use borrow.Author.Tests.{ne_eqb}
use Rattle.sequencer.proofs.skipping.ticks_after.Goals as goal

pub returns-else-k-eq0 : goal.returns-else-k-eq0
returns-else-k-eq0 c = rw (ne_eqb c.args.k 0 c.if-k-eq0.false) c.ticks_in.ensures
