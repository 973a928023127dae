use Rattle.writes.proofs.StackStores.{popped_image}
use Rattle.writes.proofs.stacking.popped.Goals as goal

pub returns : goal.returns
returns c =
    rw c.next_of.ensures (popped_image c.args.m.now c.requires c.enstk32-enstk32.ensures)
