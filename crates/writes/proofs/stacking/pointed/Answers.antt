use Rattle.writes.proofs.StackStores.{pointed_image}
use Rattle.writes.proofs.stacking.pointed.Goals as goal

pub returns : goal.returns
returns c = pointed_image c.args.value c.args.m.now c.requires
