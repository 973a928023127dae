use Rattle.map.proofs.side.Goals as goal

pub returns-then-write : goal.returns-then-write
returns-then-write c = rw c.if-write.true

pub returns-else-write : goal.returns-else-write
returns-else-write c = rw c.if-write.false
