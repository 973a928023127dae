use Rattle.settling.proofs.Exits.{moves_settle}
use Rattle.settling.proofs.moving.Goals as goal

pub returns : goal.returns
returns c =
    rw c.empty.ensures
    (moves_settle c.args.m.now c.requires.image c.conditions_of-c.result c.conditions_of-c.ensures c.moved.new.m c.moved.result c.moved.ensures c.requires.m_value)
