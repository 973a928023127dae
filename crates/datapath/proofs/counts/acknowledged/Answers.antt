use Rattle.datapath.proofs.Heads.{on}
use Rattle.datapath.proofs.counts.acknowledged.Goals as goal

pub returns : goal.returns
returns c = on _ c.counter_stepped-passed.ensures.m_after
