use Rattle.datapath.proofs.Heads.{number_laid}
use Rattle.datapath.proofs.counts.counter_stored.Goals as goal

pub returns : goal.returns
returns c =
    number_laid _ c.requires.packed c.args.n
    c.counter_byte.ensures c.counter_byte-2.ensures c.counter_byte-3.ensures
