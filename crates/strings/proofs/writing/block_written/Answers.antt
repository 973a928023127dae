use Rattle.strings.proofs.Settled.{image_filled, block_filled}
use Rattle.strings.proofs.writing.block_written.Goals as goal

pub settled_in-requires : goal.settled_in-requires
settled_in-requires c =
    let a = c.args in
    image_filled c.requires.image a.bytes.now c.requires.bytes a.from a.n c.requires.n_len_bound c.host_filled.ensures

pub returns : goal.returns
returns c =
    let a = c.args in
    block_filled c.requires.image a.bytes.now c.requires.bytes a.from a.n c.requires.n_len_bound c.host_filled.ensures c.settled_in.ensures
