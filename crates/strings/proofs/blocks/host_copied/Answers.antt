use Rattle.strings.proofs.Oldest.{oldest_copied}
use Rattle.strings.proofs.blocks.host_copied.Goals as goal

pub returns : goal.returns
returns c =
    let a = c.args in
    oldest_copied a.m.now c.requires.image a.n c.requires.n_in_bounds a.out.now c.copy_from_slice.new.self a.at c.copy_from_slice.ensures.after
