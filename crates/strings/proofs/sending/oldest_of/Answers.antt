use mathlib.Core.Path.{refl}
use Rattle.strings.proofs.Oldest.{oldest_padded}
use Rattle.strings.proofs.Through.{oldest_sent}
use Rattle.strings.proofs.sending.oldest_of.Goals as goal

pub returns : goal.returns
returns c =
    let a = c.args in
    let i = c.requires.image in
    let h = c.requires.n_in_bounds in
    oldest_sent a.m.now i a.n h _ (oldest_padded a.m.now i a.n h _ c.copy_from_slice.new.self c.copy_from_slice.ensures.after c.requires.n_bound refl)
