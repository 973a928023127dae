use native.Mathlib.Omega.{arith}
use Rattle.datapath.proofs.Fronts.{placed_at}
use Rattle.datapath.proofs.Heads.{low_up_by}
use Rattle.datapath.proofs.counts.stepped_up_by.Goals as goal

pub returns-then-low-n : goal.returns-then-low-n
returns-then-low-n c =
    let a = c.args in
    let room = c.if-low-n.true in
    let both = low_up_by _ c.requires.packed (placed_at a.m.now c.requires) a.n (omega (arith, room, c.ranges.n.fits)) in record { value = both.0; m_after = both.1 }
