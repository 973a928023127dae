use native.Mathlib.Omega.{arith}
use Rattle.datapath.proofs.Fronts.{placed_at}
use Rattle.datapath.proofs.Heads.{low_down_by}
use Rattle.datapath.proofs.counts.stepped_down_by.Goals as goal

pub returns-then-low-n : goal.returns-then-low-n
returns-then-low-n c =
    let both = low_down_by _ c.requires.packed (placed_at c.args.m.now c.requires) c.args.n (omega (arith, c.if-low-n.true)) in record { value = both.0; m_after = both.1 }
