use mathlib.Core.Path.{◌∙◌}
use mathlib.Core.Bool.{false, not, ◌&&◌}
use lib.Dec.{eqb, leb}
use Rattle.rules.specs.Numbers.{byte_of}
use Rattle.rules.specs.Reads.{dmastat}
use Rattle.image.proofs.AtPlaces.{at_host}
use Rattle.reads.proofs.status.dmastat.Goals as goal

pub returns : goal.returns
unfolding dmastat
returns c =
    let n = at_host c.args.m.now c.requires in
    c.byte_of.ensures
    ∙ (λ i. byte_of false (not (c.write.ensures i) && leb 2 (n i)) (c.instat.ensures i) (eqb (n i) 128) (eqb (n i) 0) (leb 64 (n i)) false false)
