use mathlib.Core.Path.{◌∙◌}
use Rattle.datapath.proofs.Fronts.{placed_at}
use Rattle.datapath.proofs.Heads.{number}
use Rattle.datapath.proofs.counts.counter_in.Goals as goal

pub returns : goal.returns
returns c =
    c.number_of.ensures ∙ number _ c.requires.packed (placed_at c.args.m.now c.requires)
