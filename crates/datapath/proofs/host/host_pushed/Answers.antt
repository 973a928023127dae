use mathlib.Core.Path.{◌∙◌}
use Rattle.image.specs.Image.{state_at}
use Rattle.datapath.proofs.Fronts.{placed_at}
use Rattle.datapath.proofs.Ends.{host_one_more}
use Rattle.datapath.proofs.host.host_pushed.Goals as goal

pub returns : goal.returns
returns c =
    let m = c.args.m.now in
    c.byte_put.ensures ∙ host_one_more (state_at m) c.requires.image.packed (placed_at m c.requires.image) c.args.b c.requires.host_count_place_bound
