use mathlib.Core.Path.{◌∙◌}
use lib.ListN.{get_or}
use Rattle.image.specs.Image.{state_at}
use Rattle.image.specs.Layout.{scsi_count_place}
use Rattle.datapath.proofs.Fronts.{placed_at}
use Rattle.datapath.proofs.Heads.{scsi_counted}
use Rattle.datapath.proofs.Ends.{scsi_one_more}
use Rattle.datapath.proofs.scsi.scsi_pushed.Goals as goal

pub returns : goal.returns
returns c =
    let m = c.args.m.now in
    let p = placed_at m c.requires.image in
    c.byte_stored.ensures ∙ scsi_one_more (state_at m) c.requires.image.packed p (get_or m scsi_count_place 0) c.args.b (scsi_counted (state_at m) c.requires.image.packed p) c.requires.scsi_count_place_bound
