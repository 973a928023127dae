use mathlib.Core.Path.{ap, ◌∙◌}
use lib.ListN.{get_or}
use Rattle.image.specs.Image.{state_at}
use Rattle.image.specs.Layout.{offset_place}
use Rattle.registers.specs.OffsetCount.{sstat3_of}
use Rattle.registers.proofs.OffsetCount.{sstat3_read}
use Rattle.image.proofs.AtPlaces.{at_scsi}
use Rattle.reads.proofs.status.sstat3.Goals as goal

pub returns : goal.returns
unfolding state_at
returns c =
    let m = c.args.m.now in
    let i = c.requires in
    c.sstat3.ensures ∙ ap (sstat3_of (get_or m offset_place 0)) (at_scsi m i) ∙ sstat3_read (state_at m) i.range.transfer.offset i.range.transfer.scsi
