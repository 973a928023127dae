use mathlib.Core.Path.{◌∙◌}
use mathlib.Core.Bool.{◌||◌}
use Rattle.image.specs.Image.{state_at}
use Rattle.edges.specs.Components.{stored_b}
use Rattle.edges.proofs.Placed.{place_of, path_stored, room_after, offsets_placed, path_parts}
use Rattle.edges.proofs.after.path_in.Goals as goal

pub scsi_in-requires : goal.scsi_in-requires
scsi_in-requires c =
    place_of c.args.byte c.requires.image c.requires.room

pub offset_in-requires : goal.offset_in-requires
offset_in-requires c =
    let a = c.args in
    λ h. room_after a.g.stored a.byte (state_at a.m.now) (path_stored a.byte c.requires.image c.requires.room c.scsi_in.ensures) (c.requires.room.within h)

pub returns : goal.returns
returns c =
    let g = c.args.g in
    let b = c.args.byte in
    let s = state_at c.args.m.now in
    offsets_placed (g.rstrises || g.free) g.within (g.reqfalls || g.rstrises || g.free)
    (stored_b g.stored b s) (path_stored b c.requires.image c.requires.room c.scsi_in.ensures) c.offset_in.ensures
    ∙ path_parts g b s
