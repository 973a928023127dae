use mathlib.Core.Path.{refl, ◌∙◌}
use native.Mathlib.Omega.{arith}
use lib.ListN.{get_or}
use Rattle.image.specs.Image.{state_at}
use Rattle.image.specs.Layout.{scsi_count_place}
use Rattle.datapath.proofs.Fronts.{placed_at}
use Rattle.datapath.proofs.Heads.{scsi_counted}
use Rattle.datapath.proofs.Ends.{scsi_off}
use Rattle.datapath.proofs.scsi.scsi_popped.Goals as goal

pub taken_off-requires-clause-places : goal.taken_off-requires-clause-places
taken_off-requires-clause-places c =
    let p = placed_at c.args.m.now c.requires.image in
    omega (arith, scsi_counted (state_at c.args.m.now) c.requires.image.packed p, p.scsi)

pub returns : goal.returns
returns c =
    let m = c.args.m.now in
    let p = placed_at m c.requires.image in
    let e = c.requires.image.packed in
    let u = scsi_counted (state_at m) e p in
    c.taken_off.ensures ∙ scsi_off (state_at m) e p (get_or m scsi_count_place 0) c.args.k u (omega (arith, u, c.requires.k_bound)) refl
