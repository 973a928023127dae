use mathlib.Core.Path.{refl, ap, ◌∙◌}
use native.Mathlib.Omega.{arith}
use Rattle.rules.specs.Map.{table, read_at}
use Rattle.rules.specs.declared.map.Register.TheVariants.{SCSIDAT}
use Rattle.rules.specs.declared.records.Event.TheVariants.{Read}
use Rattle.image.specs.Image.{image_of, state_at}
use Rattle.image.proofs.AtPlaces.{at_bus}
use Rattle.effects.proofs.ImageOnward.{acked_is}
use Rattle.effects.proofs.ReadLaws.{read_done, unheld_image, read_acts}
use Rattle.effects.proofs.ReadParts.{latch_left, latch_value, latch_accessed}
use Rattle.effects.proofs.scsidat.latch_read.Goals as goal

pub status_kept_in-requires : goal.status_kept_in-requires
unfolding read_at table
status_kept_in-requires c =
    let m = c.args.m.now in
    let acked = acked_is m (Read 0x06) (latch_accessed m c.io_seen.ensures c.spiordy.ensures) c.automatic_ack-acked.ensures in
    unheld_image c.requires 0x06 (omega arith) (read_done c.requires 0x06 SCSIDAT refl refl)
    (c.ack_by.ensures ∙ ap image_of (latch_left (state_at m) acked))

pub returns : goal.returns
unfolding read_at table
returns c =
    let m = c.args.m.now in
    let acked = acked_is m (Read 0x06) (latch_accessed m c.io_seen.ensures c.spiordy.ensures) c.automatic_ack-acked.ensures in
    read_acts c.requires 0x06 (omega arith) (read_done c.requires 0x06 SCSIDAT refl refl)
    (c.ack_by.ensures ∙ ap image_of (latch_left (state_at m) acked))
    (latch_accessed m c.io_seen.ensures c.spiordy.ensures) acked c.status_kept_in.ensures (c.from-value.ensures ∙ c.data_seen.ensures ∙ at_bus m c.requires ∙ latch_value (state_at m)) refl
