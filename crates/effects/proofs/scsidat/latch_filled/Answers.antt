use mathlib.Core.Path.{refl}
use Rattle.rules.specs.Map.{table, written_at}
use Rattle.rules.specs.declared.records.Event.TheVariants.{Write, WordRead}
use Rattle.effects.proofs.ImageOnward.{acked_is}
use Rattle.effects.proofs.StatesOfA.{start, there, carried, stored, flagged, acts}
use Rattle.effects.proofs.Effects.{fills, latch_accessed}
use Rattle.effects.proofs.scsidat.latch_filled.Goals as goal

pub stored-requires : goal.stored-requires
unfolding table written_at
stored-requires c =
    let p = latch_accessed c.args.m.now c.args.value c.io_seen.ensures c.spiordy.ensures in
    let l = fills c.requires c.ranges.value.fits p (acked_is c.args.m.now (Write 0x06 c.args.value) p c.automatic_ack-acked.ensures) in
    record { image = there (carried l (start c.requires) c.ack_by.ensures); written = refl }

pub status_kept_in-requires : goal.status_kept_in-requires
status_kept_in-requires c =
    let p = latch_accessed c.args.m.now c.args.value c.io_seen.ensures c.spiordy.ensures in
    let l = fills c.requires c.ranges.value.fits p (acked_is c.args.m.now (Write 0x06 c.args.value) p c.automatic_ack-acked.ensures) in
    there (stored l (carried l (start c.requires) c.ack_by.ensures) refl c.stored.ensures)

pub returns : goal.returns
returns c =
    let p = latch_accessed c.args.m.now c.args.value c.io_seen.ensures c.spiordy.ensures in
    let l = fills c.requires c.ranges.value.fits p (acked_is c.args.m.now (Write 0x06 c.args.value) p c.automatic_ack-acked.ensures) in
    let i = stored l (carried l (start c.requires) c.ack_by.ensures) refl c.stored.ensures in
    acts l (flagged i _ _ WordRead c.status_kept_in.ensures) refl
