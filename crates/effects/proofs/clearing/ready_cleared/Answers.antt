use mathlib.Core.Path.{refl}
use mathlib.Core.Bool.{false}
use Rattle.rules.specs.Map.{table, written_at}
use Rattle.rules.specs.declared.records.Event.TheVariants.{Write, WordRead}
use Rattle.effects.proofs.StatesOfA.{start, there, sequenced, flagged, unlatched, acts}
use Rattle.effects.proofs.Effects.{leaves, clrsint0}
use Rattle.effects.proofs.clearing.ready_cleared.Goals as goal

pub sequencer_written_in-requires : goal.sequencer_written_in-requires
unfolding table written_at
sequencer_written_in-requires c = record { image = c.requires; written = refl }

pub status_kept_in-requires : goal.status_kept_in-requires
status_kept_in-requires c =
    there (sequenced (leaves clrsint0 c.requires c.ranges.value.fits) (start c.requires) c.sequencer_written_in.ensures)

pub latches_written_in-requires : goal.latches_written_in-requires
latches_written_in-requires c =
    let i = sequenced (leaves clrsint0 c.requires c.ranges.value.fits) (start c.requires) c.sequencer_written_in.ensures in
    there (flagged i false false WordRead c.status_kept_in.ensures)

pub returns : goal.returns
returns c =
    let l = leaves clrsint0 c.requires c.ranges.value.fits in
    let i = flagged (sequenced l (start c.requires) c.sequencer_written_in.ensures) false false WordRead c.status_kept_in.ensures in
    acts l (unlatched i (Write 0x0B c.args.value) c.latches_written_in.ensures) refl
