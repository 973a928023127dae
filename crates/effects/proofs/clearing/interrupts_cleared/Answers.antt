use mathlib.Core.Path.{refl}
use mathlib.Core.Bool.{false}
use Rattle.rules.specs.Map.{table, written_at}
use Rattle.rules.specs.declared.records.Event.TheVariants.{Write}
use Rattle.effects.proofs.StatesOfA.{start, there, sequenced, stored, flagged, unlatched, acts}
use Rattle.effects.proofs.Effects.{leaves, clrsint1}
use Rattle.effects.proofs.clearing.interrupts_cleared.Goals as goal

pub sequencer_written_in-requires : goal.sequencer_written_in-requires
unfolding table written_at
sequencer_written_in-requires c = record { image = c.requires; written = refl }

pub stored-requires : goal.stored-requires
unfolding table written_at
stored-requires c =
    record { image = there (sequenced (leaves clrsint1 c.requires c.ranges.value.fits) (start c.requires) c.sequencer_written_in.ensures); written = refl }

pub status_written_in-requires : goal.status_written_in-requires
status_written_in-requires c =
    let l = leaves clrsint1 c.requires c.ranges.value.fits in
    there (stored l (sequenced l (start c.requires) c.sequencer_written_in.ensures) refl c.stored.ensures)

pub latches_written_in-requires : goal.latches_written_in-requires
latches_written_in-requires c =
    let l = leaves clrsint1 c.requires c.ranges.value.fits in
    let i = stored l (sequenced l (start c.requires) c.sequencer_written_in.ensures) refl c.stored.ensures in
    there (flagged i false false (Write 0x0C c.args.value) c.status_written_in.ensures)

pub returns : goal.returns
returns c =
    let e = Write 0x0C c.args.value in
    let l = leaves clrsint1 c.requires c.ranges.value.fits in
    let i = stored l (sequenced l (start c.requires) c.sequencer_written_in.ensures) refl c.stored.ensures in
    let j = flagged i false false e c.status_written_in.ensures in
    acts l (unlatched j e c.latches_written_in.ensures) refl
