use mathlib.Core.Path.{refl}
use mathlib.Core.Bool.{false}
use Rattle.rules.specs.declared.records.Event.TheVariants.{WordRead}
use Rattle.effects.proofs.StatesOfA.{start, there, sequenced, stored, flagged, acts}
use Rattle.effects.proofs.Effects.{leaves}
use Rattle.effects.proofs.writing.selection_written.Goals as goal

pub sequencer_written_in-requires : goal.sequencer_written_in-requires
sequencer_written_in-requires c = record { image = c.requires.image; written = c.requires.selects.written }

pub stored-requires : goal.stored-requires
stored-requires c =
    record { image = there (sequenced (leaves c.requires.selects.does c.requires.image c.ranges.value.fits) (start c.requires.image) c.sequencer_written_in.ensures); written = c.requires.selects.written }

pub done-requires : goal.done-requires
done-requires c =
    let l = leaves c.requires.selects.does c.requires.image c.ranges.value.fits in
    there (stored l (sequenced l (start c.requires.image) c.sequencer_written_in.ensures) refl c.stored.ensures)

pub returns : goal.returns
returns c =
    let l = leaves c.requires.selects.does c.requires.image c.ranges.value.fits in
    let i = stored l (sequenced l (start c.requires.image) c.sequencer_written_in.ensures) refl c.stored.ensures in
    acts l (flagged i false false WordRead c.done.ensures.m_after) c.done.ensures.value
