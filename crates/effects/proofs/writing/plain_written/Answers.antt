use mathlib.Core.Path.{refl}
use mathlib.Core.Bool.{false}
use Rattle.rules.specs.declared.records.Event.TheVariants.{WordRead}
use Rattle.effects.proofs.StatesOfA.{start, there, stored, flagged, acts}
use Rattle.effects.proofs.Effects.{leaves}
use Rattle.effects.proofs.writing.plain_written.Goals as goal

pub done-requires : goal.done-requires
done-requires c =
    there (stored (leaves c.requires.plain.does c.requires.image c.ranges.value.fits) (start c.requires.image) refl c.stored.ensures)

pub returns : goal.returns
returns c =
    let l = leaves c.requires.plain.does c.requires.image c.ranges.value.fits in
    let i = stored l (start c.requires.image) refl c.stored.ensures in
    acts l (flagged i false false WordRead c.done.ensures.m_after) c.done.ensures.value
