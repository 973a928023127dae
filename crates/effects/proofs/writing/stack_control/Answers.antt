use mathlib.Core.Path.{refl}
use mathlib.Core.Bool.{false}
use Rattle.rules.specs.Map.{table, written_at}
use Rattle.rules.specs.declared.records.Event.TheVariants.{WordRead}
use Rattle.effects.proofs.StatesOfA.{start, there, stacked, stored, flagged, acts}
use Rattle.effects.proofs.Effects.{leaves, dmacntrl1}
use Rattle.effects.proofs.writing.stack_control.Goals as goal

pub stored-requires : goal.stored-requires
unfolding table written_at
stored-requires c =
    record { image = there (stacked (leaves dmacntrl1 c.requires c.ranges.value.fits) (start c.requires) c.pointed.ensures); written = refl }

pub done-requires : goal.done-requires
done-requires c =
    let l = leaves dmacntrl1 c.requires c.ranges.value.fits in
    there (stored l (stacked l (start c.requires) c.pointed.ensures) refl c.stored.ensures)

pub returns : goal.returns
returns c =
    let l = leaves dmacntrl1 c.requires c.ranges.value.fits in
    let i = stored l (stacked l (start c.requires) c.pointed.ensures) refl c.stored.ensures in
    acts l (flagged i false false WordRead c.done.ensures.m_after) c.done.ensures.value
