use mathlib.Core.Bool.{false}
use Rattle.rules.specs.declared.records.Event.TheVariants.{WordRead}
use Rattle.effects.proofs.StatesOfA.{start, there, stacked, flagged, acts}
use Rattle.effects.proofs.Effects.{leaves, stack}
use Rattle.effects.proofs.writing.stack_pushed.Goals as goal

pub done-requires : goal.done-requires
done-requires c =
    there (stacked (leaves stack c.requires c.ranges.value.fits) (start c.requires) c.pushed.ensures)

pub returns : goal.returns
returns c =
    let l = leaves stack c.requires c.ranges.value.fits in
    acts l (flagged (stacked l (start c.requires) c.pushed.ensures) false false WordRead c.done.ensures.m_after) c.done.ensures.value
