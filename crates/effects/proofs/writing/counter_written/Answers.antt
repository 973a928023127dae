use mathlib.Core.Bool.{false}
use Rattle.rules.specs.declared.records.Event.TheVariants.{WordRead}
use Rattle.effects.proofs.StatesOfA.{start, there, carried, flagged, acts}
use Rattle.effects.proofs.Effects.{leaves, stcnt}
use Rattle.effects.proofs.writing.counter_written.Goals as goal

pub done-requires : goal.done-requires
done-requires c =
    let l = leaves (stcnt c.args.k c.requires.k_bound) c.requires.image c.ranges.value.fits in
    there (carried l (start c.requires.image) c.counter_byte_written.ensures)

pub returns : goal.returns
returns c =
    let l = leaves (stcnt c.args.k c.requires.k_bound) c.requires.image c.ranges.value.fits in
    let i = carried l (start c.requires.image) c.counter_byte_written.ensures in
    acts l (flagged i false false WordRead c.done.ensures.m_after) c.done.ensures.value
