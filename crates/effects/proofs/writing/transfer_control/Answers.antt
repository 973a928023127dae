use mathlib.Core.Path.{refl}
use mathlib.Core.Bool.{false}
use Rattle.rules.specs.Map.{table, written_at}
use Rattle.rules.specs.declared.records.Event.TheVariants.{WordRead}
use Rattle.effects.proofs.Cleared.{channel_image, both_cleared}
use Rattle.effects.proofs.StatesOfA.{start, there, carried, stored, flagged, acts}
use Rattle.effects.proofs.Effects.{leaves, sxfrctl0}
use Rattle.effects.proofs.writing.transfer_control.Goals as goal

pub counter_by-requires : goal.counter_by-requires
counter_by-requires c =
    channel_image c.args.value c.requires c.channel_by.ensures

pub stored-requires : goal.stored-requires
unfolding table written_at
stored-requires c =
    record { image = there (carried (leaves sxfrctl0 c.requires c.ranges.value.fits) (start c.requires) (both_cleared c.args.value c.requires c.channel_by.ensures c.counter_by.ensures)); written = refl }

pub done-requires : goal.done-requires
done-requires c =
    let l = leaves sxfrctl0 c.requires c.ranges.value.fits in
    there (stored l (carried l (start c.requires) (both_cleared c.args.value c.requires c.channel_by.ensures c.counter_by.ensures)) refl c.stored.ensures)

pub returns : goal.returns
returns c =
    let l = leaves sxfrctl0 c.requires c.ranges.value.fits in
    let i = stored l (carried l (start c.requires) (both_cleared c.args.value c.requires c.channel_by.ensures c.counter_by.ensures)) refl c.stored.ensures in
    acts l (flagged i false false WordRead c.done.ensures.m_after) c.done.ensures.value
