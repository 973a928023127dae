use mathlib.Core.Path.{refl}
use mathlib.Core.Bool.{false}
use Rattle.rules.specs.Events.{ticks_of}
use Rattle.rules.specs.Reads.{value_read}
use Rattle.rules.specs.declared.records.Event.TheVariants.{WordRead}
use Rattle.effects.proofs.Driven.{leaves_ticked}
use Rattle.effects.proofs.StatesOfA.{start, flagged, acts_with}
use Rattle.effects.proofs.driving.ticked.Goals as goal

pub returns : goal.returns
unfolding value_read ticks_of
returns c =
    acts_with (leaves_ticked c.requires.image c.requires.n_bound) refl refl (flagged (start c.requires.image) false false WordRead c.status_kept_in.ensures) refl
