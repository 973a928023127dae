use mathlib.Core.Path.{refl}
use mathlib.Core.Bool.{false}
use Rattle.rules.specs.declared.records.Event.TheVariants.{Write}
use Rattle.effects.proofs.StatesOfA.{start, flagged, acts}
use Rattle.effects.proofs.Effects.{leaves, clrserr}
use Rattle.effects.proofs.clearing.errors_cleared.Goals as goal

pub returns : goal.returns
returns c =
    let i = flagged (start c.requires) false false (Write 0x0F c.args.value) c.status_written_in.ensures in
    acts (leaves clrserr c.requires c.ranges.value.fits) i refl
