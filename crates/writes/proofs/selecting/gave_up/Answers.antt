use mathlib.Core.Path.{ap, ◌∙◌}
use mathlib.Core.Bool.{not}
use Rattle.rules.specs.declared.chip.Phase.TheVariants.{Selecting}
use Rattle.rules.proofs.Phases.{same_phase}
use Rattle.writes.proofs.selecting.gave_up.Goals as goal

pub returns : goal.returns
returns c = rw (c.ne.ensures ∙ ap not (same_phase Selecting c.args.q.phase))
