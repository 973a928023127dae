use mathlib.Core.Path.{◌∙◌}
use Rattle.rules.proofs.Phases.{same_phase}
use Rattle.rules.specs.Sequencer.{withdrawn}
use Rattle.rules.specs.declared.chip.Phase.TheVariants.{Waiting}
use Rattle.sequencer.proofs.resolved.withdrawn.Goals as goal

pub returns : goal.returns
unfolding withdrawn
returns c = let e = c.eq.ensures ∙ same_phase Waiting _ in cc
