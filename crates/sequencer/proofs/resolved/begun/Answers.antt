use mathlib.Core.Path.{◌∙◌}
use Rattle.rules.proofs.Phases.{same_phase}
use Rattle.rules.specs.Sequencer.{begun}
use Rattle.rules.specs.declared.chip.Phase.TheVariants.{Idle}
use Rattle.sequencer.proofs.resolved.begun.Goals as goal

pub returns : goal.returns
unfolding begun
returns c = let e = c.eq.ensures ∙ same_phase Idle _ in cc
