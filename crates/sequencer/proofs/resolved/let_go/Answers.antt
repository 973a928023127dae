use mathlib.Core.Path.{◌∙◌}
use Rattle.rules.proofs.Phases.{same_phase}
use Rattle.rules.specs.Sequencer.{let_go}
use Rattle.rules.specs.declared.chip.Phase.TheVariants.{Answered}
use Rattle.sequencer.proofs.resolved.let_go.Goals as goal

pub returns : goal.returns
unfolding let_go
returns c = let e = c.eq.ensures ∙ same_phase Answered _ in cc
