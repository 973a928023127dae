use mathlib.Core.Path.{◌∙◌}
use Rattle.rules.proofs.Phases.{same_phase}
use Rattle.rules.specs.Sequencer.{forestalled}
use Rattle.rules.specs.declared.chip.Phase.TheVariants.{Arbitrating}
use Rattle.sequencer.proofs.resolved.forestalled.Goals as goal

pub returns : goal.returns
unfolding forestalled
returns c = let e = c.eq.ensures ∙ same_phase Arbitrating _ in cc
