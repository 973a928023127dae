use mathlib.Core.Path.{◌∙◌}
use Rattle.rules.proofs.Phases.{same_phase}
use Rattle.rules.specs.Sequencer.{uncalled}
use Rattle.rules.specs.declared.chip.Phase.TheVariants.{Answering}
use Rattle.sequencer.proofs.resolved.uncalled.Goals as goal

pub returns : goal.returns
unfolding uncalled
returns c = let e = c.eq.ensures ∙ same_phase Answering _ in cc
