use mathlib.Core.Path.{◌∙◌}
use Rattle.rules.proofs.Phases.{same_phase}
use Rattle.rules.specs.Sequencer.{answers}
use Rattle.rules.specs.declared.chip.Phase.TheVariants.{Idle, Waiting}
use Rattle.sequencer.proofs.resolved.answers.Goals as goal

pub returns : goal.returns
unfolding answers
returns c =
    let e = c.eq.ensures ∙ same_phase Idle _ in
    let f = c.eq-2.ensures ∙ same_phase Waiting _ in
    cc
