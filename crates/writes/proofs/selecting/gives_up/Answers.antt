use mathlib.Core.Path.{◌∙◌}
use Rattle.rules.specs.Events.{writes, value_of}
use Rattle.rules.specs.Sequencer.{selection_asked}
use Rattle.rules.specs.StepA.{registers_a, gives_up}
use Rattle.rules.specs.declared.chip.Phase.TheVariants.{Selecting, Holding}
use Rattle.image.specs.Image.{state_at}
use Rattle.rules.proofs.Phases.{same_phase}
use Rattle.writes.proofs.selecting.gives_up.Goals as goal

pub returns : goal.returns
unfolding gives_up registers_a selection_asked writes value_of state_at
returns c =
    rw (c.eq.ensures ∙ same_phase Holding _, c.eq-2.ensures ∙ same_phase Selecting _, c.phase-p.ensures)
