use mathlib.Core.Path.{refl}
use Rattle.rules.specs.Chips.{sequencer_view}
use Rattle.step.proofs.reset.sequencer_tidied.Goals as goal

pub returns : goal.returns
unfolding sequencer_view
returns c = refl
