use mathlib.Core.Path.{◌≡◌, ◌∙◌}
use mathlib.Core.Bool.{Bool, ◌&&◌, ◌||◌, cond}
use Rattle.rules.proofs.Phases.{same_phase}
use Rattle.rules.specs.State.{State}
use Rattle.rules.specs.Seen.{is_phase}
use Rattle.rules.specs.Sequencer.{connects, selected}
use Rattle.rules.specs.declared.chip.Sequenced.{Sequenced}
use Rattle.rules.specs.declared.chip.Phase.TheVariants.{Selecting, Holding}
use Rattle.image.specs.Image.{state_at}
use Rattle.sequencer.proofs.resolved.selected.Goals as goal

-- by the tests, as the code has them
by_tests : (s : State) (x : Sequenced) {a b d : Bool} → a ≡ is_phase Selecting x.sequencer.phase → b ≡ is_phase Holding x.sequencer.phase → d ≡ s.lines.bsy → cond ((a || b) && d) (connects s x) x ≡ selected s x
unfolding selected
by_tests s x e f g = λ i. cond ((e i || f i) && g i) (connects s x) x

pub returns-else-test : goal.returns-else-test
returns-else-test c =
    rw c.if-test.false at (by_tests (state_at c.args.m.now) c.args.x (c.eq.ensures ∙ same_phase Selecting _) (c.eq-2.ensures ∙ same_phase Holding _) c.bsy_of_others.ensures)
