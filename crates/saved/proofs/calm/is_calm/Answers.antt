use mathlib.Core.Path.{◌≡◌, sym, ap, ◌∙◌}
use mathlib.Core.Bool.{Bool, true, not, ◌&&◌, cond}
use Rattle.rules.specs.Seen.{is_phase, rst_seen}
use Rattle.rules.specs.State.{State}
use Rattle.rules.specs.declared.chip.Phase.TheVariants.{Idle}
use Rattle.rules.proofs.Phases.{same_phase}
use Rattle.image.specs.Image.{state_at}
use Rattle.saved.specs.Tests.{calm_in, calm}
use Rattle.saved.proofs.calm.is_calm.Goals as goal

silent : (s : State) → rst_seen s ≡ true → (is_phase Idle s.sequencer.phase && not s.sequencer.status.selingo) ≡ calm s
unfolding calm
silent s e = ap (λ (b : Bool). cond b (is_phase Idle s.sequencer.phase && not s.sequencer.status.selingo) (calm_in s.sequencer.phase s)) (sym e)

pub returns-then-rst_seen : goal.returns-then-rst_seen
unfolding state_at
returns-then-rst_seen c =
    let s = state_at c.args.m.now in
    let p = c.eq.ensures ∙ same_phase Idle _ ∙ ap (is_phase Idle) c.phase-p.ensures in
    (λ i. p i && not s.sequencer.status.selingo) ∙ silent s (sym c.rst_seen.ensures ∙ c.if-rst_seen.true)
