use Prim.Native.Nat.{ℕ}
use mathlib.Core.Path.{ap, sym, ◌∙◌}
use native.Mathlib.Omega.{arith}
use Rattle.counter.specs.Steps.{counter_steps}
use Rattle.counter.proofs.Steps.{no_steps, one_step, steps_reduced}
use Rattle.counter.proofs.counter_steps.Goals as goal

pub returns-then-k-eq0 : goal.returns-then-k-eq0
returns-then-k-eq0 c =
    let a = c.args in
    sym (ap (λ (k : ℕ). counter_steps a.direction k a.n) c.if-k-eq0.true ∙ no_steps a.direction a.n)

pub returns-then-k-eq1 : goal.returns-then-k-eq1
returns-then-k-eq1 c =
    let a = c.args in
    c.counter_step.ensures
    ∙ sym (ap (λ (k : ℕ). counter_steps a.direction k a.n) c.if-k-eq1.true ∙ one_step a.direction a.n)

pub returns-in-Up : goal.returns-in-Up
returns-in-Up c =
    let a = c.args in
    let some = c.if-k-eq0.false in
    rw c.in-Up.is (c.steps_up.ensures ∙ steps_reduced _ a.k a.n (omega (arith, some)))

pub returns-in-Down : goal.returns-in-Down
returns-in-Down c =
    let a = c.args in
    let some = c.if-k-eq0.false in
    rw c.in-Down.is (c.steps_down.ensures ∙ steps_reduced _ a.k a.n (omega (arith, some)))
