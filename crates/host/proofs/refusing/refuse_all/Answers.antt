use Prim.Native.Nat.{ℕ, ◌*◌}
use mathlib.Core.Path.{◌≡◌, refl, ap, ◌∙◌}
use mathlib.Core.List.{◌++◌}
use native.Mathlib.Omega.{arith}
use lib.ListN.{drop}
use Rattle.step.specs.Runs.{stepped_in}
use Rattle.host.specs.ImageCalls.{refusals}
use Rattle.host.proofs.OverImages.{refusals_more}
use borrow.Author.Rules.{rules}
use Rattle.host.proofs.refusing.refuse_all.Goals as goal

pub loop-i-init : goal.loop-i-init
loop-i-init c = (search rules, omega (arith, c.min-n.ensures, c.div_ceil.ensures), omega arith, refl, search rules, refl)

pub store_at-requires : goal.store_at-requires
store_at-requires c = omega (arith, c.loop-i.invariant.2, c.loop-i-test.true)

pub loop-i-preserved : goal.loop-i-preserved
loop-i-preserved c =
    let t = c.loop-i-test.true in
    let l = c.loop-i in
    let a = c.args in
    let same = c.store_at.auto.out in
    (omega (arith, l.invariant.0, t), l.invariant.1, omega (arith, l.invariant.2, same), omega (arith, l.invariant.3, same), l.invariant.4, refusals_more l.i a.answers.now l.invariant.5 c.refused_answer.ensures c.store_at.ensures)

pub returns : goal.returns
returns c =
    let l = c.loop-i in
    let a = c.args in
    let e : l.i ≡ c.min-n.result = omega arith in
    let k : l.i ≡ stepped_in a.records.now a.answers.now = e ∙ l.invariant.1 in
    record { count = l.invariant.1; answers = l.invariant.5 ∙ ap (λ (j : ℕ). refusals j ++ drop (16 * j) a.answers.now) k }

pub overflow_mul-i : goal.overflow_mul-i
overflow_mul-i c = omega arith

pub overflow_step-i : goal.overflow_step-i
overflow_step-i c = omega arith

pub loop-i-smaller : goal.loop-i-smaller
loop-i-smaller c = omega arith

pub shape_of-answers : goal.shape_of-answers
shape_of-answers c = omega arith
