-- The loop's invariant: the image and the answers are those of the records passed.
use mathlib.Core.Path.{◌≡◌, refl, ap, ◌∙◌}
use mathlib.Core.List.{◌++◌}
use Prim.Native.Nat.{ℕ, ◌*◌}
use borrow.Author.Rules.{rules}
use native.Mathlib.Omega.{arith}
use lib.ListN.{drop}
use Rattle.rules.specs.Step.{after, answers}
use Rattle.image.specs.Image.{image_of, state_at}
use Rattle.step.specs.Runs.{records_of, stepped_in, joined}
use Rattle.step.proofs.Running.{image_reached, image_next, answers_more}
use Rattle.step.proofs.run.answered.Goals as goal

pub loop-i-init : goal.loop-i-init
loop-i-init c =
    let sound = c.requires in (
      search rules,
      c.min-n.ensures,
      omega arith,
      omega arith,
      refl,
      search rules,
      search rules,
      sound,
      sound.packed,
      refl,
    )

pub record_answered-requires : goal.record_answered-requires
record_answered-requires c =
    let l = c.loop-i in
    let a = c.args in record { image = image_reached _ l.invariant.7.range l.invariant.7.bytes a.records.now a.answers.now l.i l.invariant.8 l.invariant.9; i_in_bounds = omega arith; i_in_bounds_2 = omega arith }

pub loop-i-preserved : goal.loop-i-preserved
loop-i-preserved c =
    let record-answered = c.record_answered in
    let t = c.loop-i-test.true in
    let l = c.loop-i in
    let a = c.args in
    let same = record-answered.auto.answers in (
      omega (arith, l.invariant.0, t),
      l.invariant.1,
      l.invariant.2,
      omega (arith, l.invariant.3, same),
      omega (arith, l.invariant.4, same),
      l.invariant.5,
      l.invariant.6,
      l.invariant.7,
      image_next _ l.invariant.7.range l.invariant.7.bytes a.records.now a.answers.now l.i l.invariant.8 l.invariant.9 record-answered.ensures,
      answers_more _ l.invariant.7.range l.invariant.7.bytes a.records.now a.answers.now l.i l.invariant.8 l.invariant.9 record-answered.ensures,
    )

pub returns : goal.returns
returns c =
    let l = c.loop-i in
    let a = c.args in
    let e : l.i ≡ c.min-n.result = omega arith in
    let k : l.i ≡ stepped_in a.records.now a.answers.now = e ∙ l.invariant.1 in
    let s = state_at a.m.now in
    record {
      count = l.invariant.1;
      image = l.invariant.8 ∙ ap (λ (j : ℕ). image_of (after s (records_of j a.records.now))) k;
      answers = l.invariant.9 ∙ ap (λ (j : ℕ). joined (answers s (records_of j a.records.now)) ++ drop (16 * j) a.answers.now) k;
    }

pub overflow_step-i : goal.overflow_step-i
overflow_step-i c = omega arith

pub loop-i-smaller : goal.loop-i-smaller
loop-i-smaller c = omega arith

pub shape_of-answers : goal.shape_of-answers
shape_of-answers c = omega arith
