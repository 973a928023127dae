use Rattle.std.specs.Prelude.{None}
use mathlib.Core.Path.{◌≡◌, refl}
use lib.Dec.{eqb}
use native.Mathlib.Omega.{arith}
use borrow.Author.Tests.{eqb-true}
use Rattle.rules.specs.Step.{step}
use Rattle.rules.specs.Records.{decode}
use Rattle.rules.proofs.Logic.{left_true, right_true}
use Rattle.rules.proofs.Ranges.{StepFits, decode_fits, value_fits}
use Rattle.rules.proofs.Reports.{step_fits}
use Rattle.image.specs.Image.{state_at}
use Rattle.event.proofs.Starts as starts
use Rattle.event.proofs.Turns as turns
use Rattle.event.proofs.stepping.outcome_of.Goals as goal
use Rattle.event.proofs.stepping.outcome_of.Goals.{In-Ok}

-- what A left, and the record
begun : (e : In-Ok) → starts.Onward (step (state_at e.args.m.now) e.args.bytes.now) e.opened.new.m e.before_in-before.result e.in-Ok.a.ticks e.in-Ok.a.value
unfolding step
begun e =
    starts.opens_onward (state_at e.args.m.now) e.requires.range e.requires.bytes e.in-Ok.a e.before_in-before.ensures.recalls (decode e.args.bytes.now) (decode_fits e.args.bytes.now) e.in-Ok.ensures

reported : (e : In-Ok) → StepFits (step (state_at e.args.m.now) e.args.bytes.now)
reported e =
    step_fits (state_at e.args.m.now) e.args.bytes.now e.requires.range

-- what is read has sixteen bits
pub overflow_cast-a : goal.overflow_cast-a
overflow_cast-a c =
    let r = (begun (goal.at.overflow_cast-a c).In-Ok).ready in
    omega (arith, r.value, value_fits r.state r.event r.range r.bytes)

pub returns-in-Err : goal.returns-in-Err
unfolding step
returns-in-Err c =
    rw c.ended.ensures (starts.opens_leaves (state_at c.args.m.now) c.requires.range c.in-Err.e (decode c.args.bytes.now) c.in-Err.ensures)

pub loop-lap-init : goal.loop-lap-init
loop-lap-init c y w = turns.begin _ w c.min-one.ensures refl

pub finished-p-requires : goal.finished-p-requires
finished-p-requires c = (c.loop-lap.invariant _ (begun (goal.at.finished-p-requires c).In-Ok)).ready

pub returns-then-is_none-lap : goal.returns-then-is_none-lap
returns-then-is_none-lap c =
    let loop = c.loop-lap in
    let w = loop.invariant _ (begun (goal.at.returns-then-is_none-lap c).In-Ok) in
    let alone : loop.so_far ≡ None = turns.is_nothing _ _ c.is_none.ensures (left_true c.is_none.result (eqb loop.lap.left 0) c.if-is_none-lap.true) in
    turns.turn_only w (c.finished-p.ensures w.ready) alone (eqb-true loop.lap.left 0 (right_true c.is_none.result (eqb loop.lap.left 0) c.if-is_none-lap.true))

pub added-o-requires : goal.added-o-requires
added-o-requires c =
    let w = c.loop-lap.invariant _ (begun (goal.at.added-o-requires c).In-Ok) in
    turns.turn_sums w (c.finished-p.ensures w.ready) (reported (goal.at.added-o-requires c).In-Ok)

pub onward-requires : goal.onward-requires
onward-requires c =
    let w = c.loop-lap.invariant _ (begun (goal.at.onward-requires c).In-Ok) in
    let l = c.finished-p.ensures w.ready in
    record { image = turns.turn_image w l; at_rest = turns.turn_rests w l; leads = turns.turn_leads w l c.told.ensures }

pub returns-in_default : goal.returns-in_default
returns-in_default c =
    let w = c.loop-lap.invariant _ (begun (goal.at.returns-in_default c).In-Ok) in
    let l = c.finished-p.ensures w.ready in
    let g = c.onward.ensures in
    turns.turn_last w l c.added-o.ensures (turns.some_left _ _ _ c.is_none.ensures c.if-is_none-lap.false) g.image (g.none c.in_default.is)

pub loop-lap-preserved : goal.loop-lap-preserved
loop-lap-preserved c y b =
    let w = c.loop-lap.invariant y b in
    let l = c.finished-p.ensures w.ready in
    turns.turn_next w l c.added-o.ensures c.in-Some.next c.ticked.result c.in-Some.is c.onward.ensures c.before_in-before-in-loop-lap.ensures.recalls c.ticked.ensures
