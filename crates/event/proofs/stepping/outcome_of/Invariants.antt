use Rattle.rules.specs.Answers.{Stepped}
use Rattle.event.proofs.Starts as starts
use Rattle.event.proofs.Turns as turns
use Rattle.event.proofs.stepping.outcome_of.Given as goal

-- whatever the whole event is by what A left, the turn goes on towards it
abbrev pub invariant-loop-lap : goal.invariant-loop-lap
invariant-loop-lap l =
    (y : Stepped) → starts.Onward y l.initial.m l.initial.before l.a.ticks l.a.value → turns.Turn y l.m l.spare l.before l.one l.a.value l.lap l.so_far

abbrev pub decreases-loop-lap : goal.decreases-loop-lap
decreases-loop-lap l = l.lap.left
