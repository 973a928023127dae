-- At most three bytes wait.
use Rattle.std.proofs.Common.{◌≤◌}
use Rattle.adapter.proofs.answer_all.Given as goal

abbrev pub invariant-loop : goal.invariant-loop
invariant-loop l = l.left.count ≤ 3
