-- What has come is within the room. Each turn but the last brings a byte.
use Rattle.std.proofs.Common.{◌-◌, ◌≤◌, length}
use Rattle.stored.proofs.read_full.Given as goal

abbrev pub invariant-loop-n : goal.invariant-loop-n
invariant-loop-n l = l.n ≤ length l.input

abbrev pub decreases-loop-n : goal.decreases-loop-n
decreases-loop-n l = length l.input - l.n
