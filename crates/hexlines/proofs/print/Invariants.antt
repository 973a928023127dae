-- The loop's invariant: the lines of the answers passed, then the rest of out as it was.
use Prim.Native.Nat.{◌*◌}
use mathlib.Core.Path.{◌≡◌}
use mathlib.Core.List.{◌++◌}
use lib.ListN.{drop}
use Rattle.hexlines.specs.Hex.{lines_of}
use Rattle.hexlines.proofs.print.Given as goal

abbrev pub invariant-loop-k : goal.invariant-loop-k
invariant-loop-k l = l.out ≡ lines_of l.k l.answers ++ drop (33 * l.k) l.initial.out
