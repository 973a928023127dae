-- The loop's invariant: the digits of the bytes passed stand in their place in out.
use Prim.Native.Nat.{◌*◌}
use mathlib.Core.Path.{◌≡◌}
use lib.Seq.{paste}
use Rattle.hexlines.specs.Hex.{line_of}
use Rattle.hexlines.proofs.line.Given as goal

abbrev pub invariant-loop-i : goal.invariant-loop-i
invariant-loop-i l = l.out ≡ paste l.initial.out l.at (line_of l.byte-items) (2 * l.i)
