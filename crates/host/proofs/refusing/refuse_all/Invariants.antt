use Prim.Native.Nat.{◌*◌, ◌≤◌, ◌<◌, ◌^◌}
use mathlib.Core.Path.{◌≡◌}
use mathlib.Core.List.{◌++◌}
use lib.ListN.{length, drop}
use Rattle.step.specs.Runs.{stepped_in}
use Rattle.host.specs.ImageCalls.{refusals}
use Rattle.host.proofs.refusing.refuse_all.Given as goal

abbrev pub invariant-loop-i : goal.invariant-loop-i
invariant-loop-i l =
    (l.i ≤ l.n)
    × (l.n ≡ stepped_in l.records l.initial.answers)
    × (16 * l.n ≤ length l.answers)
    × (length l.answers ≡ length l.initial.answers)
    × (length l.initial.answers < 2 ^ 63)
    × (l.answers ≡ refusals l.i ++ drop (16 * l.i) l.initial.answers)
