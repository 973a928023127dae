-- The loop's invariant: the image and the answers are those of the records passed.
use mathlib.Core.Path.{◌≡◌}
use mathlib.Core.List.{◌++◌}
use Prim.Native.Nat.{◌+◌, ◌*◌, ◌≤◌, ◌<◌, ◌^◌}
use lib.ListN.{length, drop}
use Rattle.rules.specs.Step.{after, answers}
use Rattle.image.specs.Image.{image_of, state_at, IsImage}
use Rattle.step.specs.Runs.{records_of, stepped_in, joined}
use Rattle.step.proofs.run.answered.Given as goal

abbrev pub invariant-loop-i : goal.invariant-loop-i
invariant-loop-i l =
    (l.i ≤ l.n)
    × (l.n ≡ stepped_in l.records l.initial.answers)
    × (4 * l.n < length l.records + 4)
    × (16 * l.n ≤ length l.answers)
    × (length l.answers ≡ length l.initial.answers)
    × (length l.records < 2 ^ 63)
    × (length l.initial.answers < 2 ^ 63)
    × IsImage l.initial.m
    × (l.m ≡ image_of (after (state_at l.initial.m) (records_of l.i l.records)))
    × (l.answers ≡ joined (answers (state_at l.initial.m) (records_of l.i l.records)) ++ drop (16 * l.i) l.initial.answers)
