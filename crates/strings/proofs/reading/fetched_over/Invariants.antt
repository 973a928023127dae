-- The loop's invariant: what the words left continued before the loop, they continue now.
use Prim.Native.Nat.{ℕ, ◌-◌}
use mathlib.Core.List.{List}
use Rattle.words.specs.Words.{Strung}
use Rattle.strings.proofs.Fetching.{ReadRound}
use Rattle.strings.proofs.reading.fetched_over.Given as goal

abbrev pub invariant-loop-done : goal.invariant-loop-done
invariant-loop-done l =
    (x : Strung) (before : List ℕ) → ReadRound x before l.words l.initial.m l.initial.out l.initial.done l.initial.held → ReadRound x before l.words l.m l.out l.done l.held

abbrev pub decreases-loop-done : goal.decreases-loop-done
decreases-loop-done l = l.words - l.done
