-- The loop's invariant: the lines passed are counted, the others are still to count. What is left of the text gets shorter.
use Rattle.std.proofs.Common.{◌≡◌, length}
use Rattle.stored.specs.Words.{lines_in}
use Rattle.stored.specs.Tallies.{tallied, tally_of}
use Rattle.stored.proofs.compared.Given as goal

abbrev pub invariant-loop-rest : goal.invariant-loop-rest
invariant-loop-rest l = tallied l.t (lines_in l.rest) ≡ tally_of l.text

abbrev pub decreases-loop-rest : goal.decreases-loop-rest
decreases-loop-rest l = length l.rest
