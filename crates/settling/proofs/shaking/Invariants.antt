use Prim.Native.Nat.{◌-◌, ◌≤◌}
use Rattle.rules.proofs.Rest.{measure}
use Rattle.image.specs.Image.{state_at}
use Rattle.settling.proofs.BetweenTurns.{Going}
use Rattle.settling.proofs.shaking.Given as goal

-- what goes on from the loop's start, beside the moves made before it
abbrev pub invariant-loop-c : goal.invariant-loop-c
invariant-loop-c l = (l.made ≤ l.moves) × Going l.c l.initial.m l.m (l.moves - l.made) l.acks l.sent

abbrev pub decreases-loop-c : goal.decreases-loop-c
decreases-loop-c l = measure l.c (state_at l.m).transfer
