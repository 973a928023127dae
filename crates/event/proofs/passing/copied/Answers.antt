use mathlib.Core.Path.{◌≡◌, refl}
use native.Mathlib.Omega.{arith}
use Rattle.rules.specs.Step.{single_ticks}
use Rattle.event.proofs.passing.copied.Goals as goal

pub returns : goal.returns
unfolding single_ticks
returns c =
    record {
      same = refl;
      less = omega arith;
      early = λ k h. let z : 0 ≡ k = cc in omega arith;
      marked = λ k h. let z : 0 ≡ k = cc in rw (← z) (record { image = c.requires.image; rests = c.requires.at_rest; same = refl });
    }
