-- The cases marked P, all in one statement: no row of the tables misses. A row that fails is named by its place, with the answer that came.
use mathlib.Core.Path.{◌≡◌, refl}
use mathlib.Core.List.{[]}
use Rattle.rules.specs.Examples.{misses, marked}
use Rattle.rules.proofs.Computes.{computes}

pub marked_hold : misses marked ≡ []
unfolding computes
marked_hold = refl
