-- The place that 35Dh uses is one of 32, at every pointer.
use Prim.Native.Nat.{ℕ, ◌%◌, ◌<◌}
use mathlib.Core.Path.{◌≡◌}
use mathlib.Core.Bool.{Bool, true, false}
use native.Mathlib.Omega.{arith}
use Rattle.rules.specs.Stack.{stack_size, stack_place}
use Rattle.rules.specs.declared.chip.Stack.{Stack}

pub place_lt : (enstk32 : Bool) (s : Stack) → stack_place enstk32 s < 32
unfolding stack_place
place_lt true s = omega arith
place_lt false s = omega arith

below : (w : Bool) (p : ℕ) → p % stack_size w < 32
below true p = omega arith
below false p = omega arith

pub place_below : {k : ℕ} (w : Bool) (p : ℕ) → k ≡ p % stack_size w → k < 32
place_below w p e = rw e (below w p)
