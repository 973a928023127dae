use Prim.Native.Nat.{◌*◌}
use native.Mathlib.Omega.{arith}
use Rattle.laws.proofs.Bits.{shr_past}
use Rattle.counter.proofs.counter_byte.Goals as goal

pub returns-else-k-lt4 : goal.returns-else-k-lt4
returns-else-k-lt4 c = rw (shr_past 32 c.args.n (8 * c.args.k) c.ranges.n.fits (omega arith))
