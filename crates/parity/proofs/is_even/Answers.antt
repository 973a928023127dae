use native.Mathlib.Omega.{arith}
use Rattle.laws.proofs.Bits.{byte_ones_le, one_of, one_le}
use Rattle.parity.proofs.is_even.Goals as goal

pub overflow_add-result : goal.overflow_add-result
overflow_add-result c = omega (arith, byte_ones_le c.args.v, one_le c.args.parity)

pub returns : goal.returns
returns c = rw (c.ones.ensures, one_of)
