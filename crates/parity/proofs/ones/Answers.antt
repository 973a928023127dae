-- The processor's count is the definition's, and fits a byte.
use native.Mathlib.Omega.{arith}
use Rattle.rules.specs.Numbers.{ones}
use Rattle.parity.proofs.Counted.{digits_counted, few_ones}
use Rattle.parity.proofs.ones.Goals as goal

pub overflow_cast-result : goal.overflow_cast-result
overflow_cast-result c = record { fits = few_ones _ (omega (arith, c.ranges.v.fits)) }

pub returns : goal.returns
unfolding ones
returns c = digits_counted 8 c.args.v c.ranges.v.fits
