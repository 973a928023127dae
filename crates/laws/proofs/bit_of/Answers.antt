use borrow.Author.Rules.{rules}
use Rattle.laws.proofs.Bits.{bit_and_one, bit_past}
use Rattle.laws.proofs.bit_of.Goals as goal

pub returns-then-k-lt32 : goal.returns-then-k-lt32
returns-then-k-lt32 c = bit_and_one c.args.v c.args.k

pub returns-else-k-lt32 : goal.returns-else-k-lt32
returns-else-k-lt32 c = bit_past 32 c.args.v c.args.k (search rules) c.if-k-lt32.false
