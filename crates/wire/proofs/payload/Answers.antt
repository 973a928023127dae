use native.Mathlib.Omega.{arith}
use borrow.Author.Rules.{rules}
use Rattle.laws.proofs.Bits.{join, joined}
use Rattle.wire.proofs.payload.Goals as goal

pub returns : goal.returns
returns c =
    let a = c.args in
    let high = join 32 8 a.b1 a.b2 (omega arith) (search rules) in
    joined 32 8 a.b3 high (omega arith) (search rules)
