use native.Mathlib.Omega.{arith}
use lib.Bits.{and_mask}
use Rattle.laws.proofs.Bits.{joined_bit, one_below}
use Rattle.wire.proofs.moves_byte.Goals as goal

pub returns : goal.returns
returns c =
    let a = c.args in
    let driving = one_below a.driving in
    let rst = one_below a.rst in
    let six = joined_bit 8 a.driving (and_mask a.moves 5) (omega arith) in
    let seven = joined_bit 8 a.rst six (omega arith) in
    joined_bit 8 a.parity seven (omega arith)
