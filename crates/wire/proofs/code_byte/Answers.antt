use native.Mathlib.Omega.{arith}
use Rattle.laws.proofs.Bits.{joined_bit, joined_field, one_below}
use Rattle.wire.proofs.Codes.{number_below}
use Rattle.wire.proofs.code_byte.Goals as goal

pub returns : goal.returns
returns c =
    let a = c.args in
    let number = number_below a.code in
    let irq = one_below a.irq in
    let high = joined_bit 8 a.irq c.from.ensures (omega arith) in
    joined_field 8 4 a.acks high (omega arith)
