use Rattle.std.proofs.Common.{◌≡◌, ℕ, ◌+◌, ◌*◌, ◌%◌, ◌<◌, Bool, add_assoc, arith}
use lib.Bits.{bit_or}
use mir.Val.{bool_byte}
use Rattle.rules.specs.Numbers.{one}
use Rattle.laws.proofs.Bits.{join, one_of, one_le}
use Rattle.registers.proofs.bytes.dmacntrl1_byte.Goals as goal

two_flags : (a b : Bool) (n : ℕ) → n < 64 → bit_or (bool_byte a * 128 % 256) (bit_or (bool_byte b * 64 % 256) n) ≡ one a * 128 + one b * 64 + n
two_flags a b n h =
    let low : bool_byte b * 64 + n < 128 = omega (arith, one_le b) in
    rw (join 8 6 (bool_byte b) n (omega (arith, one_le b)) h, join 8 7 (bool_byte a) (bool_byte b * 64 + n) (omega (arith, one_le a)) low, one_of a, one_of b, add_assoc)

pub returns : goal.returns
returns c =
    let x = c.args in
    two_flags x.r.pwrdwn x.r.enstk32 (x.pointer % 32) (omega arith)
