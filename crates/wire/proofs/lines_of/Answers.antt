use Prim.Native.Nat.{◌/◌}
use lib.Bits.{mask_lt}
use Rattle.rules.specs.Records.{lines_of}
use Rattle.laws.proofs.Bits.{field_and}
use Rattle.wire.proofs.lines_of.Goals as goal

pub overflow_cast-byte : goal.overflow_cast-byte
overflow_cast-byte c = record { fits = mask_lt (c.args.p / 1024) 8 }

pub returns : goal.returns
unfolding lines_of
returns c =
    rw (
      field_and c.args.p 10 8,
      c.bit_of.ensures,
      c.bit_of-2.ensures,
      c.bit_of-3.ensures,
      c.bit_of-4.ensures,
      c.bit_of-5.ensures,
      c.bit_of-6.ensures,
      c.bit_of-7.ensures,
      c.bit_of-8.ensures,
      c.bit_of-9.ensures,
      c.bit_of-10.ensures,
    )
