use Prim.Native.Nat.{◌%◌}
use native.Mathlib.Omega.{arith}
use Rattle.laws.proofs.Bits.{shl_one}
use Rattle.image.proofs.sequencer.id_bit.Goals as goal

pub returns : goal.returns
returns c = shl_one 8 (c.args.number % 8) (omega arith)
