use native.Mathlib.Omega.{arith}
use lib.Bits.{and_mask}
use Rattle.laws.proofs.Bits.{joined_field}
use Rattle.wire.proofs.offset_byte.Goals as goal

pub returns : goal.returns
returns c = joined_field 8 4 c.args.scsi (and_mask c.args.offset 4) (omega arith)
