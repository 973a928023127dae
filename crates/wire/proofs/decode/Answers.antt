use native.Mathlib.Omega.{arith}
use lib.Bits.{and_mask}
use lib.ListN.{length, get_or}
use borrow.Author.Tests.{eq-eqb, ne_eqb}
use Rattle.rules.specs.Records.{decode}
use Rattle.wire.proofs.decode.Goals as goal

pub returns-then-bytes-eq-RECORD_SIZE : goal.returns-then-bytes-eq-RECORD_SIZE
unfolding decode
returns-then-bytes-eq-RECORD_SIZE c =
    let l = c.args.bytes.now in
    rw (eq-eqb (length l) 4 (omega arith), ← and_mask (get_or l 0 0) 5) (rw c.payload-p.ensures at c.fields.ensures)

pub returns-else-bytes-eq-RECORD_SIZE : goal.returns-else-bytes-eq-RECORD_SIZE
unfolding decode
returns-else-bytes-eq-RECORD_SIZE c = rw (ne_eqb _ _ c.if-bytes-eq-RECORD_SIZE.false)
