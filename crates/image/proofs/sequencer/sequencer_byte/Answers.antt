use native.Mathlib.Omega.{arith}
use Rattle.laws.proofs.Bits.{one_below}
use Rattle.image.proofs.ReadBack.{phase_below}
use Rattle.image.proofs.sequencer.sequencer_byte.Goals as goal

-- five bits above a number of three bits fit a byte
pub overflow_add-result : goal.overflow_add-result
overflow_add-result c =
    let q = c.args.q in
    let t = q.status in
    omega
    (arith, c.byte_of.ensures, c.from.ensures, phase_below q.phase, one_below t.seldo, one_below t.seldi, one_below t.selto, one_below q.noted, one_below t.selingo)
