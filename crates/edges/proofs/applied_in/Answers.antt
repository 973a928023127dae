use Rattle.edges.proofs.AppliedIn.{applied_in}
use Rattle.edges.proofs.applied_in.Goals as goal

pub returns : goal.returns
returns c =
    let a = c.args in
    applied_in a.g a.was.mismatched a.m.now c.byte_seen-byte.ensures c.path_in.ensures c.registers_in.ensures
    c.mismatched-seen.ensures c.status_in.ensures c.freed_in.ensures
