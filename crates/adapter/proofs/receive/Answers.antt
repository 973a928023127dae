use Rattle.std.proofs.Common.{length, arith}
use borrow.Rule.Slice.PartMut.{mid_len}
use Rattle.adapter.proofs.Waiting.{none_received, some_received}
use Rattle.adapter.proofs.receive.Goals as goal

-- what was read is within the bytes behind those kept
pub returns-in-Ok : goal.returns-in-Ok
returns-in-Ok c =
    let a = c.args in
    let read = c.read in
    let room = mid_len a.kept (length a.input.now) a.input.now (omega arith) in
    some_received a.kept a.input.now read.new.buf (omega arith) read.auto.buf c.in-Ok.more (omega (arith, room, c.in-Ok.ensures.bound.0))

pub returns-in-Err : goal.returns-in-Err
returns-in-Err c =
    let a = c.args in
    let read = c.read in
    rw c.read_failed.ensures (none_received a.kept a.input.now read.new.buf (omega arith) read.auto.buf)
