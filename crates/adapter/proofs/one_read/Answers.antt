use Rattle.std.proofs.Common.{List, ℕ, subst, sym, arith, length-take-le}
use Rattle.adapter.specs.Texts.{IsReceived}
use Rattle.adapter.proofs.OneRead.{turned, front_is}
use Rattle.adapter.proofs.Waiting.{left_over_within}
use Rattle.adapter.proofs.one_read.Goals as goal

-- the bytes that wait are among those held
pub overflow_sub-end : goal.overflow_sub-end
overflow_sub-end c =
    let received = c.receive-received.result in
    rw c.left_over-count.ensures (left_over_within received.held received.is_end)

-- the records are within what was received
pub slice_bounds-print-end-2 : goal.slice_bounds-print-end-2
slice_bounds-print-end-2 c = sym (length-take-le _ _ (omega (arith, c.receive-received.ensures.held)))

-- the lines are within the text
pub slice_bounds-send-end-2 : goal.slice_bounds-send-end-2
slice_bounds-send-end-2 c = sym (length-take-le _ _ (omega (arith, c.print-p.ensures.printed.size)))

-- the bytes held are within the input
pub slice_bounds-tail-end-2 : goal.slice_bounds-tail-end-2
slice_bounds-tail-end-2 c = sym (length-take-le _ _ c.receive-received.ensures.held)

pub tail-bytes-requires : goal.tail-bytes-requires
tail-bytes-requires c = omega (arith, slice_bounds-tail-end-2 c)

pub returns : goal.returns
returns c =
    let a = c.args in
    let print = c.print-p in
    let r = c.receive-received in
    let front = front_is a.left.bytes a.input.now c.copy_from_slice.new.self (omega arith) (omega arith) c.copy_from_slice.ensures.after in
    let got = subst (λ (l : List ℕ). IsReceived a.left.count l r.new.input r.result) front r.ensures in
    turned a.c a.left.bytes a.input.now got c.left_over-count.ensures print.ensures.printed print.ensures.answers_after c.tail-bytes.ensures c.send-is_written.result
