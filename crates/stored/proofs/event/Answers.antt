-- The printed answer has 33 bytes, of which 32 are compared.
use Rattle.std.proofs.Common.{take, sym, ◌∙◌, arith}
use Rattle.std.specs.Cmp.Lexicographic.{bytes_decides}
use Rattle.stored.proofs.Events.{digits_length, event_is}
use Rattle.stored.proofs.event.Goals as goal

pub slice_bounds-eq-end : goal.slice_bounds-eq-end
slice_bounds-eq-end c = digits_length _ (omega arith) c.printed-came.result c.printed-came.ensures

pub slice_bounds-say_difference-end : goal.slice_bounds-say_difference-end
slice_bounds-say_difference-end c = digits_length _ (omega arith) c.printed-came.result c.printed-came.ensures

pub returns : goal.returns
returns c =
    let a = c.args in
    let step = c.step-returned in
    let same = c.eq-is_same in
    let printed = c.printed-came in
    let decided = bytes_decides a.stored.now (take 32 printed.result) in
    c.with_event.ensures
    ∙ event_is a.t a.bytes.now a.stored.now step.result _ _ same.result step.ensures (omega arith) printed.ensures (λ e. decided.0 (sym same.ensures ∙ e)) (λ e. same.ensures ∙ decided.1 e)
