-- Each word is what its end says.
use Rattle.std.proofs.Common.{None, Some, sym, ap, ◌∙◌, arith, length-take-le}
use Rattle.stored.specs.Words.{first_word}
use Rattle.stored.proofs.Events.{event_line_is, named_short}
use Rattle.stored.proofs.event_line.Goals as goal

pub slice_bounds-bytes-end : goal.slice_bounds-bytes-end
slice_bounds-bytes-end c =
    let r = c.in-Some.record in
    sym (length-take-le r.count r.bytes (omega (arith, named_short c.cut.result.0.now r (sym c.record_of.ensures ∙ c.in-Some.is))))

pub shared_ref_as_front-bytes : goal.shared_ref_as_front-bytes
shared_ref_as_front-bytes c = named_short c.cut.result.0.now c.in-Some.record (sym c.record_of.ensures ∙ c.in-Some.is)

pub returns-in_default : goal.returns-in_default
returns-in_default c =
    event_line_is c.args.t.now c.args.text.now c.cut.result.0.now c.cut-2.result.0.now None c.cut.ensures.before (c.cut-2.ensures.before ∙ ap first_word c.cut.ensures.behind) (sym c.in_default.is ∙ c.record_of.ensures)

pub returns : goal.returns
returns c =
    c.event.ensures ∙ event_line_is c.args.t.now c.args.text.now c.cut.result.0.now c.cut-2.result.0.now (Some c.in-Some.record) c.cut.ensures.before (c.cut-2.ensures.before ∙ ap first_word c.cut.ensures.behind) (sym c.in-Some.is ∙ c.record_of.ensures)
