use mathlib.Core.Path.{sym, ◌∙◌}
use Rattle.edges.proofs.InTurn.{quiet_is, no_error, not_free, quieted, phased_packed, beyond_is, all_parts}
use Rattle.edges.proofs.edges_in.Goals as goal

pub phase_in-requires : goal.phase_in-requires
phase_in-requires c =
    quieted c.args.m.now c.requires.image.packed c.quiet_after-quiet.result

pub req_in-requires : goal.req_in-requires
req_in-requires c =
    let a = c.args in
    phased_packed a.m.now c.requires.image.packed a.was.mismatched c.quiet_after-quiet.result c.phase_in.ensures

pub returns : goal.returns
returns c =
    let a = c.args in
    let m = a.m.now in
    let w = a.was in
    let off = sym c.rst_rises.ensures ∙ c.if-rst_rises.false in
    let q = c.quiet_after-quiet.result in
    let is = quiet_is m w.rst w.req a.ticks off c.quiet_after-quiet.ensures in
    let then = c.phase_in.ensures in record { value = beyond_is m c.requires.image.packed w.mismatched q then w.rst w.req a.ticks is c.req_in.ensures.value; m_after = all_parts m c.requires.image.packed w.mismatched q then w.rst w.req a.ticks is off (no_error m w.rst w.req a.ticks c.requires.bad_value c.if-bad.false) (not_free m w.rst w.req a.ticks is c.if-free.false) c.req_in.ensures.m_after }
