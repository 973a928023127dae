use mathlib.Core.Path.{ap, sym, ◌∙◌}
use mathlib.Core.Bool.{true, ◌&&◌}
use Rattle.rules.specs.State.{State}
use Rattle.image.specs.Image.{image_of, state_at}
use Rattle.edges.specs.Tests.{inbound_bad}
use Rattle.edges.specs.From.{req_rises_from, edges_from, applied_from}
use Rattle.edges.specs.ParityKept.{kept_from}
use Rattle.edges.specs.declared.edges.Edges.{Edges}
use Rattle.edges.proofs.ParityKept.{kept_back, kept_image, kept_edges, kept_bad}
use Rattle.edges.proofs.InOrder.{four_since, beyond_since_lem}
use Rattle.edges.proofs.since.edges_before.Goals as goal

pub edges_in-requires : goal.edges_in-requires
edges_in-requires c =
    let m = c.args.m.now in
    let q = c.before_of.result.req in record { image = kept_image m c.requires q c.kept_in-bad.ensures.m_after; bad_value = c.kept_in-bad.ensures.value ∙ kept_bad q q (state_at m) ∙ ap (λ (t : State). req_rises_from q t && inbound_bad t) (sym (kept_back m c.requires q c.kept_in-bad.ensures.m_after)) }

pub returns : goal.returns
returns c =
    let m = c.args.m.now in
    let s = state_at m in
    let n = c.args.ticks in
    let x = c.args.x in
    let w = c.before_of.ensures in
    let b = c.before_of.result in
    let back = kept_back m c.requires b.req c.kept_in-bad.ensures.m_after in
    let found = ap (λ (t : State). edges_from b.rst b.req t n) back ∙ kept_edges b.req b.rst b.req s n in record { value = c.edges_in.ensures.value ∙ ap (λ (g : Edges). g.beyond) found ∙ (λ i. (edges_from (w.rst_value i) (w.req_value i) s n).beyond) ∙ beyond_since_lem x n s; m_after = c.edges_in.ensures.m_after ∙ (λ i. image_of (applied_from (found i) true (back i))) ∙ (λ i. image_of (applied_from (edges_from (w.rst_value i) (w.req_value i) s n) true (kept_from (w.req_value i) s))) ∙ ap image_of (four_since x n s) }
