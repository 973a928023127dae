use mathlib.Core.Path.{ap, sym, subst, ◌∙◌}
use Rattle.edges.specs.declared.edges.Edges.{Edges}
use Rattle.image.specs.Image.{image_of, state_at}
use Rattle.edges.specs.From.{applied_from}
use Rattle.edges.specs.Room.{Room}
use Rattle.edges.proofs.Room.{room_from}
use Rattle.edges.proofs.all_in.Goals as goal

pub applied_in-requires : goal.applied_in-requires
applied_in-requires c =
    let a = c.args in
    let s = state_at a.m.now in record { image = c.requires; room = subst (λ (g : Edges). Room g s.transfer) (sym c.edges_of-g.ensures) (room_from a.was.rst a.was.req s a.ticks) }

pub returns : goal.returns
returns c =
    let a = c.args in record { value = ap (λ (g : Edges). g.beyond) c.edges_of-g.ensures; m_after = c.applied_in.ensures ∙ ap (λ (g : Edges). image_of (applied_from g a.was.mismatched (state_at a.m.now))) c.edges_of-g.ensures }
