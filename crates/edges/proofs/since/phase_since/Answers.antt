use mathlib.Core.Path.{ap, ◌∙◌}
use Rattle.image.specs.Image.{image_of, state_at}
use Rattle.edges.proofs.InOrder.{phase_as_seen}
use Rattle.edges.proofs.since.phase_since.Goals as goal

pub returns : goal.returns
returns c =
    let a = c.args in
    c.phase_in.ensures ∙ ap image_of (phase_as_seen a.x (state_at a.m.now) c.before_of.ensures.mismatched_value)
