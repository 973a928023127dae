use mathlib.Core.Path.{ap, sym, ◌∙◌}
use mathlib.Core.Bool.{true, false}
use Rattle.image.specs.Image.{image_of, state_at}
use Rattle.edges.specs.Frequent.{raised_b}
use Rattle.edges.proofs.Placed.{status_placed}
use Rattle.edges.proofs.AppliedIn.{mismatched_at}
use Rattle.edges.proofs.Frequent.{phase_as}
use Rattle.edges.proofs.single.phase_in.Goals as goal

pub returns-then-mismatched : goal.returns-then-mismatched
returns-then-mismatched c =
    let m = c.args.m.now in
    status_placed (raised_b true false false) (state_at m) c.requires c.raised_in.ensures
    ∙ ap image_of (phase_as c.args.was (state_at m) c.if-not-was.true (sym c.if-mismatched.true ∙ c.mismatched.ensures ∙ mismatched_at m (state_at m) c.requires))
