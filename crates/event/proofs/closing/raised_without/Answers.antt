use mathlib.Core.Path.{ap, sym, ◌∙◌}
use Rattle.image.specs.Image.{image_of, state_at}
use Rattle.event.proofs.ThroughD.{unraised}
use Rattle.event.proofs.closing.raised_without.Goals as goal

pub returns-then-not-way : goal.returns-then-not-way
returns-then-not-way c = c.raised_in.ensures

pub returns-else-not-way : goal.returns-else-not-way
returns-else-not-way c =
    let s = state_at c.args.m.now in
    c.requires.image.packed ∙ ap image_of (unraised s (sym c.requires.way_value ∙ c.if-not-way.false))
