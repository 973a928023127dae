use mathlib.Core.Path.{◌∙◌}
use native.Mathlib.Omega.{arith}
use Rattle.image.proofs.AtPlaces.{place_inside, at_place}
use Rattle.reads.proofs.status.stack_byte.Goals as goal

pub bounds-m-at : goal.bounds-m-at
bounds-m-at c = omega (arith, place_inside c.args.m.now _ (c.from-at.ensures ∙ c.stack_place.ensures))

pub returns : goal.returns
returns c = at_place c.args.m.now _ (c.from-at.ensures ∙ c.stack_place.ensures)
