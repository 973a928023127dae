use mathlib.Core.Path.{ap, ◌∙◌}
use mathlib.Core.List.{List}
use Prim.Native.Nat.{ℕ}
use Rattle.image.specs.Image.{image_of, state_at}
use Rattle.rules.specs.Changed.{with_host}
use Rattle.datapath.proofs.Fronts.{none_left, placed_at}
use Rattle.datapath.proofs.host.host_emptied.Goals as goal

pub returns : goal.returns
returns c =
    let m = c.args.m.now in
    c.host_popped.ensures ∙ ap (λ (l : List ℕ). image_of (with_host l (state_at m))) (none_left (placed_at m c.requires) c.requires.packed c.from-held.result c.from-held.ensures)
