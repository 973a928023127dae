use mathlib.Core.Path.{refl, ◌∙◌}
use native.Mathlib.Omega.{arith}
use lib.ListN.{get_or}
use Rattle.image.specs.Image.{state_at}
use Rattle.image.specs.Layout.{host_count_place}
use Rattle.datapath.proofs.Fronts.{placed_at, host_counts}
use Rattle.datapath.proofs.Ends.{host_off}
use Rattle.datapath.proofs.host.host_popped.Goals as goal

pub taken_off-requires-clause-places : goal.taken_off-requires-clause-places
taken_off-requires-clause-places c =
    let p = placed_at c.args.m.now c.requires.image in
    omega (arith, host_counts p c.requires.image.packed, p.host)

pub returns : goal.returns
returns c =
    let m = c.args.m.now in
    let p = placed_at m c.requires.image in
    let e = c.requires.image.packed in
    let u = host_counts p e in
    c.taken_off.ensures ∙ host_off (state_at m) e p (get_or m host_count_place 0) c.args.k u (omega (arith, u, c.requires.k_bound)) refl
