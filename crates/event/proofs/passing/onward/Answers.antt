use Prim.Native.Nat.{◌-◌, ◌<◌, ◌≤◌}
use mathlib.Core.Path.{refl, ap, ◌∙◌}
use native.Mathlib.Omega.{arith}
use Rattle.image.specs.Image.{state_at}
use Rattle.rules.specs.Ticks.{distance}
use Rattle.rules.proofs.TickByTick.{distance_bounded}
use Rattle.event.proofs.Ticking.{counted_image, counted_all, counted_some, counted_marked, some_is, mapped}
use Rattle.event.specs.declared.passing.Lap.{Lap}
use Rattle.event.proofs.passing.onward.Goals as goal

pub advanced_in-requires : goal.advanced_in-requires
advanced_in-requires c =
    record { image = c.requires.image; at_rest = c.requires.at_rest; k_bound = omega (arith, c.distance-d.ensures, c.if-r-d.true) }

pub returns-then-r-d : goal.returns-then-r-d
returns-then-r-d c =
    let s = state_at c.args.m.now in
    let k = c.rounds-r.result.left in
    let near : k < distance s = omega (arith, c.distance-d.ensures, c.if-r-d.true) in
    record {
      image = counted_image c.requires.image c.requires.at_rest c.rounds-r.ensures k near c.advanced_in.ensures;
      none = λ h. counted_all c.requires.image c.requires.at_rest c.rounds-r.ensures k near c.advanced_in.ensures refl;
      some = λ l h. absurd cc;
      less = λ l h. absurd cc;
      marked = λ l k h. absurd cc;
    }

pub overflow_sub-d : goal.overflow_sub-d
overflow_sub-d c =
    omega (arith, c.distance-d.ensures, (distance_bounded (state_at c.args.m.now)).0)

pub advanced_in-requires-2 : goal.advanced_in-requires-2
advanced_in-requires-2 c =
    record { image = c.requires.image; at_rest = c.requires.at_rest; k_bound = omega (arith, c.distance-d.ensures, (distance_bounded (state_at c.args.m.now)).0) }

pub map-requires : goal.map-requires
map-requires c =
    λ x e _ _ _ _ _. omega (arith, c.distance-d.ensures, (distance_bounded (state_at c.args.m.now)).1, c.rounds-r.ensures.early x e)

pub returns : goal.returns
returns c =
    let s = state_at c.args.m.now in
    let d = c.distance-d.result in
    let lap = c.rounds-r.result in
    let far : 1 ≤ d = omega (arith, c.distance-d.ensures, (distance_bounded s).0) in
    let near : d - 1 < distance s = omega (arith, c.distance-d.ensures, far) in
    record {
      image = counted_image c.requires.image c.requires.at_rest c.rounds-r.ensures (d - 1) near c.advanced_in-2.ensures;
      none = λ h. absurd cc;
      some = λ n h.
          rw (← some_is h) (counted_some c.requires.image c.requires.at_rest c.rounds-r.ensures (d - 1) near c.advanced_in-2.ensures (lap.left - d) (omega (arith, far, c.if-r-d.false)));
      less = λ n h. rw (← some_is h) (omega (arith, far, c.if-r-d.false, c.rounds-r.ensures.less));
      marked = λ n k h e.
          let q = mapped _ lap.since c.map.result c.map.ensures.cases k (ap (λ (l : Lap). l.since) (some_is h) ∙ e) in
          counted_marked c.requires.image c.requires.at_rest c.rounds-r.ensures (d - 1) near c.advanced_in-2.ensures k q.0 q.1 (omega (arith, q.2, far));
    }
