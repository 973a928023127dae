use Rattle.std.specs.Prelude.{Some}
use Prim.Native.Nat.{◌%◌, ◌<◌}
use mathlib.Core.Path.{◌≡◌, refl, sym, ◌∙◌}
use native.Mathlib.Nat.{mod-lt}
use native.Mathlib.Omega.{arith}
use Rattle.std.specs.Cmp.Lexicographic.{same_text}
use Rattle.event.proofs.Ticking.{led_nowhere, led_round, some_is}
use Rattle.event.proofs.passing.rounds.Goals as goal

pub returns-in-Some : goal.returns-in-Some
returns-in-Some c =
    record {
      same = refl;
      less = omega arith;
      early = λ k h. omega (arith, some_is (sym c.in-Some.is ∙ h), c.if-k-lt72.true);
      marked = λ k h. led_nowhere (c.requires.leads k h) (sym c.is_nothing.ensures ∙ c.if-is_nothing.true);
    }

pub returns-in-Some-eq72 : goal.returns-in-Some-eq72
returns-in-Some-eq72 c =
    let left = c.args.lap.left in
    let some : 0 < 72 = omega arith in
    let small : left % 72 < 72 = mod-lt left some in
    let full : c.args.lap.since ≡ Some 72 = cc in
    record {
      same = led_round c.requires.image (c.requires.leads 72 full) refl (sym c.if-is_nothing-2.ensures) (same_text _ _ c.if-eq.ensures) left;
      less = omega (arith, small, c.if-lap-lt144.false);
      early = λ k h. absurd cc;
      marked = λ k h. absurd cc;
    }
