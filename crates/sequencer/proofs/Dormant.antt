-- Two bytes tell that the sequencer has nothing to do.
use Prim.Native.Nat.{ℕ, ◌+◌, ◌*◌, ◌/◌, ◌%◌, ◌^◌}
use mathlib.Core.Path.{◌≡◌, refl, ap, sym}
use mathlib.Core.Bool.{Bool, true, false, not, ◌&&◌}
use mathlib.Core.List.{List}
use native.Mathlib.Omega.{arith}
use lib.Dec.{eqb}
use lib.Pow.{mod-pow-add}
use lib.ListN.{get_or}
use borrow.Author.Tests.{eqb-true}
use Rattle.rules.specs.Numbers.{bit}
use Rattle.rules.proofs.Logic.{left_true, right_true}
use Rattle.rules.proofs.StayIdle.{Dormant}
use Rattle.image.specs.Image.{state_at, phase_of}
use Rattle.image.specs.Layout.{scsiseq_place, sequencer_place}
use Rattle.sequencer.specs.Since.{dormant}

pub off : (b : Bool) → not b ≡ true → b ≡ false
off true h = sym h
off false h = refl

pub dormant_at : (m : List ℕ) → dormant m ≡ true → Dormant (state_at m)
unfolding state_at
dormant_at m h =
    let q = get_or m sequencer_place 0 in
    let v = get_or m scsiseq_place 0 in
    let low = eqb (q % 16) 0 in
    let first : (low && not (bit v 6)) ≡ true = left_true (low && not (bit v 6)) (not (bit v 4)) h in
    let z : q % 16 ≡ 0 = eqb-true (q % 16) 0 (left_true low (not (bit v 6)) first) in
    let parts : q % 16 ≡ (q / 2 ^ 3 % 2) * 2 ^ 3 + q % 2 ^ 3 = mod-pow-add q 1 3 in
    let p : q % 8 ≡ 0 = omega (arith, parts, z) in
    let d : q / 2 ^ 3 % 2 ≡ 0 = omega (arith, parts, z) in
    record {
      enselo = off (bit v 6) (right_true low (not (bit v 6)) first);
      enrseli = off (bit v 4) (right_true (low && not (bit v 6)) (not (bit v 4)) h);
      idle = ap phase_of p;
      selingo = ap (λ (n : ℕ). eqb n 1) d;
    }
