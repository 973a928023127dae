-- The ones that the processor counts are those of the digits, over any width.
use Prim.Native.Nat.{ℕ, zero, suc, ◌+◌, ◌/◌, ◌%◌, ◌^◌, ◌<◌}
use mathlib.Core.Path.{◌≡◌, refl, ap, ◌∙◌}
use native.Mathlib.Omega.{arith}
use native.Mathlib.Nat.{pow-suc}
use lib.Count.{ones, ones_step, ones-le}
use Rattle.rules.specs.Numbers.{ones_in}

none : (v : ℕ) → v < 1 → ones v ≡ 0
unfolding ones
none zero h = refl
none (suc n) h = absurd (omega arith)

pub digits_counted : (k v : ℕ) → v < 2 ^ k → ones v ≡ ones_in k v
digits_counted zero v h = none v h
digits_counted (suc k) v h =
    let twice = pow-suc 2 k in
    ones_step v ∙ ap (λ (n : ℕ). v % 2 + n) (digits_counted k (v / 2) (omega (arith, twice)))

-- the ones of a byte fit a byte
pub few_ones : (v : ℕ) → v < 256 → ones v < 256
few_ones v h = omega (arith, ones-le 8 v h)
