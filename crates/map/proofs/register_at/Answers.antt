-- Each arm computes the table at its key; the rest lies in 25..=27 or is past the table.
use Rattle.std.specs.Prelude.{Option, None}
use Rattle.rules.specs.declared.map.Register.{Register}
use borrow.Author.Tests.{ltb-true, ltb-false}
use native.Mathlib.Omega.{arith}
use mathlib.Core.Path.{◌≡◌, refl, sym, ◌∙◌}
use mathlib.Core.Bool.{Bool, true, false, cond}
use Prim.Native.Nat.{ℕ, ◌≤◌, ◌<◌}
use lib.Dec.{ltb}
use Rattle.rules.specs.Map.{table, read_at, written_at}
use Rattle.laws.proofs.Tables.{in_range, none_below, climb}
use Rattle.map.specs.Directions.{mapped_at}
use Rattle.map.proofs.Offsets.{past}
use Rattle.map.proofs.register_at.Goals as goal

-- the same in both directions
either : (w : Bool) (x : ℕ) {m : Option Register} → m ≡ read_at x → m ≡ written_at x → m ≡ mapped_at w x
either true x r s = s
either false x r s = r

-- what the side of an access holds
sided : (w : Bool) (x : ℕ) {m a b : Option Register} → m ≡ cond w a b → a ≡ written_at x → b ≡ read_at x → m ≡ mapped_at w x
sided true x e r s = e ∙ r
sided false x e r s = e ∙ s

module _ (w : Bool) (x : ℕ) where
  gap : 25 ≤ x → x < 28 → None ≡ mapped_at w x
  unfolding table read_at written_at
  gap h k = in_range (λ (n : ℕ). None ≡ mapped_at w n) 3 25 (either w 25 refl refl, (either w 26 refl refl, (either w 27 refl refl, tt))) x h k

  -- what the arm of ranges knows: none of the keys, in the order of the arms
  abbrev Keyless : Type 0
  Keyless = (((((none_below x 23 × (x ≡ 24 → ⊥)) × (x ≡ 28 → ⊥)) × (x ≡ 29 → ⊥)) × (x ≡ 30 → ⊥)) × (x ≡ 31 → ⊥)) × (x ≡ 23 → ⊥)

  between : Keyless → x < 32 → (25 ≤ x) × (x < 28)
  between r h =
      let low : 23 ≤ x = climb x 23 r.0.0.0.0.0.0 in
      let a : (x ≡ 23 → ⊥) = r.1 in
      let b : (x ≡ 24 → ⊥) = r.0.0.0.0.0.1 in
      let d : (x ≡ 28 → ⊥) = r.0.0.0.0.1 in
      let e : (x ≡ 29 → ⊥) = r.0.0.0.1 in
      let f : (x ≡ 30 → ⊥) = r.0.0.1 in
      let g : (x ≡ 31 → ⊥) = r.0.1 in
      let up : 25 ≤ x = omega arith in
      (up, omega arith)

  rest : Keyless → (b : Bool) → ltb x 32 ≡ b → None ≡ mapped_at w x
  rest r true e = gap (between r (ltb-true x 32 e)).0 (between r (ltb-true x 32 e)).1
  rest r false e = sym (past w x (ltb-false x 32 e))

  rest_at : Keyless → None ≡ mapped_at w x
  rest_at r = rest r (ltb x 32) refl

pub returns-in-0 : goal.returns-in-0
unfolding table read_at written_at
returns-in-0 c = rw c.in-0.is (either c.args.write _ refl refl)

pub returns-in-1 : goal.returns-in-1
unfolding table read_at written_at
returns-in-1 c = rw c.in-1.is (either c.args.write _ refl refl)

pub returns-in-2 : goal.returns-in-2
unfolding table read_at written_at
returns-in-2 c = rw c.in-2.is (either c.args.write _ refl refl)

pub returns-in-3 : goal.returns-in-3
unfolding table read_at written_at
returns-in-3 c = rw c.in-3.is (sided c.args.write _ c.by_direction.ensures refl refl)

pub returns-in-4 : goal.returns-in-4
unfolding table read_at written_at
returns-in-4 c = rw c.in-4.is (sided c.args.write _ c.side.ensures refl refl)

pub returns-in-5 : goal.returns-in-5
unfolding table read_at written_at
returns-in-5 c = rw c.in-5.is (sided c.args.write _ c.by_direction-in-5.ensures refl refl)

pub returns-in-6 : goal.returns-in-6
unfolding table read_at written_at
returns-in-6 c = rw c.in-6.is (either c.args.write _ refl refl)

pub returns-in-7 : goal.returns-in-7
unfolding table read_at written_at
returns-in-7 c = rw c.in-7.is (sided c.args.write _ c.side-in-7.ensures refl refl)

pub returns-in-8 : goal.returns-in-8
unfolding table read_at written_at
returns-in-8 c = rw c.in-8.is (either c.args.write _ refl refl)

pub returns-in-9 : goal.returns-in-9
unfolding table read_at written_at
returns-in-9 c = rw c.in-9.is (either c.args.write _ refl refl)

pub returns-in-10 : goal.returns-in-10
unfolding table read_at written_at
returns-in-10 c = rw c.in-10.is (either c.args.write _ refl refl)

pub returns-in-11 : goal.returns-in-11
unfolding table read_at written_at
returns-in-11 c = rw c.in-11.is (sided c.args.write _ c.by_direction-in-11.ensures refl refl)

pub returns-in-12 : goal.returns-in-12
unfolding table read_at written_at
returns-in-12 c = rw c.in-12.is (sided c.args.write _ c.by_direction-in-12.ensures refl refl)

pub returns-in-13 : goal.returns-in-13
unfolding table read_at written_at
returns-in-13 c = rw c.in-13.is (sided c.args.write _ c.side-in-13.ensures refl refl)

pub returns-in-14 : goal.returns-in-14
unfolding table read_at written_at
returns-in-14 c = rw c.in-14.is (sided c.args.write _ c.by_direction-in-14.ensures refl refl)

pub returns-in-15 : goal.returns-in-15
unfolding table read_at written_at
returns-in-15 c = rw c.in-15.is (sided c.args.write _ c.by_direction-in-15.ensures refl refl)

pub returns-in-16 : goal.returns-in-16
unfolding table read_at written_at
returns-in-16 c = rw c.in-16.is (either c.args.write _ refl refl)

pub returns-in-17 : goal.returns-in-17
unfolding table read_at written_at
returns-in-17 c = rw c.in-17.is (either c.args.write _ refl refl)

pub returns-in-18 : goal.returns-in-18
unfolding table read_at written_at
returns-in-18 c = rw c.in-18.is (either c.args.write _ refl refl)

pub returns-in-19 : goal.returns-in-19
unfolding table read_at written_at
returns-in-19 c = rw c.in-19.is (either c.args.write _ refl refl)

pub returns-in-20 : goal.returns-in-20
unfolding table read_at written_at
returns-in-20 c = rw c.in-20.is (sided c.args.write _ c.side-in-20.ensures refl refl)

pub returns-in-21 : goal.returns-in-21
unfolding table read_at written_at
returns-in-21 c = rw c.in-21.is (sided c.args.write _ c.side-in-21.ensures refl refl)

pub returns-in-22 : goal.returns-in-22
unfolding table read_at written_at
returns-in-22 c = rw c.in-22.is (either c.args.write _ refl refl)

pub returns-in-24 : goal.returns-in-24
unfolding table read_at written_at
returns-in-24 c = rw c.in-24.is (either c.args.write _ refl refl)

pub returns-in-28 : goal.returns-in-28
unfolding table read_at written_at
returns-in-28 c = rw c.in-28.is (sided c.args.write _ c.side-in-28.ensures refl refl)

pub returns-in-29 : goal.returns-in-29
unfolding table read_at written_at
returns-in-29 c = rw c.in-29.is (either c.args.write _ refl refl)

pub returns-in-30 : goal.returns-in-30
unfolding table read_at written_at
returns-in-30 c = rw c.in-30.is (sided c.args.write _ c.side-in-30.ensures refl refl)

pub returns-in-31 : goal.returns-in-31
unfolding table read_at written_at
returns-in-31 c = rw c.in-31.is (sided c.args.write _ c.side-in-31.ensures refl refl)

pub returns-in-23 : goal.returns-in-23
unfolding table read_at written_at
returns-in-23 c = rw c.in-23.in-23-own.keys29 (either c.args.write _ refl refl)

pub returns-in-23-2 : goal.returns-in-23-2
unfolding table read_at written_at
returns-in-23-2 c = rest_at c.args.write c.args.offset c.in-23.in-23-own.rest
