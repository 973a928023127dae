-- A test that is computed over a whole table, or at every value of a bit, holds at each entry.
use mathlib.Core.Path.{◌≡◌, sym, subst}
use mathlib.Core.Bool.{Bool, true, false}
use mathlib.Core.Logic.{⊎_elim}
use Prim.Native.Nat.{ℕ, zero, suc, ◌+◌, ◌-◌, ◌≤◌, ◌<◌}
use native.Mathlib.Nat.{eq-or-lt_of_le}
use native.Mathlib.Omega.{arith}
use lib.Dec.{T}

abbrev pub both : Bool → Bool → Bool
both true b = b
both false b = false

left : (a b : Bool) → T (both a b) → T a
left true b t = tt
left false b t = t

right : (a b : Bool) → T (both a b) → T b
right true b t = t
right false b t = absurd t

-- at both values of a bit
abbrev pub every : (Bool → Bool) → Bool
every f = both (f true) (f false)

pub every_at : (f : Bool → Bool) → T (every f) → (b : Bool) → T (f b)
every_at f t true = left (f true) (f false) t
every_at f t false = right (f true) (f false) t

-- at each number below n
abbrev pub below : (ℕ → Bool) → ℕ → Bool
below f zero = true
below f (suc n) = both (below f n) (f n)

pub below_at : (f : ℕ → Bool) (n : ℕ) → T (below f n) → (x : ℕ) → x < n → T (f x)
below_at f zero t x h = absurd (omega arith)
below_at f (suc n) t x h =
    ⊎_elim (λ (q : suc x ≡ suc n). subst (λ (m : ℕ). T (f m)) (sym (down q)) (right (below f n) (f n) t))
    (λ (q : suc x < suc n). below_at f n (left (below f n) (f n) t) x (omega arith))
    (eq-or-lt_of_le h)
  where
    down : {a b : ℕ} → suc a ≡ suc b → a ≡ b
    down e = omega arith

-- what holds at each of n numbers from lo on, each shown by itself, holds at every number between
abbrev pub each : (ℕ → Type 0) → ℕ → ℕ → Type 0
each P zero lo = Unit
each P (suc n) lo = P lo × each P n (suc lo)

pub in_range : (P : ℕ → Type 0) (n lo : ℕ) → each P n lo → (x : ℕ) → lo ≤ x → x < n + lo → P x
in_range P zero lo e x h k = absurd (omega arith)
in_range P (suc n) lo e x h k =
    ⊎_elim (λ q. subst P q e.0) (λ q. in_range P n (suc lo) e.1 x (omega arith) (omega arith)) (eq-or-lt_of_le h)

-- what the last arm of a match knows, where the keys before it are 0, 1, .., n - 1 in order
abbrev pub none_below : ℕ → ℕ → Type 0
none_below x zero = Unit
none_below x (suc n) = none_below x n × (x ≡ n → ⊥)

pub climb : (x n : ℕ) → none_below x n → n ≤ x
climb x zero r = omega arith
climb x (suc n) r = omega (arith, climb x n r.0, r.1)

-- and what holds at every n-th successor holds there
abbrev pub up : ℕ → ℕ → ℕ
up zero m = m
up (suc n) m = suc (up n m)

up_is : (n m : ℕ) → up n m ≡ n + m
up_is zero m = omega arith
up_is (suc n) m = omega (arith, up_is n m)

pub in_rest : (P : ℕ → Type 0) (x n : ℕ) → none_below x n → ((m : ℕ) → P (up n m)) → P x
in_rest P x n r f =
    let h : n ≤ x = climb x n r in
    let e : up n (x - n) ≡ x = omega (arith, up_is n (x - n)) in
    subst P e (f (x - n))
