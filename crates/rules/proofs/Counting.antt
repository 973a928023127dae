-- R-6: what the counter's step says, and how a count kept outside follows it.
use Prim.Native.Nat.{ℕ, zero, suc, ◌+◌, ◌-◌, ◌*◌, ◌/◌, ◌%◌, ◌<◌, ◌≤◌}
use mathlib.Core.Path.{◌≡◌, refl}
use mathlib.Core.Bool.{Bool, true, false, cond}
use native.Mathlib.Omega.{arith}
use borrow.Author.Tests.{eqb-true, eqb-false, eq-eqb, ne_eqb}
use lib.Dec.{eqb}
use Rattle.rules.specs.Numbers.{one}
use Rattle.rules.specs.Counter.{counter_size, counted, stepped_to, counter_step, value_after, passings, loaded, counter_with}
use Rattle.rules.specs.declared.counts.Direction.{Direction}
use Rattle.rules.specs.declared.counts.Direction.TheVariants.{Up, Down}
use Rattle.rules.specs.Events.{writes, value_of}
use Rattle.rules.specs.StepA.{clrstcnt, counter_a}
use Rattle.rules.specs.StepC.{Settling, handshake}
use Rattle.rules.specs.declared.chip.Conditions.{Conditions}
use Rattle.rules.specs.declared.map.Register.TheVariants.{STCNT0, STCNT1, STCNT2}
use Rattle.rules.specs.declared.records.Event.{Event}
use Rattle.rules.proofs.Ranges.{counter_fits}

-- document 01: "Each ACK adds one to the counter, modulo 16,777,216": the value of a step up
pub up_counted : (n : ℕ) → (counter_step Up n).value ≡ counted n
unfolding counter_step stepped_to counted
up_counted n = refl

-- a step back gives the value again
pub down_after_up : (n : ℕ) → n < counter_size → (counter_step Down (counter_step Up n).value).value ≡ n
unfolding counter_step stepped_to
down_after_up n h = omega arith

pub up_after_down : (n : ℕ) → n < counter_size → (counter_step Up (counter_step Down n).value).value ≡ n
unfolding counter_step stepped_to
up_after_down n h = omega arith

-- a test of two numbers, by what it says of them
by_test : (a b : ℕ) (P : Bool → Type 0) → (a ≡ b → P true) → ((a ≡ b → ⊥) → P false) → P (eqb a b)
by_test a b P f g = go (eqb a b) refl
  where
    go : (t : Bool) → eqb a b ≡ t → P t
    go true e = f (eqb-true a b e)
    go false e = g (eqb-false a b e)

-- two tests that hold together
same_test : (a b c d : ℕ) → (a ≡ b → c ≡ d) → (c ≡ d → a ≡ b) → eqb a b ≡ eqb c d
same_test a b c d f g = by_test c d (λ t. eqb a b ≡ t) (λ e. eq-eqb a b (g e)) (λ e. ne_eqb a b (λ h. e (f h)))

-- passed says that the value came to 0: up from 16,777,215 and down from 1, and from no other
pub passes_up : (n : ℕ) → n < counter_size → (counter_step Up n).passed ≡ eqb n 16777215
unfolding counter_step stepped_to
passes_up n h = same_test ((n + 1) % counter_size) 0 n 16777215 (λ e. omega arith) (λ e. omega arith)

pub passes_down : (n : ℕ) → n < counter_size → (counter_step Down n).passed ≡ eqb n 1
unfolding counter_step stepped_to
passes_down n h = same_test ((n + 16777215) % counter_size) 0 n 1 (λ e. omega arith) (λ e. omega arith)

-- one step, with the end that it passes
up_one : (n : ℕ) → n < counter_size → n + 1 ≡ one (counter_step Up n).passed * counter_size + (counter_step Up n).value
unfolding counter_step stepped_to
up_one n h =
    by_test ((n + 1) % counter_size) 0 (λ t. n + 1 ≡ one t * counter_size + (n + 1) % counter_size) (λ e. omega arith) (λ e. omega (arith, e))

value_fits : (d : Direction) (k n : ℕ) → n < counter_size → value_after d k n < counter_size
unfolding value_after
value_fits d zero n h = h
value_fits d (suc k) n h = value_fits d k (counter_step d n).value (counter_fits d n)

-- a count kept outside: what was passed and the value together are the start and the steps
pub follows_up : (k n : ℕ) → n < counter_size → n + k ≡ passings Up k n * counter_size + value_after Up k n
unfolding passings value_after
follows_up zero n h = omega arith
follows_up (suc k) n h = omega (arith, up_one n h, follows_up k (counter_step Up n).value (counter_fits Up n))

-- k steps up pass the end once for each 16,777,216
pub times_up : (k n : ℕ) → n < counter_size → passings Up k n ≡ (n + k) / counter_size
times_up k n h = omega (arith, follows_up k n h, value_fits Up k n h)

-- going down from a count that is loaded, 0 as 16,777,216
loaded_fits : (n : ℕ) → n < counter_size → (1 ≤ loaded n) × (loaded n ≤ counter_size)
unfolding loaded
loaded_fits n h = by_test n 0 (λ t. (1 ≤ cond t counter_size n) × (cond t counter_size n ≤ counter_size)) (λ e. (omega arith, omega arith)) (λ e. (omega (arith, e), omega arith))

down_one : (n : ℕ) → n < counter_size → loaded n + one (counter_step Down n).passed * counter_size ≡ 1 + loaded (counter_step Down n).value
unfolding counter_step stepped_to loaded
down_one n h =
    let v : ℕ = (n + 16777215) % counter_size in
    by_test n 0 (λ t. cond t counter_size n + one (eqb v 0) * counter_size ≡ 1 + cond (eqb v 0) counter_size v)
    (λ e. by_test v 0 (λ t. counter_size + one t * counter_size ≡ 1 + cond t counter_size v) (λ z. omega arith) (λ z. omega (arith, z)))
    (λ e. by_test v 0 (λ t. n + one t * counter_size ≡ 1 + cond t counter_size v) (λ z. omega arith) (λ z. omega (arith, e, z)))

pub follows_down : (k n : ℕ) → n < counter_size → loaded n + passings Down k n * counter_size ≡ k + loaded (value_after Down k n)
unfolding passings value_after
follows_down zero n h = omega arith
follows_down (suc k) n h = omega (arith, down_one n h, follows_down k (counter_step Down n).value (counter_fits Down n))

-- k steps down pass the end once for each 16,777,216 from the count that was loaded
pub times_down : (k n : ℕ) → n < counter_size → passings Down k n ≡ (k + counter_size - loaded n) / counter_size
times_down k n h =
    let started = loaded_fits n h in
    let ended = loaded_fits (value_after Down k n) (value_fits Down k n h) in
    omega (arith, follows_down k n h, started.0, started.1, ended.0, ended.1)

-- both ends, a step beside each, and two rounds
pub at_the_ends :
    ((counter_step Up 16777215).passed ≡ true)
    × ((counter_step Up 0).passed ≡ false)
    × ((counter_step Down 1).passed ≡ true)
    × ((counter_step Down 0).passed ≡ false)
    × ((counter_step Down 0).value ≡ 16777215)
unfolding counter_step stepped_to
at_the_ends = (refl, refl, refl, refl, refl)

pub two_rounds_up : passings Up 33554432 1 ≡ 2
two_rounds_up = times_up 33554432 1 (omega arith)

pub two_rounds_down : passings Down 16777217 1 ≡ 2
unfolding loaded
two_rounds_down = times_down 16777217 1 (omega arith)

-- "In the initiator role no visible bit changes": the two places that step the counter, as document 01 words them
pub handshake_counts : (c : Conditions) (s : Settling) → (handshake c s).transfer.counter ≡ counted s.transfer.counter
unfolding handshake counter_step stepped_to counted
handshake_counts c s = refl

pub access_counts : (acked : Bool) (e : Event) (n : ℕ) → counter_a acked e n ≡ cond (clrstcnt e) 0 (cond (writes e STCNT0) (counter_with 0 (value_of e) n) (cond (writes e STCNT1) (counter_with 1 (value_of e) n) (cond (writes e STCNT2) (counter_with 2 (value_of e) n) (cond acked (counted n) n))))
unfolding counter_a counter_step stepped_to counted
access_counts acked e n = refl
