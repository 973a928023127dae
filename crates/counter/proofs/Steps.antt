-- R-6: many steps of the counter, by the value that they come to and the end that they pass.
use Prim.Native.Nat.{ℕ, zero, suc, ◌+◌, ◌-◌, ◌%◌, ◌<◌, ◌≤◌}
use mathlib.Core.Path.{◌≡◌, refl, sym, ap, ◌∙◌}
use mathlib.Core.Bool.{Bool, true, false, ◌&&◌}
use native.Mathlib.Omega.{arith}
use native.Mathlib.Nat.{mod-add-mod}
use borrow.Author.Tests.{ltb-true, ltb-false, lt-ltb, le-ltb, le-leb, lt-leb, ne_eqb}
use lib.Dec.{ltb, leb, eqb}
use Rattle.rules.specs.Numbers.{one}
use Rattle.rules.specs.Counter.{counter_size, stepped_to, counter_step, value_after, passings, loaded}
use Rattle.rules.specs.declared.counts.CounterStep.{CounterStep}
use Rattle.rules.specs.declared.counts.Direction.{Direction}
use Rattle.rules.specs.declared.counts.Direction.TheVariants.{Up, Down}
use Rattle.rules.proofs.Counting.{follows_up, times_up, times_down}
use Rattle.counter.specs.Steps.{counter_steps}

-- what a step says of its value
unfoldable pub said : ℕ → CounterStep
said n = record { value = n; passed = eqb n 0 }

-- one step more, behind the others
pub last_step : (d : Direction) (k n : ℕ) → (counter_step d (value_after d k n)).value ≡ value_after d (suc k) n
unfolding value_after
last_step d zero n = refl
last_step d (suc k) n = last_step d k (counter_step d n).value

-- of a number past 24 bits a step takes these alone
step_reduced : (d : Direction) (n : ℕ) → counter_step d (n % counter_size) ≡ counter_step d n
unfolding counter_step stepped_to said
step_reduced Up n = ap said (mod-add-mod n 16777216 1)
step_reduced Down n = ap said (mod-add-mod n 16777216 16777215)

pub steps_reduced : (d : Direction) (k n : ℕ) → 0 < k → counter_steps d k (n % counter_size) ≡ counter_steps d k n
unfolding counter_steps value_after passings
steps_reduced d zero n h = absurd (omega arith)
steps_reduced d (suc k) n h =
    ap (λ (x : CounterStep). record { value = value_after d k x.value; passed = ltb 0 (one x.passed + passings d k x.value) })
    (step_reduced d n)

pub no_steps : (d : Direction) (n : ℕ) → counter_steps d 0 n ≡ record { value = n; passed = false }
unfolding counter_steps value_after passings
no_steps d n = refl

-- one step
pub one_step : (d : Direction) (n : ℕ) → counter_steps d 1 n ≡ counter_step d n
unfolding counter_steps value_after passings counter_step
one_step d n = ap (λ (t : Bool). record { value = stepped_to d n; passed = t }) (by_test (eqb (stepped_to d n) 0))
  where
    by_test : (t : Bool) → ltb 0 (one t + 0) ≡ t
    by_test true = refl
    by_test false = refl

-- a test, by what it says of its numbers
by_ltb : (a b : ℕ) {t : Bool} → (a < b → t ≡ true) → (b ≤ a → t ≡ false) → ltb a b ≡ t
by_ltb a b {t} f g = go (ltb a b) refl
  where
    go : (u : Bool) → ltb a b ≡ u → u ≡ t
    go true e = sym (f (ltb-true a b e))
    go false e = sym (g (ltb-false a b e))

-- up
pub up_steps : (k n : ℕ) → n < counter_size
    → counter_steps Up k n ≡ record { value = (n + k) % counter_size; passed = ltb 16777215 (n + k) }
unfolding counter_steps
up_steps k n h =
    let t = times_up k n h in
    let v : value_after Up k n ≡ (n + k) % counter_size = omega (arith, t, follows_up k n h) in
    let p : ltb 0 (passings Up k n) ≡ ltb 16777215 (n + k) =
    by_ltb 0 (passings Up k n) (λ l. lt-ltb 16777215 (n + k) (omega (arith, t))) (λ l. le-ltb 16777215 (n + k) (omega (arith, t))) in
    cc

-- down
down_value : (k n : ℕ) → n < counter_size → k ≤ counter_size → value_after Down k n ≡ (n + (counter_size - k)) % counter_size
unfolding value_after counter_step stepped_to
down_value zero n h l = omega arith
down_value (suc k) n h l = down_value k ((n + 16777215) % counter_size) (omega arith) (omega arith) ∙ omega arith

loaded_more : (n : ℕ) → loaded (suc n) ≡ suc n
unfolding loaded
loaded_more n = rw (ne_eqb (suc n) 0 (λ e. omega arith))

down_passed : (k n : ℕ) → n < counter_size → k < counter_size → ltb 0 (passings Down k n) ≡ (ltb 0 n && leb n k)
unfolding loaded
down_passed k zero h l = le-ltb 0 (passings Down k 0) (omega (arith, times_down k 0 h))
down_passed k (suc n) h l =
    let t = times_down k (suc n) h in
    let e = loaded_more n in
    rw (lt-ltb 0 (suc n) (omega arith))
    (by_ltb 0 (passings Down k (suc n)) (λ g. le-leb (suc n) k (omega (arith, t, e))) (λ g. lt-leb (suc n) k (omega (arith, t, e))))

pub down_steps : (k n : ℕ) → n < counter_size → k < counter_size
    → counter_steps Down k n ≡ record { value = (n + (counter_size - k)) % counter_size; passed = ltb 0 n && leb n k }
unfolding counter_steps
down_steps k n h l =
    let v = down_value k n h (omega arith) in
    let p = down_passed k n h l in
    cc

-- over the end and short of it, up and down; 0 itself is left without passing it
pub steps_at_the_ends :
    (counter_steps Up 8 16777212 ≡ record { value = 4; passed = true })
    × (counter_steps Up 3 16777212 ≡ record { value = 16777215; passed = false })
    × (counter_steps Down 8 3 ≡ record { value = 16777211; passed = true })
    × (counter_steps Down 8 0 ≡ record { value = 16777208; passed = false })
unfolding counter_steps value_after passings counter_step stepped_to
steps_at_the_ends = (refl, refl, refl, refl)
