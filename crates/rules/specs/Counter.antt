-- The transfer counter. "The counter reads and writes as 24 bits, 348h lowest."
use Rattle.std.specs.Prelude.{ℕ, zero, suc, ◌+◌, ◌*◌, ◌/◌, ◌%◌, ◌^◌, cond, eqb}
use Rattle.rules.specs.Numbers.{field, one}
use Rattle.rules.specs.declared.counts.CounterStep.{CounterStep}
use Rattle.rules.specs.declared.counts.Direction.{Direction}
use Rattle.rules.specs.declared.counts.Direction.TheVariants.{Up, Down}

abbrev pub counter_size : ℕ
counter_size = 16777216

-- "Each ACK adds one to the counter, modulo 16,777,216"
unfoldable pub counted : ℕ → ℕ
counted n = (n + 1) % counter_size

-- R-6: "it steps down as well as up", modulo 16,777,216; data book, 348h: from 0 it goes down to 16,777,215
unfoldable pub stepped_to : Direction → ℕ → ℕ
stepped_to Up n = (n + 1) % counter_size
stepped_to Down n = (n + 16777215) % counter_size

-- R-6: "says besides the new value whether it passed its end"; data book, SWRAP of 34Bh: it passes when it comes to 0, from
-- 000001h going down and from FFFFFFh going up
unfoldable pub counter_step : Direction → ℕ → CounterStep
counter_step d n = record { value = stepped_to d n; passed = eqb (stepped_to d n) 0 }

-- the counter after k steps, and how often it passed its end in them
unfoldable pub value_after : Direction → ℕ → ℕ → ℕ
value_after d zero n = n
value_after d (suc k) n = value_after d k (counter_step d n).value

unfoldable pub passings : Direction → ℕ → ℕ → ℕ
passings d zero n = 0
passings d (suc k) n = one (counter_step d n).passed + passings d k (counter_step d n).value

-- data book, 348h: loading 0 gives a count of 16,777,216
unfoldable pub loaded : ℕ → ℕ
loaded n = cond (eqb n 0) counter_size n

-- byte k of the counter, from the lowest
abbrev pub counter_byte : ℕ → ℕ → ℕ
counter_byte k n = field n (8 * k) 8

-- the counter with byte k written
abbrev pub counter_with : ℕ → ℕ → ℕ → ℕ
counter_with k value n = n / 2 ^ (8 * k + 8) * 2 ^ (8 * k + 8) + value * 2 ^ (8 * k) + n % 2 ^ (8 * k)
