-- R-6's step, many times over.
use Rattle.std.specs.Prelude.{ℕ, ltb}
use Rattle.rules.specs.Counter.{value_after, passings}
use Rattle.rules.specs.declared.counts.CounterStep.{CounterStep}
use Rattle.rules.specs.declared.counts.Direction.{Direction}

-- "The counter's step now says besides the new value whether it passed its end": k steps say the last value, and whether one of
-- them passed it
unfoldable pub counter_steps : Direction → ℕ → ℕ → CounterStep
counter_steps d k n = record { value = value_after d k n; passed = ltb 0 (passings d k n) }
