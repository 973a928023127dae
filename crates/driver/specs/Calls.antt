-- Calls of the public functions, and the exchanges that they are to a driver.
use Rattle.std.specs.Prelude.{ℕ, zero, suc, ◌≡◌, true, List, [], ◌∷◌, take, drop}
use Rattle.rules.specs.State.{State}
use Rattle.rules.specs.Ranges.{InRange, InBytes}
use Rattle.rules.specs.Step.{step, answer}
use Rattle.rules.specs.declared.chip.Chip.{Chip}
use Rattle.step.specs.declared.Returned.{Returned}
use Rattle.step.specs.Outcomes.{IsStep}
use Rattle.driver.specs.Exchanges.{Exchange, is_answered, handed}

-- what every chip value of the code is: its arrays have their lengths, and their elements are bytes
pub record Ranged (s : State) : Type 0 where
  pub range : InRange s
  pub bytes : InBytes s

-- exchanges that the definition's step gives from a state, one after the other
abbrev pub Trace : State → List Exchange → Type 0
Trace s [] = Unit {0}
Trace s (x ∷ more) = (is_answered x ≡ true → x.buffer ≡ answer s x.bytes) × Trace (step s (handed x)).state more

-- a call of step::step: the record, the lent buffer before and after it, and what it returned
pub record Call : Type 0 where
  pub bytes : List ℕ
  pub before : List ℕ
  pub buffer : List ℕ
  pub returned : Returned

-- each call takes the chip that the one before returned; any record, any buffer
abbrev pub Calls : Chip → List Call → Type 0
Calls c [] = Unit {0}
Calls c (k ∷ more) = IsStep c k.bytes k.before k.buffer k.returned × Calls k.returned.chip more

abbrev pub last_chip : Chip → List Call → Chip
last_chip c [] = c
last_chip c (k ∷ more) = last_chip k.returned.chip more

abbrev pub exchange_of : Call → Exchange
exchange_of k = record { bytes = k.bytes; buffer = k.buffer }

abbrev pub exchanges_of : List Call → List Exchange
exchanges_of [] = []
exchanges_of (k ∷ more) = exchange_of k ∷ exchanges_of more

-- of a run of n records in one slice and their answers in another: four bytes and sixteen at a time
abbrev pub exchanges_in : ℕ → List ℕ → List ℕ → List Exchange
exchanges_in zero records answers = []
exchanges_in (suc n) records answers =
    record { bytes = take 4 records; buffer = take 16 answers } ∷ exchanges_in n (drop 4 records) (drop 16 answers)
