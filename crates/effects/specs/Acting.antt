-- What A leaves of an event, and what it hands on.
use Rattle.std.specs.Prelude.{ℕ, ◌≡◌, Bool, cond, List, Result, Ok, Err}
use Rattle.rules.specs.State.{State}
use Rattle.rules.specs.Events.{ticks_of}
use Rattle.rules.specs.Codes.{access_code, is_done, refused_value}
use Rattle.rules.specs.Reads.{value_read}
use Rattle.rules.specs.StepA.{after_a}
use Rattle.rules.specs.declared.codes.Code.{Code}
use Rattle.rules.specs.declared.records.Event.{Event}
use Rattle.image.specs.Image.{image_of}
use Rattle.effects.specs.declared.Effect.{Effect}
use Rattle.effects.specs.declared.Ended.{Ended}

abbrev pub ended_with : Code → ℕ → Ended
ended_with code value = record { code = code; value = value }

abbrev pub refused_as : Code → ℕ → Result Effect Ended
refused_as code value = Err (ended_with code value)

abbrev pub done_with : ℕ → ℕ → Result Effect Ended
done_with value ticks = Ok (record { value = value; ticks = ticks })

-- one of the checks
abbrev pub checked_as : Bool → Code → Event → Result (Unit {0}) Ended
checked_as found code e = cond found (Err (ended_with code (refused_value e))) (Ok tt)

-- "Checked in the order 1, 2, 7, 3, then 4 or 5": an event that is done leaves the state after A, one that is refused the state as it was
pub record Acts (s : State) (e : Event) (m : List ℕ) (a : Result Effect Ended) : Type 0 where
  pub image : m ≡ image_of (cond (is_done (access_code s e)) (after_a s e) s)
  pub acted : a ≡ cond (is_done (access_code s e)) (done_with (value_read s e) (ticks_of e)) (refused_as (access_code s e) (refused_value e))
