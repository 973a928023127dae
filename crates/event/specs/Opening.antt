-- What A leaves of a record, and what B, C and D take up.
use Rattle.std.specs.Prelude.{Option, Some, None, Result}
use Rattle.std.specs.Prelude.{ℕ, ◌≡◌, List}
use Rattle.rules.specs.State.{State, power_reset}
use Rattle.rules.specs.Seen.{rst_seen, req_seen, mismatched}
use Rattle.rules.specs.Events.{ticks_of}
use Rattle.rules.specs.Registers.{simode0_of, simode1_of}
use Rattle.rules.specs.Codes.{access_code}
use Rattle.rules.specs.Ranges.{InRange, InBytes, EventFits}
use Rattle.rules.specs.Reads.{value_read}
use Rattle.rules.specs.StepA.{after_a}
use Rattle.rules.specs.declared.codes.Code.{Code}
use Rattle.rules.specs.declared.codes.Code.TheVariants.{Done, Malformed}
use Rattle.rules.specs.declared.records.Event.{Event}
use Rattle.rules.specs.declared.records.Event.TheVariants.{PowerReset, Write, Read, WordWrite, WordRead, Drive, Ticks}
use Rattle.image.specs.Image.{image_of}
use Rattle.effects.specs.declared.Effect.{Effect}
use Rattle.effects.specs.declared.Ended.{Ended}
use Rattle.effects.specs.Acting.{Acts, refused_as}
use Rattle.edges.specs.Since.{rst_of, req_of, mismatched_of}
use Rattle.event.specs.declared.before.Before.{Before}

-- an answer that is ready: the image of a state, a code and a value
pub record Ends (s : State) (code : Code) (value : ℕ) (m : List ℕ) (a : Result Effect Ended) : Type 0 where
  pub image : m ≡ image_of s
  pub acted : a ≡ refused_as code value

-- power reset needs no check; a record that is not well formed is code 1
abbrev pub OpensEvent : State → Event → List ℕ → Result Effect Ended → Type 0
OpensEvent s PowerReset m a = Ends power_reset Done 0 m a
OpensEvent s (Write offset value) m a = Acts s (Write offset value) m a
OpensEvent s (Read offset) m a = Acts s (Read offset) m a
OpensEvent s (WordWrite word) m a = Acts s (WordWrite word) m a
OpensEvent s WordRead m a = Acts s WordRead m a
OpensEvent s (Drive lines) m a = Acts s (Drive lines) m a
OpensEvent s (Ticks n) m a = Acts s (Ticks n) m a

abbrev pub Opens : State → Option Event → List ℕ → Result Effect Ended → Type 0
Opens s (Some e) m a = OpensEvent s e m a
Opens s None m a = Ends s Malformed 0 m a

-- what was seen and enabled, of a state
pub record Recalls (s : State) (before : Before) : Type 0 where
  pub rst : rst_of before.seen ≡ rst_seen s
  pub req : req_of before.seen ≡ req_seen s
  pub mismatched : mismatched_of before.seen ≡ mismatched s
  pub simode0 : simode0_of before.enables.simode0 ≡ s.registers.simode0
  pub simode1 : simode1_of before.enables.simode1 ≡ s.registers.simode1

-- an event that is done so far: the state before it, the image after A, and what was seen and enabled before
pub record Ready (m : List ℕ) (before : Before) (t v : ℕ) : Type 0 where
  pub state : State
  pub event : Event
  pub fits : EventFits event
  pub done : access_code state event ≡ Done
  pub range : InRange state
  pub bytes : InBytes state
  pub made : m ≡ image_of (after_a state event)
  pub recalls : Recalls state before
  pub ticks : t ≡ ticks_of event
  pub value : v ≡ value_read state event
