-- What an event on an image leaves and gives.
use Rattle.std.specs.Prelude.{◌≡◌, List, [], ℕ}
use Rattle.rules.specs.Answers.{Stepped, answer_of, answer_bytes}
use Rattle.rules.specs.declared.codes.Code.{Code}
use Rattle.fifos.specs.Fifos.{sent_of}
use Rattle.image.specs.Image.{image_of}
use Rattle.event.specs.declared.stepping.Outcome.{Outcome}
use Rattle.event.specs.declared.stepping.Reply.{Reply}

abbrev pub ended_as : Code → ℕ → Outcome
ended_as code value = record { code = code; value = value; moves = 0; acks = 0; sent = sent_of [] }

-- the image of the new state, and what the answer says beside it
pub record Leaves (x : Stepped) (m : List ℕ) (o : Outcome) : Type 0 where
  pub image : m ≡ image_of x.state
  pub code : o.code ≡ x.code
  pub value : o.value ≡ x.value
  pub moves : o.moves ≡ x.moves
  pub acks : o.acks ≡ x.acks
  pub sent : o.sent ≡ sent_of x.sent

-- the image of the new state, the code, and the sixteen bytes of the answer
pub record Gives (x : Stepped) (m : List ℕ) (r : Reply) : Type 0 where
  pub image : m ≡ image_of x.state
  pub code : r.code ≡ x.code
  pub answer : r.answer ≡ answer_bytes (answer_of x)
