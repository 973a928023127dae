-- The whole step: a state and a record give a new state and an answer.
use Rattle.std.specs.Prelude.{Option, Some, None}
use Rattle.std.specs.Prelude.{ℕ, zero, suc, ◌+◌, cond, List, [], ◌∷◌, ◌++◌, eqb, length}
use Rattle.rules.specs.State.{State, power_reset}
use Rattle.rules.specs.Records.{decode}
use Rattle.rules.specs.Reads.{value_read}
use Rattle.rules.specs.Codes.{access_code, refused_value, is_done}
use Rattle.rules.specs.StepB.{beyond, at_req}
use Rattle.rules.specs.StepC.{settled_c}
use Rattle.rules.specs.StepD.{after_d}
use Rattle.rules.specs.Answers.{Stepped, answer_of, answer_bytes, answer_size}
use Rattle.rules.specs.declared.codes.Code.{Code}
use Rattle.rules.specs.declared.codes.Code.TheVariants.{Done, Malformed, BeyondLimit}
use Rattle.rules.specs.declared.records.Event.{Event}
use Rattle.rules.specs.declared.records.Event.TheVariants.{PowerReset, Write, Read, WordWrite, WordRead, Drive, Ticks}

-- an event that ends at once, in this state: no moves, no ACKs, no sent bytes
unfoldable pub ended : State → Code → ℕ → Stepped
ended s code value = record { state = s; code = code; value = value; moves = 0; acks = 0; sent = [] }

-- "A refused access (1 to 5, 7) has ACKs and moves 0 and no sent bytes; the other fields show the unchanged state."
abbrev pub refused : State → Code → ℕ → Stepped
refused s code value = ended s code value

-- an event that is not refused: A, B, C, D; code 6 if B found a REQ beyond the limit, else 0
unfoldable pub done : State → Event → Stepped
done s e =
    record {
      state = after_d s e;
      code = cond (beyond s (at_req s e)) BeyondLimit Done;
      value = value_read s e;
      moves = (settled_c s e).moves;
      acks = (settled_c s e).acks;
      sent = (settled_c s e).sent;
    }

-- "Checked in the order 1, 2, 7, 3, then 4 or 5; 6 arises only in kind 5."
unfoldable pub access : State → Event → Stepped
access s e = cond (is_done (access_code s e)) (done s e) (refused s (access_code s e) (refused_value e))

-- one event and those after it: "its moves, ACKs and bytes sent are those of its ticks together"
abbrev pub joined : Stepped → Stepped → Stepped
joined first rest =
    record {
      state = rest.state;
      code = Done;
      value = 0;
      moves = first.moves + rest.moves;
      acks = first.acks + rest.acks;
      sent = first.sent ++ rest.sent;
    }

-- n events of one tick
unfoldable pub single_ticks : ℕ → State → Stepped
single_ticks zero s = ended s Done 0
single_ticks (suc n) s = joined (access s (Ticks 1)) (single_ticks n (access s (Ticks 1)).state)

-- R-1: "An event of n ticks leaves the chip as n events of one tick would"; an event of 0 ticks is an event without a tick
unfoldable pub ticks_taken : ℕ → State → Stepped
ticks_taken zero s = access s (Ticks 0)
ticks_taken (suc n) s = single_ticks (suc n) s

-- kind 0, "power reset", ends at once too; its code is 0
unfoldable pub step_event : State → Event → Stepped
step_event s PowerReset = ended power_reset Done 0
step_event s (Write offset value) = access s (Write offset value)
step_event s (Read offset) = access s (Read offset)
step_event s (WordWrite word) = access s (WordWrite word)
step_event s WordRead = access s WordRead
step_event s (Drive lines) = access s (Drive lines)
step_event s (Ticks n) = ticks_taken n s

unfoldable pub step_decoded : State → Option Event → Stepped
step_decoded s (Some e) = step_event s e
step_decoded s None = refused s Malformed 0

-- THE STEP, on the bytes of a record
unfoldable pub step : State → List ℕ → Stepped
step s bytes = step_decoded s (decode bytes)

-- the sixteen bytes of its answer
unfoldable pub answer : State → List ℕ → List ℕ
answer s bytes = answer_bytes (answer_of (step s bytes))

-- the call, with a lent answer buffer: "if the answer buffer is not 16 bytes nothing is written to it"
pub record Called : Type 0 where
  pub state : State
  pub code : Code
  pub buffer : List ℕ

unfoldable pub called : State → List ℕ → List ℕ → Called
called s bytes buffer =
    cond (eqb (length buffer) answer_size)
    (record { state = (step s bytes).state; code = (step s bytes).code; buffer = answer s bytes })
    (record { state = s; code = Malformed; buffer = buffer })

-- records one after the other: the state they leave, and their answers
abbrev pub after : State → List (List ℕ) → State
after s [] = s
after s (bytes ∷ more) = after (step s bytes).state more

abbrev pub answers : State → List (List ℕ) → List (List ℕ)
answers s [] = []
answers s (bytes ∷ more) = answer s bytes ∷ answers (step s bytes).state more
