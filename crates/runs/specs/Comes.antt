-- Which records may come, and what a list of records gives.
pub use Rattle.rules.specs.Codes.{is_refusal}
use Rattle.std.specs.Prelude.{Option, Some, None}
use Rattle.std.specs.Prelude.{ℕ, ◌+◌, Bool, true, false, ◌&&◌, ◌||◌, cond, List, [], ◌∷◌, ◌++◌}
use Rattle.rules.specs.State.{State}
use Rattle.rules.specs.Records.{decode}
use Rattle.rules.specs.Step.{step}
use Rattle.rules.specs.declared.codes.Code.{Code}
use Rattle.rules.specs.declared.records.Event.{Event}

-- is the record's event one of these? A malformed record has no event
abbrev pub says : (Event → Bool) → Option Event → Bool
says allows (Some e) = allows e
says allows None = false

-- a record may come: its event is allowed, or it is refused and changes nothing
unfoldable pub may_come : (Event → Bool) → State → List ℕ → Bool
may_come allows s bytes = is_refusal (step s bytes).code || says allows (decode bytes)

-- records that may come one after the other
abbrev pub all_come : (Event → Bool) → State → List (List ℕ) → Bool
all_come allows s [] = true
all_come allows s (bytes ∷ more) = may_come allows s bytes && all_come allows (step s bytes).state more

-- bytes that an event gives where it is not refused
abbrev pub event_bytes : (Event → List ℕ) → Option Event → List ℕ
event_bytes f (Some e) = f e
event_bytes f None = []

abbrev pub unless_refused : (Event → List ℕ) → Option Event → Code → List ℕ
unless_refused f d code = cond (is_refusal code) [] (event_bytes f d)

-- what records give one after the other
abbrev pub along : (State → List ℕ → List ℕ) → State → List (List ℕ) → List ℕ
along f s [] = []
along f s (bytes ∷ more) = f s bytes ++ along f (step s bytes).state more

-- the Normal-mode ACKs that records bring
abbrev pub acks_along : State → List (List ℕ) → ℕ
acks_along s [] = 0
acks_along s (bytes ∷ more) = (step s bytes).acks + acks_along (step s bytes).state more
