-- Rounds: a run, its cut, the reading of the counter, the clearing; and a chain of them over the driver's data.
use Rattle.std.specs.Prelude.{ℕ, ◌+◌, ◌≤◌, ◌<◌, ◌≡◌, true, List, [], ◌∷◌, ◌++◌, length, take, drop}
use Rattle.rules.specs.State.{State}
use Rattle.rules.specs.Records.{decode}
use Rattle.rules.specs.Events.{offered}
use Rattle.rules.specs.Step.{step, after}
use Rattle.rules.specs.declared.codes.Code.TheVariants.{Done}
use Rattle.rules.specs.declared.map.Register.TheVariants.{STCNT0, STCNT1, STCNT2}
use Rattle.runs.specs.Comes.{says, all_come, event_bytes, along}
use Rattle.runs.specs.Run.{Starts, run_allows, accepted, sent_by}
use Rattle.runs.specs.Cut.{is_cut, calm, read_answers, counter_read}
use Rattle.runs.specs.Clearing.{all_clear}

-- "its port writes offer its data in order from the round's first byte, and a refused one is offered again before any later byte":
-- rest is the data behind what the port has accepted in this run
abbrev pub Offers : List ℕ → State → List (List ℕ) → Type 0
Offers rest s [] = Unit {0}
Offers rest s (bytes ∷ more) =
    (take (length (event_bytes offered (decode bytes))) rest ≡ event_bytes offered (decode bytes))
    × Offers (drop (length (accepted s bytes)) rest) (step s bytes).state more

-- the records of a round
pub record Round : Type 0 where
  pub run : List (List ℕ)
  pub cut : List ℕ
  pub reading : List (List ℕ)
  pub clearing : List (List ℕ)

-- from the start to the reading of the counter
abbrev pub records_of : Round → List (List ℕ)
records_of r = r.run ++ r.cut ∷ r.reading

-- after the cut, after the reading, and where the next round starts
abbrev pub after_cut : State → Round → State
after_cut s r = (step (after s r.run) r.cut).state

abbrev pub after_reading : State → Round → State
after_reading s r = after (after_cut s r) r.reading

abbrev pub after_round : State → Round → State
after_round s r = after (after_reading s r) r.clearing

-- what the target takes in the round, and the number of it that the driver reads
abbrev pub taken_in : State → Round → List ℕ
taken_in s r = along sent_by s (records_of r)

abbrev pub number_read : State → Round → ℕ
number_read s r = counter_read (after_cut s r) r.reading

-- a run, its cut and the reading of the counter; "the cut and the three reads get code 0"
pub record Proceeds (s : State) (r : Round) : Type 0 where
  pub start : Starts true s
  pub run : all_come run_allows s r.run ≡ true
  pub cut : says is_cut (decode r.cut) ≡ true
  pub cut_code : (step (after s r.run) r.cut).code ≡ Done
  pub reading : all_come calm (after_cut s r) r.reading ≡ true
  pub low : 0 < length (read_answers STCNT0 (after_cut s r) r.reading)
  pub middle : 0 < length (read_answers STCNT1 (after_cut s r) r.reading)
  pub high : 0 < length (read_answers STCNT2 (after_cut s r) r.reading)

-- a round of a driver that has these bytes to send; the bound is the counter's
pub record Follows (bytes : List ℕ) (s : State) (r : Round) : Type 0 where
  pub proceeds : Proceeds s r
  pub offers : Offers bytes s r.run
  pub bound : length (taken_in s r) ≤ 16777215

-- any number of rounds; each goes on with the byte behind those that the counter named
abbrev pub Chain : List ℕ → ℕ → State → List Round → Type 0
Chain whole first s [] = Unit {0}
Chain whole first s (r ∷ more) = Follows (drop first whole) s r × Chain whole (first + number_read s r) (after_round s r) more

-- what the target takes in all runs, and where the driver has come to
abbrev pub taken : State → List Round → List ℕ
taken s [] = []
taken s (r ∷ more) = taken_in s r ++ taken (after_round s r) more

abbrev pub reached : ℕ → State → List Round → ℕ
reached first s [] = first
reached first s (r ∷ more) = reached (first + number_read s r) (after_round s r) more

-- where the rounds leave the chip
abbrev pub after_rounds : State → List Round → State
after_rounds s [] = s
after_rounds s (r ∷ more) = after_rounds (after_round s r) more

-- a run that is still going: it started, its records are allowed, its port writes offer these bytes in order; no cut, no bound
pub record Going (bytes : List ℕ) (s : State) (records : List (List ℕ)) : Type 0 where
  pub start : Starts true s
  pub run : all_come run_allows s records ≡ true
  pub offers : Offers bytes s records

-- any number of rounds and then such a run, from the byte that the rounds reached: n cuts mean n + 1 runs
pub record ChainGoing (whole : List ℕ) (s : State) (rounds : List Round) (records : List (List ℕ)) : Type 0 where
  pub chain : Chain whole 0 s rounds
  pub last : Going (drop (reached 0 s rounds) whole) (after_rounds s rounds) records

-- what the target took in the rounds, then what it took so far
abbrev pub taken_so_far : State → List Round → List (List ℕ) → List ℕ
taken_so_far s rounds records = taken s rounds ++ along sent_by (after_rounds s rounds) records

-- every clearing keeps the paper's condition
abbrev pub AllCleared : State → List Round → Type 0
AllCleared s [] = Unit {0}
AllCleared s (r ∷ more) = (all_clear (after_reading s r) r.clearing ≡ true) × AllCleared (after_round s r) more

-- all records of the rounds, clearings included
abbrev pub all_records : List Round → List (List ℕ)
all_records [] = []
all_records (r ∷ more) = records_of r ++ (r.clearing ++ all_records more)
