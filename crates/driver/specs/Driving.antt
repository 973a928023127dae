-- The rules of a run, its cuts and its rounds over what a driver has in its hands. Document 01, "A run and its cuts".
use Rattle.std.specs.Prelude.{ℕ, ◌+◌, ◌≤◌, ◌<◌, ◌≡◌, Bool, true, not, ◌&&◌, ◌||◌, cond, List, [], ◌∷◌, ◌++◌, length, take, drop}
use Rattle.rules.specs.State.{State}
use Rattle.rules.specs.Records.{decode}
use Rattle.rules.specs.Events.{writes}
use Rattle.rules.specs.Step.{after}
use Rattle.rules.specs.declared.map.Register.TheVariants.{SCSISEQ, STCNT0, STCNT1, STCNT2}
use Rattle.rules.specs.declared.records.Event.{Event}
use Rattle.runs.specs.Comes.{says}
use Rattle.runs.specs.Run.{Starts, run_allows}
use Rattle.runs.specs.Cut.{is_cut, calm}
use Rattle.runs.specs.Clearing.{stays_off, clearing_of, short_clearing_of}
use Rattle.driver.specs.Exchanges.{Exchange, handed, handed_over, code_of, taken_of, accepted_of, offered_of, may_come, all_over, over, register_read, counter_of}

-- "its port writes offer its data in order from the round's first byte, and a refused one is offered again before any later byte"
abbrev pub Offers : List ℕ → List Exchange → Type 0
Offers rest [] = Unit {0}
Offers rest (x ∷ more) = (take (length (offered_of x)) rest ≡ offered_of x) × Offers (drop (length (accepted_of x)) rest) more

-- a round: the run, its cut, the reading of the counter, the clearing
pub record Round : Type 0 where
  pub run : List Exchange
  pub cut : Exchange
  pub reading : List Exchange
  pub clearing : List Exchange

-- from the start to the reading of the counter, and the whole round
abbrev pub exchanges_of : Round → List Exchange
exchanges_of r = r.run ++ r.cut ∷ r.reading

abbrev pub whole_round : Round → List Exchange
whole_round r = exchanges_of r ++ r.clearing

-- the bytes that the target took since the start
abbrev pub taken_in : Round → List ℕ
taken_in r = over taken_of (exchanges_of r)

-- "until this is read only events a run allows come, none setting SCSIEN, and the cut and the three reads get code 0"
pub record Keeps (r : Round) : Type 0 where
  pub run : all_over (may_come run_allows) r.run ≡ true
  pub cut : says is_cut (decode (handed r.cut)) ≡ true
  pub cut_code : code_of r.cut ≡ 0
  pub reading : all_over (may_come calm) r.reading ≡ true
  pub low : 0 < length (over (register_read STCNT0) r.reading)
  pub middle : 0 < length (over (register_read STCNT1) r.reading)
  pub high : 0 < length (over (register_read STCNT2) r.reading)

-- the driver has these bytes to send; the bound is the counter's
pub record Follows (rest : List ℕ) (r : Round) : Type 0 where
  pub keeps : Keeps r
  pub offers : Offers rest r.run
  pub bound : length (taken_in r) ≤ 16777215

-- a run that is still going
pub record Goes (rest : List ℕ) (xs : List Exchange) : Type 0 where
  pub run : all_over (may_come run_allows) xs ≡ true
  pub offers : Offers rest xs

-- any number of rounds, each from the byte behind those that the counter named; `s` is the state of the chip where a round starts
abbrev pub Chain : List ℕ → ℕ → State → List Round → Type 0
Chain whole first s [] = Unit {0}
Chain whole first s (r ∷ more) =
    Starts true s
    × (Follows (drop first whole) r
    × Chain whole (first + counter_of r.reading) (after s (handed_over (whole_round r))) more)

abbrev pub all_rounds : List Round → List Exchange
all_rounds [] = []
all_rounds (r ∷ more) = whole_round r ++ all_rounds more

abbrev pub taken : List Round → List ℕ
taken [] = []
taken (r ∷ more) = taken_in r ++ taken more

abbrev pub reached : ℕ → List Round → ℕ
reached first [] = first
reached first (r ∷ more) = reached (first + counter_of r.reading) more

-- the rounds, and the run behind them that finishes the data or is still going
pub record Drives (whole : List ℕ) (s : State) (rounds : List Round) (last : List Exchange) : Type 0 where
  pub chain : Chain whole 0 s rounds
  pub start : Starts true (after s (handed_over (all_rounds rounds)))
  pub goes : Goes (drop (reached 0 rounds) whole) last

-- what the target took in the rounds, then what it took so far
abbrev pub taken_so_far : List Round → List Exchange → List ℕ
taken_so_far rounds last = taken rounds ++ over taken_of last

-- the last records of a clearing: the seven with a pulse on RST, which end at a start from any chip; or the five without it, which end
-- at one where the sequencer is off
abbrev pub last_records : Bool → Bool → List (List ℕ)
last_records pulse eightbit = cond pulse (clearing_of eightbit) (short_clearing_of eightbit)

-- what may come before them: events that leave SCSIEN and SPIOEN 0, and without the pulse none that writes 340h, so that the sequencer
-- is off as the run left it
abbrev pub may_precede : Bool → Event → Bool
may_precede pulse e = stays_off e && (pulse || not (writes e SCSISEQ))

-- A CLEARING BY RECORDS ALONE
pub record Clears (xs : List Exchange) : Type 0 where
  pub earlier : List Exchange
  pub final : List Exchange
  pub pulse : Bool
  pub eightbit : Bool
  pub whole : xs ≡ earlier ++ final
  pub off : all_over (may_come (may_precede pulse)) earlier ≡ true
  pub sequence : handed_over final ≡ last_records pulse eightbit

abbrev pub AllClear : List Round → Type 0
AllClear [] = Unit {0}
AllClear (r ∷ more) = Clears r.clearing × AllClear more

abbrev pub Rounds : List ℕ → ℕ → List Round → Type 0
Rounds whole first [] = Unit {0}
Rounds whole first (r ∷ more) = Follows (drop first whole) r × Rounds whole (first + counter_of r.reading) more

-- records and buffers only: after the first start no word of the chip
pub record DrivesBlind (whole : List ℕ) (rounds : List Round) (last : List Exchange) : Type 0 where
  pub rules : Rounds whole 0 rounds
  pub clear : AllClear rounds
  pub goes : Goes (drop (reached 0 rounds) whole) last
