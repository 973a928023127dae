-- DEMAND 3 over what a driver has in its hands. "A write run can be cut anywhere but by a power reset: the counter is then the number
-- of bytes the target has taken, they are the first so many the port accepted, and over any number of cuts the target takes a
-- beginning of the driver's data, each byte once, in order."
use Rattle.std.specs.Prelude.{ℕ, ◌%◌, ◌≤◌, ◌≡◌, Bool, true, false, List, ◌++◌, length, take}
use Rattle.rules.specs.State.{State}
use Rattle.rules.specs.Step.{after}
use Rattle.runs.specs.Comes.{along}
use Rattle.runs.specs.Run.{Starts, run_allows, sent_by, chip_took}
use Rattle.runs.specs.Clearing.{clearing_of}
use Rattle.driver.specs.Exchanges.{Exchange, handed_over, taken_of, accepted_of, read_of, may_come, all_over, over, counter_of}
use Rattle.driver.specs.Driving.{Round, exchanges_of, taken_in, Keeps, all_rounds, taken, Drives, DrivesBlind, taken_so_far}

-- after the cut and the three reads: the counter so read is the number of bytes taken since the start, below the counter's bound
-- without a remainder, and they are the first so many that the port accepted
pub record CutRead (r : Round) : Type 0 where
  pub number : counter_of r.reading ≡ length (taken_in r) % 16777216
  pub exact : length (taken_in r) ≤ 16777215 → counter_of r.reading ≡ length (taken_in r)
  pub first : taken_in r ≡ take (length (taken_in r)) (over accepted_of (exchanges_of r))

-- "At every moment, sent bytes, then SCSI FIFO, then host FIFO, are what the port accepted."
pub record WriteMoment (s : State) (run : List Exchange) : Type 0 where
  pub order : over taken_of run ++ (s.transfer.scsi ++ s.transfer.host) ≡ over accepted_of run
  pub count : s.transfer.counter ≡ length (over taken_of run) % 16777216

-- "For a read run ... bytes read by the host, then host FIFO, then SCSI FIFO, are what the chip took." `start` is the state it began in
abbrev pub ReadMoment : State → State → List Exchange → Type 0
ReadMoment start s run = over read_of run ++ (s.transfer.host ++ s.transfer.scsi) ≡ along chip_took start (handed_over run)

-- the state after the first of the exchanges that began at s
abbrev pub state_after : State → List Exchange → State
state_after s earlier = after s (handed_over earlier)

-- the exchanges of a part, with whatever came earlier and comes later
abbrev pub Part : List Exchange → List Exchange → List Exchange → List Exchange → Type 0
Part xs earlier part later = xs ≡ earlier ++ (part ++ later)

-- all bytes taken are a beginning of the data
abbrev pub Beginning : List ℕ → List Round → List Exchange → Type 0
Beginning whole rounds last = taken_so_far rounds last ≡ take (length (taken_so_far rounds last)) whole

-- exchanges from a state, whatever came earlier and comes later
pub record DemandThree (s : State) (xs : List Exchange) : Type 0 where
  -- the seven records of a clearing lead to a start from any chip, whatever its sequencer does
  pub start :
      (earlier final later : List Exchange) (eightbit : Bool) →
      xs ≡ (earlier ++ final) ++ later → handed_over final ≡ clearing_of eightbit → Starts true (state_after s (earlier ++ final))
  -- every moment of a write run
  pub moment :
      (earlier run later : List Exchange) → Part xs earlier run later → Starts true (state_after s earlier) →
      all_over (may_come run_allows) run ≡ true → WriteMoment (state_after s (earlier ++ run)) run
  -- a cut and the three reads
  pub cut :
      (earlier later : List Exchange) (r : Round) → Part xs earlier (exchanges_of r) later → Starts true (state_after s earlier) →
      Keeps r → CutRead r
  -- any number of rounds and a last run; each round begins at a chip that starts a run
  pub chain :
      (earlier later : List Exchange) (whole : List ℕ) (rounds : List Round) (last : List Exchange) →
      Part xs earlier (all_rounds rounds ++ last) later → Drives whole (state_after s earlier) rounds last → Beginning whole rounds last
  -- the same where the driver has nothing but its records and buffers
  pub blind :
      (earlier later : List Exchange) (whole : List ℕ) (rounds : List Round) (last : List Exchange) →
      Part xs earlier (all_rounds rounds ++ last) later → Starts true (state_after s earlier) → DrivesBlind whole rounds last →
      Beginning whole rounds last
  -- and then nothing was sent but what was taken
  pub only :
      (earlier later : List Exchange) (whole : List ℕ) (rounds : List Round) (last : List Exchange) →
      Part xs earlier (all_rounds rounds ++ last) later → Starts true (state_after s earlier) → DrivesBlind whole rounds last →
      along sent_by (state_after s earlier) (handed_over (all_rounds rounds)) ≡ taken rounds
  -- every moment of a read run
  pub reading :
      (earlier run later : List Exchange) → Part xs earlier run later → Starts false (state_after s earlier) →
      all_over (may_come run_allows) run ≡ true → ReadMoment (state_after s earlier) (state_after s (earlier ++ run)) run
