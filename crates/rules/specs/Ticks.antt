-- R-1: "the code does not walk them one by one: the time of a ticks event grows with the number of phase changes in it and not with
-- n". The ticks between two changes only count: what k of them leave, and how far the next change is. proofs/TickByTick.antt shows
-- that these are so.
use Rattle.std.specs.Prelude.{ℕ, ◌+◌, ◌-◌, max, Bool, not, ◌&&◌, ◌||◌, cond, eqb, leb}
use Rattle.rules.specs.State.{State}
use Rattle.rules.specs.Changed.{with_quiet, with_sequencer}
use Rattle.rules.specs.Seen.{bsy_seen, sel_seen}
use Rattle.rules.specs.Sequencer.{bus_free_delay, arbitration_delay, clearing_delay, settle_delay, timeout, in_ticks}
use Rattle.rules.specs.StepB.{quiet_after}
use Rattle.rules.specs.declared.chip.Phase.{Phase}
use Rattle.rules.specs.declared.chip.Phase.TheVariants.{Idle, Waiting, Arbitrating, Clearing, Selecting, Holding, Answering, Answered}

-- BSY or SEL is seen
abbrev pub bus_taken : State → Bool
bus_taken s = bsy_seen s || sel_seen s

-- "waiting: if the quiet ticks stood at 8 before this event and BSY and SEL are not seen"
abbrev pub bus_waits : State → Bool
bus_waits s = leb 8 s.quiet && not (bus_taken s)

-- the ticks in a phase after k ticks more, k at least 1
unfoldable pub ticks_in : Phase → ℕ → State → ℕ
ticks_in Idle k s = s.sequencer.ticks
ticks_in Waiting k s = cond (bus_waits s) (s.sequencer.ticks + k) 0
ticks_in Arbitrating k s = s.sequencer.ticks + k
ticks_in Clearing k s = s.sequencer.ticks + k
ticks_in Selecting k s = cond s.registers.sxfrctl1.enstimer (s.sequencer.ticks + k) 0
ticks_in Holding k s = s.sequencer.ticks
ticks_in Answering k s = s.sequencer.ticks + k
ticks_in Answered k s = s.sequencer.ticks

-- K TICKS THAT CHANGE NOTHING BUT THE COUNTS: the quiet ticks and the ticks in the phase
unfoldable pub advanced : ℕ → State → State
advanced k s =
    let q = s.sequencer in
    with_quiet (quiet_after k s) (with_sequencer (in_ticks (cond (eqb k 0) q.ticks (ticks_in q.phase k s)) q) s)

-- more ticks than an event has
abbrev pub unreached : ℕ
unreached = 16777216

-- "On reaching 8"
unfoldable pub bus_free_distance : State → ℕ
bus_free_distance s = cond (bus_taken s || leb 8 s.quiet) unreached (8 - s.quiet)

-- the ticks until a delay is over of which n have passed, the last of them included
abbrev pub delay_left : ℕ → ℕ → ℕ
delay_left d n = max 1 (d - n)

unfoldable pub distance_in : Phase → State → ℕ
distance_in Idle s = bus_free_distance s
distance_in Waiting s = cond (bus_waits s) (delay_left bus_free_delay s.sequencer.ticks) (bus_free_distance s)
distance_in Arbitrating s = delay_left arbitration_delay s.sequencer.ticks
distance_in Clearing s = delay_left clearing_delay s.sequencer.ticks
distance_in Selecting s =
    cond s.registers.sxfrctl1.enstimer (delay_left (timeout s.registers) s.sequencer.ticks) unreached
distance_in Holding s = bus_free_distance s
distance_in Answering s = delay_left settle_delay s.sequencer.ticks
distance_in Answered s = bus_free_distance s

-- THE TICKS UNTIL THE NEXT THAT CAN CHANGE MORE THAN THE COUNTS, that one included
unfoldable pub distance : State → ℕ
distance s = distance_in s.sequencer.phase s
