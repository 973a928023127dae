-- B since the bytes that were seen, and where the sequencer has nothing to do.
use Rattle.std.specs.Prelude.{ℕ, ◌%◌, Bool, not, ◌&&◌, ◌||◌, cond, List, eqb, ltb, get_or}
use Rattle.rules.specs.Numbers.{bit}
use Rattle.rules.specs.State.{State}
use Rattle.rules.specs.Changed.{with_registers, with_quiet, with_sequencer}
use Rattle.rules.specs.Seen.{rst_seen}
use Rattle.rules.specs.Sequencer.{asked_by}
use Rattle.rules.specs.StepA.{with_atn}
use Rattle.rules.specs.StepB.{registers_with, scsiseq_with, first_four, after_sequencer, after_phase_changes}
use Rattle.rules.specs.declared.chip.Sequenced.{Sequenced}
use Rattle.image.specs.Image.{state_at}
use Rattle.image.specs.Layout.{scsiseq_place, sequencer_place}
use Rattle.edges.specs.Since.{last_of}
use Rattle.edges.specs.declared.last.Seen.{Seen}

-- idle, SELINGO 0, neither ENSELO nor ENRESELI, by the two bytes that say so
abbrev pub dormant : List ℕ → Bool
dormant m = eqb (get_or m sequencer_place 0 % 16) 0 && not (bit (get_or m scsiseq_place 0) 6) && not (bit (get_or m scsiseq_place 0) 4)

-- waiting where a selection is asked for, else idle, by the same two bytes
abbrev pub as_asked : List ℕ → Bool
as_asked m =
    cond (asked_by (bit (get_or m scsiseq_place 0) 6) (bit (get_or m scsiseq_place 0) 7)) (eqb (get_or m sequencer_place 0 % 8) 1)
    (eqb (get_or m sequencer_place 0 % 8) 0)

-- so, others do not drive SEL, and RST is not seen
abbrev pub still : List ℕ → Bool
still m = as_asked m && not (state_at m).lines.sel && not (rst_seen (state_at m))

-- the sequencer has nothing to do in an event of so many ticks
abbrev pub resting : List ℕ → ℕ → Bool
resting m ticks = dormant m || (eqb ticks 0 && still m)

-- all of B in its order; A leaves the quiet ticks, so that those that stood before the event are those of now
unfoldable pub bus_since : Seen → ℕ → State → State
bus_since x ticks now =
    after_phase_changes (last_of x) (after_sequencer (ltb 0 ticks) now.quiet (first_four (last_of x) ticks now))

-- a state with what the sequencer changes
abbrev pub sequenced_in : Sequenced → State → State
sequenced_in x s =
    let r = s.registers in
    with_sequencer x.sequencer
    (with_registers (registers_with (scsiseq_with x.enselo r.scsiseq) r.sxfrctl0 (with_atn x.atno r.scsisig) r)
    (with_quiet x.quiet s))
