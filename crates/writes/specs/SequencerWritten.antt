-- R-1: the sequencer by a register write, in A.
use Rattle.std.specs.Prelude.{ℕ, Bool, not, ◌&&◌}
use Rattle.rules.specs.Map.{offset_of}
use Rattle.rules.specs.Seen.{is_phase}
use Rattle.rules.specs.Sequencer.{selection_with}
use Rattle.rules.specs.State.{State}
use Rattle.rules.specs.StepA.{registers_a, gives_up, sequencer_a}
use Rattle.rules.specs.declared.chip.Phase.TheVariants.{Idle, Selecting}
use Rattle.rules.specs.declared.chip.Sequencer.{Sequencer}
use Rattle.rules.specs.declared.map.Register.{Register}
use Rattle.rules.specs.declared.map.Register.TheVariants.{SCSISEQ}
use Rattle.rules.specs.declared.records.Event.TheVariants.{Write}

-- the sequencer that a write of v to a register leaves
abbrev pub sequencer_written : Register → State → ℕ → Sequencer
sequencer_written r s v = sequencer_a s.registers s.quiet s.sequencer (Write (offset_of r) v)

-- does a write of v to 340h give up?
abbrev pub gives_up_by : State → ℕ → Bool
gives_up_by s v =
    let e = Write (offset_of SCSISEQ) v in
    gives_up (registers_a s.registers e) s.sequencer e

-- "makes the sequencer idle, and SELINGO 0 if it was selecting"
abbrev pub gave_up : Sequencer → Sequencer
gave_up q =
    let t = q.status in
    record {
      phase = Idle;
      ticks = 0;
      noted = q.noted;
      selid = q.selid;
      status = selection_with t.seldo t.seldi (not (is_phase Selecting q.phase) && t.selingo) t.selto;
      latches = q.latches;
    }
