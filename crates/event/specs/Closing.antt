-- D and the latches, over what they look back at: 350h and 351h before the event, the status after A, the ACKs of settling.
use Rattle.std.specs.Prelude.{ℕ}
use Rattle.rules.specs.State.{State}
use Rattle.rules.specs.Seen.{ack_seen}
use Rattle.rules.specs.StepD.{status_raised, status_d}
use Rattle.rules.specs.declared.registers.Simode0.{Simode0}
use Rattle.rules.specs.declared.registers.Simode1.{Simode1}
use Rattle.rules.specs.declared.chip.Status.{Status}
use Rattle.rules.specs.Changed.{with_status, with_latches}
use Rattle.interrupts.specs.Latching.{latches_from}

abbrev pub raised_by : State → State
raised_by s = with_status (status_raised s) s

abbrev pub fallen_by : ℕ → State → State
fallen_by acks s = with_status (status_d acks (ack_seen s) s.status) s

abbrev pub latched_by : Simode0 → Simode1 → Status → Status → State → State
latched_by b0 b1 status raised s =
    with_latches (latches_from b0 b1 s.registers.simode0 s.registers.simode1 status raised s.latches) s

unfoldable pub closed_by : Simode0 → Simode1 → Status → ℕ → State → State
closed_by b0 b1 status acks s = latched_by b0 b1 status (raised_by s).status (fallen_by acks (raised_by s))
