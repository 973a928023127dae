-- Words as a block: the host FIFO takes or gives the bytes of several words at once, and settling is done once for them.
use Rattle.std.specs.Prelude.{ℕ, ◌+◌, List, [], ◌++◌}
use Rattle.rules.specs.State.{State, Transfer}
use Rattle.rules.specs.Changed.{with_transfer, with_status, transfer_with_host}
use Rattle.rules.specs.Seen.{ack_seen}
use Rattle.rules.specs.StepC.{Settling, conditions, settle, turns}
use Rattle.rules.specs.StepD.{status_d}
use Rattle.rules.specs.declared.chip.Conditions.{Conditions}

-- settling of a data path whose host FIFO has become h
unfoldable pub settled_with : Conditions → List ℕ → Transfer → Settling
settled_with c h t = settle c turns (record { transfer = transfer_with_host h t; moves = 0; acks = 0; sent = [] })

-- one settling and the next
abbrev pub together : Settling → Settling → Settling
together a b =
    record { transfer = b.transfer; moves = a.moves + b.moves; acks = a.acks + b.acks; sent = a.sent ++ b.sent }

-- the same of a state
abbrev pub block_settled : State → List ℕ → Settling
block_settled s h = settled_with (conditions s) h s.transfer

-- what the block leaves: the data path settled, REQINIT as D leaves it, all else as it was
unfoldable pub block_left : State → List ℕ → State
block_left s h =
    let n = with_transfer (block_settled s h).transfer s in
    with_status (status_d (block_settled s h).acks (ack_seen n) s.status) n

-- what settling looks at, with another byte on the data lines
abbrev pub seeing : ℕ → Conditions → Conditions
seeing b c =
    record { path = c.path; enabled = c.enabled; outbound = c.outbound; synchronous = c.synchronous; req = c.req; byte = b }
