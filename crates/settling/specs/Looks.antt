-- What settling looks at, as the code reads it.
use Rattle.std.specs.Prelude.{ℕ, Bool, false, not, cond, ltb}
use Rattle.rules.specs.State.{State}
use Rattle.rules.specs.Seen.{req_seen, synchronous}
use Rattle.rules.specs.StepC.{conditions}
use Rattle.rules.specs.declared.chip.Conditions.{Conditions}

abbrev pub with_byte : ℕ → Conditions → Conditions
with_byte b c =
    record { path = c.path; enabled = c.enabled; outbound = c.outbound; synchronous = c.synchronous; req = c.req; byte = b }

-- the byte of the lines: the chip drives nothing where a handshake stores what it sees
unfoldable pub looked_at : State → Conditions
looked_at s = with_byte s.lines.byte (conditions s)

-- "Asynchronous: REQ seen, automatic ACK off"; "Synchronous: offset above 0"
unfoldable pub may_shake : State → Bool
may_shake s =
    cond (synchronous s) (ltb 0 s.transfer.offset)
    (cond (req_seen s) (not s.transfer.ack) false)
