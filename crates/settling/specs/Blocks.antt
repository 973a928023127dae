-- The parts of settling that the code does at once.
use Rattle.std.specs.Prelude.{ℕ, ◌+◌, ◌-◌, min, Bool, true, cond, List, [], ◌++◌, length, take, drop, get_or}
use Rattle.rules.specs.State.{Transfer}
use Rattle.rules.specs.Changed.{transfer_with_host, transfer_with_scsi, transfer_with_counter, transfer_with_offset, transfer_with_ack, transfer_with_last}
use Rattle.rules.specs.Counter.{counter_step}
use Rattle.rules.specs.declared.counts.Direction.TheVariants.{Up}
use Rattle.rules.specs.StepC.{Settling}
use Rattle.rules.specs.declared.chip.Conditions.{Conditions}

-- nothing moved, acknowledged or sent yet
unfoldable pub start_of : Transfer → Settling
start_of t = record { transfer = t; moves = 0; acks = 0; sent = [] }

-- the moves that are possible one after the other: bytes there and room for them
unfoldable pub movable : Conditions → Transfer → ℕ
movable c t =
    cond c.path
    (cond c.outbound (min (length t.host) (8 - length t.scsi)) (min (length t.scsi) (128 - length t.host)))
    0

-- k bytes carried between the FIFOs
unfoldable pub carried : Bool → ℕ → Transfer → Transfer
carried outbound k t =
    transfer_with_host (cond outbound (drop k t.host) (t.host ++ take k t.scsi))
    (transfer_with_scsi (cond outbound (t.scsi ++ take k t.host) (drop k t.scsi)) t)

-- k moves
unfoldable pub moved_by : Conditions → ℕ → Settling → Settling
moved_by c k s =
    record { transfer = carried c.outbound k s.transfer; moves = s.moves + k; acks = s.acks; sent = s.sent }

-- the byte of a handshake: the oldest sent, or what is stored behind
unfoldable pub passed : Bool → List ℕ → Transfer → Transfer
passed outbound stored t =
    transfer_with_scsi (cond outbound (drop 1 t.scsi) (t.scsi ++ stored))
    (transfer_with_last (cond outbound (get_or t.scsi 0 0) t.last) t)

-- its ACK: on, or a pulse that lowers the offset
unfoldable pub acknowledged : Bool → Transfer → Transfer
acknowledged synchronous t =
    transfer_with_counter (counter_step Up t.counter).value
    (transfer_with_offset (cond synchronous (t.offset - 1) t.offset) (transfer_with_ack (cond synchronous t.ack true) t))
