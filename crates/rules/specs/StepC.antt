-- "C. Settling. Repeat the first that is possible, until neither is"
use Rattle.std.specs.Prelude.{ℕ, zero, suc, ◌+◌, ◌-◌, Bool, true, not, ◌&&◌, cond, List, [], ◌∷◌, ◌++◌, ltb, length, take, drop, get_or}
use Rattle.rules.specs.State.{State, Transfer}
use Rattle.rules.specs.Changed.{transfer_with_host, transfer_with_scsi, transfer_with_counter, transfer_with_offset, transfer_with_ack, transfer_with_last}
use Rattle.rules.specs.Seen.{req_seen, matched, path, synchronous, data_seen}
use Rattle.rules.specs.Counter.{counter_step}
use Rattle.rules.specs.StepB.{after_b}
use Rattle.rules.specs.declared.chip.Conditions.{Conditions}
use Rattle.rules.specs.declared.counts.Direction.TheVariants.{Up}
use Rattle.rules.specs.declared.records.Event.{Event}

-- what settling looks at and does not change; "Handshake, if SCSIEN, path, matched."
unfoldable pub conditions : State → Conditions
conditions s =
    record {
      path = path s.registers;
      enabled = s.registers.sxfrctl0.scsien && path s.registers && matched s;
      outbound = s.registers.dmacntrl0.write;
      synchronous = synchronous s;
      req = req_seen s;
      byte = data_seen s;
    }

-- the data path with the moves and ACKs made and the bytes sent so far
pub record Settling : Type 0 where
  pub transfer : Transfer
  pub moves : ℕ
  pub acks : ℕ
  pub sent : List ℕ

-- "Move a byte between the FIFOs, if path and there is a byte and room."
unfoldable pub can_move : Conditions → Transfer → Bool
can_move c t =
    c.path
    && cond c.outbound (ltb 0 (length t.host) && ltb (length t.scsi) 8)
    (ltb 0 (length t.scsi) && ltb (length t.host) 128)

unfoldable pub move : Conditions → Settling → Settling
move c s =
    let t = s.transfer in
    let host = cond c.outbound (drop 1 t.host) (t.host ++ take 1 t.scsi) in
    let scsi = cond c.outbound (t.scsi ++ take 1 t.host) (drop 1 t.scsi) in
    record { transfer = transfer_with_host host (transfer_with_scsi scsi t); moves = s.moves + 1; acks = s.acks; sent = s.sent }

-- "Asynchronous: REQ seen, automatic ACK off; inbound needs fewer than 8 bytes held ...; outbound needs a byte held"
unfoldable pub can_asynchronous : Conditions → Transfer → Bool
can_asynchronous c t =
    c.req && not t.ack && cond c.outbound (ltb 0 (length t.scsi)) (ltb (length t.scsi) 8)

-- "Synchronous: offset above 0; outbound needs a byte held ...; inbound needs offset above the SCSI FIFO count"
unfoldable pub can_synchronous : Conditions → Transfer → Bool
can_synchronous c t =
    ltb 0 t.offset && cond c.outbound (ltb 0 (length t.scsi)) (ltb (length t.scsi) t.offset)

unfoldable pub can_handshake : Conditions → Transfer → Bool
can_handshake c t = c.enabled && cond c.synchronous (can_synchronous c t) (can_asynchronous c t)

-- the byte that a handshake stores: "inbound ... stores the data seen", where it is asynchronous
abbrev pub stored_by : Conditions → List ℕ
stored_by c = cond c.synchronous [] (c.byte ∷ [])

-- outbound "sends the oldest"; "ACK on"; synchronous "offset goes down one, and the ACK pulse is over within the event";
-- "Each ACK adds one to the counter"
unfoldable pub handshake : Conditions → Settling → Settling
handshake c s =
    let t = s.transfer in
    record {
      transfer =
          transfer_with_scsi (cond c.outbound (drop 1 t.scsi) (t.scsi ++ stored_by c))
          (transfer_with_counter (counter_step Up t.counter).value
          (transfer_with_offset (cond c.synchronous (t.offset - 1) t.offset)
          (transfer_with_ack (cond c.synchronous t.ack true)
          (transfer_with_last (cond c.outbound (get_or t.scsi 0 0) t.last) t))));
      moves = s.moves;
      acks = s.acks + 1;
      sent = cond c.outbound (s.sent ++ take 1 t.scsi) s.sent;
    }

-- the first that is possible
unfoldable pub turn : Conditions → Settling → Settling
turn c s = cond (can_move c s.transfer) (move c s) (cond (can_handshake c s.transfer) (handshake c s) s)

unfoldable pub settle : Conditions → ℕ → Settling → Settling
settle c zero s = s
settle c (suc n) s = settle c n (turn c s)

-- turns after which neither is possible (proofs/Rest.antt): 16 moves and 8 handshakes
abbrev pub turns : ℕ
turns = 24

unfoldable pub started : State → Settling
started s = record { transfer = s.transfer; moves = 0; acks = 0; sent = [] }

-- settling of an event
unfoldable pub settled_c : State → Event → Settling
settled_c s e = settle (conditions (after_b s e)) turns (started (after_b s e))
