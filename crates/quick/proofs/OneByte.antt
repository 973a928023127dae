-- Settling of one REQ from rest, with a byte to send or room for the byte that came: one ACK, one move at most.
use mathlib.Core.Path.{◌≡◌, refl, sym, ◌∙◌, ap}
use mathlib.Core.Bool.{Bool, true, false, not, ◌&&◌, cond, and-true, and-false}
use mathlib.Core.List.{[], ◌∷◌}
use Prim.Native.Nat.{ℕ, suc, ◌+◌, ◌-◌, ◌≤◌, ◌<◌, min}
use native.Mathlib.Omega.{arith}
use lib.Dec.{ltb}
use lib.ListN.{length, take, drop, length-append, length-take, length-drop}
use borrow.Author.Tests.{ltb-true, ltb-false, lt-ltb, le-ltb}
use Rattle.rules.specs.Rest.{Resting}
use Rattle.rules.specs.StepC.{Settling, can_move, move, can_handshake, can_synchronous, can_asynchronous, handshake, turn, settle}
use Rattle.rules.specs.declared.chip.Conditions.{Conditions}
use Rattle.rules.proofs.Logic.{never}
use Rattle.rules.proofs.Rest.{handshake_outbound, turn_moves, turn_handshakes, settle_rests}

-- a handshake, and a move after it where one is possible then
module _ (c : Conditions) (x : Settling) (stuck : can_move c x.transfer ≡ false) (can : can_handshake c x.transfer ≡ true) where
  abbrev answered : Settling
  answered = handshake c x

  pub record Ends : Type 0 where
    pub spent : can_handshake c answered.transfer ≡ false
    pub moved : can_move c answered.transfer ≡ true → Resting c (move c answered).transfer

  pub answers_once : Ends → (n : ℕ) → settle c (suc (suc n)) x ≡ cond (can_move c answered.transfer) (move c answered) answered
  unfolding settle
  answers_once e n =
      ap (λ (y : Settling). settle c n (turn c y)) (turn_handshakes c x stuck can) ∙ go (can_move c answered.transfer) refl
    where
      go : (b : Bool) → can_move c answered.transfer ≡ b → settle c (suc n) answered ≡ cond b (move c answered) answered
      go true k = ap (settle c n) (turn_moves c answered k) ∙ settle_rests c n (move c answered) (e.moved k)
      go false k = settle_rests c (suc n) answered (record { no_move = k; no_handshake = e.spent })

-- after it no REQ waits: the offset was 1, or automatic ACK is on
module _ (c : Conditions) (x : Settling) (alone : c.synchronous ≡ true → x.transfer.offset ≡ 1) where
  none_waits : (y z w : Bool) → (y ≡ true → x.transfer.offset ≡ 1)
      → (c.enabled && cond y (ltb 0 (cond y (x.transfer.offset - 1) x.transfer.offset) && z) (c.req && not (cond y x.transfer.ack true) && w)) ≡ false
  none_waits true z w h = rw (h refl, and-false)
  none_waits false z w h = rw (and-false, and-false)

  pub spent : can_handshake c (handshake c x).transfer ≡ false
  unfolding can_handshake can_synchronous can_asynchronous handshake
  spent = none_waits c.synchronous _ _ alone

  pub moved_spent : can_handshake c (move c (handshake c x)).transfer ≡ false
  unfolding can_handshake can_synchronous can_asynchronous handshake move
  moved_spent = none_waits c.synchronous _ _ alone

-- OUT: no move is possible, and a handshake is
module _ (c : Conditions) (x : Settling) (path : c.path ≡ true) (outbound : c.outbound ≡ true)
    (alone : c.synchronous ≡ true → x.transfer.offset ≡ 1) (fits : length x.transfer.scsi ≤ 8)
    (stuck : can_move c x.transfer ≡ false) (can : can_handshake c x.transfer ≡ true) where
  abbrev sent : Settling
  sent = handshake c x

  some : 0 < length x.transfer.scsi
  some = handshake_outbound c x.transfer outbound can

  room : can_move c sent.transfer ≡ ltb 0 (length x.transfer.host)
  unfolding can_move handshake
  room =
      rw
      (path, outbound, length-drop 1 x.transfer.scsi, lt-ltb (length x.transfer.scsi - 1) 8 (omega (arith, some)), and-true (ltb 0 (length x.transfer.host)))

  -- where the host FIFO held a byte the SCSI FIFO was full, and is so again
  full : ltb 0 (length x.transfer.host) ≡ true → 8 ≤ length x.transfer.scsi
  unfolding can_move
  full h = ltb-false (length x.transfer.scsi) 8 (rw (path, outbound, h) at stuck)

  moved_full : ltb 0 (length x.transfer.host) ≡ true → can_move c (move c sent).transfer ≡ false
  unfolding can_move handshake move
  moved_full h =
      rw
      (path, outbound, length-append (drop 1 x.transfer.scsi) (take 1 x.transfer.host), length-drop 1 x.transfer.scsi, length-take 1 x.transfer.host, le-ltb (length x.transfer.scsi - 1 + min 1 (length x.transfer.host)) 8 (omega (arith, full h, ltb-true 0 (length x.transfer.host) h)), and-false)

  out_ends : Ends c x stuck can
  out_ends =
      record {
        spent = spent c x alone;
        moved = λ k. record { no_move = moved_full (rw room at k); no_handshake = moved_spent c x alone };
      }

  -- one ACK, and a move where the host FIFO holds a byte
  pub one_out : (n : ℕ) → settle c (suc (suc n)) x ≡ cond (ltb 0 (length x.transfer.host)) (move c sent) sent
  one_out n =
      answers_once c x stuck can out_ends n ∙ ap (λ (b : Bool). cond b (move c sent) sent) room

-- IN, ASYNCHRONOUS: the SCSI FIFO is empty, the host FIFO has room, and a handshake is possible
module _ (c : Conditions) (x : Settling) (path : c.path ≡ true) (inbound : c.outbound ≡ false) (each : c.synchronous ≡ false)
    (empty : x.transfer.scsi ≡ []) (room : length x.transfer.host < 128) (can : can_handshake c x.transfer ≡ true) where
  nothing_moves : can_move c x.transfer ≡ false
  unfolding can_move
  nothing_moves = rw (path, inbound, empty)

  abbrev came : Settling
  came = handshake c x

  moves : can_move c came.transfer ≡ true
  unfolding can_move handshake
  moves = rw (path, inbound, each, empty, lt-ltb (length x.transfer.host) 128 room)

  emptied : can_move c (move c came).transfer ≡ false
  unfolding can_move handshake move
  emptied = rw (path, inbound, each, empty)

  in_ends : Ends c x nothing_moves can
  in_ends =
      let alone : c.synchronous ≡ true → x.transfer.offset ≡ 1 = λ e. absurd (never (sym each ∙ e)) in
      record {
        spent = spent c x alone;
        moved = λ k. record { no_move = emptied; no_handshake = moved_spent c x alone };
      }

  -- one ACK, one move
  pub one_in_asynchronous : (n : ℕ) → settle c (suc (suc n)) x ≡ move c came
  one_in_asynchronous n =
      answers_once c x nothing_moves can in_ends n ∙ ap (λ (b : Bool). cond b (move c came) came) moves

-- IN, SYNCHRONOUS: one REQ waits for its ACK, and its byte is alone in the SCSI FIFO
module _ (c : Conditions) (x : Settling) (b : ℕ) (path : c.path ≡ true) (enabled : c.enabled ≡ true) (inbound : c.outbound ≡ false)
    (ahead : c.synchronous ≡ true) (one : x.transfer.offset ≡ 1) (byte : x.transfer.scsi ≡ b ∷ [])
    (room : length x.transfer.host < 128) where
  stored : can_move c x.transfer ≡ true
  unfolding can_move
  stored = rw (path, inbound, byte, lt-ltb (length x.transfer.host) 128 room)

  abbrev passed_on : Settling
  passed_on = move c x

  stuck : can_move c passed_on.transfer ≡ false
  unfolding can_move move
  stuck = rw (path, inbound, byte)

  waits : can_handshake c passed_on.transfer ≡ true
  unfolding can_handshake can_synchronous move
  waits = rw (enabled, ahead, inbound, one, byte)

  at_rest : Resting c (handshake c passed_on).transfer
  unfolding can_move can_handshake can_synchronous move handshake
  at_rest = record { no_move = rw (path, inbound, byte, ahead); no_handshake = rw (enabled, ahead, one) }

  -- one move, one ACK
  pub one_in_synchronous : (n : ℕ) → settle c (suc (suc n)) x ≡ handshake c passed_on
  unfolding settle
  one_in_synchronous n =
      ap (λ (y : Settling). settle c n (turn c y)) (turn_moves c x stored) ∙ ap (settle c n) (turn_handshakes c passed_on stuck waits)
      ∙ settle_rests c n (handshake c passed_on) at_rest
