-- A line event in which REQ rises in a transfer through the data path, from rest: one byte, synchronous or asynchronous, out or in.
use mathlib.Core.Path.{◌≡◌, refl, sym, ◌∙◌}
use mathlib.Core.Bool.{Bool, true, false, not, ◌&&◌, cond, and-true, and-false}
use mathlib.Core.List.{List, [], ◌∷◌, append-nil}
use Prim.Native.Nat.{ℕ, ◌+◌, ◌<◌}
use native.Mathlib.Omega.{arith}
use lib.Dec.{ltb}
use lib.ListN.{length}
use borrow.Author.Tests.{ltb-false, lt-ltb}
use Rattle.rules.specs.Rest.{AtRest}
use Rattle.rules.specs.State.{State}
use Rattle.rules.specs.Changed.{with_transfer}
use Rattle.rules.specs.Seen.{bsy_seen, connected, data_seen, matched, path, rst_seen, sel_seen, synchronous}
use Rattle.rules.specs.StepB.{req_risen, req_within, stored_byte, late_byte, error_latched, attention, synchronous_req, beyond_limit}
use Rattle.rules.specs.StepC.{Settling, conditions, can_move, can_handshake, can_synchronous, can_asynchronous, move, handshake, settle, turns, started}
use Rattle.rules.specs.Step.{access}
use Rattle.rules.specs.Ranges.{InRange}
use Rattle.rules.specs.declared.records.Lines.{Lines}
use Rattle.rules.specs.declared.records.Event.TheVariants.{Drive}
use Rattle.rules.proofs.Logic.{never}
use Rattle.quick.proofs.FewLines.{few, driven}
use Rattle.quick.proofs.Passes.{same_low, passed}
use Rattle.quick.proofs.Rises.{Rises, Unseen, risen, path_unready, risen_passes, free_edge, free_within}
use Rattle.quick.proofs.OneByte.{one_out, one_in_synchronous, one_in_asynchronous}

-- a REQ within the limit is not beyond it
within_limit : (a b : Bool) → (a && not b) ≡ true → (a && b) ≡ false
within_limit true true e = absurd (never e)
within_limit true false e = refl
within_limit false b e = refl

-- a FIFO that is not above 0 is empty
pub no_byte : (t : List ℕ) → ltb 0 (length t) ≡ false → t ≡ []
no_byte [] h = refl
no_byte (x ∷ xs) h = absurd (omega (arith, ltb-false 0 (length (x ∷ xs)) h))

both_alike : (b : Bool) → (b && b) ≡ false → b ≡ false
both_alike true h = h
both_alike false h = h

not_ahead : (s : State) → synchronous s ≡ false → synchronous_req s ≡ false
unfolding synchronous_req
not_ahead s e = rw (e, and-false)

-- what every byte asks for: the rise itself, a handshake enabled on a path, REQINIT not latched
pub record ByteRises (l : Lines) (s : State) : Type 0 where
  pub rises : Rises l s
  pub path : path s.registers ≡ true
  pub enabled : (conditions s).enabled ≡ true
  pub reqinit : s.registers.simode1.enreqinit ≡ false

-- with a path SPIORDY does not rise
module _ (l : Lines) (s : State) (h : ByteRises l s) (offset : ℕ) (scsi : List ℕ) (x : Settling)
    (within : (synchronous_req (driven l s) && beyond_limit (driven l s)) ≡ false) where
  byte_unseen : Unseen l s (with_transfer x.transfer (risen l s offset scsi))
  byte_unseen =
      record {
        within = within;
        reqinit = h.reqinit;
        spiordy = rw (path_unready (with_transfer x.transfer (risen l s offset scsi)) h.path) (same_low s.registers.simode0.enspiordy s.status.spiordy);
      }

  -- ONE LAW FOR EVERY BYTE: x is what settling makes of it
  byte_rises : req_risen (driven l s) ≡ risen l s offset scsi
      → settle (conditions (risen l s offset scsi)) turns (started (risen l s offset scsi)) ≡ x
      → AtRest s → InRange s → access s (Drive (few l s.lines)) ≡ passed (risen l s offset scsi) x s.latches 0
  byte_rises edge settles r i = risen_passes l s offset scsi x h.rises edge settles byte_unseen r i

-- what settling makes of a byte out: one ACK, and a move where the host FIFO holds a byte
abbrev pub sent_out : State → Settling
sent_out b =
    let c = conditions b in
    let x = handshake c (started b) in
    cond (ltb 0 (length b.transfer.host)) (move c x) x

module _ (l : Lines) (s : State) (h : ByteRises l s) (r : AtRest s) (i : InRange s) where
  -- what settling looks at is as before but for REQ and the byte
  module _ (offset : ℕ) (scsi : List ℕ) where
    risen_enabled : (conditions (risen l s offset scsi)).enabled ≡ true
    unfolding conditions matched connected rst_seen sel_seen bsy_seen
    risen_enabled = h.enabled

    risen_synchronous : synchronous (risen l s offset scsi) ≡ synchronous s
    unfolding synchronous
    risen_synchronous = refl

    risen_ahead : synchronous s ≡ true → (conditions (risen l s offset scsi)).synchronous ≡ true
    unfolding conditions
    risen_ahead e = rw (risen_synchronous, e)

    risen_each : synchronous s ≡ false → (conditions (risen l s offset scsi)).synchronous ≡ false
    unfolding conditions
    risen_each e = rw (risen_synchronous, e)

    risen_path : (conditions (risen l s offset scsi)).path ≡ true
    unfolding conditions
    risen_path = h.path

    risen_outbound : (conditions (risen l s offset scsi)).outbound ≡ s.registers.dmacntrl0.write
    unfolding conditions
    risen_outbound = refl

    risen_req : (conditions (risen l s offset scsi)).req ≡ true
    unfolding conditions
    risen_req = h.rises.high

  same_within : req_within s ≡ req_within (driven l s)
  unfolding req_within synchronous_req beyond_limit matched connected rst_seen sel_seen bsy_seen synchronous
  same_within = refl

  is_within : req_within s ≡ true → (synchronous_req (driven l s) && beyond_limit (driven l s)) ≡ false
  unfolding req_within
  is_within w = within_limit (synchronous_req (driven l s)) (beyond_limit (driven l s)) (rw same_within at w)

  -- OUT, with a byte in the SCSI FIFO
  module _ (out : s.registers.dmacntrl0.write ≡ true) (some : 0 < length s.transfer.scsi) where
    risen_stuck : (offset : ℕ)
        → can_move (conditions (risen l s offset s.transfer.scsi)) (risen l s offset s.transfer.scsi).transfer ≡ false
    unfolding conditions can_move
    risen_stuck offset = r.resting.no_move

    -- SYNCHRONOUS: the offset goes up one and down one
    module _ (ahead : synchronous s ≡ true) (w : req_within s ≡ true) (io : s.lines.io ≡ false) where
      abbrev pub waiting_out : State
      waiting_out = risen l s (s.transfer.offset + 1) s.transfer.scsi

      out_edge : req_risen (driven l s) ≡ waiting_out
      unfolding req_risen stored_byte late_byte error_latched attention
      out_edge = rw (h.rises.good, ← same_within, w, io, append-nil)

      -- at rest with a byte to send, no REQ waits
      none_waits : s.transfer.offset ≡ 0
      unfolding can_handshake can_synchronous conditions
      none_waits =
          let k = ltb-false 0 s.transfer.offset (rw (h.enabled, ahead, out, lt-ltb 0 (length s.transfer.scsi) some, and-true) at r.resting.no_handshake) in
          omega arith

      out_can : can_handshake (conditions waiting_out) waiting_out.transfer ≡ true
      unfolding can_handshake can_synchronous
      out_can =
          rw
          (risen_enabled (s.transfer.offset + 1) s.transfer.scsi, risen_ahead (s.transfer.offset + 1) s.transfer.scsi ahead, risen_outbound (s.transfer.offset + 1) s.transfer.scsi, out, lt-ltb 0 (s.transfer.offset + 1) (omega arith), lt-ltb 0 (length s.transfer.scsi) some)

      out_settles : settle (conditions waiting_out) turns (started waiting_out) ≡ sent_out waiting_out
      unfolding started
      out_settles =
          let one : s.transfer.offset + 1 ≡ 1 = rw none_waits in
          one_out (conditions waiting_out) (started waiting_out) (risen_path (s.transfer.offset + 1) s.transfer.scsi)
          (risen_outbound (s.transfer.offset + 1) s.transfer.scsi ∙ out) (λ e. one) i.transfer.scsi (risen_stuck (s.transfer.offset + 1)) out_can 22

      -- A REQ OF A SYNCHRONOUS TRANSFER OUT
      pub synchronous_out : access s (Drive (few l s.lines)) ≡ passed waiting_out (sent_out waiting_out) s.latches 0
      synchronous_out =
          byte_rises l s h (s.transfer.offset + 1) s.transfer.scsi (sent_out waiting_out) (is_within w) out_edge out_settles r i

    -- ASYNCHRONOUS: automatic ACK, off before, goes on
    module _ (each : synchronous s ≡ false) (off : s.transfer.ack ≡ false) where
      abbrev pub asked_out : State
      asked_out = risen l s s.transfer.offset s.transfer.scsi

      out_asks : can_handshake (conditions asked_out) asked_out.transfer ≡ true
      unfolding can_handshake can_asynchronous
      out_asks =
          rw
          (risen_enabled s.transfer.offset s.transfer.scsi, risen_each s.transfer.offset s.transfer.scsi each, risen_req s.transfer.offset s.transfer.scsi, risen_outbound s.transfer.offset s.transfer.scsi, out, lt-ltb 0 (length s.transfer.scsi) some, off)

      asked_settles : settle (conditions asked_out) turns (started asked_out) ≡ sent_out asked_out
      unfolding started
      asked_settles =
          one_out (conditions asked_out) (started asked_out) (risen_path s.transfer.offset s.transfer.scsi)
          (risen_outbound s.transfer.offset s.transfer.scsi ∙ out)
          (λ e. absurd (never (sym (risen_each s.transfer.offset s.transfer.scsi each) ∙ e))) i.transfer.scsi
          (risen_stuck s.transfer.offset) out_asks 22

      -- A REQ OF AN ASYNCHRONOUS TRANSFER OUT
      pub asynchronous_out : access s (Drive (few l s.lines)) ≡ passed asked_out (sent_out asked_out) s.latches 0
      asynchronous_out =
          byte_rises l s h s.transfer.offset s.transfer.scsi (sent_out asked_out) (free_within l s (not_ahead s each))
          (free_edge l s (not_ahead s each) h.rises) asked_settles r i

  -- IN, with room in the host FIFO
  module _ (inward : s.registers.dmacntrl0.write ≡ false) (room : length s.transfer.host < 128) where
    empty : s.transfer.scsi ≡ []
    unfolding can_move conditions
    empty =
        no_byte s.transfer.scsi (rw (h.path, inward, lt-ltb (length s.transfer.host) 128 room, and-true) at r.resting.no_move)

    -- SYNCHRONOUS: the byte is stored with the REQ, and moves on
    module _ (ahead : synchronous s ≡ true) (w : req_within s ≡ true) (io : s.lines.io ≡ true) where
      abbrev pub waiting_in : State
      waiting_in = risen l s (s.transfer.offset + 1) (data_seen (driven l s) ∷ [])

      in_edge : req_risen (driven l s) ≡ waiting_in
      unfolding req_risen stored_byte late_byte error_latched attention
      in_edge = rw (h.rises.good, ← same_within, w, io, empty, and-false)

      -- at rest with room, no REQ waits
      none_waits_in : s.transfer.offset ≡ 0
      unfolding can_handshake can_synchronous conditions
      none_waits_in =
          let k = ltb-false 0 s.transfer.offset (both_alike (ltb 0 s.transfer.offset) (rw (h.enabled, ahead, inward, empty) at r.resting.no_handshake)) in
          omega arith

      -- what settling makes of it: one move, one ACK
      abbrev pub came_in : Settling
      came_in = handshake (conditions waiting_in) (move (conditions waiting_in) (started waiting_in))

      in_settles : settle (conditions waiting_in) turns (started waiting_in) ≡ came_in
      unfolding started
      in_settles =
          let one : s.transfer.offset + 1 ≡ 1 = rw none_waits_in in
          let scsi = data_seen (driven l s) ∷ [] in
          one_in_synchronous (conditions waiting_in) (started waiting_in) (data_seen (driven l s)) (risen_path (s.transfer.offset + 1) scsi)
          (risen_enabled (s.transfer.offset + 1) scsi) (risen_outbound (s.transfer.offset + 1) scsi ∙ inward)
          (risen_ahead (s.transfer.offset + 1) scsi ahead) one refl room 22

      -- A REQ OF A SYNCHRONOUS TRANSFER IN
      pub synchronous_in : access s (Drive (few l s.lines)) ≡ passed waiting_in came_in s.latches 0
      synchronous_in =
          byte_rises l s h (s.transfer.offset + 1) (data_seen (driven l s) ∷ []) came_in (is_within w) in_edge in_settles r i

    -- ASYNCHRONOUS: automatic ACK, off before, goes on, the byte is stored with it and moves on
    module _ (each : synchronous s ≡ false) (off : s.transfer.ack ≡ false) where
      abbrev pub asked_in : State
      asked_in = risen l s s.transfer.offset s.transfer.scsi

      in_asks : can_handshake (conditions asked_in) asked_in.transfer ≡ true
      unfolding can_handshake can_asynchronous
      in_asks =
          rw
          (risen_enabled s.transfer.offset s.transfer.scsi, risen_each s.transfer.offset s.transfer.scsi each, risen_req s.transfer.offset s.transfer.scsi, risen_outbound s.transfer.offset s.transfer.scsi, inward, empty, off)

      -- what settling makes of it: one ACK, one move
      abbrev pub taken_in : Settling
      taken_in = move (conditions asked_in) (handshake (conditions asked_in) (started asked_in))

      taken_settles : settle (conditions asked_in) turns (started asked_in) ≡ taken_in
      unfolding started
      taken_settles =
          one_in_asynchronous (conditions asked_in) (started asked_in) (risen_path s.transfer.offset s.transfer.scsi)
          (risen_outbound s.transfer.offset s.transfer.scsi ∙ inward) (risen_each s.transfer.offset s.transfer.scsi each)
          empty room in_asks 22

      -- A REQ OF AN ASYNCHRONOUS TRANSFER IN
      pub asynchronous_in : access s (Drive (few l s.lines)) ≡ passed asked_in taken_in s.latches 0
      asynchronous_in =
          byte_rises l s h s.transfer.offset s.transfer.scsi taken_in (free_within l s (not_ahead s each))
          (free_edge l s (not_ahead s each) h.rises) taken_settles r i
