-- A word through the port of a chip at rest: it stays in the host FIFO, or both its bytes move on; a word taken, and nothing follows.
use mathlib.Core.Path.{◌≡◌, refl, sym, ◌∙◌, ap, subst}
use mathlib.Core.Bool.{Bool, true, false, not, ◌&&◌, ◌||◌, cond, beq, and-true, and-false}
use mathlib.Core.List.{List, [], ◌∷◌, ◌++◌, append_assoc}
use Prim.Native.Nat.{ℕ, ◌+◌, ◌/◌, ◌%◌, ◌≤◌, ◌<◌}
use native.Mathlib.Omega.{arith}
use lib.Dec.{ltb}
use lib.ListN.{length, drop, length-append}
use borrow.Author.Tests.{lt-ltb, le-ltb}
use Rattle.rules.specs.Rest.{AtRest, Resting}
use Rattle.rules.specs.State.{State}
use Rattle.rules.specs.Changed.{with_transfer, with_status, with_host, with_scsi, transfer_with_host, transfer_with_scsi}
use Rattle.rules.specs.Seen.{ack_driven, ack_seen}
use Rattle.rules.specs.Events.{writes, offered, asked, wide, port_write, port_read}
use Rattle.rules.specs.Reads.{value_read}
use Rattle.rules.specs.Codes.{absent, test_value, shut, no_room, no_bytes, access_code}
use Rattle.rules.specs.StepC.{Settling, conditions, can_move, can_handshake, can_synchronous, can_asynchronous, move, turn, settle, turns, started}
use Rattle.rules.specs.StepD.{status_d}
use Rattle.rules.specs.Answers.{Stepped}
use Rattle.rules.specs.Step.{ended, access, done}
use Rattle.rules.specs.Ranges.{InRange}
use Rattle.rules.specs.declared.chip.Status.{Status}
use Rattle.rules.specs.declared.codes.Code.TheVariants.{Done}
use Rattle.rules.specs.declared.records.Event.{Event}
use Rattle.rules.specs.declared.records.Event.TheVariants.{WordWrite, WordRead}
use Rattle.rules.proofs.Logic.{never}
use Rattle.rules.proofs.Rest.{turn_moves, settle_rests}
use Rattle.rules.proofs.Still.{status_d_still}
use Rattle.words.specs.Blocks.{settled_with, block_settled, block_left}
use Rattle.words.proofs.Port.{Ported, word_written_lem, word_read_lem, port_at_rest}
use Rattle.quick.specs.Facts.{opens_out, opens_in}
use Rattle.quick.proofs.ByteRises.{no_byte}

-- a step that moves bytes and acknowledges none
abbrev pub moved_to : State → ℕ → ℕ → Stepped
moved_to n moves value = record { state = n; code = Done; value = value; moves = moves; acks = 0; sent = [] }

-- a word access whose settling is known, and acknowledges nothing
module _ (e : Event) (s : State) (h : List ℕ) (p : Ported e s h) (r : AtRest s) (i : InRange s) (x : Settling)
    (settles : block_settled s h ≡ x) (silent : x.acks ≡ 0) (unsent : x.sent ≡ []) (ack : x.transfer.ack ≡ s.transfer.ack) where
  abbrev n : State
  n = with_transfer x.transfer s

  still_clear : ack_seen n ≡ true → s.status.reqinit ≡ false
  unfolding ack_seen ack_driven
  still_clear k = r.reqinit (rw ack at k)

  left_is : block_left s h ≡ n
  unfolding block_left
  left_is =
      (λ j. with_status (status_d (settles j).acks (ack_seen (with_transfer (settles j).transfer s)) s.status) (with_transfer (settles j).transfer s))
      ∙ (λ j. with_status (status_d (silent j) (ack_seen n) s.status) n)
      ∙ ap (λ (t : Status). with_status t n) (status_d_still (ack_seen n) s.status still_clear)

  word_done : done s e ≡ moved_to n x.moves (value_read s e)
  word_done =
      port_at_rest e s h p r i.quiet
      ∙ (λ j.
      record {
        state = left_is j;
        code = Done;
        value = value_read s e;
        moves = (settles j).moves;
        acks = (ap (λ (y : Settling). y.acks) settles ∙ silent) j;
        sent = (ap (λ (y : Settling). y.sent) settles ∙ unsent) j;
      })

-- THE HOST FIFO ALONE CHANGES, where no byte can move then
module _ (e : Event) (s : State) (h : List ℕ) (p : Ported e s h) (code : access_code s e ≡ Done)
    (stuck : can_move (conditions s) (transfer_with_host h s.transfer) ≡ false) (r : AtRest s) (i : InRange s) where
  held_rests : Resting (conditions s) (transfer_with_host h s.transfer)
  unfolding can_handshake can_synchronous can_asynchronous
  held_rests = record { no_move = stuck; no_handshake = r.resting.no_handshake }

  held_settles : block_settled s h ≡ started (with_host h s)
  unfolding settled_with started
  held_settles = settle_rests (conditions s) turns (started (with_host h s)) held_rests

  pub word_held : access s e ≡ ended (with_host h s) Done (value_read s e)
  unfolding access ended started
  word_held = rw code (word_done e s h p r i (started (with_host h s)) held_settles refl refl refl)

-- a handshake waits for a byte: REQs of a synchronous transfer, or REQ with automatic ACK off
unfoldable pub handshake_waits : State → Bool
handshake_waits s =
    (conditions s).enabled && cond (conditions s).synchronous (ltb 0 s.transfer.offset) ((conditions s).req && not s.transfer.ack)

-- none comes where none waits, however many bytes there are
none_waits : (e y o q x z : Bool) → (e && cond y o q) ≡ false → (e && cond y (o && x) (q && z)) ≡ false
none_waits false y o q x z h = refl
none_waits true true o q x z h = rw h
none_waits true false o q x z h = rw h

some_waits : (e y o q w x z v : Bool) → w ≡ true → x ≡ true → (e && cond y (o && cond w x z) (q && cond w x v)) ≡ false
    → (e && cond y o q) ≡ false
some_waits e y o q true true z v f g h = rw (and-true o, and-true q) at h
some_waits e y o q true false z v f g h = absurd (never g)
some_waits e y o q false x z v f g h = absurd (never f)

-- at rest none waits where there is a byte to send
pub rest_waits_not : (s : State) → AtRest s → s.registers.dmacntrl0.write ≡ true → 0 < length s.transfer.scsi → handshake_waits s
    ≡ false
unfolding handshake_waits can_handshake can_synchronous can_asynchronous conditions
rest_waits_not s r out some =
    let n = length s.transfer.scsi in
    some_waits (conditions s).enabled (conditions s).synchronous (ltb 0 s.transfer.offset) ((conditions s).req && not s.transfer.ack)
    s.registers.dmacntrl0.write (ltb 0 n) (ltb n s.transfer.offset) (ltb n 8) out (lt-ltb 0 n some) r.resting.no_handshake

-- the port is open: the direction is known
shut_out : (a b c d : Bool) → not (((a || b) || c) || beq d false) ≡ true → d ≡ true
shut_out a b c true h = refl
shut_out true b c false h = absurd (never h)
shut_out false true c false h = absurd (never h)
shut_out false false true false h = absurd (never h)
shut_out false false false false h = absurd (never h)

open_not : (b : Bool) → not b ≡ true → b ≡ false
open_not true h = absurd (never h)
open_not false h = refl

module _ (s : State) (w : ℕ) (opens : opens_out s ≡ true) (room : length s.transfer.host ≤ 126) (r : AtRest s) (i : InRange s) where
  outward : s.registers.dmacntrl0.write ≡ true
  unfolding opens_out shut port_write port_read wide
  outward =
      let d = s.registers.dmacntrl0 in
      shut_out (not d.endma) d.dma (beq d.eightbit true) d.write opens

  not_shut : shut s.registers (WordWrite w) ≡ false
  unfolding opens_out shut port_write port_read wide
  not_shut = open_not (shut s.registers (WordWrite w)) opens

  word_accepted : access_code s (WordWrite w) ≡ Done
  unfolding access_code absent test_value no_room no_bytes writes offered asked
  word_accepted =
      rw
      (not_shut, le-ltb 128 (length s.transfer.host + 2) (omega arith), le-ltb (length s.transfer.host) 0 (omega arith))

  abbrev pub held_out : List ℕ
  held_out = s.transfer.host ++ offered (WordWrite w)

  -- A WORD OUT STAYS IN THE HOST FIFO, with no path
  pub word_kept : (conditions s).path ≡ false → access s (WordWrite w) ≡ ended (with_host held_out s) Done 0
  unfolding value_read can_move
  word_kept none = word_held (WordWrite w) s held_out (word_written_lem w s) word_accepted (rw none) r i

  queued_stuck : length s.transfer.scsi ≡ 8 → can_move (conditions s) (transfer_with_host held_out s.transfer) ≡ false
  unfolding can_move conditions
  queued_stuck full = rw (outward, full, and-false (ltb 0 (length held_out)), and-false)

  -- or with the SCSI FIFO full
  pub word_queued : length s.transfer.scsi ≡ 8 → access s (WordWrite w) ≡ ended (with_host held_out s) Done 0
  unfolding value_read
  word_queued full = word_held (WordWrite w) s held_out (word_written_lem w s) word_accepted (queued_stuck full) r i

  -- BOTH BYTES OF A WORD OUT MOVE ON, with a path, at most six bytes in the SCSI FIFO and no handshake that waits for one
  module _ (way : (conditions s).path ≡ true) (few : length s.transfer.scsi ≤ 6) (waits : handshake_waits s ≡ false) where
    abbrev low : ℕ
    low = w % 256

    abbrev high : ℕ
    high = w / 256

    -- at rest the host FIFO is empty
    host_empty : s.transfer.host ≡ []
    unfolding can_move conditions
    host_empty =
        no_byte s.transfer.host (rw (way, outward, lt-ltb (length s.transfer.scsi) 8 (omega arith), and-true) at r.resting.no_move)

    abbrev begins : Settling
    begins = started (with_host (low ∷ high ∷ []) s)

    abbrev once : Settling
    once = move (conditions s) begins

    abbrev twice : Settling
    twice = move (conditions s) once

    moves_once : can_move (conditions s) begins.transfer ≡ true
    unfolding can_move started conditions
    moves_once = rw (way, outward, lt-ltb (length s.transfer.scsi) 8 (omega arith))

    moves_twice : can_move (conditions s) once.transfer ≡ true
    unfolding can_move move started conditions
    moves_twice =
        rw (way, outward, length-append s.transfer.scsi (low ∷ []), lt-ltb (length s.transfer.scsi + 1) 8 (omega arith))

    -- what both leave
    abbrev pub passed_on : List ℕ
    passed_on = s.transfer.scsi ++ (low ∷ high ∷ [])

    twice_is : twice ≡ record { transfer = transfer_with_host [] (transfer_with_scsi passed_on s.transfer); moves = 2; acks = 0; sent = [] }
    unfolding move started conditions
    twice_is = rw (outward, append_assoc)

    passed_rests : Resting (conditions s) (transfer_with_host [] (transfer_with_scsi passed_on s.transfer))
    unfolding can_move can_handshake can_synchronous can_asynchronous conditions handshake_waits
    passed_rests =
        record {
          no_move = rw (outward, and-false);
          no_handshake =
              let n = length passed_on in
              let d = s.registers.dmacntrl0.write in
              none_waits (conditions s).enabled (conditions s).synchronous (ltb 0 s.transfer.offset) ((conditions s).req && not s.transfer.ack)
              (cond d (ltb 0 n) (ltb n s.transfer.offset)) (cond d (ltb 0 n) (ltb n 8)) waits;
        }

    passed_settles : block_settled s (low ∷ high ∷ []) ≡ record { transfer = transfer_with_host [] (transfer_with_scsi passed_on s.transfer); moves = 2; acks = 0; sent = [] }
    unfolding settled_with settle started
    passed_settles =
        ap (λ (y : Settling). settle (conditions s) 22 (turn (conditions s) y)) (turn_moves (conditions s) begins moves_once)
        ∙ ap (settle (conditions s) 22) (turn_moves (conditions s) once moves_twice ∙ twice_is)
        ∙ settle_rests (conditions s) 22 _ passed_rests

    word_alone : Ported (WordWrite w) s (low ∷ high ∷ [])
    unfolding offered
    word_alone =
        subst (λ (h : List ℕ). Ported (WordWrite w) s (h ++ offered (WordWrite w))) host_empty (word_written_lem w s)

    pub word_passed : access s (WordWrite w) ≡ moved_to (with_scsi passed_on s) 2 0
    unfolding access value_read
    word_passed =
        rw word_accepted
        (word_done (WordWrite w) s (low ∷ high ∷ []) word_alone r i _ passed_settles refl refl refl
        ∙ ap (λ (h : List ℕ). moved_to (with_transfer (transfer_with_host h (transfer_with_scsi passed_on s.transfer)) s) 2 0) (sym host_empty))

-- A WORD IN
shut_in : (a b c d : Bool) → not (((a || b) || c) || beq d true) ≡ true → d ≡ false
shut_in a b c false h = refl
shut_in true b c true h = absurd (never h)
shut_in false true c true h = absurd (never h)
shut_in false false true true h = absurd (never h)
shut_in false false false true h = absurd (never h)

module _ (s : State) (opens : opens_in s ≡ true) (some : 2 ≤ length s.transfer.host) (r : AtRest s) (i : InRange s) where
  inward : s.registers.dmacntrl0.write ≡ false
  unfolding opens_in shut port_write port_read wide
  inward =
      let d = s.registers.dmacntrl0 in
      shut_in (not d.endma) d.dma (beq d.eightbit true) d.write opens

  not_shut_in : shut s.registers WordRead ≡ false
  unfolding opens_in shut port_write port_read wide
  not_shut_in = open_not (shut s.registers WordRead) opens

  read_accepted : access_code s WordRead ≡ Done
  unfolding access_code absent test_value no_room no_bytes writes offered asked
  read_accepted =
      rw
      (not_shut_in, le-ltb 128 (length s.transfer.host + 0) (omega (arith, i.transfer.host)), le-ltb (length s.transfer.host) 2 some)

  -- with no path
  pub word_taken : (conditions s).path ≡ false → access s WordRead
      ≡ ended (with_host (drop 2 s.transfer.host) s) Done (value_read s WordRead)
  unfolding can_move
  word_taken none = word_held WordRead s (drop 2 s.transfer.host) (word_read_lem s) read_accepted (rw none) r i

  -- or with the SCSI FIFO empty
  pub word_drawn : s.transfer.scsi ≡ [] → access s WordRead ≡ ended (with_host (drop 2 s.transfer.host) s) Done (value_read s WordRead)
  unfolding can_move conditions
  word_drawn empty = word_held WordRead s (drop 2 s.transfer.host) (word_read_lem s) read_accepted (rw (inward, empty, and-false)) r i
