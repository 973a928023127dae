-- Document 01, "Beliefs to rule out": each false belief with the fact that rules it out.
use mathlib.Core.Path.{◌≡◌, refl, sym, ◌∙◌, ap, ap₂}
use mathlib.Core.Bool.{Bool, true, false, ◌&&◌, ◌||◌, cond, and-false}
use mathlib.Core.List.{List, [], ◌∷◌, ◌++◌, append_assoc, append-nil}
use Prim.Native.Nat.{ℕ, ◌+◌, ◌/◌, ◌%◌, ◌≤◌}
use lib.ListN.{length, take-append-drop}
use borrow.Author.Tests.{ltb-false}
use Rattle.rules.specs.State.{State, Transfer}
use Rattle.rules.specs.Seen.{rst_seen, connected, matched, path}
use Rattle.rules.specs.Interrupts.{instat, irq}
use Rattle.rules.specs.Events.{offered, port_write, writes}
use Rattle.rules.specs.Codes.{no_room, access_code}
use Rattle.rules.specs.StepA.{rstfifo, host_a, transfer_a, after_a}
use Rattle.rules.specs.StepB.{rst_rises, bus_reset, req_rises, after_b, at_req}
use Rattle.rules.specs.StepC.{Settling, conditions, can_move, move, can_handshake, settle, turns, started, settled_c}
use Rattle.rules.specs.Answers.{answer_of}
use Rattle.rules.specs.Step.{step}
use Rattle.rules.specs.Examples.{Row, row, misses}
use Rattle.rules.specs.declared.codes.Code.TheVariants.{Done}
use Rattle.rules.specs.declared.chip.Conditions.{Conditions}
use Rattle.rules.specs.declared.records.Event.{Event}
use Rattle.rules.specs.declared.records.Event.TheVariants.{WordWrite}
use Rattle.rules.proofs.Computes.{computes}
use Rattle.rules.proofs.InOrder.{reset_leaves, ioexp_off, Apart, apart_of, b_leaves, req_leaves, scsi_b}
use Rattle.rules.proofs.Logic.{never, left_true}
use Rattle.rules.proofs.Refusals.{done_passed}
use Rattle.rules.proofs.Settling.{settle_keeps}

-- "IRQ holds exactly when an enabled status is set: false after a clear, or after masking."

-- REQINIT enabled and set, then masked: IRQ without an enabled status; the clear of 34Ch ends it
abbrev after_masking : List Row
after_masking =
    row 0x31000001 0x00000000000000000000000000000000  -- 351h: ENREQINIT
    ∷ row 0x32000004 0x00000000000000000000000000000000  -- 352h: INTEN
    ∷ row 0xA0000006 0x10050000000000000000000000000000  -- BSY and REQ: IRQ
    ∷ row 0x31000000 0x10050000000000000000000000000000  -- 351h: masked, IRQ stays
    ∷ row 0x2C000001 0x00050000000000000000000000000000  -- 34Ch: CLRREQINIT
    ∷ []

-- SPIORDY enabled and set, its latch cleared by 34Bh: an enabled status without IRQ
abbrev after_clear : List Row
after_clear =
    row 0x21000008 0x00000000000000000000000000000000  -- 341h: Automatic
    ∷ row 0x30000002 0x00000000000000000000000000000000  -- 350h: ENSPIORDY
    ∷ row 0x32000004 0x00000000000000000000000000000000  -- 352h: INTEN
    ∷ row 0xA0000006 0x10050000000000000000000000000000  -- BSY and REQ: SPIORDY, IRQ
    ∷ row 0x2B000002 0x00050000000000000000000000000000  -- 34Bh: CLRSPIORDY
    ∷ row 0x4B000000 0x00050002000000000000000000000000  -- 34Bh reads SPIORDY still set
    ∷ []

-- "The offset never exceeds SOFS: false if SOFS is lowered": two REQs at SOFS 2, then SOFS 1; a third is beyond the limit
abbrev after_lowering : List Row
after_lowering =
    row 0x32000008 0x00000000000000000000000000000000  -- 352h: WRITE
    ∷ row 0x21000040 0x00000000000000000000000000000000  -- 341h: DMAEN, so path
    ∷ row 0x24000002 0x00000000000000000000000000000000  -- 344h: SOFS 2
    ∷ row 0xA0000006 0x00000000000010000000000000000000  -- REQ: offset 1
    ∷ row 0xA0000004 0x00000000000010000000000000000000
    ∷ row 0xA0000006 0x00000000000020000000000000000000  -- REQ: offset 2
    ∷ row 0x24000001 0x00000000000020000000000000000000  -- 344h: SOFS 1, offset 2 above it
    ∷ row 0xA0000004 0x00000000000020000000000000000000
    ∷ row 0xA0000006 0xC0000000000020000000000000000000  -- REQ: code 6, offset as before
    ∷ []

-- "The port's byte count taken for the target's": two bytes written, one taken, the counter reads 1
abbrev after_one_ack : List Row
after_one_ack =
    row 0x32000088 0x00000000000000000000000000000000  -- 352h: ENDMA, WRITE
    ∷ row 0x210000E0 0x00000000000000000000000000000000  -- 341h: SCSIEN, DMAEN, CHEN
    ∷ row 0x60004241 0x00100000000002000000000000000000  -- the port takes two bytes
    ∷ row 0xA0000006 0x01050000014101004100000000000000  -- REQ: the target takes one
    ∷ row 0x48000000 0x00050001014101000000000000000000  -- 348h reads 1
    ∷ []

-- "A bus reset emptying the FIFOs": three bytes in the path, RST, and three bytes still there
abbrev after_bus_reset : List Row
after_bus_reset =
    row 0x320000C8 0x00000000000000000000000000000000  -- 352h: ENDMA, 8BIT, WRITE
    ∷ row 0x36000011 0x00000000000000010000000000000000  -- the port takes a byte
    ∷ row 0x36000022 0x00000000000000020000000000000000
    ∷ row 0x36000033 0x00000000000000030000000000000000
    ∷ row 0xA0000100 0x00000000000000030000000000000000  -- RST
    ∷ row 0x55000000 0x00000003000000030000000000000000  -- 355h reads 3
    ∷ []

pub beliefs_ruled_out : misses (after_masking ∷ after_clear ∷ after_lowering ∷ after_one_ack ∷ after_bus_reset ∷ []) ≡ []
unfolding computes
beliefs_ruled_out = refl

-- "IRQ is INSTAT and INTEN.": in every answer
pub irq_is : (s : State) (bytes : List ℕ) → (answer_of (step s bytes)).irq ≡ (instat (step s bytes).state && (step s bytes).state.registers.dmacntrl0.inten)
unfolding answer_of irq
irq_is s bytes = refl

-- "A word half stored when one byte of room is left.": a word that is taken is taken whole, low byte first
pub record Whole (s : State) (word : ℕ) : Type 0 where
  pub room : length s.transfer.host + 2 ≤ 128
  pub stored : (after_a s (WordWrite word)).transfer.host ≡ s.transfer.host ++ (word % 256 ∷ word / 256 ∷ [])

pub word_whole : (s : State) (word : ℕ) → access_code s (WordWrite word) ≡ Done → Whole s word
unfolding no_room offered after_a transfer_a host_a rstfifo writes port_write
word_whole s word e =
    record { room = ltb-false 128 (length s.transfer.host + 2) (done_passed s (WordWrite word) e).room; stored = refl }

-- "A bus reset emptying the FIFOs.": nothing is sent, the counter stays, and the bytes stay in order: outbound SCSI FIFO then host FIFO, inbound each where it was
pub record Kept (outbound : Bool) (t : Transfer) (s : Settling) : Type 0 where
  pub sent : s.sent ≡ []
  pub counter : s.transfer.counter ≡ t.counter
  pub bytes : cond outbound (s.transfer.scsi ++ s.transfer.host ≡ t.scsi ++ t.host) ((s.transfer.scsi ≡ t.scsi) × (s.transfer.host ≡ t.host))

module _ (c : Conditions) (t : Transfer) where
  kept_move : (c.outbound ≡ false → c.path ≡ false) → (s : Settling) → can_move c s.transfer ≡ true → Kept c.outbound t s → Kept c.outbound t (move c s)
  unfolding move can_move
  kept_move shut s h k = go c.outbound refl
    where
      go : (o : Bool) → c.outbound ≡ o → Kept c.outbound t (move c s)
      go true q =
          let b : s.transfer.scsi ++ s.transfer.host ≡ t.scsi ++ t.host = rw q at k.bytes in
          record { sent = k.sent; counter = k.counter; bytes = rw q (simp (append_assoc, take-append-drop) b) }
      go false q = absurd (never (sym (shut q) ∙ left_true c.path _ h))

  kept_settles : (c.outbound ≡ false → c.path ≡ false) → c.enabled ≡ false → (n : ℕ) (s : Settling) → Kept c.outbound t s → Kept c.outbound t (settle c n s)
  unfolding can_handshake
  kept_settles shut off = settle_keeps (Kept c.outbound t) c (kept_move shut) (λ s h k. absurd (never (sym off ∙ left_true c.enabled _ h)))

-- a state in which RST is seen is not matched; and it is seen throughout B
rst_unmatched : (s : State) → rst_seen s ≡ true → matched s ≡ false
unfolding matched connected
rst_unmatched s h = rw (h, and-false)

rst_by : (n : State) (a : Apart) → apart_of n ≡ a → rst_seen n ≡ (a.lines.rst || a.scsirsto)
unfolding rst_seen
rst_by n a h = ap (λ (x : Apart). x.lines.rst || x.scsirsto) h

module _ (s : State) (e : Event) (rises : rst_rises s (after_a s e) ≡ true) where
  rst_after_a : rst_seen (after_a s e) ≡ true
  unfolding rst_rises
  rst_after_a = left_true (rst_seen (after_a s e)) _ rises

  rst_at_req : rst_seen (at_req s e) ≡ true
  rst_at_req = rst_by (at_req s e) _ (req_leaves s e) ∙ sym (rst_by (after_a s e) _ refl) ∙ rst_after_a

  rst_after_b : rst_seen (after_b s e) ≡ true
  rst_after_b = rst_by (after_b s e) _ (b_leaves s e) ∙ sym (rst_by (after_a s e) _ refl) ∙ rst_after_a

  -- no REQ rises with RST seen, so no byte is stored
  stores_none : (after_b s e).transfer.scsi ≡ (after_a s e).transfer.scsi
  unfolding req_rises
  stores_none = scsi_b s e ∙ rw (rst_at_req, and-false) (append-nil (after_a s e).transfer.scsi)

  -- 343h is 0 after the reset, and IOEXP with it
  ioexp_after_b : (after_b s e).registers.scsisig.ioexp ≡ false
  unfolding bus_reset
  ioexp_after_b = reset_leaves (λ n. n.registers.scsisig.ioexp ≡ false) ioexp_off s e (λ n. refl) rises

  host_same : (after_b s e).transfer.host ≡ (after_a s e).transfer.host
  host_same = ap (λ (a : Apart). a.host) (b_leaves s e)

  reset_start : (outbound : Bool) → Kept outbound (after_a s e).transfer (started (after_b s e))
  unfolding started
  reset_start outbound =
      record { sent = refl; counter = ap (λ (a : Apart). a.counter) (b_leaves s e); bytes = go outbound }
    where
      t : Transfer
      t = (after_a s e).transfer

      u : Transfer
      u = (after_b s e).transfer

      go : (o : Bool) → cond o (u.scsi ++ u.host ≡ t.scsi ++ t.host) ((u.scsi ≡ t.scsi) × (u.host ≡ t.host))
      go true = ap₂ (λ (x y : List ℕ). x ++ y) stores_none host_same
      go false = (stores_none, host_same)

  reset_idle : (conditions (after_b s e)).enabled ≡ false
  unfolding conditions
  reset_idle = rw (rst_unmatched (after_b s e) rst_after_b, and-false)

  reset_shut : (conditions (after_b s e)).outbound ≡ false → (conditions (after_b s e)).path ≡ false
  unfolding conditions path
  reset_shut o = rw (o, ioexp_after_b, and-false)

-- at a bus reset B leaves the FIFOs and the counter, and C sends nothing and loses nothing
pub bus_reset_keeps : (s : State) (e : Event) → rst_rises s (after_a s e) ≡ true → Kept (after_a s e).registers.dmacntrl0.write (after_a s e).transfer (settled_c s e)
unfolding settled_c conditions
bus_reset_keeps s e h =
    let b = after_b s e in
    rw (sym (ap (λ (a : Apart). a.control.write) (b_leaves s e)))
    (kept_settles (conditions b) (after_a s e).transfer (reset_shut s e h) (reset_idle s e h) turns (started b) (reset_start s e h b.registers.dmacntrl0.write))
