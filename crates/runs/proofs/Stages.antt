-- What an event that a run allows leaves of the registers and of the data path before settling.
use mathlib.Core.Path.{◌≡◌, refl, sym, ap, ◌∙◌}
use mathlib.Core.Bool.{Bool, true, false, not, ◌&&◌, ◌||◌, cond, beq, and-false}
use mathlib.Core.List.{List, [], ◌++◌, append-nil}
use Prim.Native.Nat.{ℕ, ◌+◌, ◌≤◌}
use lib.Dec.{eqb}
use lib.ListN.{length, drop, length-append}
use borrow.Author.Tests.{not-true, ltb-false}
use Rattle.rules.specs.Registers.{sxfrctl0_of}
use Rattle.rules.specs.State.{State}
use Rattle.rules.specs.Seen.{io_seen, automatic, normal, matched, path}
use Rattle.rules.specs.Events.{writes, value_of, offered, asked, wide, port_write, port_read}
use Rattle.rules.specs.Codes.{shut, no_room}
use Rattle.rules.specs.StepA.{rstfifo, automatic_ack, registers_a, host_a, counter_a, transfer_a, after_a}
use Rattle.rules.specs.StepB.{ack_released, bus_reset, req_rises, synchronous_req, req_within, stored_byte, req_risen, bus_freed, after_sequencer, phase_changed, at_req, after_b}
use Rattle.rules.specs.declared.registers.Registers.{Registers}
use Rattle.rules.specs.declared.registers.Sxfrctl0.{Sxfrctl0}
use Rattle.rules.specs.declared.map.Register.TheVariants.{SXFRCTL0}
use Rattle.rules.specs.declared.records.Event.{Event}
use Rattle.rules.specs.declared.records.Event.TheVariants.{PowerReset, Write, Read, WordWrite, WordRead, Drive, Ticks}
use Rattle.rules.proofs.InOrder.{Keeps, b_keeps, Apart, b_leaves, req_leaves, scsi_b}
use Rattle.rules.proofs.Logic.{never, left_true}
use Rattle.runs.specs.Run.{Starts, took_at_req}
use Rattle.runs.proofs.Spared.{Spared}
use Rattle.runs.proofs.Access.{Passed}

-- what a run holds of the registers
pub record Held (write : Bool) (r : Registers) : Type 0 where
  pub direction : r.dmacntrl0.write ≡ write
  pub spioen : r.sxfrctl0.spioen ≡ false
  pub acko : r.scsisig.acko ≡ false

-- "path" says Normal: SPIOEN 0
pub path_spioen : (r : Registers) → path r ≡ true → r.sxfrctl0.spioen ≡ false
unfolding path normal
path_spioen r h =
    not-true r.sxfrctl0.spioen
    (left_true (not r.sxfrctl0.spioen) r.sxfrctl0.dmaen
    (left_true (not r.sxfrctl0.spioen && r.sxfrctl0.dmaen) (not (beq r.dmacntrl0.write r.scsisig.ioexp)) h))

pub held_at_start : (w : Bool) (s : State) → Starts w s → Held w s.registers
held_at_start w s h =
    record { direction = h.direction; spioen = path_spioen s.registers h.opened; acko = h.acko }

-- a bit of 341h stays 0 where no write sets it
pub stays_zero : (f : Sxfrctl0 → Bool) (b : Bool) (x y : Sxfrctl0) → (b && f x) ≡ false → f y ≡ false → f (cond b x y) ≡ false
stays_zero f true x y q h = q
stays_zero f false x y q h = h

held_a : (w : Bool) (r : Registers) (e : Event) → Spared e → Held w r → Held w (registers_a r e)
unfolding registers_a
held_a w r e s h =
    record {
      direction = rw s.control h.direction;
      spioen = stays_zero (λ x. x.spioen) (writes e SXFRCTL0) (sxfrctl0_of (value_of e)) r.sxfrctl0 s.spioen h.spioen;
      acko = rw s.signals h.acko;
    }

held_b : (w : Bool) → Keeps (λ n. Held w n.registers)
unfolding ack_released bus_reset req_risen bus_freed after_sequencer phase_changed
held_b w =
    record {
      released = λ n h. h;
      reset = λ n h. record { direction = h.direction; spioen = h.spioen; acko = refl };
      risen = λ n h. record { direction = h.direction; spioen = h.spioen; acko = h.acko };
      ticked = λ n ticks h. h;
      freed = λ n h. record { direction = h.direction; spioen = h.spioen; acko = refl };
      sequenced = λ n tick before h. record { direction = h.direction; spioen = h.spioen; acko = h.acko };
      changed = λ n h. h;
    }

pub held_after : (w : Bool) (s : State) (e : Event) → Spared e → Held w s.registers → Held w (after_b s e).registers
unfolding after_a
held_after w s e p h = b_keeps (λ n. Held w n.registers) (held_b w) s e (held_a w s.registers e p h)

-- the direction is the same after A as after B
pub write_a : (s : State) (e : Event) → (after_a s e).registers.dmacntrl0.write ≡ (after_b s e).registers.dmacntrl0.write
write_a s e = sym (ap (λ (a : Apart). a.control.write) (b_leaves s e))

pub spioen_a : (s : State) (e : Event) → (after_b s e).registers.sxfrctl0.spioen ≡ (after_a s e).registers.sxfrctl0.spioen
spioen_a s e = ap (λ (a : Apart). a.spioen) (b_leaves s e)

-- outbound no REQ stores a byte: it is matched only with IO not seen
outbound_byte : (n : State) → n.registers.dmacntrl0.write ≡ true → stored_byte n ≡ []
unfolding stored_byte req_within synchronous_req matched path
outbound_byte n w = go (io_seen n) n.registers.scsisig.ioexp refl refl
  where
    go : (i x : Bool) → io_seen n ≡ i → n.registers.scsisig.ioexp ≡ x → stored_byte n ≡ []
    go false x q k = simp (q, and-false)
    go true true q k = simp (q, k, w, and-false)
    go true false q k = simp (q, k, and-false)

none_either : (b : Bool) → ◌≡◌ {A = List ℕ} (cond b [] []) []
none_either true = refl
none_either false = refl

pub outbound_stores_none : (s : State) (e : Event) → (after_b s e).registers.dmacntrl0.write ≡ true → took_at_req s e ≡ []
unfolding took_at_req
outbound_stores_none s e h =
    rw (outbound_byte (at_req s e) (ap (λ (a : Apart). a.control.write) (req_leaves s e) ∙ write_a s e ∙ h)) (none_either (req_rises s (at_req s e)))

-- with SPIOEN 0 there is no Automatic ACK
pub no_automatic_ack : (s : State) (e : Event) → s.registers.sxfrctl0.spioen ≡ false → automatic_ack s e ≡ false
unfolding automatic_ack automatic
no_automatic_ack s e h = simp (h, and-false)

-- the counter stays until settling
pub counter_before : (s : State) (e : Event) → Spared e → s.registers.sxfrctl0.spioen ≡ false → (after_b s e).transfer.counter ≡ s.transfer.counter
unfolding after_a transfer_a counter_a
counter_before s e p h =
    ap (λ (a : Apart). a.counter) (b_leaves s e) ∙ rw (p.clrstcnt, p.low, p.middle, p.high, no_automatic_ack s e h)

-- no write to 352h: RSTFIFO does not act
no_rstfifo : (e : Event) → Spared e → rstfifo e ≡ false
unfolding rstfifo
no_rstfifo e p = rw p.control

-- a port read is shut outbound, a port write inbound
read_shut : (w r x : Bool) → ((w || r) && (x || beq true r)) ≡ false → r ≡ false
read_shut w false x h = refl
read_shut true true true h = h
read_shut true true false h = h
read_shut false true true h = h
read_shut false true false h = h

write_shut : (w x : Bool) → ((w || false) && (x || true)) ≡ false → w ≡ false
write_shut false x h = refl
write_shut true true h = h
write_shut true false h = h

module _ (r : Registers) where
  abbrev otherwise : Event → Bool
  otherwise e = not r.dmacntrl0.endma || r.dmacntrl0.dma || beq r.dmacntrl0.eightbit (wide e)

  pub no_port_read : (e : Event) → r.dmacntrl0.write ≡ true → shut r e ≡ false → port_read e ≡ false
  unfolding shut
  no_port_read e w h = read_shut (port_write e) (port_read e) (otherwise e) (rw w at h)

  pub no_port_write : (e : Event) → r.dmacntrl0.write ≡ false → shut r e ≡ false → port_write e ≡ false
  unfolding shut port_write port_read
  no_port_write PowerReset w h = refl
  no_port_write (Write offset value) w h = write_shut (eqb offset 0x16) (otherwise (Write offset value)) (rw w at h)
  no_port_write (Read offset) w h = refl
  no_port_write (WordWrite word) w h = write_shut true (otherwise (WordWrite word)) (rw w at h)
  no_port_write WordRead w h = refl
  no_port_write (Drive lines) w h = refl
  no_port_write (Ticks n) w h = refl

pub asks_none : (e : Event) → port_read e ≡ false → asked e ≡ 0
unfolding port_read asked
asks_none PowerReset h = refl
asks_none (Write offset value) h = refl
asks_none (Read offset) h = rw h
asks_none (WordWrite word) h = refl
asks_none WordRead h = absurd (never (sym h))
asks_none (Drive lines) h = refl
asks_none (Ticks n) h = refl

pub offers_none : (e : Event) → port_write e ≡ false → offered e ≡ []
unfolding port_write offered
offers_none PowerReset h = refl
offers_none (Write offset value) h = rw h
offers_none (Read offset) h = refl
offers_none (WordWrite word) h = absurd (never (sym h))
offers_none WordRead h = refl
offers_none (Drive lines) h = refl
offers_none (Ticks n) h = refl

-- B leaves the host FIFO
pub host_b : (s : State) (e : Event) → (after_b s e).transfer.host ≡ (after_a s e).transfer.host
host_b s e = ap (λ (a : Apart). a.host) (b_leaves s e)

-- outbound the host FIFO gets what is offered, inbound it gives what is asked
pub host_outbound : (s : State) (e : Event) → Spared e → s.registers.dmacntrl0.write ≡ true → Passed s e → (after_b s e).transfer.host ≡ s.transfer.host ++ offered e
unfolding after_a transfer_a host_a
host_outbound s e p w k = host_b s e ∙ rw (no_rstfifo e p) (go (port_write e) refl)
  where
    go : (b : Bool) → port_write e ≡ b → cond b (s.transfer.host ++ offered e) (drop (asked e) s.transfer.host) ≡ s.transfer.host ++ offered e
    go true q = refl
    go false q =
        rw (asks_none e (no_port_read s.registers e w k.unshut), offers_none e q) (sym (append-nil s.transfer.host))

pub host_inbound : (s : State) (e : Event) → Spared e → s.registers.dmacntrl0.write ≡ false → Passed s e → (after_b s e).transfer.host ≡ drop (asked e) s.transfer.host
unfolding after_a transfer_a host_a
host_inbound s e p w k = host_b s e ∙ rw (no_rstfifo e p, no_port_write s.registers e w k.unshut)

-- the SCSI FIFO gets the byte that a REQ stores
pub scsi_over_b : (s : State) (e : Event) → (after_b s e).transfer.scsi ≡ (after_a s e).transfer.scsi ++ took_at_req s e
unfolding took_at_req
scsi_over_b s e = scsi_b s e

-- no CLRCH: but for that byte it stays until settling
pub scsi_before : (s : State) (e : Event) → Spared e → took_at_req s e ≡ [] → (after_b s e).transfer.scsi ≡ s.transfer.scsi
unfolding after_a transfer_a
scsi_before s e p h = scsi_over_b s e ∙ rw (h, p.clrch) (append-nil s.transfer.scsi)

-- the host FIFO has room for what is offered
pub offered_fits : (s : State) (e : Event) → Passed s e → length (s.transfer.host ++ offered e) ≤ 128
unfolding no_room
offered_fits s e k = rw length-append (ltb-false 128 (length s.transfer.host + length (offered e)) k.room)
