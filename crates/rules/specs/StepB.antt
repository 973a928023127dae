-- "B. Edges, in this order": five steps and, before the last, R-1's sequencer, each handed the state that the one before it left. `last` is the state at the end of the
-- last event, `now` the state that a step is handed: a line rises if it is seen now and was not seen last.
use Rattle.std.specs.Prelude.{ℕ, ◌+◌, min, Bool, true, false, not, ◌&&◌, ◌||◌, cond, List, [], ◌∷◌, ◌++◌, eqb, leb, ltb, length}
use Rattle.rules.specs.Registers.{scsisig_of}
use Rattle.rules.specs.State.{State}
use Rattle.rules.specs.Changed.{with_registers, with_status, with_latches, with_kept, with_quiet, with_sequencer, with_scsi, with_offset, with_ack}
use Rattle.rules.specs.Seen.{rst_seen, sel_seen, bsy_seen, io_seen, req_seen, connected, matched, mismatched, path, synchronous, limit, data_seen, parity_even}
use Rattle.rules.specs.Events.{ticks_of}
use Rattle.rules.specs.Sequencer.{selection_freed, sequenced}
use Rattle.rules.specs.StepA.{with_atn, after_a}
use Rattle.rules.specs.declared.registers.Scsiseq.{Scsiseq}
use Rattle.rules.specs.declared.registers.Sxfrctl0.{Sxfrctl0}
use Rattle.rules.specs.declared.registers.Scsisig.{Scsisig}
use Rattle.rules.specs.declared.registers.Registers.{Registers}
use Rattle.rules.specs.declared.chip.Latches.{Latches}
use Rattle.rules.specs.declared.records.Event.{Event}

-- 1. "REQ falls: automatic ACK is released."
unfoldable pub req_falls : State → State → Bool
req_falls last now = req_seen last && not (req_seen now)

unfoldable pub ack_released : State → State
ack_released now = with_ack false now

unfoldable pub after_req_falls : State → State → State
after_req_falls last now = cond (req_falls last now) (ack_released now) now

-- 2. "RST rises: SCSIRSTI; 340h bits 7-1, 343h, offset and SCSIEN become 0; automatic ACK is released. FIFOs and counter stay."
unfoldable pub rst_rises : State → State → Bool
rst_rises last now = rst_seen now && not (rst_seen last)

-- "340h bits 7-1 ... become 0"
abbrev pub scsiseq_cleared : Scsiseq → Scsiseq
scsiseq_cleared q =
    record {
      temodeo = false;
      enselo = false;
      enseli = false;
      enrseli = false;
      enautoatno = false;
      enautoatni = false;
      enautoatnp = false;
      scsirsto = q.scsirsto;
    }

-- "SCSIEN become[s] 0"
abbrev pub scsien_cleared : Sxfrctl0 → Sxfrctl0
scsien_cleared x = record { scsien = false; dmaen = x.dmaen; chen = x.chen; spioen = x.spioen }

-- the registers with another 340h, 341h and 343h
abbrev pub registers_with : Scsiseq → Sxfrctl0 → Scsisig → Registers → Registers
registers_with q x g r =
    record {
      scsiseq = q;
      sxfrctl0 = x;
      sxfrctl1 = r.sxfrctl1;
      scsisig = g;
      scsirate = r.scsirate;
      scsiid = r.scsiid;
      scsidat = r.scsidat;
      simode0 = r.simode0;
      simode1 = r.simode1;
      dmacntrl0 = r.dmacntrl0;
      dmacntrl1 = r.dmacntrl1;
      brstcntrl = r.brstcntrl;
    }

-- "offset ... 0; automatic ACK ... released": the data path after a bus reset and after bus free
abbrev pub offset_cleared : State → State
offset_cleared now = with_offset 0 (with_ack false now)

-- what a bus reset changes
unfoldable pub bus_reset : State → State
bus_reset now =
    let r = now.registers in
    let k = now.status in
    with_status
    (record {
      spiordy = k.spiordy;
      scsirsti = true;
      busfree = k.busfree;
      scsiperr = k.scsiperr;
      phasechg = k.phasechg;
      reqinit = k.reqinit;
      syncerr = k.syncerr;
      fwerr = k.fwerr;
    })
    (with_registers (registers_with (scsiseq_cleared r.scsiseq) (scsien_cleared r.sxfrctl0) (scsisig_of false 0) r)
    (offset_cleared now))

unfoldable pub after_rst_rises : State → State → State
after_rst_rises last now = cond (rst_rises last now) (bus_reset now) now

-- 3. "REQ rises and RST not seen"
unfoldable pub req_rises : State → State → Bool
req_rises last now = req_seen now && not (req_seen last) && not (rst_seen now)

-- "If connected, IO seen and ENSPCHK, and data with parity has an even number of ones"
unfoldable pub parity_bad : State → Bool
parity_bad now =
    connected now && io_seen now && now.registers.sxfrctl1.enspchk
    && parity_even now

-- R-2: "the parity at the last connected REQ rise with IO seen is kept", whether ENSPCHK is set or not
unfoldable pub kept_after : State → Bool
kept_after now = cond (connected now && io_seen now) (parity_even now) now.keptbad

-- R-2: the latch "sets again only at a new error while enabled, even with the status already 1"
unfoldable pub error_latched : State → Latches
error_latched now =
    let k = now.latches in
    record {
      spiordy = k.spiordy;
      scsirsti = k.scsirsti;
      busfree = k.busfree;
      scsiperr = (parity_bad now && now.registers.simode1.enscsiperr) || k.scsiperr;
      phasechg = k.phasechg;
      reqinit = k.reqinit;
    }

-- "and with ENAUTOATNP 343h bit 4"
unfoldable pub attention : State → Bool
attention now = parity_bad now && now.registers.scsiseq.enautoatnp

-- "If matched, path and synchronous": the REQ is one of a synchronous transfer
unfoldable pub synchronous_req : State → Bool
synchronous_req now =
    matched now && path now.registers && synchronous now

-- "with offset at or above the limit, or IO seen and the SCSI FIFO holding 8, code 6, nothing stored, offset as before"
unfoldable pub beyond_limit : State → Bool
beyond_limit now =
    leb (limit now.registers) now.transfer.offset
    || (io_seen now && leb 8 (length now.transfer.scsi))

-- "code 6": a REQ that rises is beyond the limit
unfoldable pub beyond : State → State → Bool
beyond last now = req_rises last now && synchronous_req now && beyond_limit now

-- "else ... offset goes up one": a synchronous REQ within the limit
unfoldable pub req_within : State → Bool
req_within now = synchronous_req now && not (beyond_limit now)

-- "else, inbound with offset 0 and the SCSI FIFO not empty sets SYNCERR"
unfoldable pub late_byte : State → Bool
late_byte now =
    io_seen now && eqb now.transfer.offset 0 && ltb 0 (length now.transfer.scsi)

-- "and an inbound byte is stored": that byte, the data seen, or none
unfoldable pub stored_byte : State → List ℕ
stored_byte now =
    cond (req_within now && io_seen now)
    (data_seen now ∷ []) []

-- "REQINIT. ... SCSIPERR, and with ENAUTOATNP 343h bit 4. ... SYNCERR, then offset goes up one and an inbound byte is stored."
unfoldable pub req_risen : State → State
req_risen now =
    let r = now.registers in
    let t = now.transfer in
    let k = now.status in
    with_status
    (record {
      spiordy = k.spiordy;
      scsirsti = k.scsirsti;
      busfree = k.busfree;
      scsiperr = parity_bad now || k.scsiperr;
      phasechg = k.phasechg;
      reqinit = true;
      syncerr = (req_within now && late_byte now) || k.syncerr;
      fwerr = k.fwerr;
    })
    (with_registers (registers_with r.scsiseq r.sxfrctl0 (with_atn (attention now || r.scsisig.atno) r.scsisig) r)
    (with_offset (cond (req_within now) (t.offset + 1) t.offset) (with_scsi (t.scsi ++ stored_byte now)
    (with_latches (error_latched now) (with_kept (kept_after now) now)))))

unfoldable pub after_req_rises : State → State → State
after_req_rises last now = cond (req_rises last now) (req_risen now) now

-- 4. "Quiet ticks: 0 if BSY or SEL is seen, else ticks add, stopping at 8."
unfoldable pub quiet_after : ℕ → State → ℕ
quiet_after ticks now =
    cond (bsy_seen now || sel_seen now) 0 (min 8 (now.quiet + ticks))

-- "On reaching 8"
unfoldable pub bus_free : ℕ → State → Bool
bus_free ticks now = leb 8 (quiet_after ticks now) && not (leb 8 now.quiet)

-- "BUSFREE; 343h and offset 0; automatic ACK released"; R-1: "bus free also clears SELDO, and SELDI where noted"
unfoldable pub bus_freed : State → State
bus_freed now =
    let r = now.registers in
    let k = now.status in
    with_status
    (record {
      spiordy = k.spiordy;
      scsirsti = k.scsirsti;
      busfree = true;
      scsiperr = k.scsiperr;
      phasechg = k.phasechg;
      reqinit = k.reqinit;
      syncerr = k.syncerr;
      fwerr = k.fwerr;
    })
    (with_registers (registers_with r.scsiseq r.sxfrctl0 (scsisig_of false 0) r)
    (with_sequencer (selection_freed now.sequencer) (offset_cleared now)))

unfoldable pub after_quiet_ticks : ℕ → State → State
after_quiet_ticks ticks now =
    let quiet = with_quiet (quiet_after ticks now) now in
    cond (bus_free ticks now) (bus_freed quiet) quiet

-- R-1: "Then, before PHASECHG, the sequencer"; "ENSELO becomes 0" and "343h bit 4 is set" by it
abbrev pub scsiseq_with : Bool → Scsiseq → Scsiseq
scsiseq_with enselo q =
    record {
      temodeo = q.temodeo;
      enselo = enselo;
      enseli = q.enseli;
      enrseli = q.enrseli;
      enautoatno = q.enautoatno;
      enautoatni = q.enautoatni;
      enautoatnp = q.enautoatnp;
      scsirsto = q.scsirsto;
    }

unfoldable pub after_sequencer : Bool → ℕ → State → State
after_sequencer tick before now =
    let r = now.registers in
    let x = sequenced tick before now in
    with_sequencer x.sequencer
    (with_registers (registers_with (scsiseq_with x.enselo r.scsiseq) r.sxfrctl0 (with_atn x.atno r.scsisig) r)
    (with_quiet x.quiet now))

-- 5. "PHASECHG is set when "connected and not matched" is true here and was false at the end of the last event."
unfoldable pub phase_changes : State → State → Bool
phase_changes last now = mismatched now && not (mismatched last)

unfoldable pub phase_changed : State → State
phase_changed now =
    let k = now.status in
    with_status
    (record {
      spiordy = k.spiordy;
      scsirsti = k.scsirsti;
      busfree = k.busfree;
      scsiperr = k.scsiperr;
      phasechg = true;
      reqinit = k.reqinit;
      syncerr = k.syncerr;
      fwerr = k.fwerr;
    })
    now

unfoldable pub after_phase_changes : State → State → State
after_phase_changes last now = cond (phase_changes last now) (phase_changed now) now

-- what stands before the sequencer: it "sees the phase as it was before" it
unfoldable pub first_four : State → ℕ → State → State
first_four last ticks now =
    after_quiet_ticks ticks (after_req_rises last (after_rst_rises last (after_req_falls last now)))

-- ALL OF B, IN THIS ORDER
unfoldable pub in_order : State → ℕ → State → State
in_order last ticks now =
    after_phase_changes last (after_sequencer (ltb 0 ticks) last.quiet (first_four last ticks now))

-- the state after B: s is the state at the end of the last event
unfoldable pub after_b : State → Event → State
after_b s e = in_order s (ticks_of e) (after_a s e)

-- what "REQ rises" is handed: in that state a REQ is beyond the limit or not
unfoldable pub at_req : State → Event → State
at_req s e = after_rst_rises s (after_req_falls s (after_a s e))
