-- "A. The event's own effect.", component by component.
use Rattle.std.specs.Prelude.{ℕ, ◌+◌, ◌%◌, Bool, not, ◌&&◌, ◌||◌, cond, List, [], ◌++◌, leb, drop}
use Rattle.rules.specs.Numbers.{bit}
use Rattle.rules.specs.Registers.{scsiseq_of, sxfrctl0_of, sxfrctl1_of, scsisig_of, scsirate_of, scsiid_of, simode0_of, simode1_of, dmacntrl0_of, dmacntrl1_of}
use Rattle.rules.specs.State.{State, Transfer}
use Rattle.rules.specs.Seen.{io_seen, req_seen, automatic, matched, is_phase}
use Rattle.rules.specs.Events.{writes, reads, value_of, lines_after, offered, asked, port_write}
use Rattle.rules.specs.Counter.{counter_step, counter_with}
use Rattle.rules.specs.Sequencer.{selection_asked, selection_with, latch_enabled}
use Rattle.rules.specs.Stack.{stack_read, stack_written, pointed}
use Rattle.rules.specs.declared.registers.Scsisig.{Scsisig}
use Rattle.rules.specs.declared.registers.Registers.{Registers}
use Rattle.rules.specs.declared.chip.Status.{Status}
use Rattle.rules.specs.declared.chip.Latches.{Latches}
use Rattle.rules.specs.declared.chip.Stack.{Stack}
use Rattle.rules.specs.declared.chip.Phase.TheVariants.{Idle, Selecting, Holding}
use Rattle.rules.specs.declared.chip.Selection.{Selection}
use Rattle.rules.specs.declared.chip.Sequencer.{Sequencer}
use Rattle.rules.specs.declared.map.Register.TheVariants.{SCSISEQ, SXFRCTL0, SXFRCTL1, SCSISIGO, SCSIRATE, SCSIID, SCSIDAT, STCNT0, STCNT1, STCNT2, CLRSINT0, CLRSINT1, CLRSERR, SIMODE0, SIMODE1, DMACNTRL0, DMACNTRL1, BRSTCNTRL, STACK, ID}
use Rattle.rules.specs.declared.counts.Direction.TheVariants.{Up}
use Rattle.rules.specs.declared.records.Event.{Event}

-- "A write to 34Ch clears the named status bits and latches; bit 6 clears ATN."
unfoldable pub clears : Event → ℕ → Bool
clears e k = writes e CLRSINT1 && bit (value_of e) k

-- "A write to 34Bh clears latches only"
unfoldable pub clears_latch : Event → ℕ → Bool
clears_latch e k = writes e CLRSINT0 && bit (value_of e) k

-- "34Fh clears errors."
unfoldable pub clears_error : Event → ℕ → Bool
clears_error e k = writes e CLRSERR && bit (value_of e) k

-- "CLRSTCNT zeroes the counter; CLRCH empties the SCSI FIFO and zeroes the offset; RSTFIFO empties the host FIFO."
unfoldable pub clrstcnt : Event → Bool
clrstcnt e = writes e SXFRCTL0 && bit (value_of e) 4

unfoldable pub clrch : Event → Bool
clrch e = writes e SXFRCTL0 && bit (value_of e) 1

unfoldable pub rstfifo : Event → Bool
rstfifo e = writes e DMACNTRL0 && bit (value_of e) 1

-- "An access to 346h (a write with IO not seen, a read with IO seen) with SPIORDY"
unfoldable pub latch_access : State → Event → Bool
latch_access s e =
    ((writes e SCSIDAT && not (io_seen s)) || (reads e SCSIDAT && io_seen s))
    && s.status.spiordy

-- "clears it and, if Automatic, matched and REQ is seen, turns automatic ACK on, adds one to the counter and clears REQINIT"
unfoldable pub automatic_ack : State → Event → Bool
automatic_ack s e =
    latch_access s e && automatic s.registers && matched s && req_seen s

-- 343h with another ATN
abbrev pub with_atn : Bool → Scsisig → Scsisig
with_atn atn g =
    record {
      cdexp = g.cdexp;
      ioexp = g.ioexp;
      msgexp = g.msgexp;
      atno = atn;
      selo = g.selo;
      bsyo = g.bsyo;
      reqo = g.reqo;
      acko = g.acko;
    }

-- what is written is stored; "A write to 346h fills the latch."; "358h is stored."
unfoldable pub registers_a : Registers → Event → Registers
registers_a r e =
    let v = value_of e in
    record {
      scsiseq = cond (writes e SCSISEQ) (scsiseq_of v) r.scsiseq;
      sxfrctl0 = cond (writes e SXFRCTL0) (sxfrctl0_of v) r.sxfrctl0;
      sxfrctl1 = cond (writes e SXFRCTL1) (sxfrctl1_of v) r.sxfrctl1;
      scsisig =
          cond (writes e SCSISIGO) (scsisig_of r.scsisig.atno v)
          (with_atn (not (clears e 6) && r.scsisig.atno) r.scsisig);
      scsirate = cond (writes e SCSIRATE) (scsirate_of v) r.scsirate;
      scsiid = cond (writes e SCSIID) (scsiid_of v) r.scsiid;
      scsidat = cond (writes e SCSIDAT) v r.scsidat;
      simode0 = cond (writes e SIMODE0) (simode0_of v) r.simode0;
      simode1 = cond (writes e SIMODE1) (simode1_of v) r.simode1;
      dmacntrl0 = cond (writes e DMACNTRL0) (dmacntrl0_of v) r.dmacntrl0;
      dmacntrl1 = cond (writes e DMACNTRL1) (dmacntrl1_of v) r.dmacntrl1;
      brstcntrl = cond (writes e BRSTCNTRL) v r.brstcntrl;
    }

-- the host FIFO: emptied, or a port write's bytes behind, or a port read's bytes off the front
unfoldable pub host_a : Event → List ℕ → List ℕ
host_a e host = cond (rstfifo e) [] (cond (port_write e) (host ++ offered e) (drop (asked e) host))

-- the counter: zeroed, written, or one more by an Automatic ACK
unfoldable pub counter_a : Bool → Event → ℕ → ℕ
counter_a acked e n =
    cond (clrstcnt e) 0
    (cond (writes e STCNT0) (counter_with 0 (value_of e) n)
    (cond (writes e STCNT1) (counter_with 1 (value_of e) n)
    (cond (writes e STCNT2) (counter_with 2 (value_of e) n) (cond acked (counter_step Up n).value n))))

unfoldable pub transfer_a : Bool → Transfer → Event → Transfer
transfer_a acked t e =
    record {
      host = host_a e t.host;
      scsi = cond (clrch e) [] t.scsi;
      counter = counter_a acked e t.counter;
      offset = cond (clrch e) 0 t.offset;
      ack = acked || t.ack;
      last = t.last;
    }

-- R-2: "a clear with ENSPCHK set copies [the kept parity] to the status"; else as it was. "While ENSPCHK is 0, SCSIPERR is held at
-- 0 and does not come back; its latch stays."
unfoldable pub error_a : Bool → Bool → Bool → Event → Bool
error_a enspchk kept error e = enspchk && cond (clears e 2) kept error

unfoldable pub status_a : Bool → Bool → Bool → Bool → Status → Event → Status
status_a accessed acked enspchk kept t e =
    record {
      spiordy = not accessed && t.spiordy;
      scsirsti = not (clears e 5) && t.scsirsti;
      busfree = not (clears e 3) && t.busfree;
      scsiperr = error_a enspchk kept t.scsiperr e;
      phasechg = not (clears e 1) && t.phasechg;
      reqinit = not (clears e 0) && not acked && t.reqinit;
      syncerr = not (clears_error e 2) && t.syncerr;
      fwerr = not (clears_error e 1) && t.fwerr;
    }

unfoldable pub latches_a : Latches → Event → Latches
latches_a k e =
    record {
      spiordy = not (clears_latch e 1) && k.spiordy;
      scsirsti = not (clears e 5) && k.scsirsti;
      busfree = not (clears e 3) && k.busfree;
      scsiperr = not (clears e 2) && k.scsiperr;
      phasechg = not (clears e 1) && k.phasechg;
      reqinit = not (clears e 0) && k.reqinit;
    }

unfoldable pub stack_a : Bool → Stack → Event → Stack
stack_a enstk32 k e =
    cond (writes e STACK) (stack_written enstk32 (value_of e) k)
    (cond (reads e STACK) (stack_read enstk32 k) (cond (writes e DMACNTRL1) (pointed (value_of e) k) k))

unfoldable pub identity_a : ℕ → Event → ℕ
identity_a n e = cond (reads e ID) ((n + 1) % 32) n

-- R-1: "a write to 340h that leaves it not asked, while holding, or while selecting with ENSTIMER 0, makes the sequencer idle, and
-- SELINGO 0 if it was selecting: the processor gives up"; r are the registers after A
unfoldable pub gives_up : Registers → Sequencer → Event → Bool
gives_up r q e =
    writes e SCSISEQ && not (selection_asked r)
    && (is_phase Holding q.phase || (is_phase Selecting q.phase && not r.sxfrctl1.enstimer))

-- "A write of 34Bh bit 5 while SELDI is 1 and the quiet ticks stand at 8 clears SELDI at once; else it notes." "34Ch bit 7 clears
-- SELTO, status and latch."
unfoldable pub selection_a : Registers → ℕ → Sequencer → Event → Selection
selection_a r quiet q e =
    let t = q.status in
    selection_with t.seldo (not (clears_latch e 5 && leb 8 quiet) && t.seldi)
    (not (gives_up r q e && is_phase Selecting q.phase) && t.selingo) (not (clears e 7) && t.selto)

-- "Noted is 0 whenever SELDI is 0."
unfoldable pub noted_a : ℕ → Sequencer → Event → Bool
noted_a quiet q e = cond (clears_latch e 5) (not (leb 8 quiet) && q.status.seldi) q.noted

-- "34Bh bits 6, 5, 4 clear the latches only"; a latch sets "when the enable rises while status is 1": a write of 350h or 351h
unfoldable pub selection_latches_a : Registers → Registers → Selection → Selection → Event → Selection
selection_latches_a before r t k e =
    selection_with
    (cond (writes e SIMODE0) (latch_enabled before.simode0.enseldo r.simode0.enseldo t.seldo k.seldo)
    (not (clears_latch e 6) && k.seldo))
    (cond (writes e SIMODE0) (latch_enabled before.simode0.enseldi r.simode0.enseldi t.seldi k.seldi)
    (not (clears_latch e 5) && k.seldi))
    (cond (writes e SIMODE0) (latch_enabled before.simode0.enselingo r.simode0.enselingo t.selingo k.selingo)
    (not (clears_latch e 4) && k.selingo))
    (cond (writes e SIMODE1) (latch_enabled before.simode1.enseltimo r.simode1.enseltimo t.selto k.selto)
    (not (clears e 7) && k.selto))

-- before are the registers at the end of the last event
unfoldable pub sequencer_a : Registers → ℕ → Sequencer → Event → Sequencer
sequencer_a before quiet q e =
    let r = registers_a before e in
    record {
      phase = cond (gives_up r q e) Idle q.phase;
      ticks = cond (gives_up r q e) 0 q.ticks;
      noted = noted_a quiet q e;
      selid = q.selid;
      status = selection_a r quiet q e;
      latches = selection_latches_a before r (selection_a r quiet q e) q.latches e;
    }

-- the state after A
unfoldable pub after_a : State → Event → State
after_a s e =
    record {
      lines = lines_after e s.lines;
      registers = registers_a s.registers e;
      transfer = transfer_a (automatic_ack s e) s.transfer e;
      status = status_a (latch_access s e) (automatic_ack s e) (registers_a s.registers e).sxfrctl1.enspchk s.keptbad s.status e;
      latches = latches_a s.latches e;
      stack = stack_a s.registers.dmacntrl1.enstk32 s.stack e;
      keptbad = s.keptbad;
      quiet = s.quiet;
      identity = identity_a s.identity e;
      sequencer = sequencer_a s.registers s.quiet s.sequencer e;
    }
