-- What B changes by its edges, component by component.
use Rattle.std.specs.Prelude.{ℕ, ◌+◌, Bool, false, not, ◌&&◌, ◌||◌, cond, [], ◌∷◌, ◌++◌}
use Rattle.rules.specs.State.{State}
use Rattle.rules.specs.Seen.{bsy_seen, sel_seen}
use Rattle.rules.specs.Changed.{with_registers, with_scsi, with_offset, with_ack}
use Rattle.rules.specs.declared.registers.Scsiseq.{Scsiseq}
use Rattle.rules.specs.declared.registers.Sxfrctl0.{Sxfrctl0}
use Rattle.rules.specs.declared.registers.Scsisig.{Scsisig}
use Rattle.rules.specs.declared.registers.Registers.{Registers}
use Rattle.rules.specs.declared.chip.Status.{Status}
use Rattle.edges.specs.declared.edges.Edges.{Edges}

-- "340h bits 7-1 ... become 0"
abbrev pub scsiseq_b : Bool → Scsiseq → Scsiseq
scsiseq_b reset q =
    record {
      temodeo = not reset && q.temodeo;
      enselo = not reset && q.enselo;
      enseli = not reset && q.enseli;
      enrseli = not reset && q.enrseli;
      enautoatno = not reset && q.enautoatno;
      enautoatni = not reset && q.enautoatni;
      enautoatnp = not reset && q.enautoatnp;
      scsirsto = q.scsirsto;
    }

-- "SCSIEN become[s] 0"
abbrev pub sxfrctl0_b : Bool → Sxfrctl0 → Sxfrctl0
sxfrctl0_b reset x = record { scsien = not reset && x.scsien; dmaen = x.dmaen; chen = x.chen; spioen = x.spioen }

-- "343h ... become[s] 0"; a parity error "with ENAUTOATNP 343h bit 4"
abbrev pub scsisig_b : Bool → Bool → Scsisig → Scsisig
scsisig_b zeroed attention g =
    record {
      cdexp = not zeroed && g.cdexp;
      ioexp = not zeroed && g.ioexp;
      msgexp = not zeroed && g.msgexp;
      atno = not zeroed && (attention || g.atno);
      selo = not zeroed && g.selo;
      bsyo = not zeroed && g.bsyo;
      reqo = not zeroed && g.reqo;
      acko = not zeroed && g.acko;
    }

-- the registers after a bus reset, a parity error and bus free
unfoldable pub registers_b : Bool → Bool → Bool → Registers → Registers
registers_b reset bad free r =
    record {
      scsiseq = scsiseq_b reset r.scsiseq;
      sxfrctl0 = sxfrctl0_b reset r.sxfrctl0;
      sxfrctl1 = r.sxfrctl1;
      scsisig = scsisig_b (reset || free) (bad && r.scsiseq.enautoatnp) r.scsisig;
      scsirate = r.scsirate;
      scsiid = r.scsiid;
      scsidat = r.scsidat;
      simode0 = r.simode0;
      simode1 = r.simode1;
      dmacntrl0 = r.dmacntrl0;
      dmacntrl1 = r.dmacntrl1;
      brstcntrl = r.brstcntrl;
    }

-- the state with the registers that a bus reset leaves, and whether BSY or SEL is seen then
abbrev pub reset_b : Bool → State → State
reset_b reset s = with_registers (registers_b reset false false s.registers) s

abbrev pub busy_b : Bool → State → Bool
busy_b reset s = bsy_seen (reset_b reset s) || sel_seen (reset_b reset s)

-- "an inbound byte is stored"
abbrev pub stored_b : Bool → ℕ → State → State
stored_b stored byte s = with_scsi (cond stored (s.transfer.scsi ++ (byte ∷ [])) s.transfer.scsi) s

-- "offset goes up one"; "automatic ACK is released"
abbrev pub offset_b : Bool → Bool → Bool → State → State
offset_b zeroed within released s =
    with_ack (not released && s.transfer.ack)
    (with_offset (cond zeroed 0 (cond within (s.transfer.offset + 1) s.transfer.offset)) s)

-- "offset goes up one and an inbound byte is stored"; "automatic ACK is released"; "FIFOs and counter stay."
unfoldable pub transfer_b : Edges → ℕ → State → State
transfer_b g byte s =
    offset_b (g.rstrises || g.free) g.within (g.reqfalls || g.rstrises || g.free) (stored_b g.stored byte s)

-- the status, where the phase changed or not
unfoldable pub status_b : Edges → Bool → Status → Status
status_b g changed t =
    record {
      spiordy = t.spiordy;
      scsirsti = g.rstrises || t.scsirsti;
      busfree = g.free || t.busfree;
      scsiperr = g.paritybad || t.scsiperr;
      phasechg = changed || t.phasechg;
      reqinit = g.reqrises || t.reqinit;
      syncerr = g.late || t.syncerr;
      fwerr = t.fwerr;
    }
