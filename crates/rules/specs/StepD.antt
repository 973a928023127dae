-- D, what follows settling; then the latches.
use Rattle.std.specs.Prelude.{ℕ, Bool, not, ◌&&◌, ◌||◌, ltb}
use Rattle.rules.specs.State.{State}
use Rattle.rules.specs.Changed.{with_transfer, with_status, with_latches}
use Rattle.rules.specs.Seen.{req_seen, ack_seen, automatic, normal, matched, path}
use Rattle.rules.specs.Interrupts.{latched}
use Rattle.rules.specs.StepA.{after_a}
use Rattle.rules.specs.StepB.{after_b}
use Rattle.rules.specs.StepC.{Settling, settled_c}
use Rattle.rules.specs.declared.registers.Registers.{Registers}
use Rattle.rules.specs.declared.records.Event.{Event}
use Rattle.rules.specs.declared.chip.Status.{Status}
use Rattle.rules.specs.declared.chip.Latches.{Latches}

-- "Normal mode with DMAEN, SCSIEN and no path sets FWERR."
unfoldable pub fifo_conflict : Registers → Bool
fifo_conflict r = normal r && r.sxfrctl0.scsien && not (path r)

-- "Automatic mode, matched, REQ seen, automatic ACK off sets SPIORDY."
unfoldable pub pio_ready : State → Bool
pio_ready s = automatic s.registers && matched s && req_seen s && not s.transfer.ack

-- what each status rose to in the event, even if it falls again: REQINIT as after B; s has the data path that settling left
unfoldable pub status_raised : State → Status
status_raised s =
    record {
      spiordy = pio_ready s || s.status.spiordy;
      scsirsti = s.status.scsirsti;
      busfree = s.status.busfree;
      scsiperr = s.status.scsiperr;
      phasechg = s.status.phasechg;
      reqinit = s.status.reqinit;
      syncerr = s.status.syncerr;
      fwerr = fifo_conflict s.registers || s.status.fwerr;
    }

-- "Each ACK ... clears REQINIT." "REQINIT also falls when ACK is seen."
unfoldable pub status_d : ℕ → Bool → Status → Status
status_d acks seen t =
    record {
      spiordy = t.spiordy;
      scsirsti = t.scsirsti;
      busfree = t.busfree;
      scsiperr = t.scsiperr;
      phasechg = t.phasechg;
      reqinit = not (ltb 0 acks) && not seen && t.reqinit;
      syncerr = t.syncerr;
      fwerr = t.fwerr;
    }

-- the latches, from those after A: enables after A (r) and before (before), statuses after A (status) and raised
unfoldable pub latches_d : Registers → Registers → Status → Status → Latches → Latches
latches_d before r status raised k =
    record {
      spiordy =
          latched
          (record {
            kept = k.spiordy;
            enable = r.simode0.enspiordy;
            enabled_before = before.simode0.enspiordy;
            status = status.spiordy;
            raised = raised.spiordy;
          });
      scsirsti =
          latched
          (record {
            kept = k.scsirsti;
            enable = r.simode1.enscsirst;
            enabled_before = before.simode1.enscsirst;
            status = status.scsirsti;
            raised = raised.scsirsti;
          });
      busfree =
          latched
          (record {
            kept = k.busfree;
            enable = r.simode1.enbusfree;
            enabled_before = before.simode1.enbusfree;
            status = status.busfree;
            raised = raised.busfree;
          });
      scsiperr =
          latched
          (record {
            kept = k.scsiperr;
            enable = r.simode1.enscsiperr;
            enabled_before = before.simode1.enscsiperr;
            status = status.scsiperr;
            raised = raised.scsiperr;
          });
      phasechg =
          latched
          (record {
            kept = k.phasechg;
            enable = r.simode1.enphasechg;
            enabled_before = before.simode1.enphasechg;
            status = status.phasechg;
            raised = raised.phasechg;
          });
      reqinit =
          latched
          (record {
            kept = k.reqinit;
            enable = r.simode1.enreqinit;
            enabled_before = before.simode1.enreqinit;
            status = status.reqinit;
            raised = raised.reqinit;
          });
    }

-- the state after D: last is the state at the end of the last event, a after A, b after B, c what settling left
unfoldable pub finished : State → State → State → Settling → State
finished last a b c =
    let s = with_transfer c.transfer b in
    let raised = status_raised s in
    with_status (status_d c.acks (ack_seen s) raised)
    (with_latches (latches_d last.registers b.registers a.status raised b.latches) s)

unfoldable pub after_d : State → Event → State
after_d s e = finished s (after_a s e) (after_b s e) (settled_c s e)
