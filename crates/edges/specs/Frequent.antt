-- What B changes while RST does not rise, no parity error comes and the bus does not become free, part by part.
use Rattle.std.specs.Prelude.{Bool, false, not, ◌&&◌, ◌||◌}
use Rattle.rules.specs.State.{State}
use Rattle.rules.specs.Seen.{io_seen, req_seen, matched, mismatched, path, synchronous}
use Rattle.rules.specs.StepB.{beyond_limit, late_byte}
use Rattle.rules.specs.declared.chip.Status.{Status}
use Rattle.rules.specs.Changed.{with_status}
use Rattle.edges.specs.From.{req_rises_from, synchronous_req_from}
use Rattle.edges.specs.Components.{stored_b, offset_b}

-- PHASECHG, REQINIT and SYNCERR set
abbrev pub raised_b : Bool → Bool → Bool → Status → Status
raised_b phase req late t =
    record {
      spiordy = t.spiordy;
      scsirsti = t.scsirsti;
      busfree = t.busfree;
      scsiperr = t.scsiperr;
      phasechg = phase || t.phasechg;
      reqinit = req || t.reqinit;
      syncerr = late || t.syncerr;
      fwerr = t.fwerr;
    }

-- "PHASECHG is set when "connected and not matched" is true here and was false"
abbrev pub phase_b : Bool → State → State
phase_b was s = with_status (raised_b (mismatched s && not was) false false s.status) s

-- "inbound with offset 0 and the SCSI FIFO not empty sets SYNCERR"; "an inbound byte is stored"
abbrev pub inbound_b : Bool → State → State
inbound_b within s =
    with_status (raised_b false false (within && late_byte s) s.status) (stored_b (within && io_seen s) s.lines.byte s)

-- "If matched, path and synchronous"
abbrev pub call_b : State → Bool
call_b s = matched s && path s.registers && synchronous s

-- a synchronous REQ: beyond the limit nothing changes
abbrev pub risen_b : Bool → State → State
risen_b call s =
    offset_b false (call && not (beyond_limit s)) false (inbound_b (call && not (beyond_limit s)) s)

-- "REQ falls: automatic ACK is released"; "REQ rises and RST not seen: REQINIT is set"
abbrev pub released_b : Bool → State → State
released_b falls s = offset_b false false falls s

abbrev pub init_b : Bool → State → State
init_b rises s = with_status (raised_b false rises false s.status) s

unfoldable pub req_b : Bool → State → State
req_b was s = risen_b (synchronous_req_from was s) (init_b (req_rises_from was s) (released_b (was && not (req_seen s)) s))
