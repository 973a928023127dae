-- R-2 at a REQ that rises, before the rest of B, which looks at neither: the parity that is kept, and the latch of a new error.
use Rattle.std.specs.Prelude.{Bool, ◌||◌, cond}
use Rattle.rules.specs.State.{State}
use Rattle.rules.specs.Changed.{with_latches, with_kept}
use Rattle.rules.specs.StepB.{kept_after, error_latched}
use Rattle.rules.specs.declared.chip.Latches.{Latches}
use Rattle.edges.specs.From.{req_rises_from}

-- the latch of SCSIPERR set, or as it was
abbrev pub error_or : Bool → Latches → Latches
error_or error k =
    record {
      spiordy = k.spiordy;
      scsirsti = k.scsirsti;
      busfree = k.busfree;
      scsiperr = error || k.scsiperr;
      phasechg = k.phasechg;
      reqinit = k.reqinit;
    }

abbrev pub kept_of : State → State
kept_of now = with_latches (error_latched now) (with_kept (kept_after now) now)

unfoldable pub kept_from : Bool → State → State
kept_from req now = cond (req_rises_from req now) (kept_of now) now
