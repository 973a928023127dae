-- Status, latches and the interrupt line.
use Rattle.std.specs.Prelude.{Bool, not, ◌&&◌, ◌||◌}
use Rattle.rules.specs.State.{State}
use Rattle.rules.specs.Seen.{mismatched}
use Rattle.rules.specs.declared.chip.Latches.{Latches}
use Rattle.rules.specs.declared.chip.Selection.{Selection}

-- "PHASEMIS is live: connected, not matched, REQINIT."
unfoldable pub phasemis : State → Bool
phasemis s = mismatched s && s.status.reqinit

-- what a latch looks at: the latch as A leaves it, its enable after A and at the end of the last event, its status after A, and
-- what its status rose to in the event
pub record Latching : Type 0 where
  pub kept : Bool
  pub enable : Bool
  pub enabled_before : Bool
  pub status : Bool
  pub raised : Bool

-- "A latch sets when its status rises, even if it falls again in the event, while enabled, or when the enable rises while
-- status is 1. Masking later does not clear it."
abbrev pub latched : Latching → Bool
latched x =
    x.kept || (x.enable && ((x.raised && not x.status) || (x.status && not x.enabled_before)))

abbrev pub any_latch : Latches → Bool
any_latch k = k.spiordy || k.scsirsti || k.busfree || k.scsiperr || k.phasechg || k.reqinit

-- R-1: those of SELDO, SELDI, SELINGO and SELTO
abbrev pub any_selection : Selection → Bool
any_selection k = k.seldo || k.seldi || k.selingo || k.selto

-- "PHASEMIS has no latch: it counts while enabled. INSTAT is any latch, enabled PHASEMIS, or SWINT."
unfoldable pub instat : State → Bool
instat s =
    (any_latch s.latches || any_selection s.sequencer.latches) || (phasemis s && s.registers.simode1.enphasemis) || s.registers.dmacntrl0.swint

-- "IRQ is INSTAT and INTEN."
unfoldable pub irq : State → Bool
irq s = instat s && s.registers.dmacntrl0.inten
