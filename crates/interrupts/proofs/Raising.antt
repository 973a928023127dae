-- SPIORDY and FWERR rise, or the status stays.
use Prim.Native.Nat.{ℕ}
use mathlib.Core.Path.{◌≡◌, refl, sym}
use mathlib.Core.Bool.{Bool, true, false, not, ◌&&◌, ◌||◌, false≢true}
use mathlib.Core.List.{List}
use lib.ListN.{get_or}
use Rattle.rules.specs.State.{State}
use Rattle.rules.specs.Seen.{automatic, normal, matched, req_seen, path}
use Rattle.rules.specs.StepD.{fifo_conflict, pio_ready, status_raised}
use Rattle.rules.specs.declared.chip.Status.{Status}
use Rattle.rules.specs.declared.registers.Registers.{Registers}
use Rattle.rules.proofs.Logic.{left_true}
use Rattle.image.specs.Image.{state_at, registers_at, status_of}
use Rattle.image.specs.Layout.{status_place}

abbrev pub raised_by : Bool → Bool → Status → Status
raised_by ready conflict t =
    record {
      spiordy = ready || t.spiordy;
      scsirsti = t.scsirsti;
      busfree = t.busfree;
      scsiperr = t.scsiperr;
      phasechg = t.phasechg;
      reqinit = t.reqinit;
      syncerr = t.syncerr;
      fwerr = conflict || t.fwerr;
    }

-- SPIORDY rises in Automatic mode, FWERR in Normal mode
apart : (spio dma x y : Bool) → (spio && not dma) ≡ true → (not spio && dma && x && y) ≡ false
apart true dma x y h = refl
apart false dma x y h = absurd (false≢true h)

automatic_apart : (r : Registers) → automatic r ≡ true → fifo_conflict r ≡ false
unfolding fifo_conflict automatic normal
automatic_apart r h = apart r.sxfrctl0.spioen r.sxfrctl0.dmaen r.sxfrctl0.scsien (not (path r)) h

pub no_conflict : (s : State) → pio_ready s ≡ true → fifo_conflict s.registers ≡ false
unfolding pio_ready
no_conflict s h =
    let a = automatic s.registers in
    let k = matched s in
    let q = req_seen s in
    automatic_apart s.registers (left_true a k (left_true (a && k) q (left_true (a && k && q) (not s.transfer.ack) h)))

-- what is set stays, whatever rises
set_stays : (a b : Bool) → b ≡ true → b ≡ (a || b)
set_stays true b h = h
set_stays false b h = refl

-- where SPIORDY is set in Automatic mode
pub raised_before : (s : State) → s.status.spiordy ≡ true → automatic s.registers ≡ true → s.status ≡ status_raised s
unfolding status_raised
raised_before s e f =
    let t = s.status in
    λ i.
    record {
      spiordy = set_stays (pio_ready s) t.spiordy e i;
      scsirsti = t.scsirsti;
      busfree = t.busfree;
      scsiperr = t.scsiperr;
      phasechg = t.phasechg;
      reqinit = t.reqinit;
      syncerr = t.syncerr;
      fwerr = sym (automatic_apart s.registers f) i || t.fwerr;
    }

pub raised_at : (m : List ℕ) {ready conflict : Bool} {t : Status} → ready ≡ pio_ready (state_at m) → conflict ≡ fifo_conflict (registers_at m) → t ≡ status_of (get_or m status_place 0) → raised_by ready conflict t ≡ status_raised (state_at m)
unfolding status_raised state_at
raised_at m e f g = rw (e, f, g)
