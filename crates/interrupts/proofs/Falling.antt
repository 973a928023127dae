-- REQINIT falls, or the status stays.
use Prim.Native.Nat.{ℕ}
use mathlib.Core.Path.{◌≡◌, refl}
use mathlib.Core.Bool.{Bool, true, false, not, ◌&&◌, false≢true}
use native.Mathlib.Omega.{arith}
use lib.Dec.{eqb, ltb}
use Rattle.rules.specs.StepD.{status_d}
use Rattle.rules.specs.declared.chip.Status.{Status}

none : (n : ℕ) → eqb n 0 ≡ not (ltb 0 n)
none n = grind arith

-- no ACK, or REQINIT is not set, by the bits that the code read
pub no_ack : (acks : ℕ) (t : Status) {k seen : Bool} → k ≡ seen → eqb acks 0 && not k ≡ true → t ≡ status_d acks seen t
unfolding status_d
no_ack acks t e h = rw (← none acks, ← e, h)

unset : (b c : Bool) → not c ≡ true → c ≡ b && c
unset b true h = absurd (false≢true h)
unset true false h = refl
unset false false h = refl

pub no_request : (acks : ℕ) (seen : Bool) {t : Status} {q : Bool} → q ≡ t.reqinit → not q ≡ true → t ≡ status_d acks seen t
unfolding status_d
no_request acks seen {t} e h = rw (← unset (not (ltb 0 acks) && not seen) t.reqinit (rw (← e) h))

abbrev pub without_reqinit : Status → Status
without_reqinit t =
    record {
      spiordy = t.spiordy;
      scsirsti = t.scsirsti;
      busfree = t.busfree;
      scsiperr = t.scsiperr;
      phasechg = t.phasechg;
      reqinit = false;
      syncerr = t.syncerr;
      fwerr = t.fwerr;
    }

pub falls : (acks : ℕ) (t : Status) {k seen : Bool} → k ≡ seen → eqb acks 0 && not k ≡ false → without_reqinit t ≡ status_d acks seen t
unfolding status_d
falls acks t e h = rw (← none acks, ← e, h)
