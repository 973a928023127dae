-- An event that clears nothing, and finds nothing to hold at 0.
use mathlib.Core.Path.{◌≡◌, refl}
use mathlib.Core.Bool.{Bool, true, false, not, ◌&&◌, ◌||◌, false≢true}
use Rattle.rules.specs.Events.{writes}
use Rattle.rules.specs.StepA.{error_a, status_a, clears, clears_error}
use Rattle.rules.specs.declared.chip.Status.{Status}
use Rattle.rules.specs.declared.records.Event.TheVariants.{WordRead}

-- 346h is not accessed, no ACK is given, and SCSIPERR is not to fall
record Idle (accessed acked enspchk scsiperr : Bool) : Type 0 where
  pub unaccessed : accessed ≡ false
  pub unacked : acked ≡ false
  pub held : scsiperr ≡ enspchk && scsiperr

idle : (a k p s : Bool) → (not a && not k) && (p || not s) ≡ true → Idle a k p s
idle true k p s h = absurd (false≢true h)
idle false true p s h = absurd (false≢true h)
idle false false true s h = record { unaccessed = refl; unacked = refl; held = refl }
idle false false false true h = absurd (false≢true h)
idle false false false false h = record { unaccessed = refl; unacked = refl; held = refl }

held_idle : (accessed acked enspchk kept : Bool) (t : Status) → (not accessed && not acked) && (enspchk || not t.scsiperr) ≡ true → t ≡ status_a accessed acked enspchk kept t WordRead
unfolding error_a status_a clears clears_error writes
held_idle accessed acked enspchk kept t h =
    let i = idle accessed acked enspchk t.scsiperr h in
    rw (i.unaccessed, i.unacked, ← i.held)

-- by the bits that the code read
pub status_idle : (accessed acked kept : Bool) {p q enspchk : Bool} {t : Status} → p ≡ enspchk → q ≡ t.scsiperr → (not accessed && not acked) && (p || not q) ≡ true → t ≡ status_a accessed acked enspchk kept t WordRead
status_idle accessed acked kept {p} {q} {enspchk} {t} e f h = held_idle accessed acked enspchk kept t (rw (← e, ← f) h)

-- the kept parity is asked where 34Ch is written
pub kept_unasked : (accessed acked enspchk kept : Bool) (t : Status) → status_a accessed acked enspchk kept t WordRead ≡ status_a accessed acked enspchk false t WordRead
unfolding error_a status_a clears writes
kept_unasked accessed acked enspchk kept t = refl
