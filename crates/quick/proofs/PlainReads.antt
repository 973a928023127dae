-- A read without an effect changes nothing: it is an event of 0 ticks and a value.
use mathlib.Core.Path.{◌≡◌, refl, ◌∙◌, ap}
use mathlib.Core.Bool.{false, ◌&&◌}
use Prim.Native.Nat.{ℕ, ◌≤◌}
use lib.Dec.{eqb}
use lib.ListN.{length}
use Rattle.rules.specs.Rest.{AtRest}
use Rattle.rules.specs.State.{State}
use Rattle.rules.specs.Seen.{io_seen}
use Rattle.rules.specs.Map.{offset_of, read_at}
use Rattle.rules.specs.Events.{writes, reads, ticks_of}
use Rattle.rules.specs.Reads.{value_read, read_of}
use Rattle.rules.specs.Codes.{absent}
use Rattle.rules.specs.StepA.{latch_access, automatic_ack, after_a}
use Rattle.rules.specs.Step.{ended, access, done}
use Rattle.rules.specs.Ranges.{InRange}
use Rattle.rules.specs.declared.map.Register.TheVariants.{SCSIDAT, DMADATA, STACK, ID, SSTAT1, FIFOSTAT}
use Rattle.rules.specs.declared.codes.Code.TheVariants.{Done}
use Rattle.rules.specs.declared.records.Event.{Event}
use Rattle.rules.specs.declared.records.Event.TheVariants.{Read, Ticks}
use Rattle.rules.proofs.Still.{after_a_still, falls_still}
use Rattle.quick.proofs.Opened.{own_effect}
use Rattle.quick.proofs.Stands.{rest_stands, acked_still, stands}
use Rattle.quick.proofs.PlainWrites.{read_done}

-- AN EVENT WHOSE A IS THAT OF 0 TICKS leaves all as it was
pub none_done : (s : State) (e : Event) → AtRest s → s.quiet ≤ 8 → ticks_of e ≡ 0 → after_a s e ≡ after_a s (Ticks 0)
    → done s e ≡ ended s Done (value_read s e)
none_done s e r q t a =
    stands s e s s t (a ∙ after_a_still s 0 r) (falls_still s) refl (rest_stands s r q)
    ∙ ap (λ (x : State). ended x Done (value_read s e)) (acked_still s r.reqinit)

-- a read of a register that is there, and that neither the port, nor the stack, nor the ID string, nor the latch of 346h takes note of
pub record Plain (s : State) (offset : ℕ) : Type 0 where
  pub present : absent (Read offset) ≡ false
  pub port : eqb offset (offset_of DMADATA) ≡ false
  pub stack : eqb offset (offset_of STACK) ≡ false
  pub identity : eqb offset (offset_of ID) ≡ false
  pub latch : latch_access s (Read offset) ≡ false

module _ (s : State) (offset : ℕ) (p : Plain s offset) where
  tick_latch : latch_access s (Ticks 0) ≡ false
  unfolding latch_access writes reads
  tick_latch = refl

  read_a : after_a s (Read offset) ≡ after_a s (Ticks 0)
  unfolding own_effect automatic_ack
  read_a = rw (p.latch, tick_latch, p.port, p.stack, p.identity)

  -- A READ WITHOUT AN EFFECT
  pub read_stands : AtRest s → InRange s → access s (Read offset) ≡ ended s Done (value_read s (Read offset))
  unfolding access ticks_of
  read_stands r i =
      rw (read_done s offset p.port i.transfer.host p.present) (none_done s (Read offset) r i.quiet refl read_a)

-- every register that is there but 346h, 356h, 35Dh and 35Fh
pub other_plain : (s : State) (offset : ℕ) → absent (Read offset) ≡ false → eqb offset (offset_of SCSIDAT) ≡ false
    → eqb offset (offset_of DMADATA) ≡ false
    → eqb offset (offset_of STACK) ≡ false → eqb offset (offset_of ID) ≡ false → Plain s offset
unfolding latch_access writes reads
other_plain s offset there latch port stack identity =
    record { present = there; port = port; stack = stack; identity = identity; latch = rw latch }

-- and 346h, unless SPIORDY is set and IO seen
pub scsidat_plain : (s : State) → (io_seen s && s.status.spiordy) ≡ false → Plain s (offset_of SCSIDAT)
unfolding absent read_at latch_access writes reads
scsidat_plain s h = record { present = refl; port = refl; stack = refl; identity = refl; latch = h }

-- as of 34Ch and of 355h
pub sstat1_plain : (s : State) → Plain s (offset_of SSTAT1)
unfolding absent read_at latch_access writes reads
sstat1_plain s = record { present = refl; port = refl; stack = refl; identity = refl; latch = refl }

pub fifostat_plain : (s : State) → Plain s (offset_of FIFOSTAT)
unfolding absent read_at latch_access writes reads
fifostat_plain s = record { present = refl; port = refl; stack = refl; identity = refl; latch = refl }

pub fifostat_read : (s : State) → AtRest s → InRange s → access s (Read (offset_of FIFOSTAT)) ≡ ended s Done (length s.transfer.host)
unfolding value_read read_at read_of
fifostat_read s r i = read_stands s (offset_of FIFOSTAT) (fifostat_plain s) r i
