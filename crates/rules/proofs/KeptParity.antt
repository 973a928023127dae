-- R-2: what changes the kept parity, and what sets the latch of SCSIPERR, over any event.
use mathlib.Core.Path.{◌≡◌, refl, ap, ◌∙◌}
use mathlib.Core.Bool.{Bool, true, false, not, ◌&&◌, ◌||◌, cond}
use mathlib.Core.List.{List, [], ◌∷◌}
use Rattle.rules.specs.Examples.{Row, row, misses}
use Rattle.rules.specs.State.{State, power_reset}
use Rattle.rules.specs.Seen.{io_seen, connected, parity_even}
use Rattle.rules.specs.StepA.{clears, registers_a, error_a, status_a, latches_a, after_a}
use Rattle.rules.specs.StepB.{ack_released, bus_reset, req_rises, parity_bad, kept_after, error_latched, req_risen, after_req_rises, bus_freed, after_sequencer, phase_changed, after_b, at_req}
use Rattle.rules.specs.StepD.{status_raised, status_d, latches_d, finished, after_d}
use Rattle.rules.specs.declared.records.Event.{Event}
use Rattle.rules.proofs.Computes.{computes}
use Rattle.rules.proofs.InOrder.{Spares, before_req, after_req}

-- all of a state that R-2 speaks of: the kept parity, the status, its latch and its enable
record Parity : Type 0 where
  kept : Bool
  error : Bool
  latch : Bool
  enable : Bool

abbrev parity_of : State → Parity
parity_of n =
    record {
      kept = n.keptbad;
      error = n.status.scsiperr;
      latch = n.latches.scsiperr;
      enable = n.registers.simode1.enscsiperr;
    }

-- no step of B touches it but "REQ rises"
spared : (c : Parity) → Spares (λ n. parity_of n ≡ c)
unfolding ack_released bus_reset bus_freed after_sequencer phase_changed
spared c =
    record {
      released = λ n h. h;
      reset = λ n h. h;
      ticked = λ n ticks h. h;
      freed = λ n h. h;
      sequenced = λ n tick before h. h;
      changed = λ n h. h;
    }

module _ (s : State) (e : Event) where
  -- the state that "REQ rises" is handed
  abbrev n : State
  n = at_req s e

  at_req_lem : parity_of n ≡ parity_of (after_a s e)
  at_req_lem = before_req (λ m. parity_of m ≡ parity_of (after_a s e)) (spared (parity_of (after_a s e))) s e refl

  after_b_lem : parity_of (after_b s e) ≡ parity_of (after_req_rises s n)
  after_b_lem =
      after_req (λ m. parity_of m ≡ parity_of (after_req_rises s n)) (spared (parity_of (after_req_rises s n))) s e refl

  -- "connected REQ rise with IO seen"; "a new error"
  abbrev pub inbound_rise : Bool
  inbound_rise = req_rises s n && (connected n && io_seen n)

  abbrev pub new_error : Bool
  new_error = req_rises s n && parity_bad n

  -- what "REQ rises" makes of it
  abbrev risen : Parity → Parity
  risen p =
      record {
        kept = cond inbound_rise (parity_even n) p.kept;
        error = new_error || p.error;
        latch = (new_error && p.enable) || p.latch;
        enable = p.enable;
      }

  rises_to : parity_of (after_req_rises s n) ≡ risen (parity_of n)
  unfolding after_req_rises req_risen kept_after error_latched
  rises_to = go (req_rises s n)
    where
      go : (b : Bool) → parity_of (cond b (req_risen n) n) ≡ record { kept = cond (b && (connected n && io_seen n)) (parity_even n) n.keptbad; error = (b && parity_bad n) || n.status.scsiperr; latch = ((b && parity_bad n) && n.registers.simode1.enscsiperr) || n.latches.scsiperr; enable = n.registers.simode1.enscsiperr }
      go true = refl
      go false = refl

  through_b : parity_of (after_b s e) ≡ risen (parity_of (after_a s e))
  through_b = after_b_lem ∙ rises_to ∙ ap risen at_req_lem

  -- THE KEPT PARITY changes only at a connected REQ rise with IO seen, and is then that byte's
  pub kept_is : (after_d s e).keptbad ≡ cond inbound_rise (parity_even n) s.keptbad
  unfolding after_d finished after_a
  kept_is = ap (λ (p : Parity). p.kept) through_b

  -- THE LATCH is that which A leaves, or sets at a new error while enabled, or when its enable rises with the status 1
  abbrev a : State
  a = after_a s e

  sets : (error enable latch status before : Bool) → (((error && enable) || latch) || (enable && (((error || status) && not status) || (status && not before)))) ≡ (((error && enable) || latch) || ((enable && status) && not before))
  sets true true latch status before = refl
  sets true false latch status before = refl
  sets false true latch true before = refl
  sets false true latch false before = refl
  sets false false latch status before = refl

  pub latch_is : (after_d s e).latches.scsiperr ≡ (((new_error && a.registers.simode1.enscsiperr) || a.latches.scsiperr) || ((a.registers.simode1.enscsiperr && a.status.scsiperr) && not s.registers.simode1.enscsiperr))
  unfolding after_d finished latches_d status_raised
  latch_is =
      (λ i. (through_b i).latch || ((through_b i).enable && (((through_b i).error && not a.status.scsiperr) || (a.status.scsiperr && not s.registers.simode1.enscsiperr))))
      ∙ sets new_error a.registers.simode1.enscsiperr a.latches.scsiperr a.status.scsiperr s.registers.simode1.enscsiperr

  -- "The latch is cleared all the same": what A leaves of it
  pub latch_left : a.latches.scsiperr ≡ (not (clears e 2) && s.latches.scsiperr)
  unfolding after_a latches_a
  latch_left = refl

  -- THE STATUS: set at a new error; else, with ENSPCHK, as it was, or the kept parity at a clear
  pub error_is : (after_d s e).status.scsiperr ≡ (new_error || ((registers_a s.registers e).sxfrctl1.enspchk && cond (clears e 2) s.keptbad s.status.scsiperr))
  unfolding after_d finished status_d status_raised after_a status_a error_a
  error_is = ap (λ (p : Parity). p.error) through_b

-- "Before any inbound byte the kept parity is good."
pub good_at_first : power_reset.keptbad ≡ false
unfolding power_reset
good_at_first = refl

-- a bad byte cleared, another, a bus reset, and a good byte that is not checked
abbrev after_bad_bytes : List Row
after_bad_bytes =
    row 0x32000004 0x00000000000000000000000000000000  -- 352h: INTEN
    ∷ row 0x31000004 0x00000000000000000000000000000000  -- 351h: ENSCSIPERR
    ∷ row 0x22000020 0x00000000000000000000000000000000  -- 342h: ENSPCHK
    ∷ row 0x23000040 0x00000000000000000000000000000000  -- 343h: data in expected
    ∷ row 0xA0000C46 0x10000000000000000000000000000000  -- a bad byte: IRQ
    ∷ row 0x2C000004 0x00000000000000000000000000000000  -- 34Ch: cleared, the latch falls
    ∷ row 0x4C000000 0x00000005000000000000000000000000  -- 34Ch reads SCSIPERR all the same
    ∷ row 0xA0000044 0x00000000000000000000000000000000
    ∷ row 0xA0000046 0x10000000000000000000000000000000  -- a bad byte again, with the status 1: IRQ
    ∷ row 0x2C000004 0x00000000000000000000000000000000  -- 34Ch
    ∷ row 0xA0000100 0x00000000000000000000000000000000  -- RST
    ∷ row 0xA0000000 0x00000000000000000000000000000000
    ∷ row 0x2C000004 0x00000000000000000000000000000000  -- 34Ch
    ∷ row 0x4C000000 0x00000025000000000000000000000000  -- 34Ch reads SCSIRSTI, SCSIPERR, REQINIT: a bus reset keeps the parity
    ∷ row 0x22000000 0x00000000000000000000000000000000  -- 342h: parity not checked
    ∷ row 0x23000040 0x00000000000000000000000000000000  -- 343h
    ∷ row 0xA0000044 0x00000000000000000000000000000000
    ∷ row 0xA0000446 0x00000000000000000000000000000000  -- a good byte, kept though not checked
    ∷ row 0x22000020 0x00000000000000000000000000000000  -- 342h: ENSPCHK
    ∷ row 0x2C000004 0x00000000000000000000000000000000  -- 34Ch
    ∷ row 0x4C000000 0x00000021000000000000000000000000  -- 34Ch reads SCSIRSTI and REQINIT
    ∷ []

pub kept_computed : misses (after_bad_bytes ∷ []) ≡ []
unfolding computes
kept_computed = refl
