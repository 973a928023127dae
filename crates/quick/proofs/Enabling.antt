-- Writes to 34Fh, 350h and 351h: A, then D's part. FWERR is raised again where its cause holds; a latch sets where its enable rises
-- while the status is 1.
use mathlib.Core.Path.{◌≡◌, refl, sym, ◌∙◌, ap}
use mathlib.Core.Bool.{Bool, ◌||◌}
use Prim.Native.Nat.{ℕ}
use Rattle.rules.specs.Rest.{AtRest}
use Rattle.rules.specs.State.{State}
use Rattle.rules.specs.Changed.{with_status, with_latches, with_registers, with_sequencer}
use Rattle.rules.specs.Map.{offset_of}
use Rattle.rules.specs.Seen.{ack_seen, rst_seen}
use Rattle.rules.specs.Reads.{value_read}
use Rattle.rules.specs.Codes.{access_code}
use Rattle.rules.specs.Sequencer.{called}
use Rattle.rules.specs.StepA.{latch_access, automatic_ack, after_a}
use Rattle.rules.specs.StepB.{req_falls, after_req_falls}
use Rattle.rules.specs.StepC.{started}
use Rattle.rules.specs.StepD.{fifo_conflict, pio_ready, status_raised, status_d, latches_d, finished}
use Rattle.rules.specs.Step.{ended, access}
use Rattle.rules.specs.Ranges.{InRange}
use Rattle.rules.specs.declared.registers.Registers.{Registers}
use Rattle.rules.specs.declared.registers.Simode0.{Simode0}
use Rattle.rules.specs.declared.registers.Simode1.{Simode1}
use Rattle.rules.specs.declared.chip.Selection.{Selection}
use Rattle.rules.specs.declared.chip.Status.{Status}
use Rattle.rules.specs.declared.map.Register.TheVariants.{CLRSERR, SIMODE0, SIMODE1}
use Rattle.rules.specs.declared.codes.Code.TheVariants.{Done}
use Rattle.rules.specs.declared.records.Event.{Event}
use Rattle.rules.specs.declared.records.Event.TheVariants.{Write}
use Rattle.rules.proofs.Still.{set_already, no_fall, no_reset, no_rise, no_change, quiet_still, status_d_still}
use Rattle.quick.proofs.Opened.{own_effect, looks_at}
use Rattle.quick.proofs.Alike.{Alike, sequential_alike}
use Rattle.quick.proofs.Stands.{Lands, lands}
use Rattle.quick.proofs.PlainWrites.{write_done}

-- a status with another SYNCERR and FWERR
abbrev pub erring : Bool → Bool → Status → Status
erring syncerr fwerr t =
    record {
      spiordy = t.spiordy;
      scsirsti = t.scsirsti;
      busfree = t.busfree;
      scsiperr = t.scsiperr;
      phasechg = t.phasechg;
      reqinit = t.reqinit;
      syncerr = syncerr;
      fwerr = fwerr;
    }

-- the registers with other enables
abbrev pub registers_enabled : Simode0 → Simode1 → Registers → Registers
registers_enabled x y r =
    record {
      scsiseq = r.scsiseq;
      sxfrctl0 = r.sxfrctl0;
      sxfrctl1 = r.sxfrctl1;
      scsisig = r.scsisig;
      scsirate = r.scsirate;
      scsiid = r.scsiid;
      scsidat = r.scsidat;
      simode0 = x;
      simode1 = y;
      dmacntrl0 = r.dmacntrl0;
      dmacntrl1 = r.dmacntrl1;
      brstcntrl = r.brstcntrl;
    }

-- s with other enables, the selection latches that go with them, another SCSIPERR, SYNCERR and FWERR
abbrev pub enabled : Simode0 → Simode1 → Selection → Bool → Bool → Bool → State → State
enabled x y v error syncerr fwerr s =
    let q = s.sequencer in
    let t = s.status in
    with_sequencer
    (record { phase = q.phase; ticks = q.ticks; noted = q.noted; selid = q.selid; status = q.status; latches = v })
    (with_status
    (record {
      spiordy = t.spiordy;
      scsirsti = t.scsirsti;
      busfree = t.busfree;
      scsiperr = error;
      phasechg = t.phasechg;
      reqinit = t.reqinit;
      syncerr = syncerr;
      fwerr = fwerr;
    })
    (with_registers (registers_enabled x y s.registers) s))

module _ (s : State) (x : Simode0) (y : Simode1) (v : Selection) (error syncerr fwerr : Bool) where
  abbrev b : State
  b = enabled x y v error syncerr fwerr s

  enabled_fall : after_req_falls s b ≡ b
  unfolding after_req_falls req_falls
  enabled_fall = rw (no_fall s)

  enabled_alike : Alike s b
  unfolding rst_seen called
  enabled_alike =
      record { rst = refl; phase = refl; selingo = refl; called = refl; sel = refl; bsy = refl; asked = refl; quiet = refl }

  module _ (r : AtRest s) (i : InRange s) where
    pub enabled_lands : Lands s b
    unfolding looks_at
    enabled_lands =
        record {
          reset = no_reset s;
          rise = no_rise s;
          quiet = quiet_still s r i.quiet;
          sequencer = sequential_alike s b enabled_alike r.sequencer;
          phase = no_change s;
          resting = record { no_move = r.resting.no_move; no_handshake = r.resting.no_handshake };
        }

    -- D raises FWERR alone
    raises : status_raised b ≡ erring syncerr (fifo_conflict s.registers || fwerr) b.status
    unfolding status_raised looks_at
    raises =
        λ j.
        record {
          spiordy = set_already (pio_ready s) s.status.spiordy r.spiordy j;
          scsirsti = s.status.scsirsti;
          busfree = s.status.busfree;
          scsiperr = error;
          phasechg = s.status.phasechg;
          reqinit = s.status.reqinit;
          syncerr = syncerr;
          fwerr = fifo_conflict s.registers || fwerr;
        }

    -- what D leaves: FWERR where its cause holds, the latches of what is enabled now and was not before
    abbrev pub enabled_left : State
    enabled_left =
        with_status (erring syncerr (fifo_conflict s.registers || fwerr) b.status)
        (with_latches (latches_d s.registers b.registers b.status b.status s.latches) b)

    kept : status_d 0 (ack_seen b) (status_raised b) ≡ erring syncerr (fifo_conflict s.registers || fwerr) b.status
    unfolding looks_at
    kept = ap (status_d 0 (ack_seen b)) raises ∙ status_d_still (ack_seen s) (erring syncerr (fifo_conflict s.registers || fwerr) b.status) r.reqinit

    latches_by : latches_d s.registers b.registers b.status (status_raised b) b.latches
        ≡ latches_d s.registers b.registers b.status b.status s.latches
    unfolding latches_d
    latches_by = ap (λ (t : Status). latches_d s.registers b.registers b.status t s.latches) raises

    enabled_finished : finished s b b (started b) ≡ enabled_left
    unfolding finished started
    enabled_finished = λ j. with_status (kept j) (with_latches (latches_by j) b)

-- AN EVENT WHOSE A CHANGES NO MORE THAN THESE is A and D's part
abbrev pub enabled_of : State → State → State
enabled_of a s =
    enabled a.registers.simode0 a.registers.simode1 a.sequencer.latches a.status.scsiperr a.status.syncerr a.status.fwerr s

-- FWERR where its cause holds, the latches of what is enabled now and was not before
abbrev pub after_enabling : State → State → State
after_enabling a s =
    with_status (erring a.status.syncerr (fifo_conflict s.registers || a.status.fwerr) a.status)
    (with_latches (latches_d s.registers a.registers a.status a.status a.latches) a)

module _ (s : State) (offset v : ℕ) (r : AtRest s) (i : InRange s) (code : access_code s (Write offset v) ≡ Done)
    (after : after_a s (Write offset v) ≡ enabled_of (after_a s (Write offset v)) s) where
  abbrev e : Event
  e = Write offset v

  pub enabling_stands : access s e ≡ ended (after_enabling (after_a s e) s) Done 0
  unfolding access own_effect value_read
  enabling_stands =
      rw code
      (let a = after_a s e in
      lands s e (enabled_of a s) (enabled_of a s) refl after
      (enabled_fall s a.registers.simode0 a.registers.simode1 a.sequencer.latches a.status.scsiperr a.status.syncerr a.status.fwerr)
      (enabled_lands s a.registers.simode0 a.registers.simode1 a.sequencer.latches a.status.scsiperr a.status.syncerr a.status.fwerr r i)
      ∙ ap (λ (w : State). ended w Done 0)
      (enabled_finished s a.registers.simode0 a.registers.simode1 a.sequencer.latches a.status.scsiperr a.status.syncerr a.status.fwerr r i)
      ∙ ap (λ (w : State). ended (after_enabling w s) Done 0) (sym after))

module _ (s : State) (v : ℕ) (r : AtRest s) (i : InRange s) where
  -- 34Fh: "34Fh clears errors."
  pub clrserr_stands : access s (Write (offset_of CLRSERR) v) ≡ ended (after_enabling (after_a s (Write (offset_of CLRSERR) v)) s) Done 0
  unfolding own_effect latch_access automatic_ack
  clrserr_stands =
      enabling_stands s (offset_of CLRSERR) v r i (write_done s (offset_of CLRSERR) refl i.transfer.host v refl refl) refl

  -- 350h
  pub simode0_stands : access s (Write (offset_of SIMODE0) v) ≡ ended (after_enabling (after_a s (Write (offset_of SIMODE0) v)) s) Done 0
  unfolding own_effect latch_access automatic_ack
  simode0_stands =
      enabling_stands s (offset_of SIMODE0) v r i (write_done s (offset_of SIMODE0) refl i.transfer.host v refl refl) refl

  -- 351h
  pub simode1_stands : access s (Write (offset_of SIMODE1) v) ≡ ended (after_enabling (after_a s (Write (offset_of SIMODE1) v)) s) Done 0
  unfolding own_effect latch_access automatic_ack
  simode1_stands =
      enabling_stands s (offset_of SIMODE1) v r i (write_done s (offset_of SIMODE1) refl i.transfer.host v refl refl) refl
