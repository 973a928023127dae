-- A line event in which REQ rises and others change no more than data, parity, ATN and ACK besides.
use mathlib.Core.Path.{◌≡◌, refl, ◌∙◌}
use mathlib.Core.Bool.{Bool, true, false, not, ◌&&◌, ◌||◌, and-not_self, and-true}
use mathlib.Core.List.{List, append-nil}
use Prim.Native.Nat.{ℕ}
use Rattle.rules.specs.Rest.{AtRest, Resting}
use Rattle.rules.specs.State.{State}
use Rattle.rules.specs.Changed.{with_status, with_kept, with_offset, with_scsi, with_transfer}
use Rattle.rules.specs.Seen.{ack_seen, automatic, bsy_seen, connected, matched, mismatched, normal, path, rst_seen, sel_seen, synchronous}
use Rattle.rules.specs.Events.{ticks_of}
use Rattle.rules.specs.Reads.{value_read}
use Rattle.rules.specs.Sequencer.{called, sequenced_of, sequenced, resolved, uncalled, let_go, forestalled, selected, connects, begun, withdrawn, answers}
use Rattle.rules.specs.StepB.{req_falls, after_req_falls, rst_rises, after_rst_rises, req_rises, req_risen, req_within, stored_byte, error_latched, attention, parity_bad, kept_after, synchronous_req, beyond_limit, beyond, after_req_rises, quiet_after, phase_changes}
use Rattle.rules.specs.StepC.{Settling, conditions, can_move, can_handshake, settle, turns, started}
use Rattle.rules.specs.StepD.{pio_ready, fifo_conflict, status_raised, status_d}
use Rattle.rules.specs.Step.{ended, access}
use Rattle.rules.specs.Ranges.{InRange}
use Rattle.rules.specs.declared.registers.Registers.{Registers}
use Rattle.rules.specs.declared.chip.Status.{Status}
use Rattle.rules.specs.declared.codes.Code.TheVariants.{Done}
use Rattle.rules.specs.declared.records.Lines.{Lines}
use Rattle.rules.specs.declared.records.Event.TheVariants.{Drive}
use Rattle.rules.proofs.Logic.{never}
use Rattle.rules.proofs.Rest.{settle_rests}
use Rattle.rules.proofs.Still.{set_already, no_change, sequencer_still, quiet_still}
use Rattle.quick.proofs.FewLines.{few, driven, drive_a, drive_done, sequencer_driven}
use Rattle.quick.proofs.Passes.{Passes, Unlatched, unlatched_still, same_low, left, passed, passes}

-- a status with another SPIORDY and REQINIT
abbrev pub noticed : Bool → Bool → Status → Status
noticed spiordy reqinit t =
    record {
      spiordy = spiordy;
      scsirsti = t.scsirsti;
      busfree = t.busfree;
      scsiperr = t.scsiperr;
      phasechg = t.phasechg;
      reqinit = reqinit;
      syncerr = t.syncerr;
      fwerr = t.fwerr;
    }

module _ (l : Lines) (s : State) where
  -- REQ rises with RST not seen, and with no parity error that is checked; others call the chip as before
  pub record Rises : Type 0 where
    pub low : s.lines.req ≡ false
    pub high : l.req ≡ true
    pub rst : rst_seen s ≡ false
    pub same : called (driven l s) ≡ called s
    pub good : parity_bad (driven l s) ≡ false

  module _ (h : Rises) where
    falls_not : after_req_falls s (driven l s) ≡ driven l s
    unfolding after_req_falls req_falls
    falls_not = rw h.low

    resets_not : after_rst_rises s (driven l s) ≡ driven l s
    unfolding after_rst_rises rst_rises rst_seen
    resets_not = rw (and-not_self (rst_seen s))

    before_rise : after_rst_rises s (after_req_falls s (driven l s)) ≡ driven l s
    before_rise = rw (falls_not, resets_not)

    does_rise : req_rises s (driven l s) ≡ true
    unfolding req_rises rst_seen
    does_rise = rw (h.high, h.low, h.rst)

    rise_edges : after_req_rises s (after_rst_rises s (after_req_falls s (driven l s))) ≡ req_risen (driven l s)
    unfolding after_req_rises
    rise_edges = rw (before_rise, does_rise)

-- with a path the mode is Normal, not Automatic
not_automatic : (r : Registers) → path r ≡ true → automatic r ≡ false
unfolding path normal automatic
not_automatic r = go r.sxfrctl0.spioen r.sxfrctl0.dmaen _
  where
    go : (a b c : Bool) → (not a && b && c) ≡ true → (a && not b) ≡ false
    go true b c e = absurd (never e)
    go false b c e = refl

-- so that no byte waits to be taken by hand
pub path_unready : (s : State) → path s.registers ≡ true → pio_ready s ≡ false
unfolding pio_ready
path_unready s p = rw (not_automatic s.registers p)

-- what B leaves: REQINIT set, the parity kept, this offset and these bytes in the SCSI FIFO
abbrev pub risen : Lines → State → ℕ → List ℕ → State
risen l s offset scsi =
    with_status (noticed s.status.spiordy true s.status)
    (with_offset offset (with_scsi scsi (with_kept (kept_after (driven l s)) (driven l s))))

-- what a rise asks for beside itself: the event within the limit; REQINIT not latched, SPIORDY neither
pub record Unseen (l : Lines) (s b : State) : Type 0 where
  pub within : (synchronous_req (driven l s) && beyond_limit (driven l s)) ≡ false
  pub reqinit : s.registers.simode1.enreqinit ≡ false
  pub spiordy : (s.registers.simode0.enspiordy && ((pio_ready b || s.status.spiordy) && not s.status.spiordy)) ≡ false

still_false : (a b c : Bool) → (b && c) ≡ false → (a && b && c) ≡ false
still_false true b c e = e
still_false false b c e = refl

-- ONE LAW FOR EVERY RISE: x is what settling makes of it
module _ (l : Lines) (s : State) (offset : ℕ) (scsi : List ℕ) (x : Settling) (h : Rises l s)
    (edge : req_risen (driven l s) ≡ risen l s offset scsi)
    (settles : settle (conditions (risen l s offset scsi)) turns (started (risen l s offset scsi)) ≡ x)
    (u : Unseen l s (with_transfer x.transfer (risen l s offset scsi))) (r : AtRest s) (i : InRange s) where
  abbrev b : State
  b = risen l s offset scsi

  within : beyond s (after_rst_rises s (after_req_falls s (driven l s))) ≡ false
  unfolding beyond
  within =
      rw (before_rise l s h) (still_false (req_rises s (driven l s)) (synchronous_req (driven l s)) (beyond_limit (driven l s)) u.within)

  sequencer_stands : sequenced false 0 b ≡ sequenced_of b
  unfolding sequenced sequenced_of rst_seen resolved uncalled let_go forestalled selected begun withdrawn answers connects called
  sequencer_stands = sequencer_driven l s r h.same

  unlatched : Unlatched s.registers s.status (status_raised (with_transfer x.transfer b))
  unfolding status_raised
  unlatched =
      record {
        spiordy = u.spiordy;
        scsirsti = same_low s.registers.simode1.enscsirst s.status.scsirsti;
        busfree = same_low s.registers.simode1.enbusfree s.status.busfree;
        scsiperr = same_low s.registers.simode1.enscsiperr s.status.scsiperr;
        phasechg = same_low s.registers.simode1.enphasechg s.status.phasechg;
        reqinit = rw u.reqinit;
      }

  rise_passes : Passes s (Drive (few l s.lines)) (driven l s) b b x s.latches
  unfolding ticks_of quiet_after bsy_seen sel_seen rst_seen phase_changes mismatched matched connected
  rise_passes =
      record {
        ticks = refl;
        after = drive_a l s r;
        edges = rise_edges l s h ∙ edge;
        within = within;
        quiet = quiet_still s r i.quiet;
        sequencer = sequencer_still b s.quiet sequencer_stands;
        phase = no_change s;
        settled = settles;
        latches =
            unlatched_still s.registers s.status (status_raised (with_transfer x.transfer b)) s.latches unlatched;
      }

  pub risen_passes : access s (Drive (few l s.lines)) ≡ passed b x s.latches 0
  unfolding access value_read
  risen_passes =
      rw (drive_done s (few l s.lines) i.transfer.host)
      (passes s (Drive (few l s.lines)) (driven l s) b b x s.latches rise_passes)

-- A REQ THAT IS NOT OF A SYNCHRONOUS TRANSFER leaves offset and SCSI FIFO as they were
module _ (l : Lines) (s : State) (free : synchronous_req s ≡ false) where
  same_synchronous : synchronous_req (driven l s) ≡ false
  unfolding synchronous_req matched connected rst_seen sel_seen bsy_seen synchronous
  same_synchronous = free

  pub free_edge : Rises l s → req_risen (driven l s) ≡ risen l s s.transfer.offset s.transfer.scsi
  unfolding req_risen req_within stored_byte error_latched attention
  free_edge h = rw (h.good, same_synchronous, append-nil)

  pub free_within : (synchronous_req (driven l s) && beyond_limit (driven l s)) ≡ false
  free_within = rw same_synchronous

-- NO HANDSHAKE FOLLOWS
module _ (l : Lines) (s : State) where
  abbrev pub plain_risen : State
  plain_risen = risen l s s.transfer.offset s.transfer.scsi

  -- SPIORDY is not latched, nor REQINIT
  module _ (h : Rises l s) (free : synchronous_req s ≡ false) (r : AtRest s) (i : InRange s) (off : (conditions s).enabled ≡ false)
      (pio : (s.registers.simode0.enspiordy && ((pio_ready plain_risen || s.status.spiordy) && not s.status.spiordy)) ≡ false)
      (unasked : s.registers.simode1.enreqinit ≡ false) where
    resting : Resting (conditions plain_risen) plain_risen.transfer
    unfolding conditions can_move can_handshake matched connected rst_seen sel_seen bsy_seen synchronous
    resting = record { no_move = r.resting.no_move; no_handshake = rw off }

    passes_plain : access s (Drive (few l s.lines)) ≡ passed plain_risen (started plain_risen) s.latches 0
    unfolding started
    passes_plain =
        risen_passes l s s.transfer.offset s.transfer.scsi (started plain_risen) h (free_edge l s free h)
        (settle_rests (conditions plain_risen) turns (started plain_risen) resting)
        (record { within = free_within l s free; reqinit = unasked; spiordy = pio }) r i

    -- REQ RISES AND NO HANDSHAKE FOLLOWS: the lines, SPIORDY where it is ready, REQINIT unless ACK is seen, the parity kept
    pub plain_rise_lem : access s (Drive (few l s.lines))
        ≡ ended (with_status (noticed (pio_ready plain_risen || s.status.spiordy) (not (ack_seen plain_risen)) s.status) (with_kept (kept_after (driven l s)) (driven l s))) Done 0
    unfolding ended left started status_raised status_d
    plain_rise_lem = passes_plain ∙ (λ j. ended (with_status (shown j) plain_risen) Done 0)
      where
        shown : status_d 0 (ack_seen plain_risen) (status_raised plain_risen)
            ≡ noticed (pio_ready plain_risen || s.status.spiordy) (not (ack_seen plain_risen)) s.status
        shown =
            λ j.
            record {
              spiordy = pio_ready plain_risen || s.status.spiordy;
              scsirsti = s.status.scsirsti;
              busfree = s.status.busfree;
              scsiperr = s.status.scsiperr;
              phasechg = s.status.phasechg;
              reqinit = and-true (not (ack_seen plain_risen)) j;
              syncerr = s.status.syncerr;
              fwerr = set_already (fifo_conflict s.registers) s.status.fwerr r.fwerr j;
            }
