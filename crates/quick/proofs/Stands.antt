-- An event after whose A neither B nor C has anything to do; and one after whose A nothing is left to do: D does no more than let REQINIT
-- fall where ACK is seen.
use mathlib.Core.Path.{◌≡◌, refl, ◌∙◌, ap}
use mathlib.Core.Bool.{true, false}
use Prim.Native.Nat.{◌≤◌}
use Rattle.rules.specs.Rest.{AtRest, Resting}
use Rattle.rules.specs.State.{State}
use Rattle.rules.specs.Changed.{with_status, with_latches}
use Rattle.rules.specs.Seen.{ack_seen}
use Rattle.rules.specs.Events.{ticks_of}
use Rattle.rules.specs.Reads.{value_read}
use Rattle.rules.specs.Sequencer.{sequenced, sequenced_of}
use Rattle.rules.specs.StepA.{after_a}
use Rattle.rules.specs.StepB.{after_req_falls, rst_rises, after_rst_rises, req_rises, after_req_rises, quiet_after, phase_changes, beyond}
use Rattle.rules.specs.StepC.{conditions, turns, started}
use Rattle.rules.specs.StepD.{fifo_conflict, pio_ready, status_raised, status_d, latches_d, finished}
use Rattle.rules.specs.Step.{ended, done}
use Rattle.rules.specs.declared.chip.Latches.{Latches}
use Rattle.rules.specs.declared.chip.Status.{Status}
use Rattle.rules.specs.declared.codes.Code.TheVariants.{Done}
use Rattle.rules.specs.declared.records.Event.{Event}
use Rattle.rules.proofs.Rest.{settle_rests}
use Rattle.rules.proofs.Still.{set_already, no_reset, no_rise, no_change, sequencer_still, quiet_still, status_d_still, latches_still}
use Rattle.quick.proofs.Passes.{Passes, left, passes}

-- b, the state once REQ has fallen where it fell, has nothing left to do after s in B and C
pub record Lands (s b : State) : Type 0 where
  pub reset : rst_rises s b ≡ false
  pub rise : req_rises s b ≡ false
  pub quiet : quiet_after 0 b ≡ b.quiet
  pub sequencer : sequenced false 0 b ≡ sequenced_of b
  pub phase : phase_changes s b ≡ false
  pub resting : Resting (conditions b) b.transfer

-- nor in D, but for REQINIT and the latches: its statuses stand, and the enables
pub record Unraised (s b : State) : Type 0 where
  pub fwerr : fifo_conflict b.registers ≡ true → b.status.fwerr ≡ true
  pub spiordy : pio_ready b ≡ true → b.status.spiordy ≡ true
  pub enables0 : b.registers.simode0 ≡ s.registers.simode0
  pub enables1 : b.registers.simode1 ≡ s.registers.simode1

pub record Stands (s b : State) : Type 0 where
  pub lands : Lands s b
  pub unraised : Unraised s b

-- a state at rest stands after itself
pub rest_stands : (s : State) → AtRest s → s.quiet ≤ 8 → Stands s s
rest_stands s r q =
    record {
      lands =
          record {
            reset = no_reset s;
            rise = no_rise s;
            quiet = quiet_still s r q;
            sequencer = r.sequencer;
            phase = no_change s;
            resting = r.resting;
          };
      unraised = record { fwerr = r.fwerr; spiordy = r.spiordy; enables0 = refl; enables1 = refl };
    }

-- REQINIT falls where ACK is seen
unfoldable pub acked : State → State
acked b = with_status (status_d 0 (ack_seen b) b.status) b

-- and stays where it is clear or no ACK is seen
pub acked_still : (b : State) → (ack_seen b ≡ true → b.status.reqinit ≡ false) → acked b ≡ b
unfolding acked
acked_still b h = ap (λ (t : Status). with_status t b) (status_d_still (ack_seen b) b.status h)

-- neither RST nor REQ rises
module _ (s b : State) (reset : rst_rises s b ≡ false) (rise : req_rises s b ≡ false) where
  reset_stands : after_rst_rises s b ≡ b
  unfolding after_rst_rises
  reset_stands = rw reset

  rise_stands : after_req_rises s b ≡ b
  unfolding after_req_rises
  rise_stands = rw rise

  no_req_beyond : beyond s b ≡ false
  unfolding beyond
  no_req_beyond = rw rise

  pub edges_stand : after_req_rises s (after_rst_rises s b) ≡ b
  edges_stand = ap (after_req_rises s) reset_stands ∙ rise_stands

  pub none_beyond : beyond s (after_rst_rises s b) ≡ false
  none_beyond = ap (beyond s) reset_stands ∙ no_req_beyond

-- AN EVENT AFTER WHOSE A NEITHER B NOR C HAS ANYTHING TO DO: a is the state after A, b the same once REQ has fallen where it fell
module _ (s : State) (e : Event) (a b : State) (ticks : ticks_of e ≡ 0) (after : after_a s e ≡ a) (fell : after_req_falls s a ≡ b)
    (k : Lands s b) where
  lands_passes : Passes s e a b b (started b) (latches_d s.registers b.registers a.status (status_raised b) b.latches)
  unfolding started
  lands_passes =
      record {
        ticks = ticks;
        after = after;
        edges = ap (λ (n : State). after_req_rises s (after_rst_rises s n)) fell ∙ edges_stand s b k.reset k.rise;
        within = ap (λ (n : State). beyond s (after_rst_rises s n)) fell ∙ none_beyond s b k.reset k.rise;
        quiet = k.quiet;
        sequencer = sequencer_still b s.quiet k.sequencer;
        phase = k.phase;
        settled = settle_rests (conditions b) turns (started b) k.resting;
        latches = refl;
      }

  -- it is A and D
  pub lands : done s e ≡ ended (finished s a b (started b)) Done (value_read s e)
  unfolding ended started left finished
  lands = passes s e a b b (started b) (latches_d s.registers b.registers a.status (status_raised b) b.latches) lands_passes

module _ (s b : State) (k : Unraised s b) where
  pub raised_stands : status_raised b ≡ b.status
  unfolding status_raised
  raised_stands =
      λ i.
      record {
        spiordy = set_already (pio_ready b) b.status.spiordy k.spiordy i;
        scsirsti = b.status.scsirsti;
        busfree = b.status.busfree;
        scsiperr = b.status.scsiperr;
        phasechg = b.status.phasechg;
        reqinit = b.status.reqinit;
        syncerr = b.status.syncerr;
        fwerr = set_already (fifo_conflict b.registers) b.status.fwerr k.fwerr i;
      }

  latches_stand : latches_d s.registers b.registers b.status b.status b.latches ≡ b.latches
  unfolding latches_d
  latches_stand = rw (k.enables0, k.enables1) (latches_still s.registers b.status b.latches)

  pub finished_stands : (a : State) → a.status ≡ b.status → finished s a b (started b) ≡ acked b
  unfolding finished started acked
  finished_stands a status =
      (λ i.
      with_status (status_d 0 (ack_seen b) (raised_stands i))
      (with_latches (latches_d s.registers b.registers (status i) (raised_stands i) b.latches) b))
      ∙ ap (λ (l : Latches). with_status (status_d 0 (ack_seen b) b.status) (with_latches l b)) latches_stand

-- AN EVENT AFTER WHOSE A NOTHING IS LEFT TO DO
pub stands : (s : State) (e : Event) (a b : State) → ticks_of e ≡ 0 → after_a s e ≡ a → after_req_falls s a ≡ b → a.status ≡ b.status
    → Stands s b → done s e ≡ ended (acked b) Done (value_read s e)
stands s e a b ticks after fell status k =
    lands s e a b ticks after fell k.lands ∙ ap (λ (n : State). ended n Done (value_read s e)) (finished_stands s b k.unraised a status)
