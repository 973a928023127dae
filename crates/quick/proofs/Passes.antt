-- ONE LAW FOR EVERY EVENT: a is the state after A, b that after B, x what settling makes of it, k the latches after D.
use mathlib.Core.Path.{◌≡◌, refl, sym, ◌∙◌, ap}
use mathlib.Core.Bool.{Bool, true, false, not, ◌&&◌, cond, and-not_self}
use Prim.Native.Nat.{ℕ}
use lib.Dec.{leb}
use Rattle.rules.specs.State.{State}
use Rattle.rules.specs.Changed.{with_status, with_latches, with_transfer}
use Rattle.rules.specs.Seen.{ack_seen}
use Rattle.rules.specs.Events.{ticks_of}
use Rattle.rules.specs.Interrupts.{latched}
use Rattle.rules.specs.Reads.{value_read}
use Rattle.rules.specs.StepA.{after_a}
use Rattle.rules.specs.StepB.{after_sequencer, after_req_falls, after_rst_rises, after_req_rises, quiet_after, bus_free, after_quiet_ticks, phase_changes, after_phase_changes, first_four, in_order, after_b, at_req, beyond}
use Rattle.rules.specs.StepC.{Settling, conditions, settle, turns, started, settled_c}
use Rattle.rules.specs.StepD.{status_raised, status_d, latches_d, finished, after_d}
use Rattle.rules.specs.Answers.{Stepped}
use Rattle.rules.specs.Step.{done}
use Rattle.rules.specs.declared.registers.Registers.{Registers}
use Rattle.rules.specs.declared.chip.Latches.{Latches}
use Rattle.rules.specs.declared.chip.Status.{Status}
use Rattle.rules.specs.declared.codes.Code.TheVariants.{Done, BeyondLimit}
use Rattle.rules.specs.declared.records.Event.{Event}
use Rattle.rules.proofs.Logic.{never}

-- an event of which A leaves a, B leaves b, C makes x and D sets the latches k
pub record Finishes (s : State) (e : Event) (a b : State) (x : Settling) (k : Latches) : Type 0 where
  pub after_a : after_a s e ≡ a
  pub after_b : after_b s e ≡ b
  pub within : beyond s (at_req s e) ≡ false
  pub settled : settle (conditions b) turns (started b) ≡ x
  pub latches : latches_d s.registers b.registers a.status (status_raised (with_transfer x.transfer b)) b.latches ≡ k

-- what it leaves
unfoldable pub left : State → Settling → Latches → State
left b x k =
    let n = with_transfer x.transfer b in
    with_status (status_d x.acks (ack_seen n) (status_raised n)) (with_latches k n)

abbrev pub passed : State → Settling → Latches → ℕ → Stepped
passed b x k value = record { state = left b x k; code = Done; value = value; moves = x.moves; acks = x.acks; sent = x.sent }

module _ (s : State) (e : Event) (a b : State) (x : Settling) (k : Latches) (p : Finishes s e a b x k) where
  after_c : settled_c s e ≡ x
  unfolding settled_c
  after_c = ap (λ (n : State). settle (conditions n) turns (started n)) p.after_b ∙ p.settled

  after_d_lem : after_d s e ≡ left b x k
  unfolding after_d finished left
  after_d_lem =
      (λ i. finished s (p.after_a i) (p.after_b i) (after_c i))
      ∙ ap
      (λ (y : Latches).
      let n = with_transfer x.transfer b in
      with_status (status_d x.acks (ack_seen n) (status_raised n)) (with_latches y n))
      p.latches

  pub finishes : done s e ≡ passed b x k (value_read s e)
  unfolding done
  finishes =
      λ i.
      record {
        state = after_d_lem i;
        code = cond (p.within i) BeyondLimit Done;
        value = value_read s e;
        moves = (after_c i).moves;
        acks = (after_c i).acks;
        sent = (after_c i).sent;
      }

-- WITHOUT A TICK, where neither the quiet ticks nor PHASECHG takes note of it: B is its edges, which leave m, and the sequencer
pub record Passes (s : State) (e : Event) (a m b : State) (x : Settling) (k : Latches) : Type 0 where
  -- A
  pub ticks : ticks_of e ≡ 0
  pub after : after_a s e ≡ a
  -- B
  pub edges : after_req_rises s (after_rst_rises s (after_req_falls s a)) ≡ m
  pub within : beyond s (after_rst_rises s (after_req_falls s a)) ≡ false
  pub quiet : quiet_after 0 m ≡ m.quiet
  pub sequencer : after_sequencer false s.quiet m ≡ b
  pub phase : phase_changes s b ≡ false
  -- C
  pub settled : settle (conditions b) turns (started b) ≡ x
  -- D
  pub latches : latches_d s.registers b.registers a.status (status_raised (with_transfer x.transfer b)) b.latches ≡ k

module _ (s : State) (e : Event) (a m b : State) (x : Settling) (k : Latches) (p : Passes s e a m b x k) where
  no_ticks_lem : after_quiet_ticks 0 m ≡ m
  unfolding after_quiet_ticks bus_free
  no_ticks_lem = rw (p.quiet, and-not_self (leb 8 m.quiet))

  no_change : after_phase_changes s b ≡ b
  unfolding after_phase_changes
  no_change = rw p.phase

  after_b_lem : after_b s e ≡ b
  unfolding after_b in_order first_four
  after_b_lem = (λ i. in_order s (p.ticks i) (p.after i)) ∙ simp (p.edges, no_ticks_lem, p.sequencer, no_change)

  not_beyond : beyond s (at_req s e) ≡ false
  unfolding at_req
  not_beyond = ap (λ (n : State). beyond s (after_rst_rises s (after_req_falls s n))) p.after ∙ p.within

  pub passes : done s e ≡ passed b x k (value_read s e)
  passes =
      finishes s e a b x k
      (record { after_a = p.after; after_b = after_b_lem; within = not_beyond; settled = p.settled; latches = p.latches })

-- THE LATCHES, for the last field
-- a latch whose enable is as before and whose status does not rise, or is not enabled, stays as it is
latch_low : (kept enable status raised : Bool) → (enable && (raised && not status)) ≡ false
    → latched (record { kept = kept; enable = enable; enabled_before = enable; status = status; raised = raised }) ≡ kept
latch_low true enable status raised h = refl
latch_low false true true true h = refl
latch_low false true true false h = refl
latch_low false true false true h = absurd (never (sym h))
latch_low false true false false h = refl
latch_low false false status raised h = refl

pub same_low : (enable status : Bool) → (enable && (status && not status)) ≡ false
same_low true status = and-not_self status
same_low false status = refl

-- the latches stay where none of the statuses that rise is enabled
pub record Unlatched (r : Registers) (t u : Status) : Type 0 where
  pub spiordy : (r.simode0.enspiordy && (u.spiordy && not t.spiordy)) ≡ false
  pub scsirsti : (r.simode1.enscsirst && (u.scsirsti && not t.scsirsti)) ≡ false
  pub busfree : (r.simode1.enbusfree && (u.busfree && not t.busfree)) ≡ false
  pub scsiperr : (r.simode1.enscsiperr && (u.scsiperr && not t.scsiperr)) ≡ false
  pub phasechg : (r.simode1.enphasechg && (u.phasechg && not t.phasechg)) ≡ false
  pub reqinit : (r.simode1.enreqinit && (u.reqinit && not t.reqinit)) ≡ false

pub unlatched_still : (r : Registers) (t u : Status) (k : Latches) → Unlatched r t u → latches_d r r t u k ≡ k
unfolding latches_d
unlatched_still r t u k h =
    λ i.
    record {
      spiordy = latch_low k.spiordy r.simode0.enspiordy t.spiordy u.spiordy h.spiordy i;
      scsirsti = latch_low k.scsirsti r.simode1.enscsirst t.scsirsti u.scsirsti h.scsirsti i;
      busfree = latch_low k.busfree r.simode1.enbusfree t.busfree u.busfree h.busfree i;
      scsiperr = latch_low k.scsiperr r.simode1.enscsiperr t.scsiperr u.scsiperr h.scsiperr i;
      phasechg = latch_low k.phasechg r.simode1.enphasechg t.phasechg u.phasechg h.phasechg i;
      reqinit = latch_low k.reqinit r.simode1.enreqinit t.reqinit u.reqinit h.reqinit i;
    }
