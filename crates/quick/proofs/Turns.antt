-- One tick by which the phase changes, the chip connected neither before nor after. It is B alone.
use mathlib.Core.Path.{◌≡◌, refl, sym, ◌∙◌, ap}
use mathlib.Core.Bool.{true, false, ◌||◌, cond, and-not_self, and-false}
use lib.Dec.{leb}
use Rattle.rules.specs.Rest.{AtRest, Resting}
use Rattle.rules.specs.State.{State}
use Rattle.rules.specs.Seen.{ack_driven, ack_seen, bsy_seen, connected, manual, matched, mismatched, normal, path, rst_seen, sel_seen}
use Rattle.rules.specs.Sequencer.{silenced, tick_in, sequenced_of, sequenced, resolved}
use Rattle.rules.specs.StepB.{quiet_after, bus_free, after_quiet_ticks, after_sequencer, phase_changes, after_phase_changes}
use Rattle.rules.specs.StepC.{conditions, can_move, can_handshake, turns, started}
use Rattle.rules.specs.StepD.{fifo_conflict, pio_ready, finished}
use Rattle.rules.specs.Step.{ended, access}
use Rattle.rules.specs.Ranges.{InRange}
use Rattle.rules.specs.declared.chip.Sequenced.{Sequenced}
use Rattle.rules.specs.declared.codes.Code.TheVariants.{Done}
use Rattle.rules.specs.declared.records.Event.TheVariants.{Ticks}
use Rattle.rules.proofs.Logic.{never}
use Rattle.rules.proofs.Rest.{settle_rests}
use Rattle.rules.proofs.Resolving.{sequenced_into_lem, sequenced_into}
use Rattle.rules.proofs.OneTick.{ticked, settled_from, d_ticks, c_ticks, tick_plain}
use Rattle.quick.proofs.Stands.{Unraised, acked_still, finished_stands}

-- A TICK AFTER WHICH NOTHING SETTLES: b is what B leaves
module _ (s b : State) (r : AtRest s) (i : InRange s) (is : ticked s ≡ b) (resting : Resting (conditions b) b.transfer) where
  settles : settled_from (ticked s) ≡ started b
  unfolding started
  settles = ap settled_from is ∙ settle_rests (conditions b) turns (started b) resting

  -- it is B and D
  pub tick_lands : access s (Ticks 1) ≡ ended (finished s s b (started b)) Done 0
  unfolding ended started
  tick_lands =
      tick_plain s i
      ∙ (λ j.
      record {
        state = (d_ticks s r ∙ (λ k. finished s s (is k) (settles k))) j;
        code = Done;
        value = 0;
        moves = ((c_ticks s r ∙ settles) j).moves;
        acks = ((c_ticks s r ∙ settles) j).acks;
        sent = ((c_ticks s r ∙ settles) j).sent;
      })

  -- B alone, where D raises nothing
  pub tick_stands : Unraised s b → s.status ≡ b.status → (ack_seen b ≡ true → b.status.reqinit ≡ false) → access s (Ticks 1)
      ≡ ended b Done 0
  tick_stands u status h =
      tick_lands ∙ ap (λ (n : State). ended n Done 0) (finished_stands s b u s status ∙ acked_still b h)

-- BSY or SEL is seen: the quiet ticks stay at 0
taken_still : (s : State) → AtRest s → (bsy_seen s || sel_seen s) ≡ true → quiet_after 1 s ≡ s.quiet
unfolding quiet_after
taken_still s r h = rw h (sym (r.quiet h))

pub taken_quiet : (s : State) → AtRest s → (bsy_seen s || sel_seen s) ≡ true → after_quiet_ticks 1 s ≡ s
unfolding after_quiet_ticks bus_free
taken_quiet s r h = rw (taken_still s r h, and-not_self (leb 8 s.quiet))

-- A CHANGE OF PHASE: f is what the quiet ticks leave, y what the tick makes of the sequencer, z what is resolved then
pub record Changes (s f : State) (y z : Sequenced) : Type 0 where
  pub quiet : after_quiet_ticks 1 s ≡ f
  pub rst : rst_seen f ≡ false
  pub tick : tick_in f.sequencer.phase s.quiet f (sequenced_of f) ≡ y
  pub resolves : resolved f y ≡ z
  pub alone : connected (sequenced_into z f) ≡ false

module _ (s f : State) (y z : Sequenced) (k : Changes s f y z) where
  abbrev b : State
  b = sequenced_into z f

  sequences : sequenced true s.quiet f ≡ z
  unfolding sequenced sequenced_of
  sequences =
      (λ j. cond (k.rst j) (silenced (sequenced_of f)) (resolved f (tick_in f.sequencer.phase s.quiet f (sequenced_of f))))
      ∙ ap (resolved f) k.tick ∙ k.resolves

  no_change : after_phase_changes s b ≡ b
  unfolding after_phase_changes phase_changes mismatched
  no_change = rw k.alone

  pub changed : ticked s ≡ b
  unfolding ticked
  changed =
      ap (λ (n : State). after_phase_changes s (after_sequencer true s.quiet n)) k.quiet
      ∙ ap (after_phase_changes s) (sequenced_into_lem f true s.quiet ∙ ap (λ (x : Sequenced). sequenced_into x f) sequences)
      ∙ no_change

  unmatched : matched b ≡ false
  unfolding matched
  unmatched = rw k.alone

  pub no_handshake_lem : can_handshake (conditions b) b.transfer ≡ false
  unfolding conditions can_handshake
  no_handshake_lem = rw (unmatched, and-false)

  pub unready : pio_ready b ≡ false
  unfolding pio_ready
  unready = rw (unmatched, and-false)

module _ (s : State) (y z : Sequenced) (k : Changes s s y z) (r : AtRest s) (i : InRange s) where
  resting : Resting (conditions (sequenced_into z s)) (sequenced_into z s).transfer
  unfolding conditions can_move path normal
  resting = record { no_move = r.resting.no_move; no_handshake = no_handshake_lem s s y z k }

  unraised : Unraised s (sequenced_into z s)
  unfolding fifo_conflict path normal
  unraised =
      record { fwerr = r.fwerr; spiordy = λ e. absurd (never (sym (unready s s y z k) ∙ e)); enables0 = refl; enables1 = refl }

  -- IT IS B ALONE
  pub changes_next : access s (Ticks 1) ≡ ended (sequenced_into z s) Done 0
  unfolding ack_seen ack_driven manual
  changes_next = tick_stands s (sequenced_into z s) r i (changed s s y z k) resting unraised refl r.reqinit
