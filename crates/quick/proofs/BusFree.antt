-- The tick by which the bus becomes free, the sequencer idle or waiting: BUSFREE and its latch, 343h, offset and automatic ACK 0, SELDO
-- 0, SELDI 0 where noted.
use mathlib.Core.Path.{◌≡◌, refl, sym, ◌∙◌, ap}
use mathlib.Core.Bool.{Bool, true, false, not, ◌&&◌, ◌||◌, cond, and-false}
use Prim.Native.Nat.{ℕ}
use Rattle.rules.specs.Rest.{AtRest, Resting}
use Rattle.rules.specs.State.{State}
use Rattle.rules.specs.Changed.{with_status, with_latches, with_quiet, with_sequencer}
use Rattle.rules.specs.Seen.{phase_number, is_phase, phase_bsy, ack_driven, ack_seen, bsy_seen, connected, manual, normal, path, rst_seen, sel_seen}
use Rattle.rules.specs.Sequencer.{called, in_ticks, waited, sequenced_with, selection_freed, waiting_for, tick_in, sequenced_of}
use Rattle.rules.specs.StepB.{quiet_after, bus_free, bus_freed, after_quiet_ticks}
use Rattle.rules.specs.StepC.{conditions, can_move, started}
use Rattle.rules.specs.StepD.{fifo_conflict, status_d, latches_d, finished}
use Rattle.rules.specs.Step.{ended, access}
use Rattle.rules.specs.Ranges.{InRange}
use Rattle.rules.specs.declared.chip.Phase.{Phase}
use Rattle.rules.specs.declared.chip.Phase.TheVariants.{Idle, Waiting, Arbitrating, Clearing, Selecting, Holding, Answering, Answered}
use Rattle.rules.specs.declared.chip.Sequenced.{Sequenced}
use Rattle.rules.specs.declared.chip.Status.{Status}
use Rattle.rules.specs.declared.codes.Code.TheVariants.{Done}
use Rattle.rules.specs.declared.records.Event.TheVariants.{Ticks}
use Rattle.rules.proofs.Logic.{never}
use Rattle.rules.proofs.Resolving.{Calm, calm_still, rest_calm, sequenced_into}
use Rattle.rules.proofs.OneTick.{ticked}
use Rattle.rules.proofs.Still.{status_d_still}
use Rattle.quick.proofs.Stands.{Unraised, raised_stands}
use Rattle.quick.proofs.SelectionWrites.{Dormant, sleeps, dormant}
use Rattle.quick.proofs.Turns.{Changes, changed, no_handshake_lem, unready, tick_lands}
use Rattle.quick.proofs.Phases.{not_called}

-- seven quiet ticks, neither BSY nor SEL seen, RST not seen, idle or waiting; no path comes of IOEXP 0
pub record Frees (s : State) : Type 0 where
  pub quiet : s.quiet ≡ 7
  pub bsy : bsy_seen s ≡ false
  pub sel : sel_seen s ≡ false
  pub others : s.lines.sel ≡ false
  pub rst : rst_seen s ≡ false
  pub asleep : sleeps s.sequencer.phase ≡ true
  pub stuck : can_move (conditions (bus_freed (with_quiet 8 s))) s.transfer ≡ false
  pub fwerr : fifo_conflict (bus_freed (with_quiet 8 s)).registers ≡ true → s.status.fwerr ≡ true

module _ (s : State) (k : Frees s) where
  abbrev f : State
  f = bus_freed (with_quiet 8 s)

  eight : quiet_after 1 s ≡ 8
  unfolding quiet_after
  eight = rw (k.bsy, k.sel, k.quiet)

  free : bus_free 1 s ≡ true
  unfolding bus_free
  free = rw (eight, k.quiet)

  freed : after_quiet_ticks 1 s ≡ f
  unfolding after_quiet_ticks
  freed = λ j. cond (free j) (bus_freed (with_quiet (eight j) s)) (with_quiet (eight j) s)

  -- waiting starts again at 0 ticks
  abbrev pub ticks_held : Phase → ℕ
  ticks_held p = cond (is_phase Waiting p) 0 s.sequencer.ticks

  abbrev held : Phase → Sequenced
  held p = sequenced_with (in_ticks (ticks_held p) (selection_freed s.sequencer)) (sequenced_of f)

  tick_held : (p : Phase) → sleeps p ≡ true → tick_in p 7 f (sequenced_of f) ≡ held p
  unfolding tick_in waiting_for waited sequenced_of bus_freed selection_freed is_phase phase_number
  tick_held Idle h = refl
  tick_held Waiting h = refl
  tick_held Arbitrating h = absurd (never h)
  tick_held Clearing h = absurd (never h)
  tick_held Selecting h = absurd (never h)
  tick_held Holding h = absurd (never h)
  tick_held Answering h = absurd (never h)
  tick_held Answered h = absurd (never h)

  abbrev z : Sequenced
  z = held s.sequencer.phase

  ticks : tick_in f.sequencer.phase s.quiet f (sequenced_of f) ≡ z
  unfolding bus_freed selection_freed
  ticks =
      ap (λ (n : ℕ). tick_in s.sequencer.phase n f (sequenced_of f)) k.quiet ∙ tick_held s.sequencer.phase k.asleep

  d : Dormant s.sequencer.phase
  d = dormant s.sequencer.phase k.asleep

  uncalled_here : called f ≡ false
  unfolding bus_freed
  uncalled_here = not_called f k.others

  rst_same : rst_seen f ≡ false
  unfolding bus_freed rst_seen
  rst_same = k.rst

  -- what the chip leaves
  abbrev pub freed_left : State
  freed_left = with_sequencer (in_ticks (ticks_held s.sequencer.phase) (selection_freed s.sequencer)) f

  into : sequenced_into z f ≡ freed_left
  unfolding sequenced_of
  into = refl

  bsy_unseen : bsy_seen freed_left ≡ false
  unfolding bus_freed selection_freed bsy_seen
  bsy_unseen = none s.lines.bsy s.registers.scsisig.bsyo (phase_bsy s.sequencer.phase) k.bsy
    where
      none : (a b c : Bool) → ((a || b) || c) ≡ false → ((a || false) || c) ≡ false
      none true b c h = absurd (never (sym h))
      none false true c h = absurd (never (sym h))
      none false false c h = h

  alone : connected freed_left ≡ false
  unfolding connected
  alone = rw bsy_unseen

  module _ (r : AtRest s) (i : InRange s) where
    calm : Calm f z
    unfolding sequenced_of bus_freed selection_freed
    calm =
        record {
          uncalled = rw d.answering;
          let_go = rw d.answered;
          forestalled = rw d.arbitrating;
          connected = rw (d.selecting, d.holding);
          begun = (rest_calm s r.sequencer k.rst).begun;
          withdrawn = rw and-false;
          answered = rw (uncalled_here, and-false);
        }

    changes : Changes s f z z
    changes =
        record { quiet = freed; rst = rst_same; tick = ticks; resolves = calm_still f z calm; alone = rw into alone }

    is : ticked s ≡ freed_left
    is = changed s f z z changes ∙ into

    moves_not : can_move (conditions freed_left) freed_left.transfer ≡ false
    unfolding can_move conditions bus_freed
    moves_not = k.stuck

    resting : Resting (conditions freed_left) freed_left.transfer
    unfolding sequenced_of
    resting = record { no_move = moves_not; no_handshake = no_handshake_lem s f z z changes }

    unraised : Unraised s freed_left
    unfolding bus_freed sequenced_of
    unraised =
        record { fwerr = k.fwerr; spiordy = λ e. absurd (never (sym (unready s f z z changes) ∙ e)); enables0 = refl; enables1 = refl }

    -- REQINIT is clear where ACK is seen: no more of it is seen than before
    still_clear : ack_seen freed_left ≡ true → freed_left.status.reqinit ≡ false
    unfolding bus_freed ack_seen ack_driven manual
    still_clear e = r.reqinit (go s.lines.ack s.transfer.ack (not s.registers.sxfrctl0.spioen && not s.registers.sxfrctl0.dmaen) s.registers.scsisig.acko e)
      where
        go : (x y m w : Bool) → (x || (false || (m && false))) ≡ true → (x || (y || (m && w))) ≡ true
        go true y m w h = refl
        go false y true w h = absurd (never h)
        go false y false w h = absurd (never h)

    -- BUS FREE: BUSFREE rises, and its latch sets where it is enabled
    pub frees_next : access s (Ticks 1)
        ≡ ended (with_latches (latches_d s.registers s.registers s.status freed_left.status s.latches) freed_left) Done 0
    unfolding finished started latches_d bus_freed
    frees_next =
        tick_lands s freed_left r i is resting
        ∙ ap (λ (n : State). ended n Done 0)
        ((λ j.
        let t = raised_stands s freed_left unraised j in
        with_status (status_d 0 (ack_seen freed_left) t)
        (with_latches (latches_d s.registers s.registers s.status t s.latches) freed_left))
        ∙ ap
        (λ (t : Status). with_status t (with_latches (latches_d s.registers s.registers s.status freed_left.status s.latches) freed_left))
        (status_d_still (ack_seen freed_left) freed_left.status still_clear))

-- NO BYTE MOVES outside Normal mode
module _ (s : State) (mode : normal s.registers ≡ false) where
  no_path : path (bus_freed (with_quiet 8 s)).registers ≡ false
  unfolding path normal bus_freed
  no_path = rw mode

  pub mode_stuck : can_move (conditions (bus_freed (with_quiet 8 s))) s.transfer ≡ false
  unfolding can_move conditions
  mode_stuck = rw no_path

  no_conflict : fifo_conflict (bus_freed (with_quiet 8 s)).registers ≡ false
  unfolding fifo_conflict normal bus_freed
  no_conflict = rw mode

  pub mode_fwerr : fifo_conflict (bus_freed (with_quiet 8 s)).registers ≡ true → s.status.fwerr ≡ true
  mode_fwerr e = absurd (never (sym no_conflict ∙ e))

-- nor with IOEXP 0 already, so that the path is as before
module _ (s : State) (ioexp : s.registers.scsisig.ioexp ≡ false) (r : AtRest s) where
  same_path : path (bus_freed (with_quiet 8 s)).registers ≡ path s.registers
  unfolding path normal bus_freed
  same_path = rw ioexp

  pub already_stuck : can_move (conditions (bus_freed (with_quiet 8 s))) s.transfer ≡ false
  unfolding can_move conditions bus_freed
  already_stuck = rw same_path r.resting.no_move

  pub already_fwerr : fifo_conflict (bus_freed (with_quiet 8 s)).registers ≡ true → s.status.fwerr ≡ true
  unfolding fifo_conflict normal bus_freed
  already_fwerr e = r.fwerr (rw same_path at e)
