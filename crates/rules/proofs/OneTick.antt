-- A tick of a chip at rest: only the quiet ticks, the sequencer and PHASECHG are left of B, and before the next change a tick only
-- counts.
use Prim.Native.Nat.{ℕ, ◌+◌, ◌*◌, ◌-◌, ◌≤◌, ◌<◌, min, max}
use mathlib.Core.Path.{◌≡◌, refl, ap, sym, ◌∙◌, subst}
use mathlib.Core.Bool.{Bool, true, false, not, ◌&&◌, ◌||◌, cond, and-not_self}
use mathlib.Core.List.{[], ◌∷◌}
use native.Mathlib.Omega.{arith}
use lib.Dec.{eqb, leb}
use lib.ListN.{get_or}
use borrow.Author.Tests.{leb-true, le-leb, lt-leb}
use Rattle.rules.specs.Numbers.{one}
use Rattle.rules.specs.Counter.{counter_size}
use Rattle.rules.specs.State.{State}
use Rattle.rules.specs.Changed.{with_quiet, with_sequencer}
use Rattle.rules.specs.Seen.{phase_number, is_phase, phase_sel, phase_drives, rst_seen, bsy_seen, sel_seen, connected, matched, mismatched, synchronous, ack_seen, ack_driven, byte_driving, byte_driven, driving, data_driven, data_seen}
use Rattle.rules.specs.Events.{ticks_of, lines_after}
use Rattle.rules.specs.Reads.{value_read}
use Rattle.rules.specs.Sequencer.{bus_free_delay, arbitration_delay, clearing_delay, settle_delay, timeout, called, sequenced_of, waited, silenced, waiting_for, arbitrating_for, clearing_for, selecting_for, answering_for, tick_in, resolved, sequenced}
use Rattle.rules.specs.declared.chip.Sequenced.{Sequenced}
use Rattle.rules.specs.StepB.{quiet_after, bus_free, after_quiet_ticks, phase_changes, after_phase_changes, after_sequencer, first_four, in_order, after_b}
use Rattle.rules.specs.StepC.{Settling, conditions, settle, turns, started, settled_c}
use Rattle.rules.specs.StepD.{pio_ready, status_raised, finished, after_d}
use Rattle.rules.specs.Answers.{Stepped}
use Rattle.rules.specs.Step.{ended, done, access}
use Rattle.rules.specs.Ticks.{bus_taken, bus_waits, ticks_in, advanced, unreached, bus_free_distance, delay_left, distance_in, distance}
use Rattle.rules.specs.Ranges.{InRange}
use Rattle.rules.specs.declared.codes.Code.TheVariants.{Done}
use Rattle.rules.specs.declared.registers.Registers.{Registers}
use Rattle.rules.specs.declared.chip.Phase.{Phase}
use Rattle.rules.specs.declared.chip.Phase.TheVariants.{Idle, Waiting, Arbitrating, Clearing, Selecting, Holding, Answering, Answered}
use Rattle.rules.specs.declared.records.Event.TheVariants.{Ticks}
use Rattle.rules.proofs.Logic.{never, cond_case}
use Rattle.rules.proofs.Sequencing.{timeout_least}
use Rattle.rules.proofs.Resolving.{Calm, Sequential, Quieted, calm_still, silenced_still, rest_quieted, rest_calm, sequential_by, sequenced_into, sequenced_into_lem, drives_line}
use Rattle.rules.proofs.Refusals.{not_beyond}
use Rattle.rules.proofs.Rest.{settle_rests}
use Rattle.rules.proofs.Still.{after_a_still, falls_still, reset_still, rises_still, finished_still, ticks_done}
use Rattle.rules.specs.Rest.{AtRest}

-- one tick of B by itself
unfoldable pub ticked : State → State
ticked s = after_phase_changes s (after_sequencer true s.quiet (after_quiet_ticks 1 s))

pub b_ticks : (s : State) → AtRest s → after_b s (Ticks 1) ≡ ticked s
unfolding after_b ticks_of in_order first_four ticked
b_ticks s r =
    ap (λ (a : State). in_order s 1 a) (after_a_still s 1 r)
    ∙ simp (falls_still s, reset_still s, rises_still s)

-- C and D of a state that B left
abbrev pub settled_from : State → Settling
settled_from b = settle (conditions b) turns (started b)

pub c_ticks : (s : State) → AtRest s → settled_c s (Ticks 1) ≡ settled_from (ticked s)
unfolding settled_c
c_ticks s r = ap settled_from (b_ticks s r)

pub d_ticks : (s : State) → AtRest s → after_d s (Ticks 1) ≡ finished s s (ticked s) (settled_from (ticked s))
unfolding after_d
d_ticks s r = λ i. finished s (after_a_still s 1 r i) (b_ticks s r i) (c_ticks s r i)

-- an event of one tick is done, with code 0 and no value
abbrev pub plain : State → Stepped
plain s =
    record {
      state = after_d s (Ticks 1);
      code = Done;
      value = 0;
      moves = (settled_c s (Ticks 1)).moves;
      acks = (settled_c s (Ticks 1)).acks;
      sent = (settled_c s (Ticks 1)).sent;
    }

pub tick_plain : (s : State) → InRange s → access s (Ticks 1) ≡ plain s
unfolding access done value_read lines_after
tick_plain s i = rw (ticks_done s 1 i.transfer.host, not_beyond s (Ticks 1) refl)

-- the shortest timeout
timeout_most : (r : Registers) → 640000 ≤ timeout r
unfolding timeout
timeout_most r = go r.sxfrctl1.stimesel1 r.sxfrctl1.stimesel0
  where
    go : (a b : Bool) → 640000 ≤ get_or (5120000 ∷ 2560000 ∷ 1280000 ∷ 640000 ∷ []) (one a * 2 + one b) 0
    go true true = omega arith
    go true false = omega arith
    go false true = omega arith
    go false false = omega arith

-- below the one of two that a test picks
below_first : (b : Bool) (k x y : ℕ) → b ≡ true → k < cond b x y → k < x
below_first true k x y e h = h
below_first false k x y e h = absurd (never e)

below_second : (b : Bool) (k x y : ℕ) → b ≡ false → k < cond b x y → k < y
below_second true k x y e h = absurd (never (sym e))
below_second false k x y e h = h

-- a phase in which RST is seen at rest is idle
idle_ticks : (p : Phase) (k : ℕ) (s : State) → is_phase Idle p ≡ true → ticks_in p k s ≡ s.sequencer.ticks
unfolding is_phase phase_number ticks_in
idle_ticks Idle k s e = refl
idle_ticks Waiting k s e = absurd (never e)
idle_ticks Arbitrating k s e = absurd (never e)
idle_ticks Clearing k s e = absurd (never e)
idle_ticks Selecting k s e = absurd (never e)
idle_ticks Holding k s e = refl
idle_ticks Answering k s e = absurd (never e)
idle_ticks Answered k s e = refl

not_idle : (s : State) → s.sequencer.phase ≡ Answering → is_phase Idle s.sequencer.phase ≡ true → ⊥
unfolding is_phase phase_number
not_idle s e h = never (subst (λ (p : Phase). is_phase Idle p ≡ true) e h)

-- answering, it is called, and others drive SEL
pub sel_called : (e s i b n : Bool) → not (e && s && i && b && n) ≡ false → s ≡ true
sel_called e true i b n h = refl
sel_called true false i b n h = absurd (never (sym h))
sel_called false false i b n h = absurd (never (sym h))

sel_seen_lem : (a b c d : Bool) → c ≡ true → (a || ((c || b) || d)) ≡ true
sel_seen_lem true b c d h = refl
sel_seen_lem false b true d h = refl
sel_seen_lem false b false d h = absurd (never h)

module _ (s : State) (r : AtRest s) where
  pub answering_called : s.sequencer.phase ≡ Answering → s.lines.sel ≡ true
  unfolding sequenced_of called is_phase phase_number
  answering_called e = go (rst_seen s) refl
    where
      answers : (p : Phase) (c : Bool) → p ≡ Answering → (is_phase Answering p && not c) ≡ false → not c ≡ false
      answers p c f h = subst (λ (q : Phase). (is_phase Answering q && not c) ≡ false) f h

      go : (b : Bool) → rst_seen s ≡ b → s.lines.sel ≡ true
      go true f = absurd (not_idle s e (rest_quieted s r.sequencer f).phase)
      go false f =
          sel_called s.registers.scsiseq.enrseli s.lines.sel _ _ _
          (answers s.sequencer.phase (called s) e (rest_calm s r.sequencer f).uncalled)

  answering_taken : s.sequencer.phase ≡ Answering → bus_taken s ≡ true
  unfolding sel_seen
  answering_taken e =
      sel_seen_lem (bsy_seen s) s.registers.scsisig.selo s.lines.sel (phase_sel s.sequencer.phase) (answering_called e)

  -- a phase that gives data takes the bus
  driving_taken : (p : Phase) → s.sequencer.phase ≡ p → phase_drives p ≡ true → bus_taken s ≡ true
  unfolding bsy_seen sel_seen
  driving_taken p e d =
      drives_line s.sequencer.phase (s.lines.bsy || s.registers.scsisig.bsyo) (s.lines.sel || s.registers.scsisig.selo)
      (ap phase_drives e ∙ d)

  -- BELOW THE DISTANCE NO BUS FREE COMES
  module _ (k : ℕ) where
    far : k < bus_free_distance s → bus_taken s ≡ false → leb 8 s.quiet ≡ false → s.quiet + k < 8
    unfolding bus_free_distance
    far h t q =
        let d : k < 8 - s.quiet = rw (t, q) at h in
        omega arith

    far_in : (p : Phase) → s.sequencer.phase ≡ p → k < distance_in p s → bus_taken s ≡ false → leb 8 s.quiet ≡ false → s.quiet + k < 8
    unfolding distance_in phase_drives
    far_in Idle e h t q = far h t q
    far_in Waiting e h t q = far (rw q at h) t q
    far_in Arbitrating e h t q = absurd (never (sym t ∙ driving_taken Arbitrating e refl))
    far_in Clearing e h t q = absurd (never (sym t ∙ driving_taken Clearing e refl))
    far_in Selecting e h t q = absurd (never (sym t ∙ driving_taken Selecting e refl))
    far_in Holding e h t q = far h t q
    far_in Answering e h t q = absurd (never (sym t ∙ answering_taken e))
    far_in Answered e h t q = far h t q

    -- so that the quiet ticks stay below 8, or at it
    module _ (i : InRange s) (h : k < distance s) where
      pub no_free : leb 8 (quiet_after k s) ≡ leb 8 s.quiet
      unfolding quiet_after distance
      no_free = go (bus_taken s) (leb 8 s.quiet) refl refl
        where
          go : (t q : Bool) → bus_taken s ≡ t → leb 8 s.quiet ≡ q → leb 8 (cond t 0 (min 8 (s.quiet + k))) ≡ q
          go true q e f = rw (r.quiet e) at f
          go false true e f = le-leb 8 (min 8 (s.quiet + k)) (omega (arith, leb-true 8 s.quiet f))
          go false false e f =
              lt-leb 8 (min 8 (s.quiet + k)) (omega (arith, far_in s.sequencer.phase refl h e f))

      -- AND THE CHIP STAYS AT REST
      quiet_apart : (b : Bool) → b ≡ true → cond b 0 (min 8 (s.quiet + k)) ≡ 0
      quiet_apart true e = refl
      quiet_apart false e = absurd (never e)

      advanced_quieted : Quieted s → Quieted (advanced k s)
      unfolding advanced
      advanced_quieted c = record { phase = c.phase; selingo = c.selingo }

      advanced_calm : Calm s (sequenced_of s) → Calm (advanced k s) (sequenced_of (advanced k s))
      unfolding advanced sequenced_of called
      advanced_calm c =
          record {
            uncalled = c.uncalled;
            let_go = c.let_go;
            forestalled = c.forestalled;
            connected = c.connected;
            begun = c.begun;
            withdrawn = rw no_free c.withdrawn;
            answered = c.answered;
          }

      advanced_sequential : Sequential (advanced k s)
      unfolding advanced rst_seen
      advanced_sequential =
          sequential_by (advanced k s) (λ e. advanced_quieted (rest_quieted s r.sequencer e))
          (λ e. advanced_calm (rest_calm s r.sequencer e))

      pub advanced_rests : AtRest (advanced k s)
      unfolding advanced conditions data_seen data_driven byte_driven byte_driving driving pio_ready ack_seen ack_driven matched connected rst_seen bsy_seen sel_seen synchronous quiet_after
      advanced_rests =
          record {
            resting = r.resting;
            fwerr = r.fwerr;
            spiordy = r.spiordy;
            reqinit = r.reqinit;
            scsiperr = r.scsiperr;
            quiet = λ e. quiet_apart (bus_taken s) e;
            sequencer = advanced_sequential;
          }

      -- and in range
      ticks_fit : (p : Phase) → k < distance_in p s → (b : Bool) → eqb k 0 ≡ b → cond b s.sequencer.ticks (ticks_in p k s) < counter_size
      unfolding ticks_in distance_in
      ticks_fit p d true e = i.sequencer
      ticks_fit Idle d false e = i.sequencer
      ticks_fit Waiting d false e = go (bus_waits s) refl
        where
          go : (b : Bool) → bus_waits s ≡ b → cond b (s.sequencer.ticks + k) 0 < counter_size
          go true f =
              let g : k < max 1 (16 - s.sequencer.ticks) = rw f at d in
              omega (arith, i.sequencer)
          go false f = omega arith
      ticks_fit Arbitrating d false e = omega (arith, i.sequencer)
      ticks_fit Clearing d false e = omega (arith, i.sequencer)
      ticks_fit Selecting d false e = go s.registers.sxfrctl1.enstimer refl
        where
          go : (b : Bool) → s.registers.sxfrctl1.enstimer ≡ b → cond b (s.sequencer.ticks + k) 0 < counter_size
          go true f =
              let g = below_first s.registers.sxfrctl1.enstimer k (delay_left (timeout s.registers) s.sequencer.ticks) unreached f d in
              omega (arith, g, i.sequencer, timeout_least s.registers)
          go false f = omega arith
      ticks_fit Holding d false e = i.sequencer
      ticks_fit Answering d false e = omega (arith, i.sequencer)
      ticks_fit Answered d false e = i.sequencer

      quiet_fits_lem : (b : Bool) → cond b 0 (min 8 (s.quiet + k)) ≤ 8
      quiet_fits_lem true = omega arith
      quiet_fits_lem false = omega arith

      pub advanced_fits : InRange (advanced k s)
      unfolding advanced distance quiet_after
      advanced_fits =
          record {
            registers = i.registers;
            transfer = i.transfer;
            stack = i.stack;
            quiet = quiet_fits_lem (bus_taken s);
            identity = i.identity;
            sequencer = ticks_fit s.sequencer.phase h (eqb k 0) refl;
          }

-- ticks that only count change no connection
pub advanced_connected : (k : ℕ) (s : State) → connected (advanced k s) ≡ connected s
unfolding advanced connected rst_seen bsy_seen sel_seen
advanced_connected k s = refl

-- A TICK BELOW THE DISTANCE ONLY COUNTS
module _ (s : State) (r : AtRest s) (i : InRange s) (h : 1 < distance s) where
  abbrev quieter : State
  quieter = with_quiet (quiet_after 1 s) s

  free_not : after_quiet_ticks 1 s ≡ quieter
  unfolding after_quiet_ticks bus_free
  free_not = rw (no_free s r 1 i h, and-not_self (leb 8 s.quiet))

  waits_for : (p : Phase) → 1 < distance_in p s → tick_in p s.quiet quieter (sequenced_of quieter) ≡ waited (ticks_in p 1 s) (sequenced_of quieter)
  unfolding tick_in ticks_in distance_in sequenced_of waited waiting_for arbitrating_for clearing_for selecting_for answering_for bsy_seen sel_seen
  waits_for Idle d = refl
  waits_for Waiting d = go (bus_waits s) refl
    where
      x : Sequenced
      x = sequenced_of quieter

      go : (b : Bool) → bus_waits s ≡ b → waiting_for (cond b (s.sequencer.ticks + 1) 0) x ≡ waited (cond b (s.sequencer.ticks + 1) 0) x
      go true e =
          let g = below_first (bus_waits s) 1 (delay_left bus_free_delay s.sequencer.ticks) (bus_free_distance s) e d in
          rw (lt-leb bus_free_delay (s.sequencer.ticks + 1) (omega (arith, g)))
      go false e = refl
  waits_for Arbitrating d = rw (lt-leb arbitration_delay (s.sequencer.ticks + 1) (omega (arith, d)))
  waits_for Clearing d = rw (lt-leb clearing_delay (s.sequencer.ticks + 1) (omega (arith, d)))
  waits_for Selecting d = go s.registers.sxfrctl1.enstimer refl
    where
      x : Sequenced
      x = sequenced_of quieter

      go : (b : Bool) → s.registers.sxfrctl1.enstimer ≡ b → selecting_for quieter (cond b (s.sequencer.ticks + 1) 0) x ≡ waited (cond b (s.sequencer.ticks + 1) 0) x
      go true e =
          let g = below_first s.registers.sxfrctl1.enstimer 1 (delay_left (timeout s.registers) s.sequencer.ticks) unreached e d in
          rw (lt-leb (timeout s.registers) (s.sequencer.ticks + 1) (omega (arith, g)))
      go false e = rw (lt-leb (timeout s.registers) 0 (omega (arith, timeout_most s.registers)))
  waits_for Holding d = refl
  waits_for Answering d = rw (lt-leb settle_delay (s.sequencer.ticks + 1) (omega (arith, d)))
  waits_for Answered d = refl

  -- the sequencer counts and changes nothing else
  left : waited (ticks_in s.sequencer.phase 1 s) (sequenced_of quieter) ≡ sequenced_of (advanced 1 s)
  unfolding waited sequenced_of advanced
  left = refl

  idle_left : is_phase Idle s.sequencer.phase ≡ true → sequenced_of quieter ≡ sequenced_of (advanced 1 s)
  unfolding waited sequenced_of
  idle_left e =
      ap (λ (n : ℕ). waited n (sequenced_of quieter)) (sym (idle_ticks s.sequencer.phase 1 s e)) ∙ left

  calm_left : Calm s (sequenced_of s) → Calm quieter (sequenced_of (advanced 1 s))
  unfolding advanced called
  calm_left c =
      let k = advanced_calm s r 1 i h c in
      record {
        uncalled = k.uncalled;
        let_go = k.let_go;
        forestalled = k.forestalled;
        connected = k.connected;
        begun = k.begun;
        withdrawn = k.withdrawn;
        answered = k.answered;
      }

  counted : sequenced true s.quiet quieter ≡ sequenced_of (advanced 1 s)
  unfolding sequenced rst_seen distance sequenced_of
  counted =
      let x = sequenced_of quieter in
      let y = sequenced_of (advanced 1 s) in
      cond_case (λ (z : Sequenced). z ≡ y) (rst_seen s) (silenced x) (resolved quieter (tick_in s.sequencer.phase s.quiet quieter x))
      (λ e.
      let c = rest_quieted s r.sequencer e in
      silenced_still x c.phase c.selingo ∙ idle_left c.phase)
      (λ e.
      ap (resolved quieter) (waits_for s.sequencer.phase h ∙ left) ∙ calm_still quieter y (calm_left (rest_calm s r.sequencer e)))

  into : sequenced_into (sequenced_of (advanced 1 s)) quieter ≡ advanced 1 s
  unfolding sequenced_of advanced
  into = refl

  same_mismatched : mismatched (advanced 1 s) ≡ mismatched s
  unfolding advanced mismatched matched connected rst_seen bsy_seen sel_seen
  same_mismatched = refl

  no_change : phase_changes s (advanced 1 s) ≡ false
  unfolding phase_changes
  no_change = rw same_mismatched (and-not_self (mismatched s))

  pub ticked_steady : ticked s ≡ advanced 1 s
  unfolding ticked after_phase_changes
  ticked_steady =
      let m : after_sequencer true s.quiet (after_quiet_ticks 1 s) ≡ advanced 1 s
      = ap (λ (n : State). after_sequencer true s.quiet n) free_not ∙ sequenced_into_lem quieter true s.quiet
      ∙ ap (λ (x : Sequenced). sequenced_into x quieter) counted ∙ into in
      ap (after_phase_changes s) m ∙ rw no_change

  -- settling finds nothing, and D leaves all as it is
  settled_steady : settled_from (advanced 1 s) ≡ started (advanced 1 s)
  unfolding started
  settled_steady =
      settle_rests (conditions (advanced 1 s)) turns (started (advanced 1 s)) (advanced_rests s r 1 i h).resting

  finished_steady : finished s s (advanced 1 s) (started (advanced 1 s)) ≡ advanced 1 s
  unfolding advanced finished started status_raised pio_ready ack_seen ack_driven matched connected rst_seen bsy_seen sel_seen
  finished_steady =
      ap (λ (t : State). with_quiet (advanced 1 s).quiet (with_sequencer (advanced 1 s).sequencer t)) (finished_still s r)

  steady_state : after_d s (Ticks 1) ≡ advanced 1 s
  steady_state =
      d_ticks s r ∙ ap (λ (b : State). finished s s b (settled_from b)) ticked_steady
      ∙ ap (λ (c : Settling). finished s s (advanced 1 s) c) settled_steady ∙ finished_steady

  steady_settled : settled_c s (Ticks 1) ≡ started (advanced 1 s)
  steady_settled = c_ticks s r ∙ ap settled_from ticked_steady ∙ settled_steady

  -- BELOW THE DISTANCE A TICK COUNTS AND REPORTS NOTHING
  pub steady_tick : access s (Ticks 1) ≡ ended (advanced 1 s) Done 0
  unfolding ended started
  steady_tick =
      tick_plain s i
      ∙ (λ j. record { state = steady_state j; code = Done; value = 0; moves = (steady_settled j).moves; acks = (steady_settled j).acks; sent = (steady_settled j).sent })
