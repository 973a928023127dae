-- A write to 340h, the sequencer idle or waiting, RST neither seen nor driven by it, no SEL of others: A, then "idle, and asked: waiting"
-- and "waiting, not asked, and the quiet ticks below 8: idle".
use mathlib.Core.Path.{◌≡◌, refl, ◌∙◌, ap, subst}
use mathlib.Core.Bool.{Bool, true, false, ◌||◌, cond, and-false}
use Prim.Native.Nat.{ℕ}
use Rattle.rules.specs.Rest.{AtRest, Resting}
use Rattle.rules.specs.State.{State}
use Rattle.rules.specs.Changed.{with_registers, with_status, with_sequencer}
use Rattle.rules.specs.Numbers.{bit}
use Rattle.rules.specs.Registers.{scsiseq_of}
use Rattle.rules.specs.Map.{offset_of}
use Rattle.rules.specs.Seen.{phase_bsy, phase_sel, phase_number, is_phase, ack_driven, ack_seen, automatic, bsy_seen, connected, manual, matched, mismatched, normal, path, rst_seen, sel_seen, synchronous}
use Rattle.rules.specs.Events.{ticks_of}
use Rattle.rules.specs.Reads.{value_read}
use Rattle.rules.specs.Codes.{access_code}
use Rattle.rules.specs.Sequencer.{called, sequenced_with, entered, silenced, sequenced_of, sequenced, resolved, uncalled, let_go, forestalled, selected, begun, withdrawn, answers}
use Rattle.rules.specs.StepA.{latch_access, automatic_ack, after_a}
use Rattle.rules.specs.StepB.{registers_with, req_falls, after_req_falls, rst_rises, after_rst_rises, req_rises, after_req_rises, after_sequencer, quiet_after, phase_changes, beyond}
use Rattle.rules.specs.StepC.{conditions, can_move, can_handshake, can_synchronous, can_asynchronous, turns, started}
use Rattle.rules.specs.StepD.{fifo_conflict, pio_ready, status_raised, latches_d, finished}
use Rattle.rules.specs.Step.{ended, access, done}
use Rattle.rules.specs.Ranges.{InRange}
use Rattle.rules.specs.declared.registers.Scsiseq.{Scsiseq}
use Rattle.rules.specs.declared.chip.Phase.{Phase}
use Rattle.rules.specs.declared.chip.Phase.TheVariants.{Idle, Waiting, Arbitrating, Clearing, Selecting, Holding, Answering, Answered}
use Rattle.rules.specs.declared.chip.Sequenced.{Sequenced}
use Rattle.rules.specs.declared.map.Register.TheVariants.{SCSISEQ}
use Rattle.rules.specs.declared.codes.Code.TheVariants.{Done}
use Rattle.rules.specs.declared.records.Event.{Event}
use Rattle.rules.specs.declared.records.Event.TheVariants.{Write}
use Rattle.rules.proofs.Logic.{never, cond_case}
use Rattle.rules.proofs.Rest.{settle_rests}
use Rattle.rules.proofs.Resolving.{to_begin, to_withdraw, tickless, sequenced_into_lem, sequenced_into, sequencer_calm}
use Rattle.rules.proofs.Still.{no_fall, no_reset, no_rise, no_change, quiet_still}
use Rattle.quick.proofs.Opened.{own_effect}
use Rattle.quick.proofs.Passes.{Passes, left, passes}
use Rattle.quick.proofs.Stands.{Stands, acked_still, edges_stand, none_beyond, finished_stands}
use Rattle.quick.proofs.PlainWrites.{checked, write_done}

-- idle or waiting: the sequencer drives nothing and gives up nothing
pub record Dormant (p : Phase) : Type 0 where
  pub bsy : phase_bsy p ≡ false
  pub sel : phase_sel p ≡ false
  pub arbitrating : is_phase Arbitrating p ≡ false
  pub selecting : is_phase Selecting p ≡ false
  pub holding : is_phase Holding p ≡ false
  pub answering : is_phase Answering p ≡ false
  pub answered : is_phase Answered p ≡ false

abbrev pub sleeps : Phase → Bool
sleeps p = is_phase Idle p || is_phase Waiting p

pub dormant : (p : Phase) → sleeps p ≡ true → Dormant p
unfolding phase_bsy phase_sel is_phase phase_number
dormant Idle h =
    record { bsy = refl; sel = refl; arbitrating = refl; selecting = refl; holding = refl; answering = refl; answered = refl }
dormant Waiting h =
    record { bsy = refl; sel = refl; arbitrating = refl; selecting = refl; holding = refl; answering = refl; answered = refl }
dormant Arbitrating h = absurd (never h)
dormant Clearing h = absurd (never h)
dormant Selecting h = absurd (never h)
dormant Holding h = absurd (never h)
dormant Answering h = absurd (never h)
dormant Answered h = absurd (never h)

-- s with another 340h, SCSIRSTO as it was, and another SCSIPERR
abbrev pub asked_with : Scsiseq → Bool → State → State
asked_with q error s =
    let r = s.registers in
    with_registers
    (registers_with
    (record {
      temodeo = q.temodeo;
      enselo = q.enselo;
      enseli = q.enseli;
      enrseli = q.enrseli;
      enautoatno = q.enautoatno;
      enautoatni = q.enautoatni;
      enautoatnp = q.enautoatnp;
      scsirsto = r.scsiseq.scsirsto;
    })
    r.sxfrctl0 r.scsisig r)
    (with_status (checked error s.status) s)

-- and the sequencer in another phase, with so many ticks
abbrev pub phased : Phase → ℕ → State → State
phased p n s =
    let q = s.sequencer in
    with_sequencer
    (record { phase = p; ticks = n; noted = q.noted; selid = q.selid; status = q.status; latches = q.latches }) s

module _ (s : State) (q : Scsiseq) (error : Bool) where
  abbrev m : State
  m = asked_with q error s

  -- WHAT THE SEQUENCER MAKES OF IT
  abbrev pub turned : Sequenced
  turned = withdrawn m (begun m (sequenced_of m))

  abbrev pub turned_phase : Phase
  turned_phase = turned.sequencer.phase

  abbrev b : State
  b = phased turned_phase turned.sequencer.ticks m

  -- no more than phase and ticks are others than before
  abbrev Like : Sequenced → Type 0
  Like x =
      x
      ≡ sequenced_with
      (record {
        phase = x.sequencer.phase;
        ticks = x.sequencer.ticks;
        noted = s.sequencer.noted;
        selid = s.sequencer.selid;
        status = s.sequencer.status;
        latches = s.sequencer.latches;
      })
      (sequenced_of m)

  like_entered : (p : Phase) (x : Sequenced) → Like x → Like (entered p x)
  unfolding entered
  like_entered p x h = ap (entered p) h

  like_now : Like (sequenced_of m)
  unfolding sequenced_of
  like_now = refl

  like_begun : Like (begun m (sequenced_of m))
  unfolding begun
  like_begun =
      let x = sequenced_of m in
      cond_case Like (to_begin m x) (entered Waiting x) x (λ c. like_entered Waiting x like_now) (λ c. like_now)

  like_turned : Like turned
  unfolding withdrawn
  like_turned =
      let x = begun m (sequenced_of m) in
      cond_case Like (to_withdraw m x) (entered Idle x) x (λ c. like_entered Idle x like_begun) (λ c. like_begun)

  turned_into : sequenced_into turned m ≡ b
  unfolding sequenced_of
  turned_into = ap (λ (x : Sequenced). sequenced_into x m) like_turned

  module _ (asleep : sleeps s.sequencer.phase ≡ true) where
    abbrev Sleeps : Sequenced → Type 0
    Sleeps x = sleeps x.sequencer.phase ≡ true

    begun_sleeps : Sleeps (begun m (sequenced_of m))
    unfolding begun sequenced_of entered is_phase phase_number
    begun_sleeps =
        let x = sequenced_of m in
        cond_case Sleeps (to_begin m x) (entered Waiting x) x (λ c. refl) (λ c. asleep)

    turned_sleeps : sleeps turned_phase ≡ true
    unfolding withdrawn entered is_phase phase_number
    turned_sleeps =
        let x = begun m (sequenced_of m) in
        cond_case Sleeps (to_withdraw m x) (entered Idle x) x (λ c. refl) (λ c. begun_sleeps)

    d : Dormant s.sequencer.phase
    d = dormant s.sequencer.phase asleep

    -- the other rules have nothing to do
    none_uncalled : uncalled m (sequenced_of m) ≡ sequenced_of m
    unfolding uncalled sequenced_of
    none_uncalled = rw d.answering

    none_let_go : let_go m (sequenced_of m) ≡ sequenced_of m
    unfolding let_go sequenced_of
    none_let_go = rw d.answered

    none_forestalled : forestalled m (sequenced_of m) ≡ sequenced_of m
    unfolding forestalled sequenced_of
    none_forestalled = rw d.arbitrating

    none_selected : selected m (sequenced_of m) ≡ sequenced_of m
    unfolding selected sequenced_of
    none_selected = rw (d.selecting, d.holding)

    module _ (sel : s.lines.sel ≡ false) (rst : rst_seen s ≡ false) where
      uncalled_here : called m ≡ false
      unfolding called
      uncalled_here = rw (sel, and-false q.enrseli)

      none_answers : (x : Sequenced) → answers m x ≡ x
      unfolding answers
      none_answers x = rw (uncalled_here, and-false)

      no_reset_here : rst_seen m ≡ false
      unfolding rst_seen
      no_reset_here = rst

      resolves : resolved m (sequenced_of m) ≡ turned
      unfolding resolved
      resolves =
          ap (λ (x : Sequenced). answers m (withdrawn m (begun m (selected m (forestalled m (let_go m x)))))) none_uncalled
          ∙ ap (λ (x : Sequenced). answers m (withdrawn m (begun m (selected m (forestalled m x))))) none_let_go
          ∙ ap (λ (x : Sequenced). answers m (withdrawn m (begun m (selected m x)))) none_forestalled
          ∙ ap (λ (x : Sequenced). answers m (withdrawn m (begun m x))) none_selected
          ∙ none_answers turned

      sequences : after_sequencer false s.quiet m ≡ b
      sequences =
          sequenced_into_lem m false s.quiet
          ∙ ap (λ (x : Sequenced). sequenced_into x m)
          (tickless m s.quiet ∙ ap (λ (c : Bool). cond c (silenced (sequenced_of m)) (resolved m (sequenced_of m))) no_reset_here ∙ resolves)
          ∙ turned_into

      -- B and C look at b as at s
      e : Dormant turned_phase
      e = dormant turned_phase turned_sleeps

      same_bsy : bsy_seen b ≡ bsy_seen s
      unfolding bsy_seen
      same_bsy = rw (e.bsy, d.bsy)

      same_sel : sel_seen b ≡ sel_seen s
      unfolding sel_seen
      same_sel = rw (e.sel, d.sel)

      same_rst : rst_seen b ≡ rst_seen s
      unfolding rst_seen
      same_rst = refl

      same_connected : connected b ≡ connected s
      unfolding connected
      same_connected = rw (same_bsy, same_sel, same_rst, e.arbitrating, d.arbitrating)

      same_matched : matched b ≡ matched s
      unfolding matched
      same_matched = rw same_connected

      same_mismatched : mismatched b ≡ mismatched s
      unfolding mismatched
      same_mismatched = rw (same_connected, same_matched)

      same_synchronous : synchronous b ≡ synchronous s
      unfolding synchronous
      same_synchronous = refl

      module _ (r : AtRest s) (i : InRange s) where
        resting : Resting (conditions b) b.transfer
        unfolding conditions can_move can_handshake can_synchronous can_asynchronous path normal
        resting = record { no_move = r.resting.no_move; no_handshake = rw (same_matched, same_synchronous) r.resting.no_handshake }

        turned_stands : Stands s b
        unfolding rst_rises rst_seen req_rises quiet_after phase_changes pio_ready fifo_conflict normal path automatic
        turned_stands =
            record {
              lands =
                  record {
                    reset = no_reset s;
                    rise = no_rise s;
                    quiet = rw (same_bsy, same_sel) (quiet_still s r i.quiet);
                    sequencer = subst (λ (n : State). sequenced false 0 n ≡ sequenced_of n) sequences (sequencer_calm m false s.quiet);
                    phase = rw same_mismatched (no_change s);
                    resting = resting;
                  };
              unraised = record { fwerr = r.fwerr; spiordy = λ h. r.spiordy (rw same_matched at h); enables0 = refl; enables1 = refl };
            }

        none_falls : after_req_falls s m ≡ m
        unfolding after_req_falls req_falls
        none_falls = rw (no_fall s)

        turned_passes : (v : Event) → ticks_of v ≡ 0 → after_a s v ≡ m
            → Passes s v m m b (started b) (latches_d s.registers b.registers m.status (status_raised b) b.latches)
        unfolding req_rises rst_rises rst_seen started quiet_after bsy_seen sel_seen
        turned_passes v ticks after =
            record {
              ticks = ticks;
              after = after;
              edges = ap (λ (n : State). after_req_rises s (after_rst_rises s n)) none_falls ∙ edges_stand s m (no_reset s) (no_rise s);
              within = ap (λ (n : State). beyond s (after_rst_rises s n)) none_falls ∙ none_beyond s m (no_reset s) (no_rise s);
              quiet = quiet_still s r i.quiet;
              sequencer = sequences;
              phase = turned_stands.lands.phase;
              settled = settle_rests (conditions b) turns (started b) resting;
              latches = refl;
            }

        turned_done : (v : Event) → ticks_of v ≡ 0 → after_a s v ≡ m → done s v ≡ ended b Done (value_read s v)
        unfolding ended started left finished ack_seen ack_driven manual
        turned_done v ticks after =
            passes s v m m b (started b) (latches_d s.registers b.registers m.status (status_raised b) b.latches) (turned_passes v ticks after)
            ∙ ap (λ (n : State). ended n Done (value_read s v)) (finished_stands s b turned_stands.unraised m refl)
            ∙ ap (λ (n : State). ended n Done (value_read s v)) (acked_still b r.reqinit)

-- 340h
module _ (s : State) (v : ℕ) (asleep : sleeps s.sequencer.phase ≡ true) (sel : s.lines.sel ≡ false) (rst : rst_seen s ≡ false)
    (same : bit v 0 ≡ s.registers.scsiseq.scsirsto) (r : AtRest s) (i : InRange s) where
  abbrev order : Event
  order = Write (offset_of SCSISEQ) v

  abbrev pub ordered : State
  ordered = asked_with (scsiseq_of v) (after_a s order).status.scsiperr s

  ordered_a : after_a s order ≡ ordered
  unfolding own_effect latch_access automatic_ack
  ordered_a =
      let k = dormant s.sequencer.phase asleep in
      simp (k.selecting, k.holding, and-false, same)

  accepted : access_code s order ≡ Done
  unfolding own_effect
  accepted = write_done s (offset_of SCSISEQ) refl i.transfer.host v refl refl

  -- A, AND THE SEQUENCER IDLE OR WAITING
  pub scsiseq_stands : access s order
      ≡ ended (phased (turned_phase s (scsiseq_of v) (after_a s order).status.scsiperr) (turned s (scsiseq_of v) (after_a s order).status.scsiperr).sequencer.ticks ordered) Done 0
  unfolding access value_read own_effect
  scsiseq_stands =
      rw accepted
      (turned_done s (scsiseq_of v) (after_a s order).status.scsiperr asleep sel rst r i order refl ordered_a)
