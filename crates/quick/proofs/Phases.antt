-- The changes of phase in a selection, each by one tick: waiting to arbitrating; arbitrating to clearing, or lost to waiting or idle;
-- clearing to selecting; selecting, at the limit of STIMESEL, to idle or holding.
use mathlib.Core.Path.{◌≡◌, refl, ◌∙◌, ap}
use mathlib.Core.Bool.{Bool, true, false, not, ◌&&◌, ◌||◌, cond, and-not_self, and-false}
use Prim.Native.Nat.{◌+◌}
use lib.Dec.{leb}
use Rattle.rules.specs.Rest.{AtRest}
use Rattle.rules.specs.State.{State}
use Rattle.rules.specs.Changed.{with_quiet, with_sequencer}
use Rattle.rules.specs.Seen.{phase_bsy, phase_sel, phase_drives, phase_number, is_phase, bsy_seen, connected, rst_seen, sel_seen}
use Rattle.rules.specs.Sequencer.{bus_free_delay, arbitration_delay, clearing_delay, timeout, selection_asked, called, higher_id, in_phase, entered, waited, selingo_cleared, selingo_raised, selto_raised, arbitrates, waiting_for, arbitrating_for, selects, clearing_for, times_out, selecting_for, tick_in, sequenced_of, resolved, uncalled, let_go, forestalled, selected, begun, withdrawn, answers}
use Rattle.rules.specs.StepB.{quiet_after, bus_free, after_quiet_ticks}
use Rattle.rules.specs.Step.{ended, access}
use Rattle.rules.specs.Ranges.{InRange}
use Rattle.rules.specs.declared.chip.Phase.{Phase}
use Rattle.rules.specs.declared.chip.Phase.TheVariants.{Idle, Waiting, Arbitrating, Clearing, Selecting, Holding, Answering}
use Rattle.rules.specs.declared.chip.Sequenced.{Sequenced}
use Rattle.rules.specs.declared.codes.Code.TheVariants.{Done}
use Rattle.rules.specs.declared.records.Event.TheVariants.{Ticks}
use Rattle.rules.proofs.Logic.{never}
use Rattle.rules.proofs.Resolving.{Calm, calm_still, sequenced_into, drives_line}
use Rattle.quick.proofs.Turns.{taken_quiet, changes_next}

-- others drive no SEL, so that they do not call
pub not_called : (s : State) → s.lines.sel ≡ false → called s ≡ false
unfolding called
not_called s h = rw (h, and-false s.registers.scsiseq.enrseli)

-- a sequencer that drives lines itself keeps the quiet ticks at 0
driving_quiet : (s : State) → AtRest s → phase_drives s.sequencer.phase ≡ true → after_quiet_ticks 1 s ≡ s
unfolding bsy_seen sel_seen
driving_quiet s r h =
    taken_quiet s r
    (drives_line s.sequencer.phase (s.lines.bsy || s.registers.scsisig.bsyo) (s.lines.sel || s.registers.scsisig.selo) h)

driving_none : (s : State) → AtRest s → phase_drives s.sequencer.phase ≡ true → s.quiet ≡ 0
unfolding bsy_seen sel_seen
driving_none s r h =
    r.quiet (drives_line s.sequencer.phase (s.lines.bsy || s.registers.scsisig.bsyo) (s.lines.sel || s.registers.scsisig.selo) h)

-- SEL that the sequencer drives is no connection
sel_unconnected : (n : State) → phase_sel n.sequencer.phase ≡ true → connected n ≡ false
unfolding connected sel_seen
sel_unconnected n h = go (bsy_seen n) (n.lines.sel || n.registers.scsisig.selo) (phase_sel n.sequencer.phase) h _ _
  where
    go : (b w p : Bool) → p ≡ true → (x y : Bool) → (((b && not (w || p)) && x) && y) ≡ false
    go true true p e x y = refl
    go true false true e x y = refl
    go true false false e x y = absurd (never e)
    go false w p e x y = refl

-- nor is a bus on which BSY is not seen
bsy_unconnected : (n : State) → bsy_seen n ≡ false → connected n ≡ false
unfolding connected
bsy_unconnected n h = rw h

-- WAITING, 15 ticks spent, the bus free for long
pub record Ripe (s : State) : Type 0 where
  pub phase : s.sequencer.phase ≡ Waiting
  pub due : leb bus_free_delay (s.sequencer.ticks + 1) ≡ true
  pub quiet : s.quiet ≡ 8
  pub free : (bsy_seen s || sel_seen s) ≡ false
  pub sel : s.lines.sel ≡ false
  pub rst : rst_seen s ≡ false

module _ (s : State) (k : Ripe s) where
  abbrev x : Sequenced
  x = sequenced_of s

  quiet_same : quiet_after 1 s ≡ s.quiet
  unfolding quiet_after
  quiet_same = rw (k.free, k.quiet)

  no_free : after_quiet_ticks 1 s ≡ s
  unfolding after_quiet_ticks bus_free
  no_free = rw (quiet_same, and-not_self (leb 8 s.quiet))

  tick_arbitrates : tick_in s.sequencer.phase s.quiet s x ≡ arbitrates x
  unfolding tick_in waiting_for sequenced_of
  tick_arbitrates =
      ap (λ (p : Phase). tick_in p s.quiet s x) k.phase
      ∙ (λ j. waiting_for (cond (leb 8 (k.quiet j) && not (k.free j)) (s.sequencer.ticks + 1) 0) x)
      ∙ ap (λ (d : Bool). cond d (arbitrates x) (waited (s.sequencer.ticks + 1) x)) k.due

  calm : Calm s (arbitrates x)
  unfolding arbitrates sequenced_of selingo_cleared is_phase phase_number
  calm =
      record { uncalled = refl; let_go = refl; forestalled = k.sel; connected = refl; begun = refl; withdrawn = refl; answered = refl }

  own_arbitration : connected (sequenced_into (arbitrates x) s) ≡ false
  unfolding connected is_phase phase_number arbitrates selingo_cleared
  own_arbitration = rw and-false

  -- TO ARBITRATING, SELINGO 0, quiet ticks 0
  pub arbitrates_next : AtRest s → InRange s → access s (Ticks 1)
      ≡ ended (with_sequencer (selingo_cleared (in_phase Arbitrating s.sequencer)) (with_quiet 0 s)) Done 0
  unfolding arbitrates sequenced_of
  arbitrates_next r i =
      changes_next s (arbitrates x) (arbitrates x)
      (record { quiet = no_free; rst = k.rst; tick = tick_arbitrates; resolves = calm_still s (arbitrates x) calm; alone = own_arbitration })
      r i

-- ARBITRATING, 47 ticks spent
pub record Contends (s : State) : Type 0 where
  pub phase : s.sequencer.phase ≡ Arbitrating
  pub due : leb arbitration_delay (s.sequencer.ticks + 1) ≡ true
  pub rst : rst_seen s ≡ false

module _ (s : State) (k : Contends s) (r : AtRest s) (i : InRange s) where
  abbrev now : Sequenced
  now = sequenced_of s

  contends_drives : phase_drives s.sequencer.phase ≡ true
  unfolding phase_drives
  contends_drives = ap phase_drives k.phase

  contends_quiet : after_quiet_ticks 1 s ≡ s
  contends_quiet = driving_quiet s r contends_drives

  tick_contends : (higher : Bool) → higher_id s ≡ higher → tick_in s.sequencer.phase s.quiet s now
      ≡ entered (cond higher Waiting Clearing) now
  unfolding tick_in arbitrating_for sequenced_of
  tick_contends higher h =
      ap (λ (p : Phase). tick_in p s.quiet s now) k.phase
      ∙ (λ j. cond (k.due j) (entered (cond (h j) Waiting Clearing) now) (waited (s.sequencer.ticks + 1) now))

  -- no others drive a data bit above OID
  module _ (won : higher_id s ≡ false) where
    clearing_calm : Calm s (entered Clearing now)
    unfolding entered is_phase phase_number
    clearing_calm =
        record { uncalled = refl; let_go = refl; forestalled = refl; connected = refl; begun = refl; withdrawn = refl; answered = refl }

    clearing_alone : connected (sequenced_into (entered Clearing now) s) ≡ false
    unfolding entered phase_sel
    clearing_alone = sel_unconnected (sequenced_into (entered Clearing now) s) refl

    -- TO CLEARING
    pub clears_next : access s (Ticks 1) ≡ ended (with_sequencer (in_phase Clearing s.sequencer) s) Done 0
    unfolding entered sequenced_of
    clears_next =
        changes_next s (entered Clearing now) (entered Clearing now)
        (record {
          quiet = contends_quiet;
          rst = k.rst;
          tick = tick_contends false won;
          resolves = calm_still s (entered Clearing now) clearing_calm;
          alone = clearing_alone;
        })
        r i

  -- lost, and others drive neither BSY nor SEL, nor 343h BSY
  module _ (lost : higher_id s ≡ true) (sel : s.lines.sel ≡ false) (bsy : s.lines.bsy ≡ false)
      (bsyo : s.registers.scsisig.bsyo ≡ false) where
    waiting_unseen : bsy_seen (with_sequencer (in_phase Waiting s.sequencer) s) ≡ false
    unfolding bsy_seen phase_bsy
    waiting_unseen = rw (bsy, bsyo)

    idle_unseen : bsy_seen (with_sequencer (in_phase Idle s.sequencer) s) ≡ false
    unfolding bsy_seen phase_bsy
    idle_unseen = rw (bsy, bsyo)

    module _ (asked : selection_asked s.registers ≡ true) where
      waiting_calm : Calm s (entered Waiting now)
      unfolding entered is_phase phase_number selection_asked sequenced_of
      waiting_calm =
          record {
            uncalled = refl;
            let_go = refl;
            forestalled = refl;
            connected = refl;
            begun = refl;
            withdrawn = rw asked;
            answered = not_called s sel;
          }

      waiting_alone : connected (sequenced_into (entered Waiting now) s) ≡ false
      unfolding entered sequenced_of
      waiting_alone = bsy_unconnected (with_sequencer (in_phase Waiting s.sequencer) s) waiting_unseen

      -- TO WAITING
      pub loses_next : access s (Ticks 1) ≡ ended (with_sequencer (in_phase Waiting s.sequencer) s) Done 0
      unfolding entered sequenced_of
      loses_next =
          changes_next s (entered Waiting now) (entered Waiting now)
          (record {
            quiet = contends_quiet;
            rst = k.rst;
            tick = tick_contends true lost;
            resolves = calm_still s (entered Waiting now) waiting_calm;
            alone = waiting_alone;
          })
          r i

    module _ (unasked : selection_asked s.registers ≡ false) where
      withdraws : resolved s (entered Waiting now) ≡ entered Idle now
      unfolding resolved uncalled let_go forestalled selected begun withdrawn answers entered is_phase phase_number selection_asked sequenced_of
      withdraws =
          (λ j.
          answers s
          (cond (not (unasked j) && not (leb 8 (driving_none s r contends_drives j))) (entered Idle (entered Waiting now)) (entered Waiting now)))
          ∙ ap (λ (c : Bool). cond c (entered Answering (entered Idle now)) (entered Idle now)) (not_called s sel)

      idle_alone : connected (sequenced_into (entered Idle now) s) ≡ false
      unfolding entered sequenced_of
      idle_alone = bsy_unconnected (with_sequencer (in_phase Idle s.sequencer) s) idle_unseen

      -- TO IDLE
      pub gives_up_next : access s (Ticks 1) ≡ ended (with_sequencer (in_phase Idle s.sequencer) s) Done 0
      unfolding entered sequenced_of
      gives_up_next =
          changes_next s (entered Waiting now) (entered Idle now)
          (record { quiet = contends_quiet; rst = k.rst; tick = tick_contends true lost; resolves = withdraws; alone = idle_alone }) r i

-- CLEARING, 23 ticks spent, others drive no BSY
pub record Cleared (s : State) : Type 0 where
  pub phase : s.sequencer.phase ≡ Clearing
  pub due : leb clearing_delay (s.sequencer.ticks + 1) ≡ true
  pub bsy : s.lines.bsy ≡ false
  pub rst : rst_seen s ≡ false

module _ (s : State) (k : Cleared s) (r : AtRest s) (i : InRange s) where
  clears_drives : phase_drives s.sequencer.phase ≡ true
  unfolding phase_drives
  clears_drives = ap phase_drives k.phase

  tick_selects : tick_in s.sequencer.phase s.quiet s (sequenced_of s) ≡ selects s (sequenced_of s)
  unfolding tick_in clearing_for sequenced_of
  tick_selects =
      ap (λ (p : Phase). tick_in p s.quiet s (sequenced_of s)) k.phase
      ∙ (λ j. cond (k.due j) (selects s (sequenced_of s)) (waited (s.sequencer.ticks + 1) (sequenced_of s)))

  selecting_calm : Calm s (selects s (sequenced_of s))
  unfolding selects selingo_raised is_phase phase_number
  selecting_calm =
      record { uncalled = refl; let_go = refl; forestalled = refl; connected = k.bsy; begun = refl; withdrawn = refl; answered = refl }

  selecting_alone_lem : connected (sequenced_into (selects s (sequenced_of s)) s) ≡ false
  unfolding selects selingo_raised phase_sel
  selecting_alone_lem = sel_unconnected (sequenced_into (selects s (sequenced_of s)) s) refl

  -- TO SELECTING, SELINGO rises, with ENAUTOATNO ATN is set
  pub selects_next : access s (Ticks 1) ≡ ended (sequenced_into (selects s (sequenced_of s)) s) Done 0
  selects_next =
      let x = selects s (sequenced_of s) in
      changes_next s x x
      (record {
        quiet = driving_quiet s r clears_drives;
        rst = k.rst;
        tick = tick_selects;
        resolves = calm_still s x selecting_calm;
        alone = selecting_alone_lem;
      })
      r i

-- SELECTING with ENSTIMER, the limit of STIMESEL reached; others drive neither BSY nor SEL, nor 343h BSY
pub record Expires (s : State) : Type 0 where
  pub phase : s.sequencer.phase ≡ Selecting
  pub timer : s.registers.sxfrctl1.enstimer ≡ true
  pub due : leb (timeout s.registers) (s.sequencer.ticks + 1) ≡ true
  pub bsy : s.lines.bsy ≡ false
  pub bsyo : s.registers.scsisig.bsyo ≡ false
  pub sel : s.lines.sel ≡ false
  pub rst : rst_seen s ≡ false

module _ (s : State) (k : Expires s) (r : AtRest s) (i : InRange s) where
  expires_drives : phase_drives s.sequencer.phase ≡ true
  unfolding phase_drives
  expires_drives = ap phase_drives k.phase

  tick_expires : tick_in s.sequencer.phase s.quiet s (sequenced_of s) ≡ times_out s (sequenced_of s)
  unfolding tick_in selecting_for sequenced_of
  tick_expires =
      ap (λ (p : Phase). tick_in p s.quiet s (sequenced_of s)) k.phase
      ∙ (λ j. selecting_for s (cond (k.timer j) (s.sequencer.ticks + 1) 0) (sequenced_of s))
      ∙ (λ j. cond (k.due j) (times_out s (sequenced_of s)) (waited (s.sequencer.ticks + 1) (sequenced_of s)))

  -- idle with ENSELTIMO, else holding
  abbrev ends : Bool → Sequenced
  ends idle =
      record {
        sequencer = selto_raised s.registers (in_phase (cond idle Idle Holding) s.sequencer);
        enselo = false;
        atno = s.registers.scsisig.atno;
        quiet = s.quiet;
      }

  ends_calm : (idle : Bool) → Calm s (ends idle)
  unfolding selto_raised is_phase phase_number
  ends_calm true =
      record { uncalled = refl; let_go = refl; forestalled = refl; connected = refl; begun = refl; withdrawn = refl; answered = not_called s k.sel }
  ends_calm false =
      record { uncalled = refl; let_go = refl; forestalled = refl; connected = k.bsy; begun = refl; withdrawn = refl; answered = refl }

  unseen_idle : bsy_seen (sequenced_into (ends true) s) ≡ false
  unfolding bsy_seen selto_raised phase_bsy
  unseen_idle = rw (k.bsy, k.bsyo)

  ends_alone : (idle : Bool) → connected (sequenced_into (ends idle) s) ≡ false
  unfolding selto_raised phase_sel
  ends_alone true = bsy_unconnected (sequenced_into (ends true) s) unseen_idle
  ends_alone false = sel_unconnected (sequenced_into (ends false) s) refl

  -- TO IDLE OR HOLDING, SELTO rises, ENSELO becomes 0
  pub times_out_next : access s (Ticks 1) ≡ ended (sequenced_into (times_out s (sequenced_of s)) s) Done 0
  unfolding times_out sequenced_of
  times_out_next =
      let idle = s.registers.simode1.enseltimo in
      changes_next s (ends idle) (ends idle)
      (record {
        quiet = driving_quiet s r expires_drives;
        rst = k.rst;
        tick = tick_expires;
        resolves = calm_still s (ends idle) (ends_calm idle);
        alone = ends_alone idle;
      })
      r i
