-- The tests of rest hold exactly of a chip at rest.
use mathlib.Core.Path.{◌≡◌, refl, sym, ◌∙◌}
use mathlib.Core.Bool.{Bool, true, false, not, ◌&&◌, ◌||◌, cond}
use lib.Dec.{eqb, leb}
use borrow.Author.Tests.{eqb-true, eq-eqb}
use Rattle.rules.specs.State.{State}
use Rattle.rules.specs.Rest.{AtRest}
use Rattle.rules.specs.Seen.{phase_number, is_phase, rst_seen, bsy_seen, sel_seen, ack_seen}
use Rattle.rules.specs.Sequencer.{selection_asked, asked_by, called, sequenced_of}
use Rattle.rules.specs.StepC.{conditions, can_move, can_handshake}
use Rattle.rules.specs.StepD.{fifo_conflict, pio_ready}
use Rattle.rules.specs.declared.chip.Phase.{Phase}
use Rattle.rules.specs.declared.chip.Phase.TheVariants.{Idle, Waiting, Arbitrating, Clearing, Selecting, Holding, Answering, Answered}
use Rattle.rules.proofs.Logic.{never, left_true, right_true, cond_case}
use Rattle.rules.proofs.Resolving.{Calm, Quieted, Sequential, rest_quieted, rest_calm, sequential_by}
use Rattle.saved.specs.Tests.{calm_in, calm, settled, status_shown, quiet_fits, resting}
use Rattle.saved.proofs.Truth.{both_true}

-- a test that allows an exception
either_left : (a b : Bool) → (a || not b) ≡ true → b ≡ true → a ≡ true
either_left true b e h = refl
either_left false true e h = absurd (never e)
either_left false false e h = absurd (never h)

left_either : (a b : Bool) → (b ≡ true → a ≡ true) → (a || not b) ≡ true
left_either true b f = refl
left_either false true f = f refl
left_either false false f = refl

not_false : (a : Bool) → a ≡ false → not a ≡ true
not_false a e = rw e

-- THE SEQUENCER, over what it looks at: asked, called, SEL and BSY of others, the quiet ticks at 8
abbrev calm_by : Phase → Bool → Bool → Bool → Bool → Bool → Bool
calm_by Idle a k l b q = not a && not k
calm_by Waiting a k l b q = (a || q) && not k
calm_by Arbitrating a k l b q = not l
calm_by Clearing a k l b q = true
calm_by Selecting a k l b q = not b
calm_by Holding a k l b q = not b
calm_by Answering a k l b q = k
calm_by Answered a k l b q = l

record Untouched (p : Phase) (a k l b q : Bool) : Type 0 where
  uncalled : (is_phase Answering p && not k) ≡ false
  let_go : (is_phase Answered p && not l) ≡ false
  forestalled : (is_phase Arbitrating p && l) ≡ false
  connected : ((is_phase Selecting p || is_phase Holding p) && b) ≡ false
  begun : (is_phase Idle p && a) ≡ false
  withdrawn : (is_phase Waiting p && not a && not q) ≡ false
  answered : ((is_phase Idle p || is_phase Waiting p) && k) ≡ false

not_of : (b : Bool) → not b ≡ true → b ≡ false
not_of true e = sym e
not_of false e = refl

of_not : (b : Bool) → b ≡ true → not b ≡ false
of_not b e = rw e

withdrawn_not : (a q : Bool) → (a || q) ≡ true → (not a && not q) ≡ false
withdrawn_not true q e = refl
withdrawn_not false true e = refl
withdrawn_not false false e = sym e

not_withdrawn : (a q : Bool) → (not a && not q) ≡ false → (a || q) ≡ true
not_withdrawn true q e = refl
not_withdrawn false true e = refl
not_withdrawn false false e = sym e

unless : (b : Bool) → not b ≡ false → b ≡ true
unless true e = refl
unless false e = sym e

module _ (a k l b q : Bool) where
  untouched : (p : Phase) → calm_by p a k l b q ≡ true → Untouched p a k l b q
  unfolding is_phase phase_number
  untouched Idle e =
      record { uncalled = refl; let_go = refl; forestalled = refl; connected = refl; begun = not_of a (left_true (not a) (not k) e); withdrawn = refl; answered = not_of k (right_true (not a) (not k) e) }
  untouched Waiting e =
      record { uncalled = refl; let_go = refl; forestalled = refl; connected = refl; begun = refl; withdrawn = withdrawn_not a q (left_true (a || q) (not k) e); answered = not_of k (right_true (a || q) (not k) e) }
  untouched Arbitrating e =
      record { uncalled = refl; let_go = refl; forestalled = not_of l e; connected = refl; begun = refl; withdrawn = refl; answered = refl }
  untouched Clearing e =
      record { uncalled = refl; let_go = refl; forestalled = refl; connected = refl; begun = refl; withdrawn = refl; answered = refl }
  untouched Selecting e =
      record { uncalled = refl; let_go = refl; forestalled = refl; connected = not_of b e; begun = refl; withdrawn = refl; answered = refl }
  untouched Holding e =
      record { uncalled = refl; let_go = refl; forestalled = refl; connected = not_of b e; begun = refl; withdrawn = refl; answered = refl }
  untouched Answering e =
      record { uncalled = of_not k e; let_go = refl; forestalled = refl; connected = refl; begun = refl; withdrawn = refl; answered = refl }
  untouched Answered e =
      record { uncalled = refl; let_go = of_not l e; forestalled = refl; connected = refl; begun = refl; withdrawn = refl; answered = refl }

  by_phase : (p : Phase) → Untouched p a k l b q → calm_by p a k l b q ≡ true
  unfolding is_phase phase_number
  by_phase Idle u = both_true (not_false a u.begun) (not_false k u.answered)
  by_phase Waiting u = both_true (not_withdrawn a q u.withdrawn) (not_false k u.answered)
  by_phase Arbitrating u = not_false l u.forestalled
  by_phase Clearing u = refl
  by_phase Selecting u = not_false b u.connected
  by_phase Holding u = not_false b u.connected
  by_phase Answering u = unless k u.uncalled
  by_phase Answered u = unless l u.let_go

module _ (s : State) where
  abbrev asked : Bool
  asked = asked_by s.registers.scsiseq.enselo s.registers.scsiseq.temodeo

  abbrev Unmoved : Type 0
  Unmoved = Untouched s.sequencer.phase asked (called s) s.lines.sel s.lines.bsy (leb 8 s.quiet)

  calm_in_lem : (p : Phase) → calm_in p s ≡ calm_by p asked (called s) s.lines.sel s.lines.bsy (leb 8 s.quiet)
  unfolding calm_in selection_asked
  calm_in_lem Idle = refl
  calm_in_lem Waiting = refl
  calm_in_lem Arbitrating = refl
  calm_in_lem Clearing = refl
  calm_in_lem Selecting = refl
  calm_in_lem Holding = refl
  calm_in_lem Answering = refl
  calm_in_lem Answered = refl

  untouched_calm : Unmoved → Calm s (sequenced_of s)
  unfolding sequenced_of
  untouched_calm u =
      record { uncalled = u.uncalled; let_go = u.let_go; forestalled = u.forestalled; connected = u.connected; begun = u.begun; withdrawn = u.withdrawn; answered = u.answered }

  calm_untouched : Calm s (sequenced_of s) → Unmoved
  unfolding sequenced_of
  calm_untouched u =
      record { uncalled = u.uncalled; let_go = u.let_go; forestalled = u.forestalled; connected = u.connected; begun = u.begun; withdrawn = u.withdrawn; answered = u.answered }

  quieted : (is_phase Idle s.sequencer.phase && not s.sequencer.status.selingo) ≡ true → Quieted s
  quieted e =
      let i = is_phase Idle s.sequencer.phase in
      let g = s.sequencer.status.selingo in
      record { phase = left_true i (not g) e; selingo = not_of g (right_true i (not g) e) }

  picked_true : (b x y : Bool) → cond b x y ≡ true → b ≡ true → x ≡ true
  picked_true true x y e h = e
  picked_true false x y e h = absurd (never h)

  picked_false : (b x y : Bool) → cond b x y ≡ true → b ≡ false → y ≡ true
  picked_false true x y e h = absurd (never (sym h))
  picked_false false x y e h = e

  -- THE SEQUENCER HAS NOTHING TO DO WITHOUT A TICK exactly where it is calm
  pub calm_rests : calm s ≡ true → Sequential s
  unfolding calm
  calm_rests e =
      sequential_by s (λ h. quieted (picked_true (rst_seen s) _ _ e h))
      (λ h. untouched_calm (untouched asked (called s) s.lines.sel s.lines.bsy (leb 8 s.quiet) s.sequencer.phase (sym (calm_in_lem s.sequencer.phase) ∙ picked_false (rst_seen s) _ _ e h)))

  pub rests_calm : Sequential s → calm s ≡ true
  unfolding calm
  rests_calm q =
      cond_case (λ (b : Bool). b ≡ true) (rst_seen s) _ _
      (λ h. let r = rest_quieted s q h in both_true r.phase (not_false s.sequencer.status.selingo r.selingo))
      (λ h. calm_in_lem s.sequencer.phase ∙ by_phase asked (called s) s.lines.sel s.lines.bsy (leb 8 s.quiet) s.sequencer.phase (calm_untouched (rest_calm s q h)))

-- AT REST EXACTLY WHERE THE TESTS HOLD
module _ (s : State) where
  abbrev no_move : Bool
  no_move = not (can_move (conditions s) s.transfer)

  abbrev no_handshake : Bool
  no_handshake = not (can_handshake (conditions s) s.transfer)

  abbrev perr : Bool
  perr = s.registers.sxfrctl1.enspchk || not s.status.scsiperr

  abbrev init : Bool
  init = not s.status.reqinit || not (ack_seen s)

  abbrev error : Bool
  error = s.status.fwerr || not (fifo_conflict s.registers)

  abbrev ready : Bool
  ready = s.status.spiordy || not (pio_ready s)

  clear_unless : (a b : Bool) → (a || not b) ≡ true → a ≡ false → b ≡ false
  clear_unless true b e h = absurd (never (sym h))
  clear_unless false b e h = not_of b e

  unless_clear : (a b : Bool) → (a ≡ false → b ≡ false) → (a || not b) ≡ true
  unless_clear true b f = refl
  unless_clear false b f = not_false b (f refl)

  pub resting_rests : resting s ≡ true → AtRest s
  unfolding resting quiet_fits status_shown settled
  resting_rests e =
      let rest = right_true (quiet_fits s) _ e in
      let t = left_true (status_shown s) _ rest in
      let more = right_true (status_shown s) _ rest in
      let d = right_true (calm s) (settled s) more in
      let t2 = right_true perr _ t in
      let t3 = right_true init _ t2 in
      record {
        resting = record { no_move = not_of _ (left_true no_move no_handshake d); no_handshake = not_of _ (right_true no_move no_handshake d) };
        fwerr = either_left s.status.fwerr (fifo_conflict s.registers) (left_true error ready t3);
        spiordy = either_left s.status.spiordy (pio_ready s) (right_true error ready t3);
        reqinit = λ h. not_of s.status.reqinit (either_left (not s.status.reqinit) (ack_seen s) (left_true init _ t2) h);
        scsiperr = clear_unless s.registers.sxfrctl1.enspchk s.status.scsiperr (left_true perr _ t);
        quiet = λ h. eqb-true s.quiet 0 (either_left (eqb s.quiet 0) (bsy_seen s || sel_seen s) (left_true (quiet_fits s) _ e) h);
        sequencer = calm_rests s (left_true (calm s) (settled s) more);
      }

  pub rests_resting : AtRest s → resting s ≡ true
  unfolding resting quiet_fits status_shown settled
  rests_resting r =
      both_true (left_either (eqb s.quiet 0) (bsy_seen s || sel_seen s) (λ h. eq-eqb s.quiet 0 (r.quiet h)))
      (both_true
      (both_true (unless_clear s.registers.sxfrctl1.enspchk s.status.scsiperr r.scsiperr)
      (both_true (left_either (not s.status.reqinit) (ack_seen s) (λ h. not_false s.status.reqinit (r.reqinit h)))
      (both_true (left_either s.status.fwerr (fifo_conflict s.registers) r.fwerr) (left_either s.status.spiordy (pio_ready s) r.spiordy))))
      (both_true (rests_calm s r.sequencer)
      (both_true (not_false _ r.resting.no_move) (not_false _ r.resting.no_handshake))))
