-- WHAT A STEP REPORTS FITS ITS FIELDS, "its moves, ACKs and bytes sent are those of its ticks together" included: of the ticks of
-- a chip at rest at most one settles anything.
use Rattle.std.specs.Prelude.{Option, Some, None}
use Prim.Native.Nat.{ℕ, zero, suc, ◌+◌, ◌-◌, ◌≤◌, ◌<◌}
use mathlib.Core.Path.{◌≡◌, refl, ap, sym, ◌∙◌, subst}
use mathlib.Core.Bool.{Bool, true, false, not, ◌&&◌, ◌||◌, cond, and-not_self}
use mathlib.Core.List.{List, [], ◌++◌, append-nil}
use native.Mathlib.Omega.{arith}
use lib.Dec.{leb}
use lib.ListN.{length, replicate, length-append, length-replicate}
use Rattle.rules.specs.Numbers.{padded}
use Rattle.rules.specs.State.{State, power_reset}
use Rattle.rules.specs.Changed.{with_quiet}
use Rattle.rules.specs.Seen.{phase_number, is_phase, phase_bsy, phase_sel, rst_seen, bsy_seen, sel_seen, normal, connected, matched, path, synchronous, byte_driving, byte_driven, driving, data_driven, parity_driven, data_seen, ack_driven}
use Rattle.rules.specs.Records.{decode}
use Rattle.rules.specs.Interrupts.{irq}
use Rattle.rules.specs.Codes.{access_code, is_done}
use Rattle.rules.specs.Sequencer.{sequenced}
use Rattle.rules.specs.Events.{writes, lines_after}
use Rattle.rules.specs.StepA.{clrch, registers_a, transfer_a, after_a}
use Rattle.rules.specs.StepB.{req_rises, quiet_after, bus_free, bus_freed, after_quiet_ticks, phase_changes, phase_changed, after_phase_changes, after_sequencer, after_b, at_req}
use Rattle.rules.specs.StepC.{Settling, conditions, can_move, move, can_handshake, settle, turns, started, settled_c}
use Rattle.rules.specs.StepD.{finished, after_d}
use Rattle.rules.specs.Answers.{Stepped, control_driven, answer_of, answer_bytes}
use Rattle.rules.specs.Step.{ended, access, joined, single_ticks, ticks_taken, step_event, step_decoded, step, answer, after}
use Rattle.rules.specs.Ticks.{bus_taken, advanced, unreached, bus_free_distance, distance_in, distance}
use Rattle.rules.specs.Ranges.{InRange, InBytes, Bytes, EventFits, DecodedFits}
use Rattle.rules.specs.declared.chip.Conditions.{Conditions}
use Rattle.rules.specs.declared.chip.Phase.{Phase}
use Rattle.rules.specs.declared.chip.Phase.TheVariants.{Idle, Waiting, Arbitrating, Clearing, Selecting, Holding, Answering, Answered}
use Rattle.rules.specs.declared.codes.Code.TheVariants.{Done, Malformed}
use Rattle.rules.specs.declared.registers.Dmacntrl0.{Dmacntrl0}
use Rattle.rules.specs.declared.records.Event.{Event}
use Rattle.rules.specs.declared.records.Event.TheVariants.{PowerReset, Write, Read, WordWrite, WordRead, Drive, Ticks}
use Rattle.rules.proofs.Logic.{never, left_true, right_true, cond_case}
use Rattle.rules.proofs.InOrder.{Apart, b_leaves, req_leaves, stored_at_req, scsi_b}
use Rattle.rules.proofs.Resolving.{held_after}
use Rattle.rules.proofs.Refusals.{eight_codes}
use Rattle.rules.proofs.Rest.{Counts, settle_rests, settling_counts, acks_left}
use Rattle.rules.specs.Rest.{Resting}
use Rattle.rules.proofs.Settling.{settle_keeps}
use Rattle.rules.proofs.Ranges.{StepFits, StepBytes, one_fits, byte_fits, bytes_append, bytes_zeros, data_driven_fits, decode_fits, ended_fits, access_fits, after_b_fits, single_in_range, step_bytes, power_reset_fits, always_in_range, always_in_bytes}
use Rattle.rules.proofs.Still.{done_rests, ticks_done, access_rests}
use Rattle.rules.specs.Rest.{AtRest}
use Rattle.rules.proofs.OneTick.{ticked, b_ticks, c_ticks, tick_plain, ticked_steady, advanced_rests, advanced_connected, answering_called}

-- BARRED: neither others nor 343h drive BSY, and 343h expects no IO. Then no tick can make a connection, nor a path.
abbrev outside_bsy : State → Bool
outside_bsy s = s.lines.bsy || s.registers.scsisig.bsyo

abbrev barred : State → Bool
barred s = not (outside_bsy s) && not s.registers.scsisig.ioexp

-- nothing is left for later ticks to settle
abbrev spent : State → Bool
spent s = connected s || barred s

-- the sequencer alone makes no connection
unconnected : (p : Phase) (o ls gs rst : Bool) → o ≡ false → (is_phase Answered p && not ls) ≡ false → ((o || phase_bsy p) && not ((ls || gs) || phase_sel p) && not rst && not (is_phase Arbitrating p)) ≡ false
unfolding is_phase phase_number phase_bsy phase_sel
unconnected p true ls gs rst e h = absurd (never (sym e))
unconnected Idle false ls gs rst e h = refl
unconnected Waiting false ls gs rst e h = refl
unconnected Arbitrating false true gs rst e h = refl
unconnected Arbitrating false false true rst e h = refl
unconnected Arbitrating false false false true e h = refl
unconnected Arbitrating false false false false e h = refl
unconnected Clearing false true gs rst e h = refl
unconnected Clearing false false true rst e h = refl
unconnected Clearing false false false rst e h = refl
unconnected Selecting false ls gs rst e h = refl
unconnected Holding false ls gs rst e h = refl
unconnected Answering false ls gs rst e h = refl
unconnected Answered false true gs rst e h = refl
unconnected Answered false false gs rst e h = absurd (never (sym h))

alone_unconnected : (n : State) (before : ℕ) → outside_bsy n ≡ false → connected (after_sequencer true before n) ≡ false
unfolding connected bsy_seen sel_seen rst_seen after_sequencer
alone_unconnected n before e =
    unconnected (sequenced true before n).sequencer.phase (outside_bsy n) n.lines.sel n.registers.scsisig.selo (n.lines.rst || n.registers.scsiseq.scsirsto) e
    (held_after n true before)

-- where there is no connection there is no handshake
unmatched : (a c d f g : Bool) → c ≡ false → (a && (c && d && f && g)) ≡ false
unmatched a true d f g h = absurd (never (sym h))
unmatched true false d f g h = refl
unmatched false false d f g h = refl

pub unenabled : (n : State) → connected n ≡ false → (conditions n).enabled ≡ false
unfolding conditions matched
unenabled n h = unmatched (n.registers.sxfrctl0.scsien && path n.registers) (connected n) _ _ _ h

pub no_handshake_lem : (n : State) → connected n ≡ false → can_handshake (conditions n) n.transfer ≡ false
unfolding can_handshake
no_handshake_lem n h = rw (unenabled n h)

-- moves go by the path, and the FIFOs
abbrev moving : State → Bool
moving n = can_move (conditions n) n.transfer

sequencer_moves : (n : State) (before : ℕ) → moving (after_sequencer true before n) ≡ moving n
unfolding after_sequencer conditions can_move path normal
sequencer_moves n before = refl

quieter_moves : (n : State) (k : ℕ) → moving (with_quiet k n) ≡ moving n
unfolding conditions can_move
quieter_moves n k = refl

-- bus free leaves the path as it is where 343h expects no IO
free_moves : (n : State) → n.registers.scsisig.ioexp ≡ false → moving (bus_freed n) ≡ moving n
unfolding bus_freed conditions can_move path normal
free_moves n e = rw e

-- AFTER A TICK OF A BARRED CHIP IT IS BARRED AND NOTHING CAN SETTLE
not_both : (a b : Bool) → (not a && not b) ≡ true → (a ≡ false) × (b ≡ false)
not_both true b h = absurd (never h)
not_both false true h = absurd (never h)
not_both false false h = (refl, refl)

abbrev Barred : State → Type 0
Barred n = (outside_bsy n ≡ false) × (n.registers.scsisig.ioexp ≡ false)

neither : (a b : Bool) → (a || b) ≡ false → (a || false) ≡ false
neither true b h = h
neither false b h = refl

freed_barred : (n : State) → Barred n → Barred (bus_freed n)
unfolding bus_freed
freed_barred n h = (neither n.lines.bsy n.registers.scsisig.bsyo h.0, refl)

module _ (s : State) (r : AtRest s) where
  abbrev quieter : State
  quieter = with_quiet (quiet_after 1 s) s

  -- the state that the sequencer is handed
  abbrev Handed : State → Type 0
  Handed n = Barred n × (moving n ≡ false)

  barred_handed : Barred s → Handed (after_quiet_ticks 1 s)
  unfolding after_quiet_ticks
  barred_handed h =
      let m = quieter_moves s (quiet_after 1 s) ∙ r.resting.no_move in
      cond_case Handed (bus_free 1 s) (bus_freed quieter) quieter
      (λ e. (freed_barred quieter h, free_moves quieter h.1 ∙ m)) (λ e. (h, m))

  -- PHASECHG changes none of it
  abbrev Settled : State → Type 0
  Settled n = Resting (conditions n) n.transfer

  changed_settled : (n : State) → Settled n → Settled (phase_changed n)
  unfolding phase_changed conditions can_move can_handshake data_seen data_driven byte_driven byte_driving matched connected rst_seen bsy_seen sel_seen synchronous
  changed_settled n h = record { no_move = h.no_move; no_handshake = h.no_handshake }

  changed_spent : (n : State) → spent (phase_changed n) ≡ spent n
  unfolding phase_changed connected rst_seen bsy_seen sel_seen
  changed_spent n = refl

  abbrev sequenced_from : State → State
  sequenced_from n = after_sequencer true s.quiet n

  or_true : (a : Bool) → (a || true) ≡ true
  or_true true = refl
  or_true false = refl

  barred_after : (n : State) → Barred n → barred (sequenced_from n) ≡ true
  unfolding after_sequencer
  barred_after n h = rw (h.0, h.1)

  still_barred : (n : State) → Barred n → spent (sequenced_from n) ≡ true
  still_barred n h =
      ap (λ (b : Bool). connected (sequenced_from n) || b) (barred_after n h) ∙ or_true (connected (sequenced_from n))

  barred_sequenced : Barred s → Settled (sequenced_from (after_quiet_ticks 1 s)) × (spent (sequenced_from (after_quiet_ticks 1 s)) ≡ true)
  barred_sequenced b =
      let n = after_quiet_ticks 1 s in
      let h = barred_handed b in (
        record { no_move = sequencer_moves n s.quiet ∙ h.1; no_handshake = no_handshake_lem (sequenced_from n) (alone_unconnected n s.quiet h.0.0) },
        still_barred n h.0,
      )

  pub barred_tick : Barred s → Settled (ticked s) × (spent (ticked s) ≡ true)
  unfolding ticked after_phase_changes
  barred_tick b =
      let m = sequenced_from (after_quiet_ticks 1 s) in
      let h = barred_sequenced b in
      cond_case (λ n. Settled n × (spent n ≡ true)) (phase_changes s m) (phase_changed m) m
      (λ e. (changed_settled m h.0, changed_spent m ∙ h.1)) (λ e. h)

  -- A TICK THAT SETTLES ANYTHING LEAVES NOTHING FOR LATER: it brings bus free, and the chip is barred, or it leaves it connected
  taken_not : (lb gb pb z m : Bool) (n : ℕ) → (leb 8 (cond (((lb || gb) || pb) || z) 0 n) && m) ≡ true → lb ≡ false
  taken_not true gb pb z m n e = absurd (never e)
  taken_not false gb pb z m n e = refl

  free_untaken : bus_free 1 s ≡ true → s.lines.bsy ≡ false
  unfolding bus_free quiet_after bsy_seen
  free_untaken e =
      taken_not s.lines.bsy s.registers.scsisig.bsyo (phase_bsy s.sequencer.phase) (sel_seen s) _ _ e

  bars : bus_free 1 s ≡ true → Barred (bus_freed quieter)
  unfolding bus_freed
  bars e = (ap (λ (b : Bool). b || false) (free_untaken e), refl)

  left_false : (a b : Bool) → (a || b) ≡ false → a ≡ false
  left_false true b h = h
  left_false false b h = refl

  unspent_sequenced : spent (sequenced_from (after_quiet_ticks 1 s)) ≡ false → Settled (sequenced_from (after_quiet_ticks 1 s))
  unfolding after_quiet_ticks
  unspent_sequenced =
      cond_case (λ n. spent (sequenced_from n) ≡ false → Settled (sequenced_from n)) (bus_free 1 s) (bus_freed quieter) quieter
      (λ e h. absurd (never (sym h ∙ still_barred (bus_freed quieter) (bars e))))
      (λ e h.
      record {
        no_move = sequencer_moves quieter s.quiet ∙ quieter_moves s (quiet_after 1 s) ∙ r.resting.no_move;
        no_handshake = no_handshake_lem (sequenced_from quieter) (left_false (connected (sequenced_from quieter)) (barred (sequenced_from quieter)) h);
      })

  pub unspent_tick : spent (ticked s) ≡ false → Settled (ticked s)
  unfolding ticked after_phase_changes
  unspent_tick =
      let m = sequenced_from (after_quiet_ticks 1 s) in
      cond_case (λ n. spent n ≡ false → Settled n) (phase_changes s m) (phase_changed m) m
      (λ e h. changed_settled m (unspent_sequenced (sym (changed_spent m) ∙ h))) (λ e h. unspent_sequenced h)

  -- CONNECTED, A CHIP AT REST ONLY COUNTS
  -- the parts of "connected"
  module _ (c : connected s ≡ true) where
    parts : (bsy_seen s ≡ true) × (not (sel_seen s) ≡ true) × (not (is_phase Arbitrating s.sequencer.phase) ≡ true)
    unfolding connected
    parts = (
      left_true (bsy_seen s) _ (left_true (bsy_seen s && not (sel_seen s)) _ (left_true (bsy_seen s && not (sel_seen s) && not (rst_seen s)) _ c)),
      right_true (bsy_seen s) (not (sel_seen s)) (left_true (bsy_seen s && not (sel_seen s)) _ (left_true (bsy_seen s && not (sel_seen s) && not (rst_seen s)) _ c)),
      right_true (bsy_seen s && not (sel_seen s) && not (rst_seen s)) _ c,
    )

    taken : bus_taken s ≡ true
    taken = ap (λ (b : Bool). b || sel_seen s) parts.0

    no_sel : (a b p : Bool) → not ((a || b) || p) ≡ true → (a ≡ false) × (p ≡ false)
    no_sel true b p h = absurd (never h)
    no_sel false true p h = absurd (never h)
    no_sel false false true h = absurd (never h)
    no_sel false false false h = (refl, refl)

    others : (s.lines.sel ≡ false) × (phase_sel s.sequencer.phase ≡ false)
    unfolding sel_seen
    others = no_sel s.lines.sel s.registers.scsisig.selo (phase_sel s.sequencer.phase) parts.1

    none_free : bus_free_distance s ≡ unreached
    unfolding bus_free_distance
    none_free = ap (λ (b : Bool). cond (b || leb 8 s.quiet) unreached (8 - s.quiet)) taken

    waits_not : (a b : Bool) (x y : ℕ) → b ≡ true → cond (a && not b) x y ≡ y
    waits_not a false x y h = absurd (never h)
    waits_not true true x y h = refl
    waits_not false true x y h = refl

    far_phase : (p : Phase) → s.sequencer.phase ≡ p → distance_in p s ≡ unreached
    unfolding distance_in is_phase phase_number phase_sel
    far_phase Idle e = none_free
    far_phase Waiting e = waits_not (leb 8 s.quiet) (bus_taken s) _ (bus_free_distance s) taken ∙ none_free
    far_phase Arbitrating e = absurd (never (ap (λ (p : Phase). not (is_phase Arbitrating p)) (sym e) ∙ parts.2))
    far_phase Clearing e = absurd (never (sym (ap phase_sel (sym e) ∙ others.1)))
    far_phase Selecting e = absurd (never (sym (ap phase_sel (sym e) ∙ others.1)))
    far_phase Holding e = none_free
    far_phase Answering e = absurd (never (sym others.0 ∙ answering_called s r e))
    far_phase Answered e = none_free

    pub connected_far : 1 < distance s
    unfolding distance
    connected_far = omega (arith, far_phase s.sequencer.phase refl)

    connected_tick : InRange s → Settled (ticked s) × (spent (ticked s) ≡ true)
    connected_tick i =
        subst (λ (n : State). Settled n × (spent n ≡ true)) (sym (ticked_steady s r i connected_far)) (
          (advanced_rests s r 1 i connected_far).resting,
          ap (λ (b : Bool). b || barred (advanced 1 s)) (advanced_connected 1 s ∙ c),
        )

  -- ONCE SPENT, A TICK SETTLES NOTHING, AND IT STAYS SPENT
  either : (a b : Bool) → (a || b) ≡ true → a ≡ false → b ≡ true
  either true b h e = absurd (never (sym e))
  either false b h e = h

  pub spent_tick : InRange s → spent s ≡ true → Settled (ticked s) × (spent (ticked s) ≡ true)
  spent_tick i h = go (connected s) refl
    where
      go : (c : Bool) → connected s ≡ c → Settled (ticked s) × (spent (ticked s) ≡ true)
      go true c = connected_tick c i
      go false c =
          let b = not_both (outside_bsy s) s.registers.scsisig.ioexp (either (connected s) (barred s) h c) in
          barred_tick (b.0, b.1)

  -- what such a tick reports
  pub nothing_settled : Settled (ticked s) → settled_c s (Ticks 1) ≡ started (ticked s)
  unfolding started
  nothing_settled h = c_ticks s r ∙ settle_rests (conditions (ticked s)) turns (started (ticked s)) h

-- WHAT TICKS REPORT TOGETHER
record Silent (r : Stepped) : Type 0 where
  moves : r.moves ≡ 0
  acks : r.acks ≡ 0
  sent : r.sent ≡ []

-- "moves ... at most 16; ACKs at most 8"
pub record Few (r : Stepped) : Type 0 where
  pub moves : r.moves ≤ 16
  pub acks : r.acks ≤ 8
  pub sent : length r.sent ≤ 8

spent_done : (s : State) (e : Event) → spent (after_d s e) ≡ spent (after_b s e)
unfolding after_d finished connected rst_seen bsy_seen sel_seen
spent_done s e = refl

module _ (s : State) (r : AtRest s) (i : InRange s) where
  abbrev next : State
  next = (access s (Ticks 1)).state

  silent_tick : Settled s r (ticked s) → Silent (access s (Ticks 1))
  unfolding started
  silent_tick h =
      let e = nothing_settled s r h in
      subst (λ (k : Stepped). Silent k) (sym (tick_plain s i))
      (record { moves = ap (λ (c : Settling). c.moves) e; acks = ap (λ (c : Settling). c.acks) e; sent = ap (λ (c : Settling). c.sent) e })

  spent_next : spent next ≡ spent (ticked s)
  spent_next =
      ap (λ (k : Stepped). spent k.state) (tick_plain s i) ∙ spent_done s (Ticks 1) ∙ ap (λ (b : State). spent b) (b_ticks s r)

  next_rests : AtRest next
  next_rests = access_rests s (Ticks 1) (omega arith) i r

  next_fits : StepFits (access s (Ticks 1))
  next_fits = access_fits s (Ticks 1) (omega arith) i

-- once spent, they report nothing
spent_ticks : (n : ℕ) (s : State) → AtRest s → InRange s → spent s ≡ true → Silent (single_ticks n s)
unfolding single_ticks ended
spent_ticks zero s r i h = record { moves = refl; acks = refl; sent = refl }
spent_ticks (suc n) s r i h =
    let t = spent_tick s r i h in
    let a = silent_tick s r i t.0 in
    let b = spent_ticks n (next s r i) (next_rests s r i) (next_fits s r i).state (spent_next s r i ∙ t.1) in
    record { moves = omega (arith, a.moves, b.moves); acks = omega (arith, a.acks, b.acks); sent = rw (a.sent, b.sent) }

few_and_none : (a b : Stepped) → StepFits a → Silent b → Few (joined a b)
few_and_none a b f n =
    record {
      moves = omega (arith, f.moves, n.moves);
      acks = omega (arith, f.acks, n.acks);
      sent = rw (n.sent, append-nil) f.sent;
    }

none_and_few : (a b : Stepped) → Silent a → Few b → Few (joined a b)
none_and_few a b n f =
    record {
      moves = omega (arith, f.moves, n.moves);
      acks = omega (arith, f.acks, n.acks);
      sent = rw n.sent f.sent;
    }

-- AT REST, n TICKS REPORT NO MORE THAN ONE EVENT
pub few_ticks : (n : ℕ) (s : State) → AtRest s → InRange s → Few (single_ticks n s)
unfolding single_ticks ended
few_ticks zero s r i = record { moves = omega arith; acks = omega arith; sent = omega arith }
few_ticks (suc n) s r i = go (spent (ticked s)) refl (few_ticks n (next s r i) (next_rests s r i) (next_fits s r i).state)
  where
    go : (b : Bool) → spent (ticked s) ≡ b → Few (single_ticks n (next s r i)) → Few (joined (access s (Ticks 1)) (single_ticks n (next s r i)))
    go true e f =
        few_and_none (access s (Ticks 1)) (single_ticks n (next s r i)) (next_fits s r i)
        (spent_ticks n (next s r i) (next_rests s r i) (next_fits s r i).state (spent_next s r i ∙ e))
    go false e f =
        none_and_few (access s (Ticks 1)) (single_ticks n (next s r i)) (silent_tick s r i (unspent_tick s r e)) f

-- THE SCSI FIFO HOLDS AT MOST 8, AND EVERY MOVE GOES THROUGH IT: from n bytes held to m, a move outbound fills it and an ACK takes
-- from it, a move inbound takes from it and an ACK fills it or finds the byte there
abbrev Carried : Bool → ℕ → ℕ → ℕ → ℕ → Type 0
Carried true n m moves acks = m + acks ≡ n + moves
Carried false n m moves acks = m + moves ≤ n + acks

-- what ticks from s carried, in the direction that 352h has throughout
record Carries (s : State) (r : Stepped) : Type 0 where
  control : r.state.registers.dmacntrl0 ≡ s.registers.dmacntrl0
  held : Carried s.registers.dmacntrl0.write (length s.transfer.scsi) (length r.state.transfer.scsi) r.moves r.acks

carried_more : (o : Bool) (n m k v w a b : ℕ) → Carried o n m v a → Carried o m k w b → Carried o n k (v + w) (a + b)
carried_more true n m k v w a b f g = omega arith
carried_more false n m k v w a b f g = omega arith

carries_more : (s : State) (a b : Stepped) → Carries s a → Carries a.state b → Carries s (joined a b)
carries_more s a b f g =
    let h = subst (λ (d : Dmacntrl0). Carried d.write (length a.state.transfer.scsi) (length b.state.transfer.scsi) b.moves b.acks) f.control g.held in
    record {
      control = g.control ∙ f.control;
      held = carried_more s.registers.dmacntrl0.write _ _ _ a.moves b.moves a.acks b.acks f.held h;
    }

carried_most : (o : Bool) (n m v a : ℕ) → n ≤ 8 → m ≤ 8 → a ≤ 8 → Carried o n m v a → v ≤ 16
carried_most true n m v a x y z f = omega arith
carried_most false n m v a x y z f = omega arith

-- settling, by its counts
carried_settling : (c : Conditions) (h n a : ℕ) (x : Settling) → Counts c h n a x → Carried c.outbound n (length x.transfer.scsi) x.moves x.acks
carried_settling c h n a x k = go c.outbound c.synchronous k.scsi
  where
    go : (o y : Bool) → cond o (length x.transfer.scsi + x.acks ≡ n + x.moves) (length x.transfer.scsi + x.moves ≡ n + cond y 0 x.acks) → Carried o n (length x.transfer.scsi) x.moves x.acks
    go true y f = f
    go false true f = omega arith
    go false false f = omega arith

-- a tick stores no byte and leaves 352h
module _ (s : State) where
  tick_control : (after_b s (Ticks 1)).registers.dmacntrl0 ≡ s.registers.dmacntrl0
  unfolding after_a registers_a writes
  tick_control = ap (λ (a : Apart). a.control) (b_leaves s (Ticks 1))

  tick_lines : (at_req s (Ticks 1)).lines ≡ s.lines
  unfolding after_a lines_after
  tick_lines = ap (λ (a : Apart). a.lines) (req_leaves s (Ticks 1))

  tick_stores : stored_at_req s (Ticks 1) ≡ []
  unfolding req_rises
  tick_stores = rw (tick_lines, and-not_self)

  tick_scsi : (after_b s (Ticks 1)).transfer.scsi ≡ s.transfer.scsi
  unfolding after_a transfer_a clrch writes
  tick_scsi = scsi_b s (Ticks 1) ∙ ap (λ (l : List ℕ). s.transfer.scsi ++ l) tick_stores ∙ append-nil s.transfer.scsi

-- what is not enabled acknowledges nothing
module _ (c : Conditions) (off : c.enabled ≡ false) where
  no_acks : (k : ℕ) (x : Settling) → x.acks ≡ 0 → (settle c k x).acks ≡ 0
  unfolding move can_handshake
  no_acks =
      settle_keeps (λ (x : Settling). x.acks ≡ 0) c (λ x e h. h)
      (λ x e h. absurd (never (sym off ∙ left_true c.enabled _ e)))

record Early (x : Settling) : Type 0 where
  acks : x.acks ≡ 0
  sent : length x.sent ≡ 0

early : (c : Conditions) (h n a : ℕ) (x : Settling) → Counts c h n a x → x.acks ≡ 0 → Early x
early c h n a x k e = record { acks = e; sent = go c.outbound k.sent }
  where
    go : (o : Bool) → cond o (length x.sent ≡ x.acks) (x.sent ≡ []) → length x.sent ≡ 0
    go true g = g ∙ e
    go false g = ap length g

module _ (s : State) (i : InRange s) where
  is_done_lem : is_done (access_code s (Ticks 1)) ≡ true
  is_done_lem = rw (ticks_done s 1 i.transfer.host)

  after_b_in : InRange (after_b s (Ticks 1))
  after_b_in = after_b_fits s (Ticks 1) (omega arith) is_done_lem i

  early_tick : connected (after_b s (Ticks 1)) ≡ false → Early (settled_c s (Ticks 1))
  unfolding settled_c started
  early_tick h =
      let b = after_b s (Ticks 1) in
      let c = conditions b in
      early c (length b.transfer.host) (length b.transfer.scsi) (acks_left c b.transfer) (settled_c s (Ticks 1))
      (settling_counts c turns b after_b_in.transfer.scsi)
      (no_acks c (unenabled b h) turns (started b) refl)

  abbrev first : State
  first = (access s (Ticks 1)).state

  first_is : first ≡ after_d s (Ticks 1)
  first_is = ap (λ (k : Stepped). k.state) (tick_plain s i)

  first_rests : AtRest first
  first_rests = subst (λ (n : State). AtRest n) (sym first_is) (done_rests s (Ticks 1) after_b_in)

  first_fits : StepFits (access s (Ticks 1))
  first_fits = access_fits s (Ticks 1) (omega arith) i

  tick_carried : Carried s.registers.dmacntrl0.write (length s.transfer.scsi) (length (settled_c s (Ticks 1)).transfer.scsi) (settled_c s (Ticks 1)).moves (settled_c s (Ticks 1)).acks
  unfolding settled_c conditions
  tick_carried =
      let b = after_b s (Ticks 1) in
      let x = settled_c s (Ticks 1) in
      let c = conditions b in
      let f = carried_settling c (length b.transfer.host) (length b.transfer.scsi) (acks_left c b.transfer) x (settling_counts c turns b after_b_in.transfer.scsi) in
      subst (λ (o : Bool). Carried o (length s.transfer.scsi) (length x.transfer.scsi) x.moves x.acks) (ap (λ (d : Dmacntrl0). d.write) (tick_control s))
      (subst (λ (l : List ℕ). Carried c.outbound (length l) (length x.transfer.scsi) x.moves x.acks) (tick_scsi s) f)

  tick_carries : Carries s (access s (Ticks 1))
  unfolding after_d finished
  tick_carries =
      subst (Carries s) (sym (tick_plain s i)) (record { control = tick_control s; held = tick_carried })

-- ticks, one by one
ticks_carry : (n : ℕ) (s : State) → InRange s → Carries s (single_ticks n s)
unfolding single_ticks ended
ticks_carry zero s i = record { control = refl; held = none s.registers.dmacntrl0.write }
  where
    none : (o : Bool) → Carried o (length s.transfer.scsi) (length s.transfer.scsi) 0 0
    none true = refl
    none false = omega arith
ticks_carry (suc n) s i =
    carries_more s (access s (Ticks 1)) (single_ticks n (first s i)) (tick_carries s i) (ticks_carry n (first s i) (first_fits s i).state)

-- ANY STATE IN RANGE: its first tick acknowledges nothing, or it leaves the chip connected and later ticks settle nothing
module _ (s : State) (i : InRange s) where
  -- the ACKs and the bytes sent of ticks together
  record Acked (r : Stepped) : Type 0 where
    acks : r.acks ≤ 8
    sent : length r.sent ≤ 8

  ticks_acked : (n : ℕ) → Acked (single_ticks (suc n) s)
  unfolding single_ticks
  ticks_acked n = go (connected (after_b s (Ticks 1))) refl
    where
      rest : Stepped
      rest = single_ticks n (first s i)

      go : (b : Bool) → connected (after_b s (Ticks 1)) ≡ b → Acked (joined (access s (Ticks 1)) rest)
      go true e =
          let now : spent (first s i) ≡ true = ap (λ (k : State). spent k) (first_is s i) ∙ spent_done s (Ticks 1) ∙ ap (λ (b : Bool). b || barred (after_b s (Ticks 1))) e in
          let f = few_and_none (access s (Ticks 1)) rest (first_fits s i) (spent_ticks n (first s i) (first_rests s i) (first_fits s i).state now) in
          record { acks = f.acks; sent = f.sent }
      go false e =
          let a : Early (settled_c s (Ticks 1)) = early_tick s i e in
          let f = few_ticks n (first s i) (first_rests s i) (first_fits s i).state in
          let p = tick_plain s i in
          record {
            acks = omega (arith, ap (λ (k : Stepped). k.acks) p, a.acks, f.acks);
            sent = simp length-append (omega (arith, ap (λ (k : Stepped). length k.sent) p, a.sent, f.sent));
          }

  ticks_report : (n : ℕ) → StepFits (single_ticks (suc n) s)
  ticks_report n =
      let r = single_ticks (suc n) s in
      let a = ticks_acked n in
      let f = single_in_range (suc n) s i in
      record {
        state = f;
        moves = carried_most s.registers.dmacntrl0.write (length s.transfer.scsi) (length r.state.transfer.scsi) r.moves r.acks i.transfer.scsi f.transfer.scsi a.acks (ticks_carry (suc n) s i).held;
        acks = a.acks;
        sent = a.sent;
      }

taken_reports : (n : ℕ) (s : State) → InRange s → StepFits (ticks_taken n s)
unfolding ticks_taken
taken_reports zero s i = access_fits s (Ticks 0) (omega arith) i
taken_reports (suc n) s i = ticks_report s i n

event_reports : (s : State) (e : Event) → EventFits e → InRange s → StepFits (step_event s e)
unfolding step_event
event_reports s PowerReset f i = ended_fits power_reset Done 0 power_reset_fits
event_reports s (Write offset value) f i = access_fits s (Write offset value) f i
event_reports s (Read offset) f i = access_fits s (Read offset) f i
event_reports s (WordWrite word) f i = access_fits s (WordWrite word) f i
event_reports s WordRead f i = access_fits s WordRead f i
event_reports s (Drive lines) f i = access_fits s (Drive lines) f i
event_reports s (Ticks n) f i = taken_reports n s i

decoded_reports : (s : State) (d : Option Event) → DecodedFits d → InRange s → StepFits (step_decoded s d)
unfolding step_decoded
decoded_reports s (Some e) f i = event_reports s e f i
decoded_reports s None f i = ended_fits s Malformed 0 i

-- EVERY RECORD, whatever numbers it holds, leaves the state in range and reports what fits its fields: moves in 5 bits, ACKs in 4
pub step_fits : (s : State) (bytes : List ℕ) → InRange s → StepFits (step s bytes)
unfolding step
step_fits s bytes i = decoded_reports s (decode bytes) (decode_fits bytes) i

-- "AT MOST 16; ACKS AT MOST 8" OF EVERY CHIP IN RANGE, at rest or not, ticks together included
pub in_range_few : (s : State) (bytes : List ℕ) → InRange s → Few (step s bytes)
in_range_few s bytes i =
    let f = step_fits s bytes i in
    record { moves = f.moves; acks = f.acks; sent = f.sent }

-- and so of a chip at rest
pub step_few : (s : State) (bytes : List ℕ) → AtRest s → InRange s → Few (step s bytes)
step_few s bytes r i = in_range_few s bytes i

-- FROM POWER RESET, AFTER ANY LIST OF RECORDS, THE NEXT REPORTS AT MOST 16 MOVES AND 8 ACKS
pub always_few : (records : List (List ℕ)) (bytes : List ℕ) → Few (step (after power_reset records) bytes)
always_few records bytes = in_range_few (after power_reset records) bytes (always_in_range records)

-- an answer is sixteen bytes
pub record AnswerFits (l : List ℕ) : Type 0 where
  pub size : length l ≡ 16
  pub bytes : Bytes l

control_fits : (s : State) → control_driven s < 256
unfolding control_driven
control_fits s =
    let g = s.registers.scsisig in
    let p = s.sequencer.phase in
    byte_fits false false false g.atno (g.selo || phase_sel p) (g.bsyo || phase_bsy p) false (ack_driven s)

sent_size : (l : List ℕ) → length l ≤ 8 → length (padded 8 l) ≡ 8
unfolding padded
sent_size l h = simp (length-append, length-replicate) (omega arith)

sent_fits : (l : List ℕ) → Bytes l → Bytes (padded 8 l)
unfolding padded
sent_fits l h = bytes_append l (replicate (8 - length l) 0) h (bytes_zeros (8 - length l))

pub stepped_answer_fits : (r : Stepped) → StepFits r → StepBytes r → AnswerFits (answer_bytes (answer_of r))
unfolding answer_of answer_bytes
stepped_answer_fits r f g =
    let s = r.state in
    record {
      size = rw (sent_size r.sent f.sent);
      bytes = (
        omega (arith, eight_codes r.code, one_fits (irq s)),
        (
          omega (arith, one_fits (driving s), one_fits s.registers.scsiseq.scsirsto, one_fits (parity_driven s)),
          (
            omega arith,
            (
              omega arith,
              (
                control_fits s,
                (
                  data_driven_fits s g.state.registers g.state.transfer,
                  (
                    omega arith,
                    (
                      omega (arith, f.state.transfer.host),
                      sent_fits r.sent g.sent,
                    ),
                  ),
                ),
              ),
            ),
          ),
        ),
      );
    }

-- EVERY ANSWER IS SIXTEEN BYTES, each below 256
pub answer_fits : (s : State) (bytes : List ℕ) → InRange s → InBytes s → AnswerFits (answer s bytes)
unfolding answer
answer_fits s bytes i j = stepped_answer_fits (step s bytes) (step_fits s bytes i) (step_bytes s bytes i j)

-- FROM POWER RESET, AFTER ANY LIST OF RECORDS, THE NEXT ANSWER IS SIXTEEN BYTES
pub always_answers : (records : List (List ℕ)) (bytes : List ℕ) → AnswerFits (answer (after power_reset records) bytes)
always_answers records bytes =
    answer_fits (after power_reset records) bytes (always_in_range records) (always_in_bytes records)
