-- R-1: A LOST ROUND OF 72 TICKS LEAVES ALL AS IT WAS: 8 ticks to bus free, 16 of bus free delay and 48 of arbitration, at whose end
-- others drive a higher ID and the chip waits again.
use Prim.Native.Nat.{ℕ, suc, ◌+◌, ◌%◌, ◌≤◌, ◌<◌}
use mathlib.Core.Path.{◌≡◌, refl, ap, sym, subst, ◌∙◌}
use mathlib.Core.Bool.{Bool, true, false, not, ◌&&◌, ◌||◌, cond}
use native.Mathlib.Omega.{arith}
use lib.Dec.{leb}
use Rattle.rules.specs.State.{State}
use Rattle.rules.specs.Registers.{scsisig_of}
use Rattle.rules.specs.Changed.{with_registers, with_status, with_quiet, with_sequencer, with_offset, with_ack}
use Rattle.rules.specs.Seen.{phase_number, is_phase, phase_bsy, phase_sel, rst_seen, bsy_seen, sel_seen, connected, matched, mismatched, ack_seen, ack_driven, automatic, req_seen}
use Rattle.rules.specs.Sequencer.{bus_free_delay, arbitration_delay, selection_asked, called, higher_id, sequenced_of, waited, entered, selection_with, selingo_cleared, selection_freed, arbitrates, waiting_for, arbitrating_for, tick_in, resolved, silenced, sequenced}
use Rattle.rules.specs.StepB.{registers_with, quiet_after, bus_free, bus_freed, after_quiet_ticks, phase_changes, after_phase_changes, after_sequencer}
use Rattle.rules.specs.StepC.{Settling, conditions, can_move, move, can_handshake, turns, started, settled_c}
use Rattle.rules.specs.StepD.{pio_ready, status_raised, status_d, finished, after_d}
use Rattle.rules.specs.Answers.{Stepped}
use Rattle.rules.specs.Step.{ended, access, joined, single_ticks, ticks_taken, step_event}
use Rattle.rules.specs.Ticks.{bus_taken, ticks_in, advanced, bus_free_distance, distance_in, distance}
use Rattle.rules.specs.Ranges.{InRange}
use Rattle.rules.specs.Rest.{AtRest}
use Rattle.rules.specs.declared.codes.Code.TheVariants.{Done}
use Rattle.rules.specs.declared.chip.Phase.{Phase}
use Rattle.rules.specs.declared.chip.Phase.TheVariants.{Waiting, Arbitrating, Clearing}
use Rattle.rules.specs.declared.chip.Sequenced.{Sequenced}
use Rattle.rules.specs.declared.chip.Sequencer.{Sequencer}
use Rattle.rules.specs.declared.records.Event.TheVariants.{Ticks}
use Rattle.rules.proofs.Logic.{never, left_true}
use Rattle.rules.proofs.Resolving.{Calm, calm_still, sequential_by, sequenced_into, sequenced_into_lem, same_into, selingo_still}
use Rattle.rules.proofs.Rest.{settle_rests}
use Rattle.rules.proofs.Still.{finished_still, access_rests, single_rests}
use Rattle.rules.proofs.Settling.{settle_keeps}
use Rattle.rules.proofs.Ranges.{access_fits, single_in_range}
use Rattle.rules.proofs.Reports.{unenabled, no_handshake_lem}
use Rattle.rules.proofs.OneTick.{ticked, settled_from, d_ticks, c_ticks, tick_plain}
use Rattle.rules.proofs.TickByTick.{joined_none, steady_more, round}

-- the ticks of a round: to bus free, the bus free delay, arbitration
abbrev pub lost_round : ℕ
lost_round = 8 + bus_free_delay + arbitration_delay

-- A CHIP THAT CONTESTS THE BUS AND WILL LOSE: it is asked to select; others drive a higher ID, and neither BSY, SEL nor RST, nor does
-- 343h drive BSY or SEL
pub record Contests (s : State) : Type 0 where
  pub selingo : s.sequencer.status.selingo ≡ false
  pub asked : selection_asked s.registers ≡ true
  pub higher : higher_id s ≡ true
  pub bsy : s.lines.bsy ≡ false
  pub sel : s.lines.sel ≡ false
  pub bsyo : s.registers.scsisig.bsyo ≡ false
  pub selo : s.registers.scsisig.selo ≡ false
  pub rst : rst_seen s ≡ false

-- it has just lost: it waits, no tick of it spent, no quiet tick counted
pub record JustLost (s : State) : Type 0 where
  pub contests : Contests s
  pub phase : s.sequencer.phase ≡ Waiting
  pub ticks : s.sequencer.ticks ≡ 0
  pub quiet : s.quiet ≡ 0

-- bus free has nothing left to change: BUSFREE is set, 343h, the offset, automatic ACK and SELDO are 0 and nothing is noted
pub record FreeAlready (s : State) : Type 0 where
  pub busfree : s.status.busfree ≡ true
  pub scsisig : s.registers.scsisig ≡ scsisig_of false 0
  pub offset : s.transfer.offset ≡ 0
  pub ack : s.transfer.ack ≡ false
  pub seldo : s.sequencer.status.seldo ≡ false
  pub noted : s.sequencer.noted ≡ false

pub record LosesAgain (s : State) : Type 0 where
  pub lost : JustLost s
  pub free : FreeAlready s

-- the chip in the course of a round: its quiet ticks, its phase and the ticks spent in it
abbrev in_round : ℕ → Phase → ℕ → State → State
in_round quiet phase ticks s =
    let q = s.sequencer in
    with_quiet quiet
    (with_sequencer
    (record { phase = phase; ticks = ticks; noted = q.noted; selid = q.selid; status = q.status; latches = q.latches }) s)

-- where there is no connection nothing is matched
unmatched : (c a b d : Bool) → c ≡ false → (c && a && b && d) ≡ false
unmatched true a b d h = absurd (never (sym h))
unmatched false a b d h = refl

-- where others do not drive SEL the chip is not called
unseen : (a x b c d : Bool) → x ≡ false → (a && x && b && c && d) ≡ false
unseen a true b c d h = absurd (never (sym h))
unseen true false b c d h = refl
unseen false false b c d h = refl

-- where nobody drives BSY there is no connection
unconnected : (b x y z : Bool) → b ≡ false → (((b || false) || false) && not x && not y && not z) ≡ false
unconnected true x y z h = absurd (never (sym h))
unconnected false x y z h = refl

-- bus free changes nothing
already_free : (s : State) → FreeAlready s → bus_freed s ≡ s
unfolding bus_freed selection_freed
already_free s l j =
    let r = s.registers in
    let k = s.status in
    let q = s.sequencer in
    with_status
    (record {
      spiordy = k.spiordy;
      scsirsti = k.scsirsti;
      busfree = sym l.busfree j;
      scsiperr = k.scsiperr;
      phasechg = k.phasechg;
      reqinit = k.reqinit;
      syncerr = k.syncerr;
      fwerr = k.fwerr;
    })
    (with_registers (registers_with r.scsiseq r.sxfrctl0 (sym l.scsisig j) r)
    (with_sequencer
    (record {
      phase = q.phase;
      ticks = q.ticks;
      noted = sym l.noted j;
      selid = q.selid;
      status =
          selection_with (sym l.seldo j) (ap (λ (b : Bool). not b && q.status.seldi) l.noted j) q.status.selingo
          q.status.selto;
      latches = q.latches;
    })
    (with_offset (sym l.offset j) (with_ack (sym l.ack j) s))))

module _ (s : State) (l : Contests s) (r : AtRest s) (i : InRange s) where
  outside : (s.lines.bsy || s.registers.scsisig.bsyo) ≡ false
  outside = rw (l.bsy, l.bsyo)

  outside_sel : (s.lines.sel || s.registers.scsisig.selo) ≡ false
  outside_sel = rw (l.sel, l.selo)

  uncalled : called s ≡ false
  unfolding called
  uncalled = unseen s.registers.scsiseq.enrseli s.lines.sel s.lines.io _ _ l.sel

  unreset : (q : ℕ) (p : Phase) (k : ℕ) → rst_seen (in_round q p k s) ≡ false
  unfolding rst_seen
  unreset q p k = l.rst

  -- waiting, the bus is free; arbitrating, it is no connection
  module _ (q k : ℕ) where
    waiting_free : bus_taken (in_round q Waiting k s) ≡ false
    unfolding bsy_seen sel_seen phase_bsy phase_sel
    waiting_free = rw (outside, outside_sel)

    waiting_apart : connected (in_round q Waiting k s) ≡ false
    unfolding connected bsy_seen phase_bsy
    waiting_apart = rw outside

    arbitrating_apart : connected (in_round q Arbitrating k s) ≡ false
    unfolding connected is_phase phase_number
    arbitrating_apart = go (bsy_seen (in_round q Arbitrating k s)) (sel_seen (in_round q Arbitrating k s)) (rst_seen (in_round q Arbitrating k s))
      where
        go : (a b c : Bool) → (a && not b && not c && false) ≡ false
        go true true c = refl
        go true false true = refl
        go true false false = refl
        go false b c = refl

    waiting_calm : Calm (in_round q Waiting k s) (sequenced_of (in_round q Waiting k s))
    unfolding sequenced_of called is_phase phase_number selection_asked
    waiting_calm =
        record {
          uncalled = refl;
          let_go = refl;
          forestalled = refl;
          connected = refl;
          begun = refl;
          withdrawn = rw l.asked;
          answered = uncalled;
        }

    arbitrating_calm : Calm (in_round q Arbitrating k s) (sequenced_of (in_round q Arbitrating k s))
    unfolding sequenced_of is_phase phase_number
    arbitrating_calm =
        record {
          uncalled = refl;
          let_go = refl;
          forestalled = l.sel;
          connected = refl;
          begun = refl;
          withdrawn = refl;
          answered = refl;
        }

  -- IN THE COURSE OF A ROUND IT IS AT REST, where it is not connected and there is nothing to resolve
  module _ (q : ℕ) (p : Phase) (k : ℕ) (apart : connected (in_round q p k s) ≡ false) where
    abbrev m : State
    m = in_round q p k s

    unmatches : matched m ≡ false
    unfolding matched
    unmatches = unmatched (connected m) _ _ _ apart

    unready : pio_ready m ≡ false
    unfolding pio_ready
    unready = rw unmatches (go (automatic m.registers) (req_seen m) (not m.transfer.ack))
      where
        go : (a b c : Bool) → (a && false && b && c) ≡ false
        go true b c = refl
        go false b c = refl

    no_move_lem : can_move (conditions m) m.transfer ≡ false
    unfolding conditions can_move
    no_move_lem = r.resting.no_move

    -- PHASECHG is not set
    unchanging : (last : State) → phase_changes last m ≡ false
    unfolding phase_changes mismatched
    unchanging last = rw apart

    round_rests : Calm m (sequenced_of m) → (bus_taken m ≡ true → q ≡ 0) → AtRest m
    unfolding ack_seen ack_driven rst_seen
    round_rests c h =
        record {
          resting = record { no_move = no_move_lem; no_handshake = no_handshake_lem m apart };
          fwerr = r.fwerr;
          spiordy = λ e. absurd (never (sym unready ∙ e));
          reqinit = r.reqinit;
          scsiperr = r.scsiperr;
          quiet = h;
          sequencer = sequential_by m (λ e. absurd (never (sym l.rst ∙ e))) (λ e. c);
        }

    round_fits : q ≤ 8 → k < 16777216 → InRange m
    round_fits a b =
        record {
          registers = i.registers;
          transfer = i.transfer;
          stack = i.stack;
          quiet = a;
          identity = i.identity;
          sequencer = b;
        }

    -- A TICK THAT LEADS TO IT, from another moment of the round, reports nothing
    round_tick :
        (q' : ℕ) (p' : Phase) (k' : ℕ) → AtRest (in_round q' p' k' s) → InRange (in_round q' p' k' s) → AtRest m →
        ticked (in_round q' p' k' s) ≡ m → access (in_round q' p' k' s) (Ticks 1) ≡ ended m Done 0
    unfolding ended started
    round_tick q' p' k' r' i' rm e =
        let n = in_round q' p' k' s in
        let settled : settled_from (ticked n) ≡ started m =
        ap settled_from e ∙ settle_rests (conditions m) turns (started m) rm.resting in
        let state : after_d n (Ticks 1) ≡ m = d_ticks n r' ∙ (λ j. finished n n (e j) (settled j)) ∙ same_finished ∙ finished_still m rm in
        let c : settled_c n (Ticks 1) ≡ started m = c_ticks n r' ∙ settled in
        tick_plain n i'
        ∙ (λ j. record { state = state j; code = Done; value = 0; moves = (c j).moves; acks = (c j).acks; sent = (c j).sent })
      where
        same_finished : finished (in_round q' p' k' s) (in_round q' p' k' s) m (started m) ≡ finished m m m (started m)
        same_finished = unfold finished in refl

  -- THE THREE TICKS THAT CHANGE MORE THAN THE COUNTS
  -- the moments of the round
  abbrev waits : ℕ → ℕ → State
  waits q k = in_round q Waiting k s

  abbrev arbitrating : ℕ → State
  arbitrating k = in_round 0 Arbitrating k s

  waits_rests : (q k : ℕ) → AtRest (waits q k)
  waits_rests q k =
      round_rests q Waiting k (waiting_apart q k) (waiting_calm q k) (λ e. absurd (never (sym (waiting_free q k) ∙ e)))

  waits_fits : (q k : ℕ) → q ≤ 8 → k < 16777216 → InRange (waits q k)
  waits_fits q k = round_fits q Waiting k (waiting_apart q k)

  arbitrating_rests : (k : ℕ) → AtRest (arbitrating k)
  arbitrating_rests k = round_rests 0 Arbitrating k (arbitrating_apart 0 k) (arbitrating_calm 0 k) (λ e. refl)

  arbitrating_fits : (k : ℕ) → k < 16777216 → InRange (arbitrating k)
  arbitrating_fits k = round_fits 0 Arbitrating k (arbitrating_apart 0 k) (omega arith)

  -- what the sequencer makes of a moment, where what it does in a tick leaves nothing to resolve
  sequences :
      (before : ℕ) (n : State) (y : Sequenced) → rst_seen n ≡ false → tick_in n.sequencer.phase before n (sequenced_of n) ≡ y →
      Calm n y → after_sequencer true before n ≡ sequenced_into y n
  unfolding sequenced sequenced_of
  sequences before n y h e c =
      sequenced_into_lem n true before
      ∙ ap (λ (x : Sequenced). sequenced_into x n) ((λ j. cond (h j) (silenced (sequenced_of n)) (resolved n (e j))) ∙ calm_still n y c)

  -- 1. bus free
  abbrev at_free : State
  at_free = bus_freed (waits 8 0)

  comes_free : after_quiet_ticks 1 (waits 7 0) ≡ at_free
  unfolding after_quiet_ticks
  comes_free j = cond (free j) (bus_freed (with_quiet (eighth j) (waits 7 0))) (with_quiet (eighth j) (waits 7 0))
    where
      eighth : quiet_after 1 (waits 7 0) ≡ 8
      eighth = unfold quiet_after in ap (λ (b : Bool). cond b 0 8) (waiting_free 7 0)

      free : bus_free 1 (waits 7 0) ≡ true
      free = unfold bus_free in ap (λ (n : ℕ). leb 8 n && true) eighth

  free_apart : connected at_free ≡ false
  unfolding bus_freed selection_freed connected bsy_seen phase_bsy
  free_apart = unconnected s.lines.bsy (sel_seen at_free) (rst_seen at_free) (is_phase Arbitrating at_free.sequencer.phase) l.bsy

  free_calm : Calm at_free (sequenced_of at_free)
  unfolding bus_freed selection_freed sequenced_of called is_phase phase_number selection_asked
  free_calm =
      record {
        uncalled = refl;
        let_go = refl;
        forestalled = refl;
        connected = refl;
        begun = refl;
        withdrawn = rw l.asked;
        answered = unseen s.registers.scsiseq.enrseli s.lines.sel s.lines.io _ _ l.sel;
      }

  tick_frees : ticked (waits 7 0) ≡ at_free
  unfolding ticked after_phase_changes
  tick_frees =
      let e : after_sequencer true 7 (after_quiet_ticks 1 (waits 7 0)) ≡ at_free =
      ap (after_sequencer true 7) comes_free ∙ sequences 7 at_free (sequenced_of at_free) unreset_free stays free_calm ∙ same_into at_free in
      ap (after_phase_changes (waits 7 0)) e ∙ rw unchanged
    where
      unreset_free : rst_seen at_free ≡ false
      unreset_free = unfold bus_freed rst_seen in l.rst

      stays : tick_in at_free.sequencer.phase 7 at_free (sequenced_of at_free) ≡ sequenced_of at_free
      stays = unfold bus_freed selection_freed tick_in waiting_for waited sequenced_of in refl

      unchanged : phase_changes (waits 7 0) at_free ≡ false
      unchanged = unfold phase_changes mismatched in rw free_apart

  -- 2. the end of the bus free delay
  quiet_stays : after_quiet_ticks 1 (waits 8 15) ≡ waits 8 15
  unfolding after_quiet_ticks
  quiet_stays = (λ j. cond (free j) (bus_freed (with_quiet (ninth j) (waits 8 15))) (with_quiet (ninth j) (waits 8 15)))
    where
      ninth : quiet_after 1 (waits 8 15) ≡ 8
      ninth = unfold quiet_after in ap (λ (b : Bool). cond b 0 8) (waiting_free 8 15)

      free : bus_free 1 (waits 8 15) ≡ false
      free = unfold bus_free in ap (λ (n : ℕ). leb 8 n && false) ninth

  tick_arbitrates : ticked (waits 8 15) ≡ arbitrating 0
  unfolding ticked after_phase_changes
  tick_arbitrates =
      let n = waits 8 15 in
      let y = arbitrates (sequenced_of n) in
      let e : after_sequencer true 8 (after_quiet_ticks 1 n) ≡ arbitrating 0 =
      ap (after_sequencer true 8) quiet_stays ∙ sequences 8 n y (unreset 8 Waiting 15) begins calm ∙ into in
      ap (after_phase_changes n) e ∙ rw (unchanging 0 Arbitrating 0 (arbitrating_apart 0 0) n)
    where
      begins : tick_in Waiting 8 (waits 8 15) (sequenced_of (waits 8 15)) ≡ arbitrates (sequenced_of (waits 8 15))
      begins =
          unfold tick_in sequenced_of waiting_for in
          ap (λ (b : Bool). waiting_for (cond (true && not b) 16 0) (sequenced_of (waits 8 15))) (waiting_free 8 15)

      calm : Calm (waits 8 15) (arbitrates (sequenced_of (waits 8 15)))
      calm =
          unfold arbitrates selingo_cleared is_phase phase_number in
          record { uncalled = refl; let_go = refl; forestalled = l.sel; connected = refl; begun = refl; withdrawn = refl; answered = refl }

      into : sequenced_into (arbitrates (sequenced_of (waits 8 15))) (waits 8 15) ≡ arbitrating 0
      into =
          unfold arbitrates sequenced_of in
          ap (λ (t : Sequencer). with_quiet 0 (with_sequencer t s)) (selingo_still (arbitrating 0).sequencer l.selingo)

  -- 3. the end of arbitration, lost
  quiet_none : after_quiet_ticks 1 (arbitrating 47) ≡ arbitrating 47
  unfolding after_quiet_ticks bus_free quiet_after bsy_seen phase_bsy
  quiet_none = rw (outside)

  tick_loses : ticked (arbitrating 47) ≡ waits 0 0
  unfolding ticked after_phase_changes
  tick_loses =
      let n = arbitrating 47 in
      let y = entered Waiting (sequenced_of n) in
      let e : after_sequencer true 0 (after_quiet_ticks 1 n) ≡ waits 0 0 =
      ap (after_sequencer true 0) quiet_none ∙ sequences 0 n y (unreset 0 Arbitrating 47) loses calm ∙ into in
      ap (after_phase_changes n) e ∙ rw (unchanging 0 Waiting 0 (waiting_apart 0 0) n)
    where
      loses : tick_in Arbitrating 0 (arbitrating 47) (sequenced_of (arbitrating 47)) ≡ entered Waiting (sequenced_of (arbitrating 47))
      loses =
          unfold tick_in arbitrating_for sequenced_of higher_id in
          ap (λ (b : Bool). entered (cond b Waiting Clearing) (sequenced_of (arbitrating 47))) l.higher

      calm : Calm (arbitrating 47) (entered Waiting (sequenced_of (arbitrating 47)))
      calm =
          unfold entered sequenced_of is_phase phase_number called selection_asked in
          record {
            uncalled = refl;
            let_go = refl;
            forestalled = refl;
            connected = refl;
            begun = refl;
            withdrawn = rw l.asked;
            answered = uncalled;
          }

      into : sequenced_into (entered Waiting (sequenced_of (arbitrating 47))) (arbitrating 47) ≡ waits 0 0
      into = unfold entered sequenced_of in refl

  -- THE TICKS BETWEEN THEM COUNT
  to_free : 7 < distance (waits 0 0)
  unfolding distance distance_in bus_free_distance
  to_free = rw (waiting_free 0 0) (omega arith)

  counts_seven : advanced 7 (waits 0 0) ≡ waits 7 0
  unfolding advanced quiet_after ticks_in
  counts_seven = rw (waiting_free 0 0)

  to_arbitrate : 15 < distance (waits 8 0)
  unfolding distance distance_in
  to_arbitrate = rw (waiting_free 8 0) (omega arith)

  counts_fifteen : advanced 15 (waits 8 0) ≡ waits 8 15
  unfolding advanced quiet_after ticks_in
  counts_fifteen = rw (waiting_free 8 0)

  to_lose : 47 < distance (arbitrating 0)
  unfolding distance distance_in
  to_lose = omega arith

  counts_fortyseven : advanced 47 (arbitrating 0) ≡ arbitrating 47
  unfolding advanced quiet_after ticks_in bsy_seen phase_bsy
  counts_fortyseven = rw outside

  -- a tick that leads on may be left out
  onward : (n m : State) (k : ℕ) → access n (Ticks 1) ≡ ended m Done 0 → single_ticks (suc k) n ≡ single_ticks k m
  unfolding single_ticks ended
  onward n m k e = (λ j. joined (e j) (single_ticks k (e j).state)) ∙ joined_none m m k

  -- FROM BUS FREE ON: 16 and 48 ticks
  free_round_lem : single_ticks 64 (waits 8 0) ≡ ended (waits 0 0) Done 0
  unfolding single_ticks
  free_round_lem =
      steady_more 15 49 (waits 8 0) (waits_rests 8 0) (waits_fits 8 0 (omega arith) (omega arith)) to_arbitrate
      ∙ ap (single_ticks 49) counts_fifteen
      ∙ onward (waits 8 15) (arbitrating 0) 48
      (round_tick 0 Arbitrating 0 (arbitrating_apart 0 0) 8 Waiting 15 (waits_rests 8 15) (waits_fits 8 15 (omega arith) (omega arith))
      (arbitrating_rests 0) tick_arbitrates)
      ∙ steady_more 47 1 (arbitrating 0) (arbitrating_rests 0) (arbitrating_fits 0 (omega arith)) to_lose
      ∙ ap (single_ticks 1) counts_fortyseven
      ∙ onward (arbitrating 47) (waits 0 0) 0
      (round_tick 0 Waiting 0 (waiting_apart 0 0) 0 Arbitrating 47 (arbitrating_rests 47) (arbitrating_fits 47 (omega arith))
      (waits_rests 0 0) tick_loses)

  -- AND TO IT: 7 that count
  to_seven : (m : ℕ) → single_ticks (7 + m) (waits 0 0) ≡ single_ticks m (waits 7 0)
  to_seven m =
      steady_more 7 m (waits 0 0) (waits_rests 0 0) (waits_fits 0 0 (omega arith) (omega arith)) to_free ∙ ap (single_ticks m) counts_seven

  -- where bus free has nothing left to change, the eighth leads on
  leads_on : FreeAlready s → access (waits 7 0) (Ticks 1) ≡ ended (waits 8 0) Done 0
  leads_on f =
      round_tick 8 Waiting 0 (waiting_apart 8 0) 7 Waiting 0 (waits_rests 7 0) (waits_fits 7 0 (omega arith) (omega arith))
      (waits_rests 8 0) (tick_frees ∙ same)
    where
      same : at_free ≡ waits 8 0
      same = unfold bus_freed selection_freed in ap (in_round 8 Waiting 0) (already_free s f)

began : (s : State) → JustLost s → s ≡ in_round 0 Waiting 0 s
began s l j =
    let q = s.sequencer in
    with_quiet (l.quiet j)
    (with_sequencer
    (record { phase = l.phase j; ticks = l.ticks j; noted = q.noted; selid = q.selid; status = q.status; latches = q.latches }) s)

module _ (s : State) (l : LosesAgain s) (r : AtRest s) (i : InRange s) where
  -- A LOST ROUND LEAVES ALL AS IT WAS, and reports nothing
  pub lost_round_lem : single_ticks lost_round s ≡ ended s Done 0
  lost_round_lem =
      let c = l.lost.contests in
      let b = began s l.lost in
      ap (single_ticks 72) b ∙ to_seven s c r i 65
      ∙ onward s c r i (in_round 7 Waiting 0 s) (in_round 8 Waiting 0 s) 64 (leads_on s c r i l.free) ∙ free_round_lem s c r i
      ∙ ap (λ (n : State). ended n Done 0) (sym b)

  -- so of n ticks only those past the last whole round count
  pub lost_rounds : (n : ℕ) → single_ticks n s ≡ single_ticks (n % lost_round) s
  lost_rounds n = round n lost_round s (omega arith) lost_round_lem

-- AS ONE EVENT
pub lost_round_event : (s : State) → LosesAgain s → AtRest s → InRange s → step_event s (Ticks lost_round) ≡ ended s Done 0
unfolding step_event ticks_taken
lost_round_event s l r i = lost_round_lem s l r i

-- WHOEVER HAS JUST LOST LOSES AGAIN SO: the first round lets bus free do what it has to do, and every later one leaves all as it was
module _ (s : State) (l : JustLost s) (r : AtRest s) (i : InRange s) where
  abbrev c : Contests s
  c = l.contests

  abbrev before : State
  before = in_round 7 Waiting 0 s

  abbrev bus : State
  bus = bus_freed (in_round 8 Waiting 0 s)

  -- the state at the end of the eighth tick
  abbrev eighth : State
  eighth = (access before (Ticks 1)).state

  before_rests : AtRest before
  before_rests = waits_rests s c r i 7 0

  before_fits : InRange before
  before_fits = waits_fits s c r i 7 0 (omega arith) (omega arith)

  eighth_is : eighth ≡ finished before before bus (settled_from bus)
  eighth_is =
      ap (λ (k : Stepped). k.state) (tick_plain before before_fits) ∙ d_ticks before before_rests
      ∙ ap (λ (n : State). finished before before n (settled_from n)) (tick_frees s c r i)

  -- settling acknowledges nothing
  Unacked : Settling → Type 0
  Unacked x = (x.transfer.offset ≡ 0) × (x.transfer.ack ≡ false)

  unacked : Unacked (settled_from bus)
  unfolding Unacked bus_freed started move can_handshake
  unacked =
      settle_keeps Unacked (conditions bus) (λ x e h. h)
      (λ x e h. absurd (never (sym (unenabled bus (free_apart s c r i)) ∙ left_true (conditions bus).enabled _ e))) turns (started bus)
      (refl, refl)

  Eighth : State → Type 0
  Eighth n = Contests n × FreeAlready n × (n ≡ in_round 8 Waiting 0 n)

  eighth_so : Eighth eighth
  unfolding Eighth
  eighth_so = subst Eighth (sym eighth_is) so
    where
      so : Eighth (finished before before bus (settled_from bus))
      so =
          unfold Eighth Unacked finished bus_freed selection_freed status_d status_raised selection_asked higher_id rst_seen in (
            record {
              selingo = c.selingo;
              asked = c.asked;
              higher = c.higher;
              bsy = c.bsy;
              sel = c.sel;
              bsyo = refl;
              selo = refl;
              rst = c.rst;
            },
            record { busfree = refl; scsisig = refl; offset = unacked.0; ack = unacked.1; seldo = refl; noted = refl },
            refl,
          )

  -- the state at the end of the round
  abbrev after : State
  after = in_round 0 Waiting 0 eighth

  first_round_lem : (single_ticks lost_round s).state ≡ after
  unfolding single_ticks ended Eighth
  first_round_lem =
      let f = eighth_so in
      let rests = access_rests before (Ticks 1) (omega arith) before_fits before_rests in
      let fits = (access_fits before (Ticks 1) (omega arith) before_fits).state in
      ap (λ (n : State). (single_ticks 72 n).state) (began s l) ∙ ap (λ (k : Stepped). k.state) (to_seven s c r i 65)
      ∙ ap (λ (n : State). (single_ticks 64 n).state) f.2 ∙ ap (λ (k : Stepped). k.state) (free_round_lem eighth f.0 rests fits)

  pub loses_again : LosesAgain (single_ticks lost_round s).state
  loses_again = subst LosesAgain (sym first_round_lem) (so eighth_so)
    where
      so : Eighth eighth → LosesAgain after
      so f =
          unfold Eighth selection_asked higher_id rst_seen in
          record {
            lost =
                record {
                  contests =
                      record {
                        selingo = f.0.selingo;
                        asked = f.0.asked;
                        higher = f.0.higher;
                        bsy = f.0.bsy;
                        sel = f.0.sel;
                        bsyo = f.0.bsyo;
                        selo = f.0.selo;
                        rst = f.0.rst;
                      };
                  phase = refl;
                  ticks = refl;
                  quiet = refl;
                };
            free =
                record {
                  busfree = f.1.busfree;
                  scsisig = f.1.scsisig;
                  offset = f.1.offset;
                  ack = f.1.ack;
                  seldo = f.1.seldo;
                  noted = f.1.noted;
                };
          }

  pub second_round_lem :
      single_ticks lost_round (single_ticks lost_round s).state ≡ ended (single_ticks lost_round s).state Done 0
  second_round_lem =
      lost_round_lem (single_ticks lost_round s).state loses_again (single_rests lost_round s i r) (single_in_range lost_round s i)
