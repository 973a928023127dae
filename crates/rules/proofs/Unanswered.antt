-- R-1: "a selection that nobody answers, with ENSTIMER set and STIMESEL, RST and 340h left alone, ends by SELTO at exactly its limit",
-- over any list of records: ticks in any pieces, with whatever else between them that leaves the selection to its time.
use Rattle.std.specs.Prelude.{Option, Some, None}
use Prim.Native.Nat.{ℕ, zero, suc, ◌+◌, ◌*◌, ◌-◌, ◌≤◌, ◌<◌}
use mathlib.Core.Path.{◌≡◌, refl, ap, sym, subst, ◌∙◌}
use mathlib.Core.Bool.{Bool, true, false, not, ◌&&◌, ◌||◌, cond, beq}
use mathlib.Core.List.{List, [], ◌∷◌}
use native.Mathlib.Omega.{arith}
use lib.Dec.{eqb, ltb}
use lib.ListN.{get_or}
use Rattle.rules.specs.Numbers.{one}
use Rattle.rules.specs.State.{State}
use Rattle.rules.specs.Records.{decode}
use Rattle.rules.specs.Registers.{scsiseq_of, sxfrctl1_of}
use Rattle.rules.specs.Map.{offset_of}
use Rattle.rules.specs.Seen.{is_phase, phase_number, rst_seen}
use Rattle.rules.specs.Events.{writes, value_of, ticks_of, lines_after}
use Rattle.rules.specs.Codes.{access_code, is_done}
use Rattle.rules.specs.Sequencer.{timeout, selection_asked, sequenced_of, sequenced}
use Rattle.rules.specs.StepA.{clears, registers_a, gives_up, sequencer_a, after_a}
use Rattle.rules.specs.StepB.{ack_released, bus_reset, req_risen, bus_freed, phase_changed, after_sequencer}
use Rattle.rules.specs.StepD.{finished, after_d}
use Rattle.rules.specs.Answers.{Stepped}
use Rattle.rules.specs.Step.{ended, done, access, joined, single_ticks, ticks_taken, step_event, step_decoded, step, after}
use Rattle.rules.specs.Ranges.{InRange}
use Rattle.rules.specs.declared.registers.Registers.{Registers}
use Rattle.rules.specs.declared.registers.Sxfrctl1.{Sxfrctl1}
use Rattle.rules.specs.declared.map.Register.TheVariants.{SCSISEQ, SXFRCTL1}
use Rattle.rules.specs.declared.chip.Phase.TheVariants.{Idle, Selecting}
use Rattle.rules.specs.declared.chip.Selection.{Selection}
use Rattle.rules.specs.declared.chip.Sequenced.{Sequenced}
use Rattle.rules.specs.declared.chip.Sequencer.{Sequencer}
use Rattle.rules.specs.declared.records.Lines.{Lines}
use Rattle.rules.specs.declared.records.Event.{Event}
use Rattle.rules.specs.declared.records.Event.TheVariants.{PowerReset, Write, Read, WordWrite, WordRead, Drive, Ticks}
use Rattle.rules.proofs.Logic.{never, left_true, right_true, cond_case}
use Rattle.rules.proofs.InOrder.{Keeps, b_keeps, Apart, b_leaves}
use Rattle.rules.proofs.Ranges.{step_in_range, after_fits}
use Rattle.rules.proofs.TickByTick.{ticks_split}
use Rattle.rules.proofs.Selection.{handed, tick, handed_phase, handed_ticks, sequencer_is, lines_after_lem, rst_after, resets, times_out_now, status_is}
use Rattle.rules.proofs.Timeout.{Standing, Unanswered, Spent, TimedOut, stays_selecting, unanswered_then, spends, ends}

-- WHAT LEAVES A SELECTION TO ITS TIME. x is what 342h holds: a write to it keeps ENSTIMER set and STIMESEL as it is; else the ticks
-- start again at 0, or the limit is another
abbrev timer_kept : Sxfrctl1 → Sxfrctl1 → Bool
timer_kept x y = y.enstimer && beq y.stimesel1 x.stimesel1 && beq y.stimesel0 x.stimesel0

-- a write to 340h does not drive RST, which ends every phase; with ENSTIMER set no other bit of it ends a selection
abbrev write_leaves : Sxfrctl1 → ℕ → ℕ → Bool
write_leaves x offset value =
    cond (eqb offset (offset_of SCSISEQ)) (not (scsiseq_of value).scsirsto) true
    && cond (eqb offset (offset_of SXFRCTL1)) (timer_kept x (sxfrctl1_of value)) true

-- others drive no BSY, which is the answer, and no RST; power reset ends all. Everything else is free: SEL and data of others, BSYO and
-- SELO of 343h, accesses that are refused
abbrev pub leaves_time : Sxfrctl1 → Event → Bool
leaves_time x PowerReset = false
leaves_time x (Write offset value) = write_leaves x offset value
leaves_time x (Read offset) = true
leaves_time x (WordWrite word) = true
leaves_time x WordRead = true
leaves_time x (Drive lines) = not lines.bsy && not lines.rst
leaves_time x (Ticks n) = true

-- of a record: one that is not well formed changes nothing
abbrev pub leaves_decoded : Sxfrctl1 → Option Event → Bool
leaves_decoded x (Some e) = leaves_time x e
leaves_decoded x None = true

abbrev pub ticks_decoded : Option Event → ℕ
ticks_decoded (Some e) = ticks_of e
ticks_decoded None = 0

-- of records, and their ticks together
abbrev pub AllLeave : Sxfrctl1 → List (List ℕ) → Type 0
AllLeave x [] = Unit {0}
AllLeave x (bytes ∷ more) = (leaves_decoded x (decode bytes) ≡ true) × AllLeave x more

abbrev pub ticks_together : List (List ℕ) → ℕ
ticks_together [] = 0
ticks_together (bytes ∷ more) = ticks_decoded (decode bytes) + ticks_together more

-- STILL SELECTING, k ticks spent, where s is the state that it is counted from: nobody has answered, 342h's timer is as it was, and
-- SELTO has not risen
pub record StillSelects (s : State) (k : ℕ) (t : State) : Type 0 where
  pub unanswered : Unanswered t
  pub ticks : t.sequencer.ticks ≡ k
  pub upper : t.registers.sxfrctl1.stimesel1 ≡ s.registers.sxfrctl1.stimesel1
  pub lower : t.registers.sxfrctl1.stimesel0 ≡ s.registers.sxfrctl1.stimesel0
  pub selto : t.sequencer.status.selto ≡ true → s.sequencer.status.selto ≡ true

-- 342h AND SELTO THROUGH AN EVENT
timer_keeps : (x : Sxfrctl1) → Keeps (λ n. n.registers.sxfrctl1 ≡ x)
unfolding ack_released bus_reset req_risen bus_freed after_sequencer phase_changed
timer_keeps x =
    record {
      released = λ n h. h;
      reset = λ n h. h;
      risen = λ n h. h;
      ticked = λ n ticks h. h;
      freed = λ n h. h;
      sequenced = λ n tick before h. h;
      changed = λ n h. h;
    }

module _ (s : State) (e : Event) where
  timer_after : (after_d s e).registers.sxfrctl1 ≡ (registers_a s.registers e).sxfrctl1
  unfolding after_d finished after_a
  timer_after = b_keeps (λ n. n.registers.sxfrctl1 ≡ (registers_a s.registers e).sxfrctl1) (timer_keeps _) s e refl

  rst_left : rst_seen (after_d s e) ≡ ((lines_after e s.lines).rst || (registers_a s.registers e).scsiseq.scsirsto)
  unfolding rst_seen after_d finished after_a
  rst_left = ap (λ (a : Apart). a.lines.rst || a.scsirsto) (b_leaves s e)

  lines_left : (after_d s e).lines ≡ lines_after e s.lines
  unfolding after_d finished after_a
  lines_left = ap (λ (a : Apart). a.lines) (b_leaves s e)

  selto_after : (after_d s e).sequencer.status.selto ≡ (times_out_now s e || (not (clears e 7) && s.sequencer.status.selto))
  selto_after = ap (λ (t : Selection). t.selto) (status_is s e)

-- a tick clears no SELTO
or_right : (a b : Bool) → b ≡ true → (a || b) ≡ true
or_right true b h = refl
or_right false b h = h

tick_selto : (s : State) → s.sequencer.status.selto ≡ true → (after_d s (Ticks 1)).sequencer.status.selto ≡ true
unfolding clears writes
tick_selto s h = selto_after s (Ticks 1) ∙ or_right (times_out_now s (Ticks 1)) s.sequencer.status.selto h

access_selto : (s : State) → s.sequencer.status.selto ≡ true → (access s (Ticks 1)).state.sequencer.status.selto ≡ true
unfolding access done ended
access_selto s h =
    cond_case (λ (k : Stepped). k.state.sequencer.status.selto ≡ true) (is_done (access_code s (Ticks 1))) _ _ (λ d. tick_selto s h)
    (λ d. h)

ticks_selto : (n : ℕ) (s : State) → s.sequencer.status.selto ≡ true → (single_ticks n s).state.sequencer.status.selto ≡ true
unfolding single_ticks ended
ticks_selto zero s h = h
ticks_selto (suc n) s h = ticks_selto n (access s (Ticks 1)).state (access_selto s h)

-- WHAT AN EVENT WITHOUT A TICK LEAVES
record Kept (r : Registers) (l : Lines) (e : Event) : Type 0 where
  timer : (registers_a r e).sxfrctl1.enstimer ≡ true
  upper : (registers_a r e).sxfrctl1.stimesel1 ≡ r.sxfrctl1.stimesel1
  lower : (registers_a r e).sxfrctl1.stimesel0 ≡ r.sxfrctl1.stimesel0
  scsirsto : (registers_a r e).scsiseq.scsirsto ≡ false
  bsy : (lines_after e l).bsy ≡ false
  rst : (lines_after e l).rst ≡ false

module _ (r : Registers) (l : Lines) (timing : r.sxfrctl1.enstimer ≡ true) (o : r.scsiseq.scsirsto ≡ false)
    (bsy : l.bsy ≡ false) (rst : l.rst ≡ false) where
  beq_true : (a b : Bool) → beq a b ≡ true → a ≡ b
  beq_true true true h = refl
  beq_true true false h = absurd (never h)
  beq_true false true h = absurd (never h)
  beq_true false false h = refl

  not_true : (b : Bool) → not b ≡ true → b ≡ false
  not_true true h = absurd (never h)
  not_true false h = refl

  same_kept : (e : Event) → registers_a r e ≡ r → lines_after e l ≡ l → Kept r l e
  same_kept e f g =
      record {
        timer = ap (λ (x : Registers). x.sxfrctl1.enstimer) f ∙ timing;
        upper = ap (λ (x : Registers). x.sxfrctl1.stimesel1) f;
        lower = ap (λ (x : Registers). x.sxfrctl1.stimesel0) f;
        scsirsto = ap (λ (x : Registers). x.scsiseq.scsirsto) f ∙ o;
        bsy = ap (λ (x : Lines). x.bsy) g ∙ bsy;
        rst = ap (λ (x : Lines). x.rst) g ∙ rst;
      }

  -- a write to 340h, to 342h, or elsewhere
  module _ (offset value : ℕ) where
    abbrev timed : Bool → Sxfrctl1
    timed b = cond b (sxfrctl1_of value) r.sxfrctl1

    record Timed (b : Bool) : Type 0 where
      timer : (timed b).enstimer ≡ true
      upper : (timed b).stimesel1 ≡ r.sxfrctl1.stimesel1
      lower : (timed b).stimesel0 ≡ r.sxfrctl1.stimesel0

    write_timed : (b : Bool) → cond b (timer_kept r.sxfrctl1 (sxfrctl1_of value)) true ≡ true → Timed b
    write_timed true h =
        let y = sxfrctl1_of value in
        let x = r.sxfrctl1 in
        let f = left_true (y.enstimer && beq y.stimesel1 x.stimesel1) (beq y.stimesel0 x.stimesel0) h in
        record {
          timer = left_true y.enstimer (beq y.stimesel1 x.stimesel1) f;
          upper = beq_true _ _ (right_true y.enstimer (beq y.stimesel1 x.stimesel1) f);
          lower = beq_true _ _
              (right_true (y.enstimer && beq y.stimesel1 x.stimesel1) (beq y.stimesel0 x.stimesel0) h);
        }
    write_timed false h = record { timer = timing; upper = refl; lower = refl }

    write_unreset :
        (b : Bool) → cond b (not (scsiseq_of value).scsirsto) true ≡ true → (cond b (scsiseq_of value) r.scsiseq).scsirsto ≡ false
    write_unreset true h = not_true (scsiseq_of value).scsirsto h
    write_unreset false h = o

    write_kept : write_leaves r.sxfrctl1 offset value ≡ true → Kept r l (Write offset value)
    unfolding registers_a writes value_of lines_after
    write_kept h =
        let a = eqb offset (offset_of SCSISEQ) in
        let b = eqb offset (offset_of SXFRCTL1) in
        let f = write_timed b
        (right_true (cond a (not (scsiseq_of value).scsirsto) true) (cond b (timer_kept r.sxfrctl1 (sxfrctl1_of value)) true) h) in
        record {
          timer = f.timer;
          upper = f.upper;
          lower = f.lower;
          scsirsto = write_unreset a
              (left_true (cond a (not (scsiseq_of value).scsirsto) true) (cond b (timer_kept r.sxfrctl1 (sxfrctl1_of value)) true) h);
          bsy = bsy;
          rst = rst;
        }

  drive_kept : (lines : Lines) → (not lines.bsy && not lines.rst) ≡ true → Kept r l (Drive lines)
  unfolding registers_a clears writes lines_after
  drive_kept lines h =
      record {
        timer = timing;
        upper = refl;
        lower = refl;
        scsirsto = o;
        bsy = not_true lines.bsy (left_true (not lines.bsy) (not lines.rst) h);
        rst = not_true lines.rst (right_true (not lines.bsy) (not lines.rst) h);
      }

  event_kept : (e : Event) → leaves_time r.sxfrctl1 e ≡ true → Kept r l e
  unfolding registers_a clears writes lines_after
  event_kept PowerReset h = absurd (never h)
  event_kept (Write offset value) h = write_kept offset value h
  event_kept (Read offset) h = same_kept (Read offset) refl refl
  event_kept (WordWrite word) h = same_kept (WordWrite word) refl refl
  event_kept WordRead h = same_kept WordRead refl refl
  event_kept (Drive lines) h = drive_kept lines h
  event_kept (Ticks n) h = same_kept (Ticks n) refl refl

-- the two bits of STIMESEL are all that it looks at
leaves_same : (x y : Sxfrctl1) → x.stimesel1 ≡ y.stimesel1 → x.stimesel0 ≡ y.stimesel0 → (e : Event) → leaves_time x e ≡ leaves_time y e
leaves_same x y a b PowerReset = refl
leaves_same x y a b (Write offset value) =
    let v = sxfrctl1_of value in
    λ j.
    cond (eqb offset (offset_of SCSISEQ)) (not (scsiseq_of value).scsirsto) true
    && cond (eqb offset (offset_of SXFRCTL1)) (v.enstimer && beq v.stimesel1 (a j) && beq v.stimesel0 (b j)) true
leaves_same x y a b (Read offset) = refl
leaves_same x y a b (WordWrite word) = refl
leaves_same x y a b WordRead = refl
leaves_same x y a b (Drive lines) = refl
leaves_same x y a b (Ticks n) = refl

-- RST is seen where others drive it or 340h does
unset : (a b : Bool) → (a || b) ≡ false → (a ≡ false) × (b ≡ false)
unset true b h = absurd (never (sym h))
unset false b h = (refl, h)

-- with ENSTIMER set the processor does not give up
never_third : (a b c : Bool) → c ≡ false → (a && b && c) ≡ false
never_third a b true h = absurd (never (sym h))
never_third true true false h = refl
never_third true false false h = refl
never_third false b false h = refl

-- SELTO rises only by a tick
risen_by : (a z b c d : Bool) → z ≡ false → ((not a && (z && b)) || (not c && d)) ≡ true → d ≡ true
risen_by a true b c d h e = absurd (never (sym h))
risen_by true false b true d h e = absurd (never e)
risen_by true false b false d h e = e
risen_by false false b true d h e = absurd (never e)
risen_by false false b false d h e = e

module _ (s t : State) (k : ℕ) (h : StillSelects s k t) (e : Event) (f : leaves_time s.registers.sxfrctl1 e ≡ true)
    (z : ltb 0 (ticks_of e) ≡ false) where
  seen : (t.lines.rst ≡ false) × (t.registers.scsiseq.scsirsto ≡ false)
  unfolding rst_seen
  seen = unset t.lines.rst t.registers.scsiseq.scsirsto h.unanswered.rst

  kept : Kept t.registers t.lines e
  kept =
      event_kept t.registers t.lines h.unanswered.timer seen.1 h.unanswered.bsy seen.0 e
      (leaves_same t.registers.sxfrctl1 s.registers.sxfrctl1 h.upper h.lower e ∙ f)

  goes_on : gives_up (registers_a t.registers e) t.sequencer e ≡ false
  unfolding gives_up is_phase phase_number
  goes_on =
      never_third (writes e SCSISEQ) (not (selection_asked (registers_a t.registers e))) _ (rw (h.unanswered.phase, kept.timer))

  abbrev n : State
  n = handed t e

  phase_handed : n.sequencer.phase ≡ Selecting
  unfolding after_a sequencer_a
  phase_handed =
      handed_phase t e ∙ ap (λ (b : Bool). cond b Idle t.sequencer.phase) goes_on ∙ h.unanswered.phase

  ticks_handed : n.sequencer.ticks ≡ k
  unfolding after_a sequencer_a
  ticks_handed = handed_ticks t e ∙ ap (λ (b : Bool). cond b 0 t.sequencer.ticks) goes_on ∙ h.ticks

  rst_then : rst_seen (after_d t e) ≡ false
  rst_then = rst_left t e ∙ rw (kept.rst, kept.scsirsto)

  bsy_then : (after_d t e).lines.bsy ≡ false
  bsy_then = ap (λ (l : Lines). l.bsy) (lines_left t e) ∙ kept.bsy

  resolves_none : sequenced (tick t e) t.quiet n ≡ sequenced_of n
  unfolding sequenced sequenced_of
  resolves_none =
      rw (sym (rst_after t e) ∙ rst_then, z)
      (stays_selecting n (sequenced_of n) (ap (λ (l : Lines). l.bsy) (sym (lines_after_lem t e)) ∙ bsy_then) phase_handed)

  sequencer_then : (after_d t e).sequencer ≡ n.sequencer
  unfolding sequenced_of
  sequencer_then = sequencer_is t e ∙ ap (λ (x : Sequenced). x.sequencer) resolves_none

  event_selects : StillSelects s k (after_d t e)
  event_selects =
      let x = timer_after t e in
      record {
        unanswered =
            record {
              phase = ap (λ (q : Sequencer). q.phase) sequencer_then ∙ phase_handed;
              timer = ap (λ (y : Sxfrctl1). y.enstimer) x ∙ kept.timer;
              bsy = bsy_then;
              rst = rst_then;
            };
        ticks = ap (λ (q : Sequencer). q.ticks) sequencer_then ∙ ticks_handed;
        upper = ap (λ (y : Sxfrctl1). y.stimesel1) x ∙ kept.upper ∙ h.upper;
        lower = ap (λ (y : Sxfrctl1). y.stimesel0) x ∙ kept.lower ∙ h.lower;
        selto = λ g. h.selto (risen_by (resets t e) (tick t e) _ (clears e 7) t.sequencer.status.selto z (sym (selto_after t e) ∙ g));
      }

  access_selects : StillSelects s k (access t e).state
  unfolding access done ended
  access_selects = cond_case (λ (y : Stepped). StillSelects s k y.state) (is_done (access_code t e)) _ _ (λ d. event_selects) (λ d. h)

-- TICKS
module _ (s t : State) (k : ℕ) (h : StillSelects s k t) (i : InRange t) where
  limit_same : timeout t.registers ≡ timeout s.registers
  unfolding timeout
  limit_same j = get_or (5120000 ∷ 2560000 ∷ 1280000 ∷ 640000 ∷ []) (one (h.upper j) * 2 + one (h.lower j)) 0

  ticks_select : (m : ℕ) → k + m < timeout s.registers → StillSelects s (k + m) (single_ticks m t).state
  ticks_select m l =
      let u = h.unanswered in
      let x : Spent t (t.sequencer.ticks + m) (single_ticks m t).state =
      spends t u m t.sequencer.ticks t i refl (omega (arith, h.ticks, limit_same, l)) in
      record {
        unanswered = unanswered_then t u (t.sequencer.ticks + m) (single_ticks m t).state x;
        ticks = ap (λ (y : Standing). y.sequencer.ticks) x ∙ ap (λ (n : ℕ). n + m) h.ticks;
        upper = ap (λ (y : Standing). y.registers.sxfrctl1.stimesel1) x ∙ h.upper;
        lower = ap (λ (y : Standing). y.registers.sxfrctl1.stimesel0) x ∙ h.lower;
        selto = λ g. h.selto (sym (ap (λ (y : Standing). y.sequencer.status.selto) x) ∙ g);
      }

  ticks_end : (m : ℕ) → k + suc m ≡ timeout s.registers → TimedOut t (single_ticks (suc m) t).state
  ticks_end m l = ends t h.unanswered m t.sequencer.ticks t i refl (omega (arith, h.ticks, limit_same, l))

-- ONE RECORD
no_more : (s t : State) (k : ℕ) → StillSelects s k t → StillSelects s (k + 0) t
no_more s t k h = subst (λ (m : ℕ). StillSelects s m t) (omega arith) h

decoded_selects :
    (s t : State) (k : ℕ) → StillSelects s k t → InRange t → (d : Option Event) → leaves_decoded s.registers.sxfrctl1 d ≡ true →
    k + ticks_decoded d < timeout s.registers → StillSelects s (k + ticks_decoded d) (step_decoded t d).state
unfolding step_decoded step_event ticks_taken ended ticks_of
decoded_selects s t k h i (Some PowerReset) f l = absurd (never f)
decoded_selects s t k h i (Some (Write offset value)) f l = no_more s _ k (access_selects s t k h (Write offset value) f refl)
decoded_selects s t k h i (Some (Read offset)) f l = no_more s _ k (access_selects s t k h (Read offset) f refl)
decoded_selects s t k h i (Some (WordWrite word)) f l = no_more s _ k (access_selects s t k h (WordWrite word) f refl)
decoded_selects s t k h i (Some WordRead) f l = no_more s _ k (access_selects s t k h WordRead f refl)
decoded_selects s t k h i (Some (Drive lines)) f l = no_more s _ k (access_selects s t k h (Drive lines) f refl)
decoded_selects s t k h i (Some (Ticks zero)) f l = no_more s _ k (access_selects s t k h (Ticks 0) f refl)
decoded_selects s t k h i (Some (Ticks (suc m))) f l = ticks_select s t k h i (suc m) l
decoded_selects s t k h i None f l = no_more s t k h

-- ANY LIST OF THEM, while their ticks together are below the limit
records_select :
    (s t : State) (k : ℕ) → StillSelects s k t → InRange t → (records : List (List ℕ)) → AllLeave s.registers.sxfrctl1 records →
    k + ticks_together records < timeout s.registers → StillSelects s (k + ticks_together records) (after t records)
records_select s t k h i [] f l = no_more s t k h
records_select s t k h i (bytes ∷ more) f l =
    let m = ticks_decoded (decode bytes) in
    let first : StillSelects s (k + m) (step t bytes).state =
    unfold step in decoded_selects s t k h i (decode bytes) f.0 (omega (arith, l)) in
    let later = records_select s (step t bytes).state (k + m) first (step_in_range t bytes i) more f.1 (omega (arith, l)) in
    subst (λ (n : ℕ). StillSelects s n (after t (bytes ∷ more))) (omega arith) later

-- AN EVENT OF TICKS THAT REACHES THE LIMIT: of its n ticks the m-th brings SELTO, the rest follow, and SELTO stands at its end
pub record Reaches (t : State) (m n : ℕ) : Type 0 where
  pub at : TimedOut t (step_event t (Ticks m)).state
  pub rest : (k : ℕ) × (n ≡ m + k) × (step_event t (Ticks n) ≡ joined (step_event t (Ticks m)) (single_ticks k (step_event t (Ticks m)).state))
  pub selto : (step_event t (Ticks n)).state.sequencer.status.selto ≡ true

reaches :
    (s t : State) (k : ℕ) → StillSelects s k t → InRange t → (m n : ℕ) → k + m ≡ timeout s.registers → 0 < m → m ≤ n → Reaches t m n
unfolding step_event ticks_taken
reaches s t k h i zero n l p q = absurd (omega arith)
reaches s t k h i (suc m) zero l p q = absurd (omega arith)
reaches s t k h i (suc m) (suc n) l p q =
    let d = n - m in
    let whole : suc n ≡ suc m + d = omega arith in
    let out = ticks_end s t k h i m l in
    let split : single_ticks (suc n) t ≡ joined (single_ticks (suc m) t) (single_ticks d (single_ticks (suc m) t).state) =
    ap (λ (x : ℕ). single_ticks x t) whole ∙ ticks_split (suc m) d t in
    record {
      at = out;
      rest = (d, whole, split);
      selto =
          ap (λ (r : Stepped). r.state.sequencer.status.selto) split
          ∙ ticks_selto d (single_ticks (suc m) t).state (ap (λ (x : Selection). x.selto) out.status);
    }

-- A SELECTION THAT NOBODY ANSWERS ENDS BY SELTO AT EXACTLY ITS LIMIT, after any records that leave it to its time
pub record EndsInTime (s : State) : Type 0 where
  -- not before
  pub before :
      (records : List (List ℕ)) → AllLeave s.registers.sxfrctl1 records →
      s.sequencer.ticks + ticks_together records < timeout s.registers →
      StillSelects s (s.sequencer.ticks + ticks_together records) (after s records)
  -- and at the tick with which they reach it, in an event of these ticks or of more
  pub at :
      (records : List (List ℕ)) (m n : ℕ) → AllLeave s.registers.sxfrctl1 records →
      s.sequencer.ticks + ticks_together records + m ≡ timeout s.registers →
      0 < m → m ≤ n → Reaches (after s records) m n

pub unanswered_ends_in_time : (s : State) → InRange s → Unanswered s → EndsInTime s
unanswered_ends_in_time s i u =
    record {
      before = λ records f l. records_select s s s.sequencer.ticks fresh i records f l;
      at = λ records m n f l p q.
          reaches s (after s records) (s.sequencer.ticks + ticks_together records)
          (records_select s s s.sequencer.ticks fresh i records f (omega (arith, l, p))) (after_fits s records i) m n l p q;
    }
  where
    fresh : StillSelects s s.sequencer.ticks s
    fresh = record { unanswered = u; ticks = refl; upper = refl; lower = refl; selto = λ g. g }
