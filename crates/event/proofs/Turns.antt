-- An event in turns: each takes the event, or one tick of it, and those before it report together with it.
use Rattle.std.specs.Prelude.{Option, Some, None, Result, is_some}
use Prim.Native.Nat.{ℕ, zero, suc, ◌+◌, ◌-◌, ◌<◌, ◌≤◌, min}
use mathlib.Core.Bool.{Bool, true, false, not, ◌&&◌, false≢true}
use lib.Dec.{eqb}
use mathlib.Core.Path.{◌≡◌, refl, ap, sym, subst, ◌∙◌}
use mathlib.Core.List.{List, ◌++◌, append-nil}
use native.Mathlib.Omega.{arith}
use native.Mathlib.Nat.{add-zero}
use lib.ListN.{length, length-append}
use Rattle.rules.specs.State.{State}
use Rattle.rules.specs.Answers.{Stepped}
use Rattle.rules.specs.Rest.{AtRest}
use Rattle.rules.specs.Step.{ended, done, access, joined, single_ticks}
use Rattle.rules.specs.declared.codes.Code.TheVariants.{Done}
use Rattle.rules.specs.declared.records.Event.TheVariants.{Ticks}
use Rattle.rules.proofs.OneTick.{tick_plain}
use Rattle.rules.proofs.Ranges.{StepFits}
use Rattle.rules.proofs.TickByTick.{joined_assoc}
use Rattle.image.specs.Image.{image_of, state_at, IsImage}
use Rattle.effects.proofs.ImageOnward.{state_is, image_is}
use Rattle.fifos.specs.Fifos.{sent_of}
use Rattle.effects.specs.declared.Effect.{Effect}
use Rattle.effects.specs.declared.Ended.{Ended}
use Rattle.effects.specs.Acting.{Acts}
use Rattle.settling.specs.declared.Told.{Told}
use Rattle.event.specs.declared.stepping.Outcome.{Outcome}
use Rattle.event.specs.declared.before.Before.{Before}
use Rattle.event.specs.declared.passing.Lap.{Lap}
use Rattle.event.specs.Opening.{Recalls, Ready}
use Rattle.event.specs.Outcomes.{Leaves}
use Rattle.event.specs.Totals.{Totals, Sums, told_of, added_to, Led, Marked, Goes}
use Rattle.event.proofs.Ticking.{some_is, totals_as, totals_of, totals_both, sums_fit, one_tick}
use Rattle.event.proofs.Starts.{Onward, Left, done_left, tick_done, tick_ready, at_ticks, leaves_as}

-- what is done so far, and the ticks that are left, are the whole
pub record Whole (y x : Stepped) (left : ℕ) : Type 0 where
  pub few : left ≡ 0 → x ≡ y
  pub many : (k : ℕ) → left ≡ suc k → joined x (single_ticks (suc k) x.state) ≡ y

-- a turn by itself, or behind what was done before it
abbrev pub behind : Option Outcome → Stepped → Stepped → Stepped
behind None past turn = turn
behind (Some o) past turn = joined past turn

-- a turn: what it takes up, what was done before it, and that with it and the ticks after it the event is whole
pub record Turn (y : Stepped) (m copy : List ℕ) (before : Before) (one value : ℕ) (lap : Lap) (so_far : Option Outcome) : Type 0 where
  pub ready : Ready m before one value
  pub past : Stepped
  pub told : (o : Outcome) → so_far ≡ Some o → Totals past (image_of past.state) (told_of o)
  pub whole : Whole y (behind so_far past (done ready.state ready.event)) lap.left
  pub ticks : 0 < lap.left → (one ≡ 1) × (value ≡ 0) × ((done ready.state ready.event).code ≡ Done) × ((done ready.state ready.event).value ≡ 0)
  pub marked : (k : ℕ) → lap.since ≡ Some k → Marked copy k (done ready.state ready.event)

-- the first turn
pub begin : {y : Stepped} {m : List ℕ} (copy : List ℕ) {before : Before} {ticks value one left : ℕ} → Onward y m before ticks value → one ≡ min ticks 1 → left ≡ ticks - one → Turn y m copy before one value (record { left = left; since = None }) None
begin {y} copy {ticks = ticks} w e f =
    record {
      ready = at_ticks w.ready e;
      past = y;
      told = λ o h. absurd cc;
      whole =
          record {
            few = λ h. w.few (omega (arith, e, f, h));
            many = λ k h. w.many k (omega (arith, e, f, h));
          };
      ticks = λ h. let q = w.plain (omega (arith, e, f, h)) in (omega (arith, e, f, h), q.0, q.1, q.2);
      marked = λ k h. absurd cc;
    }

-- a part with nothing after it
none_after : (x : Stepped) (t : State) → x.code ≡ Done → x.value ≡ 0 → x.state ≡ t → joined x (ended t Done 0) ≡ x
unfolding ended
none_after x t c v e =
    λ k.
    record {
      state = sym e k;
      code = sym c k;
      value = sym v k;
      moves = add-zero x.moves k;
      acks = add-zero x.acks k;
      sent = append-nil x.sent k;
    }

-- what is done so far reports no more than the whole
so_far_fits : {y x : Stepped} (left : ℕ) → Whole y x left → StepFits y → (x.moves ≤ 16) × (x.acks ≤ 8) × (length x.sent ≤ 8)
so_far_fits zero w f =
    let e = w.few refl in
    (subst (λ (z : ℕ). z ≤ 16) (ap (λ (z : Stepped). z.moves) (sym e)) f.moves, subst (λ (z : ℕ). z ≤ 8) (ap (λ (z : Stepped). z.acks) (sym e)) f.acks, subst (λ (z : ℕ). z ≤ 8) (ap (λ (z : Stepped). length z.sent) (sym e)) f.sent)
so_far_fits {x = x} (suc k) w f =
    let e = w.many k refl in
    let r = single_ticks (suc k) x.state in
    let n : x.moves + r.moves ≤ 16 = subst (λ (z : ℕ). z ≤ 16) (ap (λ (z : Stepped). z.moves) (sym e)) f.moves in
    let a : x.acks + r.acks ≤ 8 = subst (λ (z : ℕ). z ≤ 8) (ap (λ (z : Stepped). z.acks) (sym e)) f.acks in
    let s : length (x.sent ++ r.sent) ≤ 8 = subst (λ (z : ℕ). z ≤ 8) (ap (λ (z : Stepped). length z.sent) (sym e)) f.sent in
    (omega (arith, n), omega (arith, a), omega (arith, s, length-append x.sent r.sent))

so_state : (so : Option Outcome) (past turn : Stepped) → (behind so past turn).state ≡ turn.state
so_state None past turn = refl
so_state (Some o) past turn = refl

so_done : (so : Option Outcome) (past turn : Stepped) → (so ≡ None → (turn.code ≡ Done) × (turn.value ≡ 0)) → ((behind so past turn).code ≡ Done) × ((behind so past turn).value ≡ 0)
so_done None past turn f = f refl
so_done (Some o) past turn f = (refl, refl)

so_told : (so : Option Outcome) {past turn : Stepped} {n : List ℕ} {p q : Outcome} → ((o : Outcome) → so ≡ Some o → Totals past (image_of past.state) (told_of o)) → Leaves turn n p → q ≡ added_to so p → Totals (behind so past turn) n (told_of q)
so_told None t l e = totals_of (ap told_of e) l
so_told (Some o) t l e = totals_both (t o refl) (totals_of refl l) (ap told_of e)

so_coded : (so : Option Outcome) {turn : Stepped} {n : List ℕ} {p q : Outcome} → Leaves turn n p → (so ≡ None → (turn.code ≡ Done) × (turn.value ≡ 0)) → q ≡ added_to so p → (q.code ≡ Done) × (q.value ≡ 0)
so_coded None l f e = (ap (λ (x : Outcome). x.code) e ∙ l.code ∙ (f refl).0, ap (λ (x : Outcome). x.value) e ∙ l.value ∙ (f refl).1)
so_coded (Some o) l f e = (ap (λ (x : Outcome). x.code) e, ap (λ (x : Outcome). x.value) e)

-- the ticks that are left only count
whole_ended : {y x : Stepped} {s t : State} (left : ℕ) → Whole y x left → x.code ≡ Done → x.value ≡ 0 → x.state ≡ s → single_ticks left s ≡ ended t Done 0 → y ≡ record { state = t; code = Done; value = 0; moves = x.moves; acks = x.acks; sent = x.sent }
unfolding single_ticks ended
whole_ended {x = x} zero w c v e f =
    sym (w.few refl)
    ∙ (λ k. record { state = (e ∙ ap (λ (z : Stepped). z.state) f) k; code = c k; value = v k; moves = x.moves; acks = x.acks; sent = x.sent })
whole_ended {x = x} {s} {t} (suc k) w c v e f =
    let r : single_ticks (suc k) x.state ≡ ended t Done 0 = ap (single_ticks (suc k)) e ∙ f in
    sym (w.many k refl) ∙ ap (joined x) r
    ∙ (λ j. record { state = t; code = Done; value = 0; moves = add-zero x.moves j; acks = add-zero x.acks j; sent = append-nil x.sent j })

-- one of them is next
whole_next : {y x d : Stepped} {s : State} (v : State) (left l : ℕ) → l < left → Whole y x left → x.state ≡ s → single_ticks left s ≡ single_ticks (suc l) v → access v (Ticks 1) ≡ d → Whole y (joined x d) l
unfolding single_ticks ended
whole_next v zero l h w e f g = absurd (omega (arith, h))
whole_next {y} {x} {d} {s} v (suc k) l h w e f g =
    let all : joined (joined x d) (single_ticks l d.state) ≡ y =
    sym (joined_assoc x d (single_ticks l d.state)) ∙ ap (λ (z : Stepped). joined x (joined z (single_ticks l z.state))) (sym g) ∙ ap (joined x) (sym f)
    ∙ ap (λ (z : State). joined x (single_ticks (suc k) z)) (sym e) ∙ w.many k refl
    in
    record {
      few = λ z. sym (none_after (joined x d) d.state refl refl refl) ∙ ap (λ (n : ℕ). joined (joined x d) (single_ticks n d.state)) (sym z) ∙ all;
      many = λ n z. ap (λ (n : ℕ). joined (joined x d) (single_ticks n d.state)) (sym z) ∙ all;
    }

-- nothing was done before
pub is_nothing : {A : Type 0} (so : Option A) (b : Bool) → is_some so ≡ not b → b ≡ true → so ≡ None
is_nothing None b p e = refl
is_nothing (Some o) b p e = absurd (false≢true (sym (p ∙ ap not e)))

-- a first turn that is not the only one has ticks after it
pub some_left : {A : Type 0} (so : Option A) (left : ℕ) (b : Bool) → is_some so ≡ not b → (b && eqb left 0) ≡ false → so ≡ None → 0 < left
some_left None zero true p e f = absurd (false≢true (sym e))
some_left None zero false p e f = absurd (false≢true p)
some_left None (suc n) b p e f = omega arith
some_left (Some o) left b p e f = absurd cc

-- B, C and D of a turn are through
module _ {y : Stepped} {m copy : List ℕ} {before : Before} {one value : ℕ} {lap : Lap} {so_far : Option Outcome} (w : Turn y m copy before one value lap so_far) {n : List ℕ} {p : Outcome} (l : Leaves (done w.ready.state w.ready.event) n p) where
  abbrev turn : Stepped
  turn = done w.ready.state w.ready.event

  abbrev so : Stepped
  so = behind so_far w.past turn

  kept : Left turn.state
  kept = done_left w.ready

  pub turn_image : IsImage n
  turn_image = image_is turn.state l.image kept.range kept.bytes

  pub turn_state : state_at n ≡ turn.state
  turn_state = state_is turn.state l.image kept.range kept.bytes

  pub turn_rests : AtRest (state_at n)
  turn_rests = subst AtRest (sym turn_state) kept.rests

  pub turn_leads : {t : Told} → t ≡ told_of p → Led copy lap.since n t
  turn_leads e k h =
      let c = w.marked k h in
      record { image = c.image; rests = c.rests; totals = totals_as (sym c.same) (totals_of e l) }

  -- the only turn
  pub turn_only : so_far ≡ None → lap.left ≡ 0 → Leaves y n p
  turn_only f h = leaves_as (rw f at (w.whole.few h)) l

  pub turn_sums : StepFits y → (o : Outcome) → so_far ≡ Some o → Sums o.moves o.acks o.sent (told_of p)
  turn_sums r o f =
      let b = so_far_fits lap.left (rw f at w.whole) r in
      sums_fit (w.told o f) (totals_of refl l) (omega (arith, b.0)) (omega (arith, b.1)) b.2

  module _ {q : Outcome} (e : q ≡ added_to so_far p) where
    -- the last turn, behind others or with ticks after it that only count
    pub turn_last : {a : List ℕ} → (so_far ≡ None → 0 < lap.left) → IsImage a → single_ticks lap.left (state_at n) ≡ ended (state_at a) Done 0 → Leaves y a q
    turn_last {a} some i f =
        let alone : so_far ≡ None → (turn.code ≡ Done) × (turn.value ≡ 0) = λ h. ((w.ticks (some h)).2, (w.ticks (some h)).3) in
        let c = so_done so_far w.past turn alone in
        let d = so_coded so_far l alone e in
        let t = so_told so_far w.told l e in
        let g = whole_ended lap.left w.whole c.0 c.1 (so_state so_far w.past turn ∙ sym turn_state) f in
        record {
          image = i.packed ∙ ap (λ (x : Stepped). image_of x.state) (sym g);
          code = d.0 ∙ ap (λ (x : Stepped). x.code) (sym g);
          value = d.1 ∙ ap (λ (x : Stepped). x.value) (sym g);
          moves = t.moves ∙ ap (λ (x : Stepped). x.moves) (sym g);
          acks = t.acks ∙ ap (λ (x : Stepped). x.acks) (sym g);
          sent = t.sent ∙ ap (λ (x : Stepped). sent_of x.sent) (sym g);
        }

    -- the turn after it
    pub turn_next : {a b copy' : List ℕ} {k : Option Lap} (next : Lap) (t : Result Effect Ended) {before' : Before} → k ≡ Some next → Goes (state_at n) lap.left a copy' k → Recalls (state_at a) before' → Acts (state_at a) (Ticks 1) b t → Turn y b copy' before' one value next (Some q)
    turn_next {a} next t h g r acts =
        let some : 0 < lap.left = omega (arith, g.less next h) in
        let i = g.image in
        let c = tick_done (state_at a) i.range in
        let f = w.ticks some in
        let m = so_told so_far w.told l e in
        record {
          ready = tick_ready (state_at a) i.range i.bytes t r acts f.0 f.1;
          past = so;
          told = λ o s. subst (λ (z : Outcome). Totals so (image_of so.state) (told_of z)) (some_is s) (record { image = refl; moves = m.moves; acks = m.acks; sent = m.sent });
          whole = whole_next (state_at a) lap.left next.left (g.less next h) w.whole (so_state so_far w.past turn ∙ sym turn_state) (g.some next h) (sym c);
          ticks = λ _. (f.0, f.1, ap (λ (s : Stepped). s.code) (c ∙ tick_plain (state_at a) i.range), ap (λ (s : Stepped). s.value) (c ∙ tick_plain (state_at a) i.range));
          marked = λ k s.
              let y = g.marked next k h s in
              record { image = y.image; rests = y.rests; same = y.same ∙ one_tick (state_at a) i.range ∙ sym c };
        }
