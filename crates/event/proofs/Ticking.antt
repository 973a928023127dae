-- Ticks after the first: what some of them leave and report, and what more of them then do.
use Rattle.std.specs.Prelude.{Option, Some, None}
use Rattle.std.specs.Option.{MatchOption, IsSomeAnd}
use Prim.Native.Nat.{ℕ, suc, ◌+◌, ◌%◌, ◌<◌, ◌≤◌}
use mathlib.Core.Bool.{true, ◌&&◌}
use mathlib.Core.Path.{◌≡◌, refl, ap, sym, subst, ◌∙◌}
use mathlib.Core.List.{List, [], ◌∷◌, ◌++◌, append-nil}
use native.Mathlib.Omega.{arith}
use native.Mathlib.Nat.{add-zero}
use lib.Dec.{eqb}
use lib.ListN.{length, length-append}
use borrow.Author.Tests.{eqb-true}
use Rattle.rules.proofs.Logic.{left_true, right_true}
use Rattle.rules.specs.State.{State}
use Rattle.rules.specs.Answers.{Stepped}
use Rattle.rules.specs.Ranges.{InRange, InBytes}
use Rattle.rules.specs.Rest.{AtRest}
use Rattle.rules.specs.Step.{ended, access, joined, single_ticks}
use Rattle.rules.specs.Ticks.{advanced, distance}
use Rattle.rules.specs.declared.codes.Code.TheVariants.{Done}
use Rattle.rules.specs.declared.records.Event.TheVariants.{Ticks}
use Rattle.rules.proofs.OneTick.{plain, tick_plain, advanced_fits}
use Rattle.rules.proofs.Ranges.{single_in_range, single_bytes}
use Rattle.rules.proofs.Reports.{Few, few_ticks}
use Rattle.rules.proofs.Still.{single_rests}
use Rattle.rules.proofs.TickByTick.{ticks_code, steady, steady_more, joined_none, ticks_split, round}
use Rattle.image.specs.Image.{image_of, state_at, IsImage}
use Rattle.effects.proofs.ImageOnward.{state_is, image_is}
use Rattle.fifos.specs.Fifos.{sent_of, sent_view}
use Rattle.rules.specs.declared.chip.Fifo.{Fifo}
use Rattle.fifos.proofs.Behind.{view_of, tidy_of}
use Rattle.settling.specs.declared.Told.{Told}
use Rattle.event.specs.declared.stepping.Outcome.{Outcome}
use Rattle.event.specs.declared.passing.Lap.{Lap}
use Rattle.event.specs.Outcomes.{Leaves}
use Rattle.event.specs.Totals.{told_with, Totals, Sums, told_together, Leads, Marked, Rounds}

-- one tick among ticks is an event of one tick
pub one_tick : (t : State) → InRange t → single_ticks 1 t ≡ access t (Ticks 1)
unfolding single_ticks ended
one_tick t i =
    let e : access t (Ticks 1) ≡ plain t = tick_plain t i in
    let p = plain t in
    (λ k. joined (e k) (ended (e k).state Done 0))
    ∙ (λ k. record { state = p.state; code = Done; value = 0; moves = add-zero p.moves k; acks = add-zero p.acks k; sent = append-nil p.sent k })
    ∙ sym e

-- ticks that only count leave bytes where bytes are stored
pub advanced_bytes : (k : ℕ) (s : State) → InBytes s → InBytes (advanced k s)
unfolding advanced
advanced_bytes k s j =
    record { lines = j.lines; registers = j.registers; transfer = j.transfer; stack = j.stack; selid = j.selid }

-- what is told, of another form of the same step
pub totals_as : {x y : Stepped} {m : List ℕ} {t : Told} → x ≡ y → Totals x m t → Totals y m t
totals_as p l =
    record {
      image = l.image ∙ ap (λ (x : Stepped). image_of x.state) p;
      moves = l.moves ∙ ap (λ (x : Stepped). x.moves) p;
      acks = l.acks ∙ ap (λ (x : Stepped). x.acks) p;
      sent = l.sent ∙ ap (λ (x : Stepped). sent_of x.sent) p;
    }

pub totals_none : (s : State) {m : List ℕ} {t : Told} → m ≡ image_of s → t ≡ told_with 0 0 [] → Totals (ended s Done 0) m t
unfolding ended
totals_none s e h =
    record {
      image = e;
      moves = ap (λ (x : Told). x.moves) h;
      acks = ap (λ (x : Told). x.acks) h;
      sent = ap (λ (x : Told). x.sent) h;
    }

pub totals_of : {x : Stepped} {m : List ℕ} {o : Outcome} {t : Told} → t ≡ record { moves = o.moves; acks = o.acks; sent = o.sent } → Leaves x m o → Totals x m t
totals_of h l =
    record {
      image = l.image;
      moves = ap (λ (x : Told). x.moves) h ∙ l.moves;
      acks = ap (λ (x : Told). x.acks) h ∙ l.acks;
      sent = ap (λ (x : Told). x.sent) h ∙ l.sent;
    }

-- two parts, one after the other
module _ {x y : Stepped} {m n : List ℕ} {a b : Told} (p : Totals x m a) (q : Totals y n b) where
  sent_both : sent_of (sent_view a.sent ++ sent_view b.sent) ≡ sent_of (x.sent ++ y.sent)
  sent_both =
      (λ i. sent_of (sent_view (p.sent i) ++ sent_view (q.sent i)))
      ∙ (λ i. sent_of (view_of x.sent i ++ view_of y.sent i))

  pub totals_both : {t : Told} → t ≡ told_together a b → Totals (joined x y) n t
  totals_both h =
      record {
        image = q.image;
        moves = ap (λ (z : Told). z.moves) h ∙ (λ i. p.moves i + q.moves i);
        acks = ap (λ (z : Told). z.acks) h ∙ (λ i. p.acks i + q.acks i);
        sent = ap (λ (z : Told). z.sent) h ∙ sent_both;
      }

  sizes : length (x.sent ++ y.sent) ≡ a.sent.count + b.sent.count
  sizes = length-append x.sent y.sent ∙ (λ i. sym (ap (λ (s : Fifo 8). s.count) p.sent) i + sym (ap (λ (s : Fifo 8). s.count) q.sent) i)

  pub sums_fit : x.moves + y.moves ≤ 255 → x.acks + y.acks ≤ 255 → length (x.sent ++ y.sent) ≤ 8 → Sums a.moves a.acks a.sent b
  sums_fit u v w =
      record {
        moves = omega (arith, p.moves, q.moves, u);
        acks = omega (arith, p.acks, q.acks, v);
        first = tidy_of x.sent p.sent;
        second = tidy_of y.sent q.sent;
        count = omega (arith, sizes, w);
      }

-- from a chip at rest
module _ (s : State) (r : AtRest s) (i : InRange s) (j : InBytes s) where
  -- the image that k ticks left
  module _ (k : ℕ) {m : List ℕ} {t : Told} (p : Totals (single_ticks k s) m t) where
    abbrev u : State
    u = (single_ticks k s).state

    pub ticked_state : state_at m ≡ u
    ticked_state = state_is u p.image (single_in_range k s i) (single_bytes k s i j).state

    pub ticked_image : IsImage m
    ticked_image = image_is u p.image (single_in_range k s i) (single_bytes k s i j).state

    pub ticked_rests : AtRest (state_at m)
    ticked_rests = subst AtRest (sym ticked_state) (single_rests k s i r)

    -- and l more
    module _ (l : ℕ) {n : List ℕ} {w : Told} (q : Totals (single_ticks l (state_at m)) n w) where
      then : Totals (single_ticks l u) n w
      then = totals_as (ap (single_ticks l) ticked_state) q

      whole : joined (single_ticks k s) (single_ticks l u) ≡ single_ticks (k + l) s
      whole = sym (ticks_split k l s)

      pub more_sums : Sums t.moves t.acks t.sent w
      more_sums =
          let f : Few (joined (single_ticks k s) (single_ticks l u)) = subst Few (sym whole) (few_ticks (k + l) s r i) in
          sums_fit p then (omega (arith, f.moves)) (omega (arith, f.acks)) f.sent

      pub more_totals : {z : Told} → z ≡ told_together t w → Totals (single_ticks (k + l) s) n z
      more_totals h = totals_as whole (totals_both p then h)

empty : (l : List ℕ) → length l ≡ 0 → l ≡ []
empty [] e = refl
empty (x ∷ l) e = absurd (omega arith)

-- ticks that report nothing leave a state and no more
nothing_told : {x : Stepped} {m : List ℕ} {t : Told} → Totals x m t → x.code ≡ Done → x.value ≡ 0 → (eqb t.moves 0 && eqb t.acks 0 && eqb t.sent.count 0) ≡ true → x ≡ ended x.state Done 0
unfolding ended
nothing_told {x} {t = t} q code value none =
    let both = left_true (eqb t.moves 0 && eqb t.acks 0) _ none in
    let moves = eqb-true t.moves 0 (left_true (eqb t.moves 0) _ both) in
    let acks = eqb-true t.acks 0 (right_true (eqb t.moves 0) _ both) in
    let count = eqb-true t.sent.count 0 (right_true (eqb t.moves 0 && eqb t.acks 0) _ none) in
    let sent : x.sent ≡ [] = empty x.sent (sym (ap (λ (y : Fifo 8). y.count) q.sent) ∙ count) in
    λ k.
    record {
      state = x.state;
      code = code k;
      value = value k;
      moves = (sym q.moves ∙ moves) k;
      acks = (sym q.acks ∙ acks) k;
      sent = sent k;
    }

-- the copy led here, and nothing was reported
module _ {copy m : List ℕ} {k : ℕ} {t : Told} (led : Leads copy k m t) (none : (eqb t.moves 0 && eqb t.acks 0 && eqb t.sent.count 0) ≡ true) where
  here : state_at m ≡ (single_ticks k (state_at copy)).state
  here = ticked_state (state_at copy) led.rests led.image.range led.image.bytes k led.totals

  pub led_nowhere : Marked copy k (ended (state_at m) Done 0)
  led_nowhere =
      record {
        image = led.image;
        rests = led.rests;
        same = nothing_told led.totals (ticks_code k (state_at copy)).0 (ticks_code k (state_at copy)).1 none ∙ ap (λ (s : State). ended s Done 0) (sym here);
      }

-- A ROUND THAT CHANGES NOTHING: 72 ticks that leave the same bytes and report nothing
pub led_round : {copy m : List ℕ} {k : ℕ} {t : Told} → IsImage m → Leads copy k m t → k ≡ 72 → (eqb t.moves 0 && eqb t.acks 0 && eqb t.sent.count 0) ≡ true → m ≡ copy → (left : ℕ) → single_ticks (left % 72) (state_at m) ≡ single_ticks left (state_at m)
led_round {copy} {m} i led e none same left =
    let still : single_ticks 72 (state_at m) ≡ ended (state_at m) Done 0 =
    (λ j. single_ticks (sym e j) (state_at (same j))) ∙ (led_nowhere led none).same
    in
    sym (round left 72 (state_at m) (omega arith) still)

pub some_is : {A : Type 0} {a b : A} → Some a ≡ Some b → a ≡ b
some_is e = cc

-- what a map of an option that has something was made of
pub mapped : (Q : ℕ → ℕ → Type 0) (since past : Option ℕ) → MatchOption since (past ≡ None) (λ x. IsSomeAnd past (Q x)) → (k : ℕ) → past ≡ Some k → (x : ℕ) × (since ≡ Some x) × Q x k
mapped Q None past h k e = absurd cc
mapped Q (Some x) None h k e = absurd cc
mapped Q (Some x) (Some y) h k e = (x, refl, subst (Q x) (some_is e) h)

-- UP TO THE NEXT TICK THAT DOES MORE THAN COUNT
module _ {m copy : List ℕ} (g : IsImage m) (r : AtRest (state_at m)) {left : ℕ} {lap : Lap} (w : Rounds m left copy lap) where
  abbrev s : State
  s = state_at m

  module _ (k : ℕ) {n : List ℕ} (near : k < distance s) (e : n ≡ image_of (advanced k s)) where
    counted_fits : InRange (advanced k s)
    counted_fits = advanced_fits s r k g.range near

    pub counted_image : IsImage n
    counted_image = image_is (advanced k s) e counted_fits (advanced_bytes k s g.bytes)

    counted_state : state_at n ≡ advanced k s
    counted_state = state_is (advanced k s) e counted_fits (advanced_bytes k s g.bytes)

    -- all of them only count
    pub counted_all : k ≡ lap.left → single_ticks left s ≡ ended (state_at n) Done 0
    counted_all same =
        sym w.same ∙ ap (λ (x : ℕ). single_ticks x s) (sym same) ∙ steady k s r g.range near ∙ ap (λ (x : State). ended x Done 0) (sym counted_state)

    -- one is next that does more
    pub counted_some : (l : ℕ) → lap.left ≡ k + suc l → single_ticks left s ≡ single_ticks (suc l) (state_at n)
    counted_some l same =
        sym w.same ∙ ap (λ (x : ℕ). single_ticks x s) same ∙ steady_more k (suc l) s r g.range near ∙ ap (single_ticks (suc l)) (sym counted_state)

    pub counted_marked : (a d : ℕ) → lap.since ≡ Some d → a ≡ d + (k + 1) → Marked copy a (single_ticks 1 (state_at n))
    unfolding ended
    counted_marked a d h f =
        let c = w.marked d h in
        let u = state_at copy in
        record {
          image = c.image;
          rests = c.rests;
          same =
              ap (λ (x : ℕ). single_ticks x u) f ∙ ticks_split d (k + 1) u ∙ (λ x. joined (c.same x) (single_ticks (k + 1) (c.same x).state))
              ∙ joined_none (state_at m) (state_at m) (k + 1) ∙ steady_more k 1 s r g.range near ∙ ap (single_ticks 1) (sym counted_state);
        }
