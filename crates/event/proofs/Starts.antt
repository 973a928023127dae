-- From what A left: the answer is ready, or B, C and D are to come.
use Rattle.std.specs.Prelude.{Option, Some, None, Result, Ok, Err}
use Prim.Native.Nat.{ℕ, zero, suc, ◌<◌, ◌≤◌, min}
use native.Mathlib.Omega.{arith}
use mathlib.Core.Path.{◌≡◌, refl, ap, sym, ◌∙◌}
use mathlib.Core.Bool.{true, false}
use mathlib.Core.List.{List}
use Rattle.rules.specs.State.{State, power_reset}
use Rattle.rules.specs.Codes.{access_code, is_done, refused_value}
use Rattle.rules.specs.Ranges.{InRange, InBytes, EventFits, DecodedFits}
use Rattle.rules.specs.Step.{ended, refused, done, access, joined, single_ticks, ticks_taken, step_event, step_decoded}
use Rattle.rules.specs.Answers.{Stepped}
use Rattle.rules.specs.declared.codes.Code.{Code}
use Rattle.rules.specs.declared.codes.Code.TheVariants.{Done, Malformed}
use Rattle.rules.specs.declared.records.Event.{Event}
use Rattle.rules.specs.declared.records.Event.TheVariants.{PowerReset, Write, Read, WordWrite, WordRead, Drive, Ticks}
use Rattle.rules.specs.Events.{writes, reads, value_of, ticks_of, lines_after, offered, asked, port_write}
use Rattle.rules.specs.Reads.{value_read}
use Rattle.rules.specs.StepA.{clears, clears_latch, clears_error, clrstcnt, clrch, rstfifo, latch_access, automatic_ack, registers_a, host_a, counter_a, transfer_a, error_a, status_a, latches_a, stack_a, identity_a, gives_up, selection_a, noted_a, selection_latches_a, sequencer_a, after_a}
use Rattle.rules.proofs.Logic.{never}
use Rattle.rules.specs.Rest.{AtRest}
use Rattle.rules.proofs.Ranges.{bytes_after_a, after_b_fits, bytes_after_b, after_d_lem, bytes_after_d}
use Rattle.rules.proofs.Still.{ticks_done, done_rests}
use Rattle.rules.proofs.OneTick.{tick_plain}
use Rattle.event.proofs.Ticking.{one_tick}
use Rattle.effects.proofs.DoneCode.{code_done}
use Rattle.fifos.specs.Fifos.{sent_of}
use Rattle.image.specs.Image.{image_of}
use Rattle.effects.specs.declared.Effect.{Effect}
use Rattle.effects.specs.declared.Ended.{Ended}
use Rattle.effects.specs.Acting.{Acts}
use Rattle.effects.proofs.Endings.{went_on, was_refused}
use Rattle.event.specs.declared.before.Before.{Before}
use Rattle.event.specs.declared.stepping.Outcome.{Outcome}
use Rattle.event.specs.Outcomes.{Leaves, ended_as}
use Rattle.event.specs.Opening.{Ends, OpensEvent, Opens, Recalls, Ready}

access_done : (s : State) (e : Event) → is_done (access_code s e) ≡ true → done s e ≡ access s e
unfolding access
access_done s e h = rw h

access_refused : (s : State) (e : Event) → is_done (access_code s e) ≡ false → refused s (access_code s e) (refused_value e) ≡ access s e
unfolding access
access_refused s e h = rw h

-- a refusal, or a power reset
refused_leaves : (s : State) {code : Code} {value : ℕ} {m : List ℕ} {c : Code} {v : ℕ} → m ≡ image_of s → c ≡ code → v ≡ value → Leaves (refused s code value) m (ended_as c v)
unfolding ended
refused_leaves s i c v = record { image = i; code = c; value = v; moves = refl; acks = refl; sent = refl }

pub leaves_as : {x y : Stepped} {m : List ℕ} {o : Outcome} → x ≡ y → Leaves x m o → Leaves y m o
leaves_as p l =
    record {
      image = l.image ∙ ap (λ (x : Stepped). image_of x.state) p;
      code = l.code ∙ ap (λ (x : Stepped). x.code) p;
      value = l.value ∙ ap (λ (x : Stepped). x.value) p;
      moves = l.moves ∙ ap (λ (x : Stepped). x.moves) p;
      acks = l.acks ∙ ap (λ (x : Stepped). x.acks) p;
      sent = l.sent ∙ ap (λ (x : Stepped). sent_of x.sent) p;
    }

module _ (s : State) (i : InRange s) {m : List ℕ} (x : Ended) where
  ends_leaves : (t : State) (code : Code) (value : ℕ) → Ends t code value m (Err x) → Leaves (refused t code value) m (ended_as x.code x.value)
  ends_leaves t code value a = refused_leaves t a.image (cc a.acted) (cc a.acted)

  acts_leaves : (e : Event) → Acts s e m (Err x) → Leaves (access s e) m (ended_as x.code x.value)
  acts_leaves e a =
      let f = was_refused s e a in
      leaves_as (access_refused s e f.0) (refused_leaves s (rw f.0 at a.image) (ap (λ (y : Ended). y.code) f.1) (ap (λ (y : Ended). y.value) f.1))

  -- ticks are never refused
  ticks_leaves : (n : ℕ) → Acts s (Ticks n) m (Err x) → Leaves (ticks_taken n s) m (ended_as x.code x.value)
  unfolding ticks_taken
  ticks_leaves zero a = acts_leaves (Ticks 0) a
  ticks_leaves (suc n) a =
      absurd (never (sym (was_refused s (Ticks (suc n)) a).0 ∙ ap is_done (ticks_done s (suc n) i.transfer.host)))

  event_leaves : (e : Event) → OpensEvent s e m (Err x) → Leaves (step_event s e) m (ended_as x.code x.value)
  unfolding step_event
  event_leaves PowerReset a = ends_leaves power_reset Done 0 a
  event_leaves (Write o v) a = acts_leaves (Write o v) a
  event_leaves (Read o) a = acts_leaves (Read o) a
  event_leaves (WordWrite w) a = acts_leaves (WordWrite w) a
  event_leaves WordRead a = acts_leaves WordRead a
  event_leaves (Drive l) a = acts_leaves (Drive l) a
  event_leaves (Ticks n) a = ticks_leaves n a

  pub opens_leaves : (d : Option Event) → Opens s d m (Err x) → Leaves (step_decoded s d) m (ended_as x.code x.value)
  unfolding step_decoded
  opens_leaves (Some e) a = event_leaves e a
  opens_leaves None a = ends_leaves s Malformed 0 a

-- what B, C and D take up, of the first tick where there are several; and that with the ticks after it they give the step
pub record Onward (y : Stepped) (m : List ℕ) (before : Before) (ticks value : ℕ) : Type 0 where
  pub ready : Ready m before (min ticks 1) value
  pub few : ticks < 2 → done ready.state ready.event ≡ y
  pub many : (k : ℕ) → ticks ≡ suc (suc k) → joined (done ready.state ready.event) (single_ticks (suc k) (done ready.state ready.event).state) ≡ y
  pub plain : 2 ≤ ticks → (value ≡ 0) × ((done ready.state ready.event).code ≡ Done) × ((done ready.state ready.event).value ≡ 0)

-- a tick by itself
pub tick_done : (s : State) → InRange s → done s (Ticks 1) ≡ access s (Ticks 1)
tick_done s i = access_done s (Ticks 1) (ap is_done (ticks_done s 1 i.transfer.host))

-- the ticks of an event, by the first of them
only_one : (s : State) (i : InRange s) (n : ℕ) → n ≡ 0 → done s (Ticks 1) ≡ single_ticks (suc n) s
only_one s i n e = tick_done s i ∙ sym (one_tick s i) ∙ ap (λ (k : ℕ). single_ticks (suc k) s) (sym e)

after_one : (s : State) (i : InRange s) (n k : ℕ) → n ≡ suc k → joined (done s (Ticks 1)) (single_ticks (suc k) (done s (Ticks 1)).state) ≡ single_ticks (suc n) s
unfolding single_ticks
after_one s i n k e =
    (λ v. joined (tick_done s i v) (single_ticks (suc k) (tick_done s i v).state))
    ∙ ap (λ (l : ℕ). joined (access s (Ticks 1)) (single_ticks l (access s (Ticks 1)).state)) (sym e)

-- A of ticks is that of one
a_ticks : (s : State) (n : ℕ) → after_a s (Ticks n) ≡ after_a s (Ticks 1)
unfolding after_a lines_after registers_a transfer_a host_a counter_a status_a error_a latches_a stack_a identity_a sequencer_a gives_up selection_a noted_a selection_latches_a automatic_ack latch_access clrstcnt clrch rstfifo clears clears_latch clears_error writes reads value_of offered asked port_write
a_ticks s n = refl

module _ (s : State) (i : InRange s) (j : InBytes s) {m : List ℕ} (x : Effect) {before : Before} (r : Recalls s before) where
  acts_onward : (e : Event) → EventFits e → ticks_of e ≡ 0 → Acts s e m (Ok x) → Onward (access s e) m before x.ticks x.value
  acts_onward e f none a =
      let t = went_on s e a in
      let ticks : x.ticks ≡ ticks_of e = ap (λ (y : Effect). y.ticks) t.1 in
      record {
        ready =
            record {
              state = s;
              event = e;
              fits = f;
              done = code_done (access_code s e) t.0;
              range = i;
              bytes = j;
              made = rw t.0 at a.image;
              recalls = r;
              ticks = omega (arith, ticks, none);
              value = ap (λ (y : Effect). y.value) t.1;
            };
        few = λ l. access_done s e t.0;
        many = λ k l. absurd (omega (arith, ticks, none, l));
        plain = λ l. absurd (omega (arith, ticks, none, l));
      }

  ticks_onward : (n : ℕ) → EventFits (Ticks n) → Acts s (Ticks n) m (Ok x) → Onward (ticks_taken n s) m before x.ticks x.value
  unfolding ticks_taken ticks_of value_read
  ticks_onward zero f a = acts_onward (Ticks 0) f refl a
  ticks_onward (suc n) f a =
      let t = went_on s (Ticks (suc n)) a in
      let ticks : x.ticks ≡ suc n = ap (λ (y : Effect). y.ticks) t.1 in
      let value : x.value ≡ 0 = ap (λ (y : Effect). y.value) t.1 in
      record {
        ready =
            record {
              state = s;
              event = Ticks 1;
              fits = omega arith;
              done = ticks_done s 1 i.transfer.host;
              range = i;
              bytes = j;
              made = (rw t.0 at a.image) ∙ ap image_of (a_ticks s (suc n));
              recalls = r;
              ticks = omega (arith, ticks);
              value = value;
            };
        few = λ l. only_one s i n (omega (arith, ticks, l));
        many = λ k l. after_one s i n k (omega (arith, ticks, l));
        plain = λ l. (value, ap (λ (z : Stepped). z.code) (tick_done s i ∙ tick_plain s i), ap (λ (z : Stepped). z.value) (tick_done s i ∙ tick_plain s i));
      }

  never_ended : (t : State) (code : Code) (value : ℕ) {y : Stepped} → Ends t code value m (Ok x) → Onward y m before x.ticks x.value
  never_ended t code value a = absurd (cc a.acted)

  event_onward : (e : Event) → EventFits e → OpensEvent s e m (Ok x) → Onward (step_event s e) m before x.ticks x.value
  unfolding step_event ticks_of
  event_onward PowerReset f a = never_ended power_reset Done 0 a
  event_onward (Write o v) f a = acts_onward (Write o v) f refl a
  event_onward (Read o) f a = acts_onward (Read o) f refl a
  event_onward (WordWrite w) f a = acts_onward (WordWrite w) f refl a
  event_onward WordRead f a = acts_onward WordRead f refl a
  event_onward (Drive l) f a = acts_onward (Drive l) f refl a
  event_onward (Ticks n) f a = ticks_onward n f a

  pub opens_onward : (d : Option Event) → DecodedFits d → Opens s d m (Ok x) → Onward (step_decoded s d) m before x.ticks x.value
  unfolding step_decoded
  opens_onward (Some e) f a = event_onward e f a
  opens_onward None f a = never_ended s Malformed 0 a

-- what B, C and D take up of a tick
pub tick_counts : ticks_of (Ticks 1) ≡ 1
unfolding ticks_of
tick_counts = refl

pub tick_reads : (s : State) → value_read s (Ticks 1) ≡ 0
unfolding value_read
tick_reads s = refl

abbrev pub tick_ready : (s : State) (i : InRange s) (j : InBytes s) {m : List ℕ} (a : Result Effect Ended) {before : Before} {one value : ℕ} → Recalls s before → Acts s (Ticks 1) m a → one ≡ 1 → value ≡ 0 → Ready m before one value
tick_ready s i j a r x e f =
    let d = ticks_done s 1 i.transfer.host in
    let t : is_done (access_code s (Ticks 1)) ≡ true = ap is_done d in
    record {
      state = s;
      event = Ticks 1;
      fits = omega arith;
      done = d;
      range = i;
      bytes = j;
      made = rw t at x.image;
      recalls = r;
      ticks = e ∙ sym tick_counts;
      value = f ∙ sym (tick_reads s);
    }

-- with its number of ticks in another form
abbrev pub at_ticks : {m : List ℕ} {before : Before} {ticks value n : ℕ} → Ready m before ticks value → n ≡ ticks → Ready m before n value
at_ticks w e =
    record {
      state = w.state;
      event = w.event;
      fits = w.fits;
      done = w.done;
      range = w.range;
      bytes = w.bytes;
      made = w.made;
      recalls = w.recalls;
      ticks = e ∙ w.ticks;
      value = w.value;
    }

-- the state that an event leaves
pub record Left (s : State) : Type 0 where
  pub range : InRange s
  pub bytes : InBytes s
  pub rests : AtRest s

pub done_left : {m : List ℕ} {before : Before} {ticks value : ℕ} (w : Ready m before ticks value) → Left (done w.state w.event).state
unfolding done
done_left w =
    let d = ap is_done w.done in
    let b = after_b_fits w.state w.event w.fits d w.range in
    record {
      range = after_d_lem w.state w.event b;
      bytes = bytes_after_d w.state w.event (bytes_after_b w.state w.event (bytes_after_a w.state w.event w.fits w.bytes));
      rests = done_rests w.state w.event b;
    }
