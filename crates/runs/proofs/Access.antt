-- A step by its outcomes: refused, a power reset, done, or ticks one by one.
use Rattle.std.specs.Prelude.{Option, Some, None}
use mathlib.Core.Path.{◌≡◌, refl, sym}
use mathlib.Core.Bool.{Bool, true, false, ◌||◌, cond}
use mathlib.Core.List.{List}
use Prim.Native.Nat.{ℕ, zero, suc}
use Rattle.rules.specs.State.{State, power_reset}
use Rattle.rules.specs.Records.{decode}
use Rattle.rules.specs.Events.{ticks_of}
use Rattle.rules.specs.Codes.{absent, test_value, shut, no_room, no_bytes, access_code, refused_value, is_done}
use Rattle.rules.specs.StepB.{beyond, at_req}
use Rattle.rules.specs.Answers.{Stepped}
use Rattle.rules.specs.Step.{ended, refused, done, access, joined, single_ticks, ticks_taken, step_event, step_decoded, step}
use Rattle.rules.specs.declared.codes.Code.{Code}
use Rattle.rules.specs.declared.codes.Code.TheVariants.{Done, Malformed, Absent, Shut, NoRoom, NoBytes, BeyondLimit, TestValue}
use Rattle.rules.specs.declared.records.Event.{Event}
use Rattle.rules.specs.declared.records.Event.TheVariants.{PowerReset, Write, Read, WordWrite, WordRead, Drive, Ticks}
use Rattle.rules.proofs.Logic.{never, cond_case}
use Rattle.runs.specs.Comes.{is_refusal, says, may_come}

-- the first of five checks is a refusal, or none holds
abbrev first_of : Bool → Bool → Bool → Bool → Bool → Code
first_of a b c d f = cond a Absent (cond b TestValue (cond c Shut (cond d NoRoom (cond f NoBytes Done))))

first_of_refuses : (a b c d f : Bool) → is_done (first_of a b c d f) ≡ false → is_refusal (first_of a b c d f) ≡ true
first_of_refuses true b c d f h = refl
first_of_refuses false true c d f h = refl
first_of_refuses false false true d f h = refl
first_of_refuses false false false true f h = refl
first_of_refuses false false false false true h = refl
first_of_refuses false false false false false h = absurd (never (sym h))

pub refusal : (s : State) (e : Event) → is_done (access_code s e) ≡ false → is_refusal (access_code s e) ≡ true
unfolding access_code
refusal s e h = first_of_refuses (absent e) (test_value e) (shut s.registers e) (no_room s e) (no_bytes s e) h

-- what an access that is done has passed
pub record Passed (s : State) (e : Event) : Type 0 where
  pub unshut : shut s.registers e ≡ false
  pub room : no_room s e ≡ false
  pub bytes : no_bytes s e ≡ false

first_of_passes : (a b c d f : Bool) → is_done (first_of a b c d f) ≡ true → (c ≡ false) × (d ≡ false) × (f ≡ false)
first_of_passes false false false false false h = (refl, refl, refl)
first_of_passes false false false false true h = absurd (never h)
first_of_passes true b c d f h = absurd (never h)
first_of_passes false true c d f h = absurd (never h)
first_of_passes false false true d f h = absurd (never h)
first_of_passes false false false true f h = absurd (never h)

pub passed : (s : State) (e : Event) → is_done (access_code s e) ≡ true → Passed s e
unfolding access_code
passed s e h =
    let p = first_of_passes (absent e) (test_value e) (shut s.registers e) (no_room s e) (no_bytes s e) h in
    record { unshut = p.0; room = p.1; bytes = p.2 }

-- a step that is done is no refusal
pub done_code : (s : State) (e : Event) → is_refusal (done s e).code ≡ false
unfolding done
done_code s e = go (beyond s (at_req s e))
  where
    go : (b : Bool) → is_refusal (cond b BeyondLimit Done) ≡ false
    go true = refl
    go false = refl

-- TICKS ONE BY ONE (R-1): what holds of an event that ends at once, of a tick that is done, and of a tick with those after it holds of
-- any number of ticks
module _ (R : State → Stepped → Type 0) (none : (s : State) (code : Code) (value : ℕ) → R s (ended s code value)) (one : (s : State) → is_done (access_code s (Ticks 1)) ≡ true → R s (done s (Ticks 1))) (more : (s : State) (first rest : Stepped) → R s first → R first.state rest → R s (joined first rest)) where
  one_tick : (s : State) → R s (access s (Ticks 1))
  unfolding access
  one_tick s =
      cond_case (R s) (is_done (access_code s (Ticks 1))) _ _ (one s) (λ q. none s (access_code s (Ticks 1)) (refused_value (Ticks 1)))

  pub ticks_law : (n : ℕ) (s : State) → R s (single_ticks n s)
  unfolding single_ticks
  ticks_law zero s = none s Done 0
  ticks_law (suc n) s =
      more s (access s (Ticks 1)) (single_ticks n (access s (Ticks 1)).state) (one_tick s) (ticks_law n (access s (Ticks 1)).state)

module _ (s : State) (Q : Option Event → Stepped → Type 0) (stays : (d : Option Event) (code : Code) (value : ℕ) → is_refusal code ≡ true → Q d (refused s code value)) (resets : Q (Some PowerReset) (ended power_reset Done 0)) (goes : (e : Event) → ticks_of e ≡ 0 → is_done (access_code s e) ≡ true → Q (Some e) (done s e)) (ticks : (n : ℕ) → Q (Some (Ticks (suc n))) (single_ticks (suc n) s)) where
  access_law : (e : Event) → ticks_of e ≡ 0 → Q (Some e) (access s e)
  unfolding access
  access_law e t =
      cond_case (Q (Some e)) (is_done (access_code s e)) _ _ (goes e t) (λ q. stays (Some e) (access_code s e) (refused_value e) (refusal s e q))

  taken_law : (n : ℕ) → Q (Some (Ticks n)) (ticks_taken n s)
  unfolding ticks_taken ticks_of
  taken_law zero = access_law (Ticks 0) refl
  taken_law (suc n) = ticks n

  event_law : (e : Event) → Q (Some e) (step_event s e)
  unfolding step_event ticks_of
  event_law PowerReset = resets
  event_law (Write offset value) = access_law (Write offset value) refl
  event_law (Read offset) = access_law (Read offset) refl
  event_law (WordWrite word) = access_law (WordWrite word) refl
  event_law WordRead = access_law WordRead refl
  event_law (Drive lines) = access_law (Drive lines) refl
  event_law (Ticks n) = taken_law n

  decoded_law : (d : Option Event) → Q d (step_decoded s d)
  unfolding step_decoded
  decoded_law (Some e) = event_law e
  decoded_law None = stays None Malformed 0 refl

  -- what holds of a refusal, of a power reset, of an event without ticks that is done, and of ticks one by one holds of the step
  pub step_law : (bytes : List ℕ) → Q (decode bytes) (step s bytes)
  unfolding step
  step_law bytes = decoded_law (decode bytes)

-- and where the record may come, only an event that is allowed is to be looked at
module _ (allows : Event → Bool) (power : allows PowerReset ≡ false) (s : State) (Q : Option Event → Stepped → Type 0) (stays : (d : Option Event) (code : Code) (value : ℕ) → is_refusal code ≡ true → Q d (refused s code value)) (goes : (e : Event) → allows e ≡ true → ticks_of e ≡ 0 → is_done (access_code s e) ≡ true → Q (Some e) (done s e)) (ticks : (n : ℕ) → Q (Some (Ticks (suc n))) (single_ticks (suc n) s)) where
  abbrev Guarded : Option Event → Stepped → Type 0
  Guarded d r = (is_refusal r.code || says allows d) ≡ true → Q d r

  unless : (e : Event) → (is_refusal (done s e).code || allows e) ≡ true → allows e ≡ true
  unless e h = rw (done_code s e) at h

  power_out : Guarded (Some PowerReset) (ended power_reset Done 0)
  unfolding ended
  power_out h = absurd (never (rw power at h))

  pub come_law : (bytes : List ℕ) → may_come allows s bytes ≡ true → Q (decode bytes) (step s bytes)
  unfolding may_come
  come_law bytes h =
      step_law s Guarded (λ d code value q k. stays d code value q) power_out (λ e t q k. goes e (unless e k) t q) (λ n k. ticks n) bytes h
