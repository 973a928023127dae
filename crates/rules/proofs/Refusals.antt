-- Codes: which one, in which order, what a refusal leaves, and where code 6 comes from.
use Rattle.std.specs.Prelude.{Option, Some, None}
use mathlib.Core.Path.{◌≡◌, refl, sym, ◌∙◌, ap}
use mathlib.Core.Bool.{Bool, true, false, cond, and-not_self}
use mathlib.Core.List.{List, [], ◌∷◌}
use Prim.Native.Nat.{ℕ, zero, suc, ◌≤◌}
use native.Mathlib.Omega.{arith}
use Rattle.rules.specs.State.{State}
use Rattle.rules.specs.Map.{read_at, written_at}
use Rattle.rules.specs.Records.{decode}
use Rattle.rules.specs.Events.{lines_after}
use Rattle.rules.specs.Codes.{number_of, absent, test_value, shut, no_room, no_bytes, access_code, refused_value, is_done, is_refusal, mapped_code, mapped_value}
use Rattle.rules.specs.StepA.{after_a}
use Rattle.rules.specs.StepB.{req_rises, beyond, at_req}
use Rattle.rules.specs.Answers.{Stepped}
use Rattle.rules.specs.Step.{ended, done, access, single_ticks, ticks_taken, step_event, step_decoded, step}
use Rattle.rules.specs.declared.codes.Code.{Code}
use Rattle.rules.specs.declared.codes.Code.TheVariants.{Done, Malformed, Absent, Shut, NoRoom, NoBytes, BeyondLimit, TestValue}
use Rattle.rules.specs.declared.records.Lines.{Lines}
use Rattle.rules.specs.declared.records.Event.{Event}
use Rattle.rules.specs.declared.records.Event.TheVariants.{PowerReset, Write, Read, WordWrite, WordRead, Drive, Ticks}
use Rattle.rules.specs.Examples.{Row, row, misses}
use Rattle.rules.proofs.Computes.{computes}
use Rattle.rules.proofs.InOrder.{Apart, req_leaves}
use Rattle.rules.proofs.Logic.{never, cond_case}

-- eight codes, 0 to 7
pub eight_codes : (c : Code) → number_of c ≤ 7
eight_codes Done = omega arith
eight_codes Malformed = omega arith
eight_codes Absent = omega arith
eight_codes Shut = omega arith
eight_codes NoRoom = omega arith
eight_codes NoBytes = omega arith
eight_codes BeyondLimit = omega arith
eight_codes TestValue = omega arith

-- "Checked in the order 1, 2, 7, 3, then 4 or 5": each code where its check holds and none before it
pub record Order (s : State) (e : Event) : Type 0 where
  pub second : absent e ≡ true → access_code s e ≡ Absent
  pub third : absent e ≡ false → test_value e ≡ true → access_code s e ≡ TestValue
  pub fourth : absent e ≡ false → test_value e ≡ false → shut s.registers e ≡ true → access_code s e ≡ Shut
  pub fifth : absent e ≡ false → test_value e ≡ false → shut s.registers e ≡ false → no_room s e ≡ true → access_code s e ≡ NoRoom
  pub sixth : absent e ≡ false → test_value e ≡ false → shut s.registers e ≡ false → no_room s e ≡ false → no_bytes s e ≡ true → access_code s e ≡ NoBytes
  pub none : absent e ≡ false → test_value e ≡ false → shut s.registers e ≡ false → no_room s e ≡ false → no_bytes s e ≡ false → access_code s e ≡ Done

pub in_order_lem : (s : State) (e : Event) → Order s e
unfolding access_code
in_order_lem s e =
    record {
      second = λ a. rw a;
      third = λ a b. rw (a, b);
      fourth = λ a b c. rw (a, b, c);
      fifth = λ a b c d. rw (a, b, c, d);
      sixth = λ a b c d f. rw (a, b, c, d, f);
      none = λ a b c d f. rw (a, b, c, d, f);
    }

-- so an access that is done passed every check
pub record Passed (s : State) (e : Event) : Type 0 where
  pub present : absent e ≡ false
  pub value : test_value e ≡ false
  pub port : shut s.registers e ≡ false
  pub room : no_room s e ≡ false
  pub bytes : no_bytes s e ≡ false

pub done_passed : (s : State) (e : Event) → access_code s e ≡ Done → Passed s e
done_passed s e h =
    go (absent e) (test_value e) (shut s.registers e) (no_room s e) (no_bytes s e) refl refl refl refl refl
  where
    o : Order s e
    o = in_order_lem s e

    clash : {c : Code} → access_code s e ≡ c → (number_of c ≡ 0 → ⊥) → Passed s e
    clash q f = absurd (f (ap number_of (sym q ∙ h)))

    go : (a b c d f : Bool) → absent e ≡ a → test_value e ≡ b → shut s.registers e ≡ c → no_room s e ≡ d → no_bytes s e ≡ f → Passed s e
    go true b c d f p q r t u = clash (o.second p) (λ z. omega arith)
    go false true c d f p q r t u = clash (o.third p q) (λ z. omega arith)
    go false false true d f p q r t u = clash (o.fourth p q r) (λ z. omega arith)
    go false false false true f p q r t u = clash (o.fifth p q r t) (λ z. omega arith)
    go false false false false true p q r t u = clash (o.sixth p q r t u) (λ z. omega arith)
    go false false false false false p q r t u = record { present = p; value = q; port = r; room = t; bytes = u }

-- 1 comes first: a record that is not well formed gets it whatever the state
pub first_malformed : (s : State) (bytes : List ℕ) → decode bytes ≡ None → (step s bytes).code ≡ Malformed
unfolding step step_decoded ended
first_malformed s bytes e = rw e

pub record Unchanged (s : State) (r : Stepped) : Type 0 where
  pub state : r.state ≡ s
  pub moves : r.moves ≡ 0
  pub acks : r.acks ≡ 0
  pub sent : r.sent ≡ []

done_unrefused : (s : State) (e : Event) → is_refusal (done s e).code ≡ true → ⊥
unfolding done
done_unrefused s e =
    cond_case (λ (c : Code). is_refusal c ≡ true → ⊥) (beyond s (at_req s e)) BeyondLimit Done (λ q. never) (λ q. never)

access_refused : (s : State) (e : Event) → is_refusal (access s e).code ≡ true → Unchanged s (access s e)
unfolding access ended
access_refused s e =
    cond_case (λ (r : Stepped). is_refusal r.code ≡ true → Unchanged s r) (is_done (access_code s e)) _ _
    (λ q h. absurd (done_unrefused s e h)) (λ q h. record { state = refl; moves = refl; acks = refl; sent = refl })

-- ticks are refused only where there are none
ticks_refused : (s : State) (n : ℕ) → is_refusal (ticks_taken n s).code ≡ true → Unchanged s (ticks_taken n s)
unfolding ticks_taken single_ticks
ticks_refused s zero h = access_refused s (Ticks 0) h
ticks_refused s (suc n) h = absurd (never h)

-- a refusal changes nothing and reports no ACK, no move, no sent byte
pub refusal_changes_nothing : (s : State) (bytes : List ℕ) → is_refusal (step s bytes).code ≡ true → Unchanged s (step s bytes)
unfolding step step_decoded step_event ended
refusal_changes_nothing s bytes = go (decode bytes)
  where
    go : (d : Option Event) → is_refusal (step_decoded s d).code ≡ true → Unchanged s (step_decoded s d)
    go None h = record { state = refl; moves = refl; acks = refl; sent = refl }
    go (Some PowerReset) h = absurd (never h)
    go (Some (Write o v)) h = access_refused s (Write o v) h
    go (Some (Read o)) h = access_refused s (Read o) h
    go (Some (WordWrite w)) h = access_refused s (WordWrite w) h
    go (Some WordRead) h = access_refused s WordRead h
    go (Some (Drive l)) h = access_refused s (Drive l) h
    go (Some (Ticks n)) h = ticks_refused s n h

-- the value of a refusal: "FFh on read", "all ones of the width on read", "0 on write"
access_value : (s : State) (e : Event) → is_refusal (access s e).code ≡ true → (access s e).value ≡ refused_value e
unfolding access ended
access_value s e =
    cond_case (λ (r : Stepped). is_refusal r.code ≡ true → r.value ≡ refused_value e) (is_done (access_code s e)) _ _
    (λ q h. absurd (done_unrefused s e h)) (λ q h. refl)

pub refusal_value : (s : State) (e : Event) → is_refusal (step_event s e).code ≡ true → (step_event s e).value ≡ refused_value e
unfolding step_event ended ticks_taken single_ticks refused_value
refusal_value s PowerReset h = absurd (never h)
refusal_value s (Write o v) h = access_value s (Write o v) h
refusal_value s (Read o) h = access_value s (Read o) h
refusal_value s (WordWrite w) h = access_value s (WordWrite w) h
refusal_value s WordRead h = access_value s WordRead h
refusal_value s (Drive l) h = access_value s (Drive l) h
refusal_value s (Ticks n) h = ticks_value n h
  where
    ticks_value : (n : ℕ) → is_refusal (ticks_taken n s).code ≡ true → (ticks_taken n s).value ≡ 0
    ticks_value zero h = access_value s (Ticks 0) h
    ticks_value (suc n) h = absurd (never h)

-- an access that finds nothing: the code and the value that the map has for it
pub record Missed (s : State) (e : Event) : Type 0 where
  pub code : (access s e).code ≡ mapped_code None
  pub value : (access s e).value ≡ mapped_value None e

absent_missed : (s : State) (e : Event) → absent e ≡ true → Missed s e
unfolding access ended
absent_missed s e h = let c : access_code s e ≡ Absent = (in_order_lem s e).second h in record { code = rw c; value = rw c }

pub read_missed : (s : State) (offset : ℕ) → read_at offset ≡ None → Missed s (Read offset)
unfolding absent
read_missed s offset h = absent_missed s (Read offset) (rw h)

pub write_missed : (s : State) (offset value : ℕ) → written_at offset ≡ None → Missed s (Write offset value)
unfolding absent
write_missed s offset value h = absent_missed s (Write offset value) (rw h)

-- an event that leaves the lines as they are raises no REQ
lines_at_lem : (s : State) (e : Event) → (at_req s e).lines ≡ lines_after e s.lines
unfolding after_a
lines_at_lem s e = ap (λ (a : Apart). a.lines) (req_leaves s e)

pub no_rise : (s : State) (e : Event) → lines_after e s.lines ≡ s.lines → req_rises s (at_req s e) ≡ false
unfolding req_rises
no_rise s e h = rw (lines_at_lem s e ∙ h, and-not_self)

pub not_beyond : (s : State) (e : Event) → lines_after e s.lines ≡ s.lines → beyond s (at_req s e) ≡ false
unfolding beyond
not_beyond s e h = rw (no_rise s e h)

done_beyond : (s : State) (e : Event) → lines_after e s.lines ≡ s.lines → (done s e).code ≡ BeyondLimit → ⊥
unfolding done
done_beyond s e h = rw (not_beyond s e h) (λ q. omega (arith, ap number_of q))

-- no check gives 6
checks_beyond : (s : State) (e : Event) → access_code s e ≡ BeyondLimit → ⊥
unfolding access_code
checks_beyond s e =
    at (absent e) (λ q. omega (arith, ap number_of q))
    (at (test_value e) (λ q. omega (arith, ap number_of q))
    (at (shut s.registers e) (λ q. omega (arith, ap number_of q))
    (at (no_room s e) (λ q. omega (arith, ap number_of q))
    (at (no_bytes s e) (λ q. omega (arith, ap number_of q)) (λ q. omega (arith, ap number_of q))))))
  where
    at : (t : Bool) {a b : Code} → (a ≡ BeyondLimit → ⊥) → (b ≡ BeyondLimit → ⊥) → cond t a b ≡ BeyondLimit → ⊥
    at true f g = f
    at false f g = g

access_beyond : (s : State) (e : Event) → lines_after e s.lines ≡ s.lines → (access s e).code ≡ BeyondLimit → ⊥
unfolding access ended
access_beyond s e h =
    cond_case (λ (r : Stepped). r.code ≡ BeyondLimit → ⊥) (is_done (access_code s e)) _ _ (λ q. done_beyond s e h)
    (λ q. checks_beyond s e)

ticks_beyond : (s : State) (n : ℕ) → (ticks_taken n s).code ≡ BeyondLimit → ⊥
unfolding ticks_taken single_ticks lines_after
ticks_beyond s zero h = access_beyond s (Ticks 0) refl h
ticks_beyond s (suc n) h = omega (arith, ap number_of h)

-- "6 arises only in kind 5"
pub beyond_only_lines : (s : State) (bytes : List ℕ) → (step s bytes).code ≡ BeyondLimit → (l : Lines) × (decode bytes ≡ Some (Drive l))
unfolding step step_decoded step_event ended lines_after
beyond_only_lines s bytes = go (decode bytes)
  where
    go : (d : Option Event) → (step_decoded s d).code ≡ BeyondLimit → (l : Lines) × (d ≡ Some (Drive l))
    go None h = absurd (omega (arith, ap number_of h))
    go (Some PowerReset) h = absurd (omega (arith, ap number_of h))
    go (Some (Write o v)) h = absurd (access_beyond s (Write o v) refl h)
    go (Some (Read o)) h = absurd (access_beyond s (Read o) refl h)
    go (Some (WordWrite w)) h = absurd (access_beyond s (WordWrite w) refl h)
    go (Some WordRead) h = absurd (access_beyond s WordRead refl h)
    go (Some (Drive l)) h = (l, refl)
    go (Some (Ticks n)) h = absurd (ticks_beyond s n h)

-- each refusal with its value, computed: the code's three bits, then the value in the third and fourth byte
abbrev refusal_values : List Row
refusal_values =
    row 0x44000000 0x400000FF000000000000000000000000  -- 344h is read: 2, FFh
    ∷ row 0x27000055 0x40000000000000000000000000000000  -- 347h is written: 2, 0
    ∷ row 0x2E000001 0xE0000000000000000000000000000000  -- 34Eh, a test value: 7, 0
    ∷ row 0x56000000 0x600000FF000000000000000000000000  -- 356h, a byte, port shut: 3, FFh
    ∷ row 0x80000000 0x6000FFFF000000000000000000000000  -- a word, port shut: 3, FFFFh
    ∷ row 0x60001234 0x60000000000000000000000000000000  -- a word written, port shut: 3, 0
    ∷ row 0x32000080 0x00000000000000000000000000000000
    ∷ row 0x80000000 0xA000FFFF000000000000000000000000  -- a word, no bytes: 5, FFFFh
    ∷ row 0x320000C0 0x00000000000000000000000000000000
    ∷ row 0x56000000 0xA00000FF000000000000000000000000  -- a byte, no bytes: 5, FFh
    ∷ row 0xC1000000 0x20000000000000000000000000000000  -- an offset where there is none: 1, 0
    ∷ []

pub values_hold : misses (refusal_values ∷ []) ≡ []
unfolding computes
values_hold = refl
