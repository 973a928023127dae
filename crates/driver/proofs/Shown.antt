-- What a buffer shows of the step: the code, the ACKs, the bytes taken and the value, for one exchange.
use mathlib.Core.Path.{◌≡◌, refl, ap, sym, ◌∙◌}
use mathlib.Core.Bool.{Bool, true, false, not, ◌&&◌, cond}
use mathlib.Core.List.{List, [], ◌∷◌}
use Prim.Native.Nat.{ℕ, ◌+◌, ◌*◌, ◌/◌, ◌%◌, ◌≤◌, ◌<◌}
use native.Mathlib.Omega.{arith}
use lib.Dec.{eqb}
use lib.ListN.{length, take, drop, get_or}
use Rattle.rules.specs.Numbers.{one}
use Rattle.rules.specs.State.{State}
use Rattle.rules.specs.Records.{decode}
use Rattle.rules.specs.Events.{asked, reads}
use Rattle.rules.specs.Codes.{number_of, is_done, is_refusal}
use Rattle.rules.specs.Interrupts.{irq}
use Rattle.rules.specs.Answers.{answer_of, answer_bytes}
use Rattle.rules.specs.Step.{ended, refused, step_decoded, step, answer}
use Rattle.rules.specs.declared.codes.Code.{Code}
use Rattle.rules.specs.declared.codes.Code.TheVariants.{Done, Malformed, Absent, Shut, NoRoom, NoBytes, BeyondLimit, TestValue}
use Rattle.rules.specs.declared.map.Register.{Register}
use Rattle.rules.specs.declared.records.Event.{Event}
use Rattle.rules.proofs.Logic.{never}
use Rattle.rules.proofs.Packing.{padded_take}
use Rattle.rules.proofs.Ranges.{step_bytes}
use Rattle.rules.proofs.Reports.{step_fits}
use Rattle.step.proofs.Shows.{answer_code}
use Rattle.runs.specs.Comes.{says, event_bytes, may_come as recordMayCome}
use Rattle.runs.specs.Run.{accepted, sent_by, host_read, low_bytes}
use Rattle.runs.specs.Cut.{read_answer}
use Rattle.runs.proofs.ReadRun.{read_hands}
use Rattle.driver.specs.Exchanges.{Exchange, is_answered, handed, code_of, is_refused, acks_of, taken_of, value_of, accepted_of, read_of, may_come, register_read}
use Rattle.driver.specs.Calls.{Ranged}

-- the first byte holds the ACKs below IRQ and the code
acks_part : (n i a : ℕ) → a ≤ 8 → ((n * 2 + i) * 16 + a % 16) % 16 ≡ a
acks_part n i a h = omega arith

value_part : (v : ℕ) → v < 65536 → 256 * (v / 256 % 256) + v % 256 ≡ v
value_part v h = omega arith

-- a record of no bytes changes nothing and gets code 1
pub empty_refused : (s : State) → step s [] ≡ refused s Malformed 0
unfolding step step_decoded decode
empty_refused s = refl

module _ (s : State) (bytes : List ℕ) where
  pub answer_acks : (step s bytes).acks ≤ 8 → get_or (answer s bytes) 0 0 % 16 ≡ (step s bytes).acks
  unfolding answer answer_bytes answer_of
  answer_acks h = acks_part (number_of (step s bytes).code) (one (irq (step s bytes).state)) (step s bytes).acks h

  pub answer_value : (step s bytes).value < 65536 → 256 * get_or (answer s bytes) 2 0 + get_or (answer s bytes) 3 0 ≡ (step s bytes).value
  unfolding answer answer_bytes answer_of
  answer_value h = value_part (step s bytes).value h

  -- the bytes sent stand in the answer from its ninth byte on
  pub answer_sent : take (length (step s bytes).sent) (drop 8 (answer s bytes)) ≡ (step s bytes).sent
  unfolding answer answer_bytes answer_of
  answer_sent = padded_take 8 (step s bytes).sent

-- the paper's numbers tell the codes apart
refusal_number : (code : Code) → (not (eqb (number_of code) 0) && not (eqb (number_of code) 6)) ≡ is_refusal code
refusal_number Done = refl
refusal_number Malformed = refl
refusal_number Absent = refl
refusal_number Shut = refl
refusal_number NoRoom = refl
refusal_number NoBytes = refl
refusal_number BeyondLimit = refl
refusal_number TestValue = refl

done_number : (code : Code) → eqb (number_of code) 0 ≡ is_done code
done_number Done = refl
done_number Malformed = refl
done_number Absent = refl
done_number Shut = refl
done_number NoRoom = refl
done_number NoBytes = refl
done_number BeyondLimit = refl
done_number TestValue = refl

done_unrefused : (code : Code) → is_done code ≡ true → is_refusal code ≡ false
done_unrefused Done h = refl
done_unrefused Malformed h = absurd (never h)
done_unrefused Absent h = absurd (never h)
done_unrefused Shut h = absurd (never h)
done_unrefused NoRoom h = absurd (never h)
done_unrefused NoBytes h = absurd (never h)
done_unrefused BeyondLimit h = refl
done_unrefused TestValue h = absurd (never h)

pub done_by_number : (code : Code) → number_of code ≡ 0 → code ≡ Done
done_by_number Done h = refl
done_by_number Malformed h = absurd (omega arith)
done_by_number Absent h = absurd (omega arith)
done_by_number Shut h = absurd (omega arith)
done_by_number NoRoom h = absurd (omega arith)
done_by_number NoBytes h = absurd (omega arith)
done_by_number BeyondLimit h = absurd (omega arith)
done_by_number TestValue h = absurd (omega arith)

-- one exchange: what its buffer shows is what the step of the record that took effect gives
module _ (s : State) (x : Exchange) (i : Ranged s) (h : is_answered x ≡ true → x.buffer ≡ answer s x.bytes) where
  -- what holds of an answered exchange and of one that took no effect holds of every exchange
  by_answer : (P : Bool → Type 0) → (is_answered x ≡ true → P true) → (is_answered x ≡ false → P false) → P (is_answered x)
  by_answer P answered none = go (is_answered x) refl
    where
      go : (t : Bool) → is_answered x ≡ t → P t
      go true e = answered e
      go false e = none e

  pub code_shown : code_of x ≡ number_of (step s (handed x)).code
  unfolding ended
  code_shown =
      by_answer (λ t. cond t (get_or x.buffer 0 0 / 32) 1 ≡ number_of (step s (cond t x.bytes [])).code)
      (λ e. ap (λ (b : List ℕ). get_or b 0 0 / 32) (h e) ∙ answer_code s x.bytes) (λ e. rw (empty_refused s) refl)

  pub acks_shown : acks_of x ≡ (step s (handed x)).acks
  unfolding ended
  acks_shown =
      by_answer (λ t. cond t (get_or x.buffer 0 0 % 16) 0 ≡ (step s (cond t x.bytes [])).acks)
      (λ e. ap (λ (b : List ℕ). get_or b 0 0 % 16) (h e) ∙ answer_acks s x.bytes (step_fits s x.bytes i.range).acks)
      (λ e. rw (empty_refused s) refl)

  pub refused_shown : is_refused x ≡ is_refusal (step s (handed x)).code
  refused_shown =
      ap (λ (n : ℕ). not (eqb n 0) && not (eqb n 6)) code_shown ∙ refusal_number (step s (handed x)).code

  pub done_shown : eqb (code_of x) 0 ≡ is_done (step s (handed x)).code
  done_shown = ap (λ (n : ℕ). eqb n 0) code_shown ∙ done_number (step s (handed x)).code

  -- outbound each ACK sends one byte: the bytes taken are those sent
  pub taken_shown : (step s (handed x)).acks ≡ length (step s (handed x)).sent → taken_of x ≡ sent_by s (handed x)
  unfolding ended
  taken_shown =
      by_answer (λ t. (step s (cond t x.bytes [])).acks ≡ length (step s (cond t x.bytes [])).sent → take (cond t (get_or x.buffer 0 0 % 16) 0) (drop 8 x.buffer) ≡ (step s (cond t x.bytes [])).sent)
      (λ e p. rw (h e, answer_acks s x.bytes (step_fits s x.bytes i.range).acks, p) (answer_sent s x.bytes))
      (λ e p. rw (empty_refused s) refl)

  pub accepted_shown : accepted_of x ≡ accepted s (handed x)
  accepted_shown = rw refused_shown

  pub come_shown : (allows : Event → Bool) → may_come allows x ≡ recordMayCome allows s (handed x)
  unfolding recordMayCome
  come_shown allows = rw refused_shown

  -- a value is shown where the call was answered
  pub value_shown : is_refusal (step s (handed x)).code ≡ false → value_of x ≡ (step s (handed x)).value
  unfolding ended
  value_shown =
      by_answer (λ t. is_refusal (step s (cond t x.bytes [])).code ≡ false → value_of x ≡ (step s (cond t x.bytes [])).value)
      (λ e q. rw (h e) (answer_value s x.bytes (step_bytes s x.bytes i.range i.bytes).value))
      (λ e q. absurd (never (sym (rw (empty_refused s) at q))))

  pub register_shown : (r : Register) → register_read r x ≡ read_answer r s (handed x)
  unfolding read_answer
  register_shown r = rw done_shown (go (is_done (step s (handed x)).code) refl)
    where
      go : (t : Bool) → is_done (step s (handed x)).code ≡ t → cond (t && says (λ e. reads e r) (decode (handed x))) (value_of x ∷ []) [] ≡ cond (t && says (λ e. reads e r) (decode (handed x))) ((step s (handed x)).value ∷ []) []
      go true e = rw (value_shown (done_unrefused (step s (handed x)).code e))
      go false e = refl

  -- and what a port read handed to the host is what left the host FIFO
  pub read_shown : read_of x ≡ host_read s (handed x)
  read_shown = rw refused_shown (go (is_refusal (step s (handed x)).code) refl)
    where
      go : (t : Bool) → is_refusal (step s (handed x)).code ≡ t → cond t [] (event_bytes (λ e. low_bytes (asked e) (value_of x)) (decode (handed x))) ≡ cond t [] (event_bytes (λ e. take (asked e) s.transfer.host) (decode (handed x)))
      go true e = refl
      go false e = rw (value_shown e) (read_hands s i.bytes.transfer.host (handed x) e)
