-- The ACKs of a run: the counter is their number, each sends one byte outbound, and the chip drives no other ACK.
use Rattle.std.specs.Prelude.{Option}
use mathlib.Core.Path.{◌≡◌, refl, ◌∙◌, ap}
use mathlib.Core.Bool.{Bool, true, and-false, or-false}
use mathlib.Core.List.{List, [], ◌∷◌}
use Prim.Native.Nat.{ℕ, suc, ◌+◌, ◌%◌}
use native.Mathlib.Nat.{add-zero, zero-add, add_assoc}
use native.Mathlib.Omega.{arith}
use lib.ListN.{length, length-append}
use Rattle.rules.specs.State.{State}
use Rattle.rules.specs.Seen.{manual, ack_driven}
use Rattle.rules.specs.StepB.{after_b}
use Rattle.rules.specs.StepC.{conditions, started, turns, settled_c}
use Rattle.rules.specs.StepD.{finished, after_d}
use Rattle.rules.specs.Answers.{Stepped}
use Rattle.rules.specs.Step.{ended, refused, done, single_ticks, step, after}
use Rattle.rules.specs.declared.codes.Code.{Code}
use Rattle.rules.specs.declared.records.Event.{Event}
use Rattle.rules.specs.declared.records.Event.TheVariants.{Ticks}
use Rattle.rules.proofs.Logic.{left_true, right_true}
use Rattle.runs.specs.Comes.{is_refusal, may_come, all_come, along, acks_along}
use Rattle.runs.specs.Run.{Starts, run_allows, sent_by}
use Rattle.runs.proofs.Access.{ticks_law, come_law}
use Rattle.runs.proofs.Settles.{counted_settles, paired_settles}
use Rattle.runs.proofs.Spared.{Spared, spared}
use Rattle.runs.proofs.Stages.{Held, held_at_start, held_after, counter_before}

-- after a step, from k ACKs before
pub record AckStep (w : Bool) (k : ℕ) (r : Stepped) : Type 0 where
  pub held : Held w r.state.registers
  pub count : r.state.transfer.counter ≡ (k + r.acks) % 16777216

ack_done : (w : Bool) (s : State) (e : Event) → Spared e → (k : ℕ) → Held w s.registers → s.transfer.counter ≡ k % 16777216 → AckStep w k (done s e)
unfolding done after_d finished settled_c started
ack_done w s e p k h c =
    record {
      held = held_after w s e p h;
      count = counted_settles (conditions (after_b s e)) k turns (started (after_b s e)) (rw add-zero (counter_before s e p h.spioen ∙ c));
    }

-- ticks one by one: their ACKs add up
abbrev AckTicks : Bool → State → Stepped → Type 0
AckTicks w s r = (k : ℕ) → Held w s.registers → s.transfer.counter ≡ k % 16777216 → AckStep w k r

ack_ticks : (w : Bool) (n : ℕ) (s : State) → AckTicks w s (single_ticks n s)
unfolding ended
ack_ticks w =
    ticks_law (AckTicks w) (λ s code value k h c. record { held = h; count = rw add-zero c }) (λ s q. ack_done w s (Ticks 1) (spared (Ticks 1) refl))
    (λ s first rest f g k h c.
    let x = f k h c in
    let y = g (k + first.acks) x.held x.count in
    record { held = y.held; count = y.count ∙ ap (λ (m : ℕ). m % 16777216) (add_assoc k first.acks rest.acks) })

module _ (w : Bool) (s : State) (h : Held w s.registers) (k : ℕ) (c : s.transfer.counter ≡ k % 16777216) where
  ack_refused : (d : Option Event) (code : Code) (value : ℕ) → is_refusal code ≡ true → AckStep w k (refused s code value)
  unfolding ended
  ack_refused d code value q = record { held = h; count = rw add-zero c }

  pub step_acks : (bytes : List ℕ) → may_come run_allows s bytes ≡ true → AckStep w k (step s bytes)
  step_acks = come_law run_allows refl s (λ d r. AckStep w k r) ack_refused (λ e a t q. ack_done w s e (spared e a) k h c) (λ n. ack_ticks w (suc n) s k h c)

acks_from : (w : Bool) (s : State) (records : List (List ℕ)) → Held w s.registers → (k : ℕ) → s.transfer.counter ≡ k % 16777216 → all_come run_allows s records ≡ true → (after s records).transfer.counter ≡ (k + acks_along s records) % 16777216
acks_from w s [] h k c q = rw add-zero c
acks_from w s (bytes ∷ more) h k c q =
    let a = step_acks w s h k c bytes (left_true (may_come run_allows s bytes) (all_come run_allows (step s bytes).state more) q) in
    let n : (k + (step s bytes).acks) + acks_along (step s bytes).state more ≡ k + ((step s bytes).acks + acks_along (step s bytes).state more) = omega arith in
    acks_from w (step s bytes).state more a.held (k + (step s bytes).acks) a.count (right_true (may_come run_allows s bytes) (all_come run_allows (step s bytes).state more) q)
    ∙ ap (λ (m : ℕ). m % 16777216) n

-- IN A RUN OF EITHER DIRECTION the counter is the number of Normal-mode ACKs
pub run_counts_acks : (w : Bool) (s : State) (records : List (List ℕ)) → Starts w s → all_come run_allows s records ≡ true → (after s records).transfer.counter ≡ acks_along s records % 16777216
run_counts_acks w s records h q =
    acks_from w s records (held_at_start w s h) 0 h.counter q ∙ ap (λ (m : ℕ). m % 16777216) (zero-add (acks_along s records))

-- outbound each of them sends one byte
pub record PairStep (r : Stepped) : Type 0 where
  pub held : Held true r.state.registers
  pub pair : r.acks ≡ length r.sent

pair_done : (s : State) (e : Event) → Spared e → Held true s.registers → PairStep (done s e)
unfolding done after_d finished settled_c started conditions
pair_done s e p h =
    let k = held_after true s e p h in
    record { held = k; pair = paired_settles (conditions (after_b s e)) k.direction turns (started (after_b s e)) refl }

abbrev PairTicks : State → Stepped → Type 0
PairTicks s r = Held true s.registers → PairStep r

pair_ticks : (n : ℕ) (s : State) → PairTicks s (single_ticks n s)
unfolding ended
pair_ticks =
    ticks_law PairTicks (λ s code value h. record { held = h; pair = refl }) (λ s q. pair_done s (Ticks 1) (spared (Ticks 1) refl))
    (λ s first rest f g h.
    let x = f h in
    let y = g x.held in
    record { held = y.held; pair = rw (x.pair, y.pair, length-append) })

module _ (s : State) (h : Held true s.registers) where
  pair_refused : (d : Option Event) (code : Code) (value : ℕ) → is_refusal code ≡ true → PairStep (refused s code value)
  unfolding ended
  pair_refused d code value q = record { held = h; pair = refl }

  pub step_pairs : (bytes : List ℕ) → may_come run_allows s bytes ≡ true → PairStep (step s bytes)
  step_pairs = come_law run_allows refl s (λ d r. PairStep r) pair_refused (λ e a t q. pair_done s e (spared e a) h) (λ n. pair_ticks (suc n) s h)

pairs_from : (s : State) (records : List (List ℕ)) → Held true s.registers → all_come run_allows s records ≡ true → acks_along s records ≡ length (along sent_by s records)
pairs_from s [] h q = refl
pairs_from s (bytes ∷ more) h q =
    let a = step_pairs s h bytes (left_true (may_come run_allows s bytes) (all_come run_allows (step s bytes).state more) q) in
    let b = pairs_from (step s bytes).state more a.held (right_true (may_come run_allows s bytes) (all_come run_allows (step s bytes).state more) q) in
    rw (a.pair, b, length-append)

pub write_run_acks : (s : State) (records : List (List ℕ)) → Starts true s → all_come run_allows s records ≡ true → acks_along s records ≡ length (along sent_by s records)
write_run_acks s records h q = pairs_from s records (held_at_start true s h) q

-- in a run ACK is driven by the automatic ACK alone: ACKO is 0
pub run_drives_no_other_ack : (w : Bool) (s : State) → Held w s.registers → ack_driven s ≡ s.transfer.ack
unfolding ack_driven manual
run_drives_no_other_ack w s h = simp (h.acko, and-false, or-false)
