-- SO THE BOX MAY HOLD THE STACK APART: for every list of records from power reset a box that does so shows the answers of the chip, byte by
-- byte, and has that chip once it puts all in one.
use Rattle.std.specs.Prelude.{Option, Some, None}
use Rattle.rules.specs.declared.records.Event.{Event}
use Prim.Native.Nat.{ℕ}
use mathlib.Core.Path.{◌≡◌, refl, ap, sym, subst, ◌∙◌}
use mathlib.Core.Bool.{Bool, true, false, cond}
use mathlib.Core.List.{List, [], ◌∷◌}
use borrow.Author.Tests.{eqb-true}
use lib.Dec.{eqb}
use Rattle.rules.specs.State.{State, power_reset}
use Rattle.rules.specs.Registers.{dmacntrl1_of}
use Rattle.rules.specs.Records.{well_formed, fields_of, decode}
use Rattle.rules.specs.Map.{offset_of}
use Rattle.rules.specs.Events.{writes, reads}
use Rattle.rules.specs.Answers.{Stepped, answer_of, answer_bytes}
use Rattle.rules.specs.Step.{ended, step_event, step_decoded, step, answer, after, answers}
use Rattle.rules.specs.Ranges.{InRange}
use Rattle.rules.specs.Rest.{AtRest}
use Rattle.rules.specs.declared.map.Register.TheVariants.{STACK, DMACNTRL1}
use Rattle.rules.specs.declared.records.Event.TheVariants.{PowerReset, Write, Read, WordWrite, WordRead, Drive, Ticks}
use Rattle.rules.proofs.Ranges.{power_reset_fits, step_in_range}
use Rattle.rules.proofs.Still.{zero_ticks, power_reset_rests, step_rests}
use Rattle.stack.specs.Accesses.{stack_accessed}
use Rattle.stack.specs.Apart.{with_apart, bytes_with, access_event, touches, resets, elsewhere}
use Rattle.stack.specs.Box.{Box, whole, Doing, Accesses, Resets, Steps, doing_event, doing, boxed, box_answer, box_after, box_answers, box_reset}
use Rattle.stack.specs.declared.lent.Access.TheVariants.{ReadStack, WriteStack, ReadDmacntrl1, WriteDmacntrl1}
use Rattle.stack.proofs.AsBefore.{event_as_before, event_answer}
use Rattle.stack.proofs.Others.{stack_zero, record_other, answer_other}

-- what the box does tells what the record is
abbrev Means : Option Event → Doing → Type 0
Means x (Accesses a) = x ≡ Some (access_event a)
Means x Resets = x ≡ Some PowerReset
Means x Steps = elsewhere x ≡ true

-- two tests in a row
tested : (P : Doing → Type 0) (b c : Bool) (x y : Doing) → (b ≡ true → P x) → (c ≡ true → P y) → (b ≡ false → c ≡ false → P Steps) → P (cond b x (cond c y Steps))
tested P true c x y f g h = f refl
tested P false true x y f g h = g refl
tested P false false x y f g h = h refl refl

means : (x : Option Event) → Means x (doing x)
unfolding doing doing_event touches resets writes reads
means (Some PowerReset) = refl
means (Some (Write offset value)) =
    tested (Means (Some (Write offset value))) (eqb offset (offset_of STACK)) (eqb offset (offset_of DMACNTRL1)) (Accesses (WriteStack value)) (Accesses (WriteDmacntrl1 value))
    (λ e. ap (λ (n : ℕ). Some (Write n value)) (eqb-true offset (offset_of STACK) e)) (λ e. ap (λ (n : ℕ). Some (Write n value)) (eqb-true offset (offset_of DMACNTRL1) e))
    (λ e f. rw (e, f))
means (Some (Read offset)) =
    tested (Means (Some (Read offset))) (eqb offset (offset_of STACK)) (eqb offset (offset_of DMACNTRL1)) (Accesses ReadStack) (Accesses ReadDmacntrl1)
    (λ e. ap (λ (n : ℕ). Some (Read n)) (eqb-true offset (offset_of STACK) e)) (λ e. ap (λ (n : ℕ). Some (Read n)) (eqb-true offset (offset_of DMACNTRL1) e))
    (λ e f. rw (e, f))
means (Some (WordWrite word)) = refl
means (Some WordRead) = refl
means (Some (Drive lines)) = refl
means (Some (Ticks n)) = refl
means None = refl

-- one record
record Same (b : Box) (bytes : List ℕ) (w : Doing) : Type 0 where
  state : (step (whole b) bytes).state ≡ whole (boxed b bytes w)
  shown : answer (whole b) bytes ≡ box_answer b bytes w

module _ (b : Box) (bytes : List ℕ) (i : InRange (whole b)) (r : AtRest (whole b)) where
  still_elsewhere : elsewhere (decode zero_ticks) ≡ true
  unfolding decode fields_of well_formed touches resets writes reads
  still_elsewhere = refl

  same : (w : Doing) → Means (decode bytes) w → Same b bytes w
  unfolding boxed box_answer step answer step_decoded step_event ended power_reset
  same (Accesses a) e =
      record {
        state = ap (λ (x : Option Event). (step_decoded (whole b) x).state) e ∙ ap (λ (x : Stepped). x.state) (event_as_before a (whole b) i r);
        shown =
            ap (λ (x : Option Event). answer_bytes (answer_of (step_decoded (whole b) x))) e ∙ event_answer a (whole b) i
            ∙ ap (bytes_with (stack_accessed a b.control b.stack).value) (answer_other b.control b.stack b.chip zero_ticks still_elsewhere);
      }
  same Resets e =
      record {
        state = ap (λ (x : Option Event). (step_decoded (whole b) x).state) e ∙ sym (ap (λ (x : Option Event). with_apart (dmacntrl1_of 0) stack_zero (step_decoded b.chip x).state) e);
        shown = ap (λ (x : Option Event). answer_bytes (answer_of (step_decoded (whole b) x))) e ∙ sym (ap (λ (x : Option Event). answer_bytes (answer_of (step_decoded b.chip x))) e);
      }
  same Steps e =
      record {
        state = ap (λ (x : Stepped). x.state) (record_other b.control b.stack b.chip bytes e);
        shown = answer_other b.control b.stack b.chip bytes e;
      }

-- the chip in one after the next records, and their answers
pub record Alike (b : Box) (records : List (List ℕ)) : Type 0 where
  pub shown : answers (whole b) records ≡ box_answers b records
  pub state : after (whole b) records ≡ whole (box_after b records)

pub held_apart : (b : Box) (records : List (List ℕ)) → InRange (whole b) → AtRest (whole b) → Alike b records
held_apart b [] i r = record { shown = refl; state = refl }
held_apart b (bytes ∷ more) i r =
    let one = same b bytes i r (doing (decode bytes)) (means (decode bytes)) in
    let rest =
    held_apart (boxed b bytes (doing (decode bytes))) more (subst InRange one.state (step_in_range (whole b) bytes i))
    (subst AtRest one.state (step_rests (whole b) bytes i r)) in
    record {
      shown = (λ j. one.shown j ∷ answers (one.state j) more) ∙ ap (λ (l : List (List ℕ)). box_answer b bytes (doing (decode bytes)) ∷ l) rest.shown;
      state = ap (λ (s : State). after s more) one.state ∙ rest.state;
    }

-- FROM POWER RESET: the answers, and the chip that the box has once it puts all in one
pub reset_apart : (records : List (List ℕ)) → (answers power_reset records ≡ box_answers box_reset records) × (after power_reset records ≡ whole (box_after box_reset records))
unfolding power_reset
reset_apart records =
    let a = held_apart box_reset records power_reset_fits power_reset_rests in
    (a.shown, a.state)
