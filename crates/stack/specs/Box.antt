-- R-4: a box that holds the stack apart: what it keeps, and what it does with each record.
use Rattle.std.specs.Prelude.{Option, Some, None}
use Rattle.std.specs.Prelude.{ℕ, cond, List, [], ◌∷◌, eqb, replicate}
use Rattle.rules.specs.State.{State, power_reset}
use Rattle.rules.specs.Registers.{dmacntrl1_of}
use Rattle.rules.specs.Records.{decode}
use Rattle.rules.specs.Map.{offset_of}
use Rattle.rules.specs.Step.{step, answer}
use Rattle.rules.specs.declared.chip.Stack.{Stack}
use Rattle.rules.specs.declared.map.Register.TheVariants.{STACK, DMACNTRL1}
use Rattle.rules.specs.declared.records.Event.{Event}
use Rattle.rules.specs.declared.records.Event.TheVariants.{PowerReset, Write, Read, WordWrite, WordRead, Drive, Ticks}
use Rattle.rules.specs.declared.registers.Dmacntrl1.{Dmacntrl1}
use Rattle.stack.specs.Accesses.{stack_accessed}
use Rattle.stack.specs.Apart.{with_apart, bytes_with}
use Rattle.stack.specs.declared.lent.Access.{Access}
use Rattle.stack.specs.declared.lent.Access.TheVariants.{ReadStack, WriteStack, ReadDmacntrl1, WriteDmacntrl1}

-- the chip, whose own stack and bits of 353h nobody looks at, and the bits and the stack that count
pub record Box : Type 0 where
  pub chip : State
  pub control : Dmacntrl1
  pub stack : Stack

-- the chip with all in one
abbrev pub whole : Box → State
whole b = with_apart b.control b.stack b.chip

-- what the box does with a record: an access goes to the lent functions and the chip stays as it is; power reset goes to the step
-- and zeroes the stack and the bits too; every other record goes to the step
pub data Doing : Type 0 where
  Accesses : Access → Doing
  Resets : Doing
  Steps : Doing

unfoldable pub doing_event : Event → Doing
doing_event PowerReset = Resets
doing_event (Write offset value) =
    cond (eqb offset (offset_of STACK)) (Accesses (WriteStack value))
    (cond (eqb offset (offset_of DMACNTRL1)) (Accesses (WriteDmacntrl1 value)) Steps)
doing_event (Read offset) =
    cond (eqb offset (offset_of STACK)) (Accesses ReadStack) (cond (eqb offset (offset_of DMACNTRL1)) (Accesses ReadDmacntrl1) Steps)
doing_event (WordWrite word) = Steps
doing_event WordRead = Steps
doing_event (Drive lines) = Steps
doing_event (Ticks n) = Steps

unfoldable pub doing : Option Event → Doing
doing (Some e) = doing_event e
doing None = Steps

-- the record of 0 ticks
abbrev no_ticks : List ℕ
no_ticks = 0xC0 ∷ 0 ∷ 0 ∷ 0 ∷ []

-- the box after a record, and the answer that it shows: that of an access is what 0 ticks show, with the value put in
unfoldable pub boxed : Box → List ℕ → Doing → Box
boxed b bytes (Accesses a) =
    let r = stack_accessed a b.control b.stack in
    record { chip = b.chip; control = r.control; stack = r.stack }
boxed b bytes Resets =
    record { chip = (step b.chip bytes).state; control = dmacntrl1_of 0; stack = record { bytes = replicate 32 0; pointer = 0 } }
boxed b bytes Steps = record { chip = (step b.chip bytes).state; control = b.control; stack = b.stack }

unfoldable pub box_answer : Box → List ℕ → Doing → List ℕ
box_answer b bytes (Accesses a) =
    let r = stack_accessed a b.control b.stack in
    bytes_with r.value (answer b.chip no_ticks)
box_answer b bytes Resets = answer b.chip bytes
box_answer b bytes Steps = answer b.chip bytes

-- records one after the other
abbrev pub box_after : Box → List (List ℕ) → Box
box_after b [] = b
box_after b (bytes ∷ more) = box_after (boxed b bytes (doing (decode bytes))) more

abbrev pub box_answers : Box → List (List ℕ) → List (List ℕ)
box_answers b [] = []
box_answers b (bytes ∷ more) = box_answer b bytes (doing (decode bytes)) ∷ box_answers (boxed b bytes (doing (decode bytes))) more

-- the box at power reset
abbrev pub box_reset : Box
box_reset = record { chip = power_reset; control = dmacntrl1_of 0; stack = record { bytes = replicate 32 0; pointer = 0 } }
