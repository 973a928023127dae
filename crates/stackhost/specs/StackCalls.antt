-- R-4: the call of a host program that holds the stack apart: "a 33-byte stack record and the byte for 353h",
-- an event record of four bytes, and one byte for the value.
use Rattle.std.specs.Prelude.{Option, Some, None}
use Rattle.std.specs.Prelude.{ℕ, ◌&&◌, cond, List, [], ◌∷◌, ◌++◌, eqb, length, take, get_or}
use Rattle.rules.specs.Registers.{dmacntrl1_of, dmacntrl1_byte}
use Rattle.rules.specs.Records.{decode}
use Rattle.rules.specs.Codes.{number_of}
use Rattle.rules.specs.declared.chip.Stack.{Stack}
use Rattle.rules.specs.declared.codes.Code.TheVariants.{Done, Malformed}
use Rattle.stack.specs.Accesses.{stack_accessed}
use Rattle.stack.specs.Box.{Doing, Accesses, Resets, Steps, doing}
use Rattle.stack.specs.declared.lent.Access.{Access}

-- the thirty-two bytes, place 0 first, and then the pointer
abbrev pub stack_in : List ℕ → Stack
stack_in l = record { bytes = take 32 l; pointer = get_or l 32 0 }

abbrev pub stack_bytes : Stack → List ℕ
stack_bytes k = k.bytes ++ k.pointer ∷ []

-- what stands in the four buffers when the call returns, and its code
pub record StackCall : Type 0 where
  pub stack : List ℕ
  pub control : List ℕ
  pub value : List ℕ
  pub code : ℕ

abbrev pub stack_call : List ℕ → List ℕ → List ℕ → ℕ → StackCall
stack_call stack control value code = record { stack = stack; control = control; value = value; code = code }

-- "code 1 ... same": every buffer as it was
abbrev pub call_refused : List ℕ → List ℕ → List ℕ → StackCall
call_refused stack control value = stack_call stack control value (number_of Malformed)

-- an access: what it leaves of the stack, of PWRDWN 7 and ENSTK32 6, and the value
unfoldable pub call_done : Access → List ℕ → List ℕ → StackCall
call_done a stack control =
    let r = stack_accessed a (dmacntrl1_of (get_or control 0 0)) (stack_in stack) in
    stack_call (stack_bytes r.stack) (dmacntrl1_byte r.control 0 ∷ []) (r.value ∷ []) (number_of Done)

-- what a record asks: an access to 35Dh or 353h, or something for the step
abbrev pub found_in : Doing → Option Access
found_in (Accesses a) = Some a
found_in Resets = None
found_in Steps = None

abbrev pub call_of : Option Access → List ℕ → List ℕ → List ℕ → StackCall
call_of (Some a) stack control value = call_done a stack control
call_of None stack control value = call_refused stack control value

-- THE CALL: a buffer of another length, a record that is not well formed and a record for the step are refused
unfoldable pub stack_called : List ℕ → List ℕ → List ℕ → List ℕ → StackCall
stack_called stack control event value =
    cond ((eqb (length stack) 33 && eqb (length control) 1) && eqb (length value) 1)
    (call_of (found_in (doing (decode event))) stack control value) (call_refused stack control value)
