-- A pointer past 31 is read as tidied: an access to 35Dh or 353h finds in a stack what it finds in the stack with its pointer
-- brought into range.
use Prim.Native.Nat.{ℕ, ◌+◌, ◌%◌}
use mathlib.Core.Path.{◌≡◌, refl, ap}
use mathlib.Core.Bool.{Bool, true, false}
use lib.ListN.{get_or, set}
use native.Mathlib.Omega.{arith}
use Rattle.rules.specs.Stack.{stack_size, stack_place, stack_byte, pointer_after, stack_read, stack_written, pointed}
use Rattle.rules.specs.Chips.{stack_view}
use Rattle.rules.specs.declared.chip.Stack.{Stack}

same_place : (enstk32 : Bool) (p : ℕ) → p % 32 % stack_size enstk32 ≡ p % stack_size enstk32
same_place true p = omega arith
same_place false p = omega arith

pub tidied_place : (enstk32 : Bool) (k : Stack) → stack_place enstk32 (stack_view k) ≡ stack_place enstk32 k
unfolding stack_place stack_view
tidied_place enstk32 k = same_place enstk32 k.pointer

pub tidied_byte : (enstk32 : Bool) (k : Stack) → stack_byte enstk32 (stack_view k) ≡ stack_byte enstk32 k
unfolding stack_byte stack_view
tidied_byte enstk32 k = ap (λ (n : ℕ). get_or k.bytes n 0) (tidied_place enstk32 k)

pub tidied_read : (enstk32 : Bool) (k : Stack) → stack_read enstk32 (stack_view k) ≡ stack_read enstk32 k
unfolding stack_read pointer_after stack_view
tidied_read enstk32 k =
    λ i. record { bytes = k.bytes; pointer = (tidied_place enstk32 k i + 1) % stack_size enstk32 }

pub tidied_written : (enstk32 : Bool) (value : ℕ) (k : Stack) → stack_written enstk32 value (stack_view k) ≡ stack_written enstk32 value k
unfolding stack_written pointer_after stack_view
tidied_written enstk32 value k =
    λ i.
    record { bytes = set k.bytes (tidied_place enstk32 k i) value; pointer = (tidied_place enstk32 k i + 1) % stack_size enstk32 }

pub tidied_pointed : (value : ℕ) (k : Stack) → pointed value (stack_view k) ≡ pointed value k
unfolding pointed stack_view
tidied_pointed value k = refl
