-- The stack. "35Dh uses the place the pointer names, then the pointer goes up one, modulo 32 with ENSTK32, else modulo 16 with
-- bit 4 ignored and then 0."
use Rattle.std.specs.Prelude.{ℕ, ◌+◌, ◌%◌, Bool, cond, get_or, set}
use Rattle.rules.specs.declared.chip.Stack.{Stack}

abbrev pub stack_size : Bool → ℕ
stack_size enstk32 = cond enstk32 32 16

-- the place that 35Dh uses
unfoldable pub stack_place : Bool → Stack → ℕ
stack_place enstk32 s = s.pointer % stack_size enstk32

unfoldable pub stack_byte : Bool → Stack → ℕ
stack_byte enstk32 s = get_or s.bytes (stack_place enstk32 s) 0

-- the pointer after an access to 35Dh
unfoldable pub pointer_after : Bool → Stack → ℕ
pointer_after enstk32 s = (stack_place enstk32 s + 1) % stack_size enstk32

-- the stack after a read and after a write of 35Dh
unfoldable pub stack_read : Bool → Stack → Stack
stack_read enstk32 s = record { bytes = s.bytes; pointer = pointer_after enstk32 s }

unfoldable pub stack_written : Bool → ℕ → Stack → Stack
stack_written enstk32 value s =
    record { bytes = set s.bytes (stack_place enstk32 s) value; pointer = pointer_after enstk32 s }

-- after a write of 353h: "pointer 4-0"
unfoldable pub pointed : ℕ → Stack → Stack
pointed value s = record { bytes = s.bytes; pointer = value % 32 }
