-- R-4: an access to 35Dh or 353h on the stack and the byte for 353h alone, without the chip. "Reads and writes of 35Dh and 353h
-- answer as before." A pointer past 31 is read as tidied.
use Rattle.rules.specs.Registers.{dmacntrl1_of, dmacntrl1_byte}
use Rattle.rules.specs.Stack.{stack_byte, stack_read, stack_written, pointed}
use Rattle.rules.specs.Chips.{stack_view}
use Rattle.rules.specs.declared.chip.Stack.{Stack}
use Rattle.rules.specs.declared.registers.Dmacntrl1.{Dmacntrl1}
use Rattle.stack.specs.declared.lent.Access.{Access}
use Rattle.stack.specs.declared.lent.Access.TheVariants.{ReadStack, WriteStack, ReadDmacntrl1, WriteDmacntrl1}
use Rattle.stack.specs.declared.lent.Accessed.{Accessed}

unfoldable pub stack_accessed : Access → Dmacntrl1 → Stack → Accessed
stack_accessed ReadStack d k =
    record { control = d; stack = stack_read d.enstk32 (stack_view k); value = stack_byte d.enstk32 (stack_view k) }
stack_accessed (WriteStack byte) d k =
    record { control = d; stack = stack_written d.enstk32 byte (stack_view k); value = 0 }
stack_accessed ReadDmacntrl1 d k = record { control = d; stack = k; value = dmacntrl1_byte d (stack_view k).pointer }
stack_accessed (WriteDmacntrl1 byte) d k =
    record { control = dmacntrl1_of byte; stack = pointed byte (stack_view k); value = 0 }
