-- The code of an access by what the checks look at: 352h and the number of bytes in the host FIFO.
use Rattle.std.specs.Prelude.{ℕ, ◌+◌, Bool, not, ◌&&◌, ◌||◌, [], ◌∷◌, ltb, length}
use Rattle.std.specs.Bool.{beq}
use Rattle.rules.specs.Events.{offered, asked, wide, port_write, port_read}
use Rattle.rules.specs.Codes.{absent, test_value, check, first}
use Rattle.rules.specs.declared.registers.Dmacntrl0.{Dmacntrl0}
use Rattle.rules.specs.declared.codes.Code.{Code}
use Rattle.rules.specs.declared.codes.Code.TheVariants.{Absent, TestValue, Shut, NoRoom, NoBytes}
use Rattle.rules.specs.declared.records.Event.{Event}

-- a port that is shut to an access of that width and direction
abbrev pub shut_to : Dmacntrl0 → Bool → Bool → Bool
shut_to d wide read = not d.endma || d.dma || beq d.eightbit wide || beq d.write read

-- the first of the checks that holds, as numbers tell
abbrev pub first_of : Bool → Bool → Bool → Bool → Bool → Code
first_of a t s r b = first (check a Absent ∷ check t TestValue ∷ check s Shut ∷ check r NoRoom ∷ check b NoBytes ∷ [])

unfoldable pub code_by : Dmacntrl0 → ℕ → Event → Code
code_by d held e =
    first_of (absent e) (test_value e) ((port_write e || port_read e) && shut_to d (wide e) (port_read e))
    (ltb 128 (held + length (offered e))) (ltb held (asked e))
