-- Document 01, "Codes": which code, in which order it is checked, and the value that goes with it.
use Rattle.std.specs.Prelude.{Option, Some, None}
use Rattle.rules.specs.declared.map.Register.{Register}
use Rattle.std.specs.Prelude.{ℕ, ◌+◌, Bool, true, false, not, ◌&&◌, ◌||◌, cond, List, [], ◌∷◌, eqb, ltb, length}
use Rattle.std.specs.Bool.{beq}
use Rattle.rules.specs.State.{State}
use Rattle.rules.specs.Map.{read_at, written_at}
use Rattle.rules.specs.Events.{writes, value_of, offered, asked, wide, port_write, port_read}
use Rattle.rules.specs.declared.registers.Registers.{Registers}
use Rattle.rules.specs.declared.codes.Code.{Code}
use Rattle.rules.specs.declared.codes.Code.TheVariants.{Done, Malformed, Absent, Shut, NoRoom, NoBytes, BeyondLimit, TestValue}
use Rattle.rules.specs.declared.map.Register.TheVariants.{SCSITEST, TEST}
use Rattle.rules.specs.declared.records.Event.{Event}
use Rattle.rules.specs.declared.records.Event.TheVariants.{PowerReset, Write, Read, WordWrite, WordRead, Drive, Ticks}

-- the paper's number of each code
abbrev pub number_of : Code → ℕ
number_of Done = 0
number_of Malformed = 1
number_of Absent = 2
number_of Shut = 3
number_of NoRoom = 4
number_of NoBytes = 5
number_of BeyondLimit = 6
number_of TestValue = 7

abbrev pub is_done : Code → Bool
is_done Done = true
is_done Malformed = false
is_done Absent = false
is_done Shut = false
is_done NoRoom = false
is_done NoBytes = false
is_done BeyondLimit = false
is_done TestValue = false

-- "A refused access (1 to 5, 7)"
abbrev pub is_refusal : Code → Bool
is_refusal Done = false
is_refusal Malformed = true
is_refusal Absent = true
is_refusal Shut = true
is_refusal NoRoom = true
is_refusal NoBytes = true
is_refusal BeyondLimit = false
is_refusal TestValue = true

-- the code of what stands at an offset in one direction: with a register the checks go on, with nothing it is 2
abbrev pub mapped_code : Option Register → Code
mapped_code (Some r) = Done
mapped_code None = Absent

-- 2: "register absent in that direction"
unfoldable pub absent : Event → Bool
absent PowerReset = false
absent (Write offset value) = is_refusal (mapped_code (written_at offset))
absent (Read offset) = is_refusal (mapped_code (read_at offset))
absent (WordWrite word) = false
absent WordRead = false
absent (Drive lines) = false
absent (Ticks n) = false

-- 7: "nonzero write to 34Eh or 35Eh"
unfoldable pub test_value : Event → Bool
test_value e = (writes e SCSITEST || writes e TEST) && not (eqb (value_of e) 0)

-- 3: "data port shut: ENDMA 0, DMA/PIO 1, width or direction wrong". "356h by kind 1 or 2 needs 8BIT 1; kinds 3 and 4 need 8BIT 0."
unfoldable pub shut : Registers → Event → Bool
shut r e =
    (port_write e || port_read e)
    && (not r.dmacntrl0.endma || r.dmacntrl0.dma || beq r.dmacntrl0.eightbit (wide e)
    || beq r.dmacntrl0.write (port_read e))

-- 4: "write and host FIFO lacks room for the whole access"
unfoldable pub no_room : State → Event → Bool
no_room s e = ltb 128 (length s.transfer.host + length (offered e))

-- 5: "read and host FIFO lacks the whole access"
unfoldable pub no_bytes : State → Event → Bool
no_bytes s e = ltb (length s.transfer.host) (asked e)

-- a check and the code it gives
pub record Check : Type 0 where
  pub holds : Bool
  pub code : Code

abbrev pub check : Bool → Code → Check
check b c = record { holds = b; code = c }

-- "Checked in the order 1, 2, 7, 3, then 4 or 5": 1 stands with the decoder (specs/Step.antt)
abbrev pub checks : State → Event → List Check
checks s e =
    check (absent e) (mapped_code None)
    ∷ check (test_value e) TestValue
    ∷ check (shut s.registers e) Shut
    ∷ check (no_room s e) NoRoom
    ∷ check (no_bytes s e) NoBytes
    ∷ []

-- the code of the first that holds
abbrev pub first : List Check → Code
first [] = Done
first (c ∷ cs) = cond c.holds c.code (first cs)

unfoldable pub access_code : State → Event → Code
access_code s e = first (checks s e)

-- the value of a refusal: "FFh on read, 0 on write", "all ones of the width on read"
unfoldable pub refused_value : Event → ℕ
refused_value PowerReset = 0
refused_value (Write offset value) = 0
refused_value (Read offset) = 0xFF
refused_value (WordWrite word) = 0
refused_value WordRead = 0xFFFF
refused_value (Drive lines) = 0
refused_value (Ticks n) = 0

-- the value that goes with that code: "FFh on read, 0 on write" where nothing stands; none, 0, where the checks go on
abbrev pub mapped_value : Option Register → Event → ℕ
mapped_value (Some r) e = 0
mapped_value None e = refused_value e
