-- R-4: "Our box programmers hold the stack apart from the rest of the chip." The state with a stack and the two bits of 353h put in, the
-- event and the record of an access to them, and the events that are none.
use Rattle.std.specs.Prelude.{Option, Some, None}
use Rattle.std.specs.Prelude.{ℕ, ◌<◌, ◌/◌, ◌%◌, Bool, true, false, not, ◌&&◌, ◌||◌, List, [], ◌∷◌, ◌++◌, take, drop}
use Rattle.rules.specs.State.{State}
use Rattle.rules.specs.Changed.{with_registers, with_stack}
use Rattle.rules.specs.Map.{offset_of}
use Rattle.rules.specs.Events.{writes, reads}
use Rattle.rules.specs.Answers.{Stepped}
use Rattle.rules.specs.declared.chip.Stack.{Stack}
use Rattle.rules.specs.declared.map.Register.TheVariants.{STACK, DMACNTRL1}
use Rattle.rules.specs.declared.records.Answer.{Answer}
use Rattle.rules.specs.declared.records.Event.{Event}
use Rattle.rules.specs.declared.records.Event.TheVariants.{PowerReset, Write, Read, WordWrite, WordRead, Drive, Ticks}
use Rattle.rules.specs.declared.registers.Dmacntrl1.{Dmacntrl1}
use Rattle.rules.specs.declared.registers.Registers.{Registers}
use Rattle.stack.specs.declared.lent.Access.{Access}
use Rattle.stack.specs.declared.lent.Access.TheVariants.{ReadStack, WriteStack, ReadDmacntrl1, WriteDmacntrl1}

abbrev pub registers_with_bits : Dmacntrl1 → Registers → Registers
registers_with_bits d r =
    record {
      scsiseq = r.scsiseq;
      sxfrctl0 = r.sxfrctl0;
      sxfrctl1 = r.sxfrctl1;
      scsisig = r.scsisig;
      scsirate = r.scsirate;
      scsiid = r.scsiid;
      scsidat = r.scsidat;
      simode0 = r.simode0;
      simode1 = r.simode1;
      dmacntrl0 = r.dmacntrl0;
      dmacntrl1 = d;
      brstcntrl = r.brstcntrl;
    }

-- a state with another stack and other bits of 353h, all else as it was
abbrev pub with_apart : Dmacntrl1 → Stack → State → State
with_apart d k s = with_stack k (with_registers (registers_with_bits d s.registers) s)

-- a step with another stack and other bits of 353h in the state it leaves, and the value v
abbrev pub stepped_apart : Dmacntrl1 → Stack → ℕ → Stepped → Stepped
stepped_apart d k v r =
    record { state = with_apart d k r.state; code = r.code; value = v; moves = r.moves; acks = r.acks; sent = r.sent }

-- an answer with another value, all else as it was: as its fields, and as its sixteen bytes, of which the value is the third and the fourth
abbrev pub answer_with : ℕ → Answer → Answer
answer_with v a =
    record {
      code = a.code;
      irq = a.irq;
      acks = a.acks;
      moves = a.moves;
      driving = a.driving;
      rst = a.rst;
      parity = a.parity;
      value = v;
      control = a.control;
      driven = a.driven;
      offset = a.offset;
      scsi = a.scsi;
      host = a.host;
      sent = a.sent;
    }

abbrev pub bytes_with : ℕ → List ℕ → List ℕ
bytes_with v l = take 2 l ++ v / 256 % 256 ∷ v % 256 ∷ drop 4 l

-- an access as an event, kind 1 or 2, and as a record: "kind (3 bits), register offset from 340h (5), payload (24)"
abbrev pub access_event : Access → Event
access_event ReadStack = Read (offset_of STACK)
access_event (WriteStack byte) = Write (offset_of STACK) byte
access_event ReadDmacntrl1 = Read (offset_of DMACNTRL1)
access_event (WriteDmacntrl1 byte) = Write (offset_of DMACNTRL1) byte

abbrev pub access_record : Access → List ℕ
access_record ReadStack = 0x5D ∷ 0 ∷ 0 ∷ 0 ∷ []
access_record (WriteStack byte) = 0x3D ∷ 0 ∷ 0 ∷ byte ∷ []
access_record ReadDmacntrl1 = 0x53 ∷ 0 ∷ 0 ∷ 0 ∷ []
access_record (WriteDmacntrl1 byte) = 0x33 ∷ 0 ∷ 0 ∷ byte ∷ []

-- what is written is a byte
abbrev pub AccessFits : Access → Type 0
AccessFits ReadStack = Unit {0}
AccessFits (WriteStack byte) = byte < 256
AccessFits ReadDmacntrl1 = Unit {0}
AccessFits (WriteDmacntrl1 byte) = byte < 256

-- does an event read or write 35Dh or 353h, and is it power reset?
unfoldable pub touches : Event → Bool
touches e = writes e STACK || reads e STACK || writes e DMACNTRL1 || reads e DMACNTRL1

unfoldable pub resets : Event → Bool
resets PowerReset = true
resets (Write offset value) = false
resets (Read offset) = false
resets (WordWrite word) = false
resets WordRead = false
resets (Drive lines) = false
resets (Ticks n) = false

-- does a decoded record neither touch 35Dh and 353h nor reset? One that is not well formed does not
abbrev pub elsewhere : Option Event → Bool
elsewhere (Some e) = not (touches e) && not (resets e)
elsewhere None = true
