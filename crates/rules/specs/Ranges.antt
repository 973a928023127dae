-- The states in range: what every state reached from power reset is, and what a chip value is once tidied.
use Rattle.std.specs.Prelude.{Option, Some, None}
use Rattle.std.specs.Prelude.{ℕ, ◌<◌, ◌≤◌, ◌≡◌, List, [], ◌∷◌, length}
use Rattle.rules.specs.State.{State, Transfer}
use Rattle.rules.specs.Counter.{counter_size}
use Rattle.rules.specs.Chips.{view, chip_of}
use Rattle.rules.specs.declared.registers.Registers.{Registers}
use Rattle.rules.specs.declared.chip.Stack.{Stack}
use Rattle.rules.specs.declared.chip.Chip.{Chip}
use Rattle.rules.specs.declared.records.Event.{Event}
use Rattle.rules.specs.declared.records.Event.TheVariants.{PowerReset, Write, Read, WordWrite, WordRead, Drive, Ticks}

-- offset at most 8, SCSI FIFO at most 8, host FIFO at most 128, counter below 16,777,216
pub record TransferFits (t : Transfer) : Type 0 where
  pub host : length t.host ≤ 128
  pub scsi : length t.scsi ≤ 8
  pub counter : t.counter < counter_size
  pub offset : t.offset ≤ 8

pub record RegistersFit (r : Registers) : Type 0 where
  pub sxfr : r.scsirate.sxfr < 8
  pub sofs : r.scsirate.sofs < 16
  pub oid : r.scsiid.oid < 8
  pub tid : r.scsiid.tid < 8

-- pointer below 32
pub record StackFits (k : Stack) : Type 0 where
  pub pointer : k.pointer < 32
  pub size : length k.bytes ≡ 32

-- the ticks of the sequencer are held in 24 bits
pub record InRange (s : State) : Type 0 where
  pub registers : RegistersFit s.registers
  pub transfer : TransferFits s.transfer
  pub stack : StackFits s.stack
  pub quiet : s.quiet ≤ 8
  pub identity : s.identity < 32
  pub sequencer : s.sequencer.ticks < counter_size

-- a chip value in the one form that functions return, with its state in range
pub record Tidy (c : Chip) : Type 0 where
  pub packed : c ≡ chip_of (view c)
  pub range : InRange (view c)

-- every element is a byte
abbrev pub Bytes : List ℕ → Type 0
Bytes [] = Unit {0}
Bytes (b ∷ l) = (b < 256) × Bytes l

pub record TransferBytes (t : Transfer) : Type 0 where
  pub last : t.last < 256
  pub host : Bytes t.host
  pub scsi : Bytes t.scsi

pub record RegistersBytes (r : Registers) : Type 0 where
  pub scsidat : r.scsidat < 256
  pub brstcntrl : r.brstcntrl < 256

-- what is stored as a byte is one
pub record InBytes (s : State) : Type 0 where
  pub lines : s.lines.byte < 256
  pub registers : RegistersBytes s.registers
  pub transfer : TransferBytes s.transfer
  pub stack : Bytes s.stack.bytes
  pub selid : s.sequencer.selid < 256

-- the fields of an event are in range
abbrev pub EventFits : Event → Type 0
EventFits PowerReset = Unit {0}
EventFits (Write offset value) = (offset < 32) × (value < 256)
EventFits (Read offset) = offset < 32
EventFits (WordWrite word) = word < 65536
EventFits WordRead = Unit {0}
EventFits (Drive lines) = lines.byte < 256
EventFits (Ticks n) = n < 16777216

-- what is decoded is in range
abbrev pub DecodedFits : Option Event → Type 0
DecodedFits (Some e) = EventFits e
DecodedFits None = Unit {0}
