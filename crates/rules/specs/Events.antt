-- What an event asks for, each question by name.
use Rattle.std.specs.Prelude.{ℕ, ◌/◌, ◌%◌, Bool, true, false, cond, List, [], ◌∷◌, eqb}
use Rattle.rules.specs.Map.{offset_of}
use Rattle.rules.specs.declared.map.Register.{Register}
use Rattle.rules.specs.declared.map.Register.TheVariants.{DMADATA}
use Rattle.rules.specs.declared.records.Lines.{Lines}
use Rattle.rules.specs.declared.records.Event.{Event}
use Rattle.rules.specs.declared.records.Event.TheVariants.{PowerReset, Write, Read, WordWrite, WordRead, Drive, Ticks}

-- is it a write to that register?
unfoldable pub writes : Event → Register → Bool
writes PowerReset r = false
writes (Write offset value) r = eqb offset (offset_of r)
writes (Read offset) r = false
writes (WordWrite word) r = false
writes WordRead r = false
writes (Drive lines) r = false
writes (Ticks n) r = false

-- is it a read of that register?
unfoldable pub reads : Event → Register → Bool
reads PowerReset r = false
reads (Write offset value) r = false
reads (Read offset) r = eqb offset (offset_of r)
reads (WordWrite word) r = false
reads WordRead r = false
reads (Drive lines) r = false
reads (Ticks n) r = false

-- the byte that a register write carries
unfoldable pub value_of : Event → ℕ
value_of PowerReset = 0
value_of (Write offset value) = value
value_of (Read offset) = 0
value_of (WordWrite word) = 0
value_of WordRead = 0
value_of (Drive lines) = 0
value_of (Ticks n) = 0

unfoldable pub ticks_of : Event → ℕ
ticks_of PowerReset = 0
ticks_of (Write offset value) = 0
ticks_of (Read offset) = 0
ticks_of (WordWrite word) = 0
ticks_of WordRead = 0
ticks_of (Drive lines) = 0
ticks_of (Ticks n) = n

-- the lines that others drive after it, where they drove those before
unfoldable pub lines_after : Event → Lines → Lines
lines_after PowerReset before = before
lines_after (Write offset value) before = before
lines_after (Read offset) before = before
lines_after (WordWrite word) before = before
lines_after WordRead before = before
lines_after (Drive lines) before = lines
lines_after (Ticks n) before = before

-- the bytes that it offers to the data port at 356h. "A word's low byte comes first."
unfoldable pub offered : Event → List ℕ
offered PowerReset = []
offered (Write offset value) = cond (eqb offset (offset_of DMADATA)) (value ∷ []) []
offered (Read offset) = []
offered (WordWrite word) = word % 256 ∷ word / 256 ∷ []
offered WordRead = []
offered (Drive lines) = []
offered (Ticks n) = []

-- the number of bytes that it asks of the data port
unfoldable pub asked : Event → ℕ
asked PowerReset = 0
asked (Write offset value) = 0
asked (Read offset) = cond (eqb offset (offset_of DMADATA)) 1 0
asked (WordWrite word) = 0
asked WordRead = 2
asked (Drive lines) = 0
asked (Ticks n) = 0

-- is it of 16 bits?
unfoldable pub wide : Event → Bool
wide PowerReset = false
wide (Write offset value) = false
wide (Read offset) = false
wide (WordWrite word) = true
wide WordRead = true
wide (Drive lines) = false
wide (Ticks n) = false

-- does it write, or read, the data port?
unfoldable pub port_write : Event → Bool
port_write PowerReset = false
port_write (Write offset value) = eqb offset (offset_of DMADATA)
port_write (Read offset) = false
port_write (WordWrite word) = true
port_write WordRead = false
port_write (Drive lines) = false
port_write (Ticks n) = false

unfoldable pub port_read : Event → Bool
port_read PowerReset = false
port_read (Write offset value) = false
port_read (Read offset) = eqb offset (offset_of DMADATA)
port_read (WordWrite word) = false
port_read WordRead = true
port_read (Drive lines) = false
port_read (Ticks n) = false
