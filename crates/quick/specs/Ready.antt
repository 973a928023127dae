-- The answer to an event that changes nothing, as one number, and what an event that does something adds to it.
use Rattle.std.specs.Prelude.{ℕ, zero, suc, ◌+◌, ◌*◌, ◌/◌, ◌%◌, List, [], ◌∷◌, take}
use Rattle.rules.specs.Numbers.{one, byte_of}
use Rattle.rules.specs.State.{State}
use Rattle.rules.specs.Codes.{number_of}
use Rattle.rules.specs.Answers.{Stepped, answer_of, answer_bytes}
use Rattle.rules.specs.Step.{ended}
use Rattle.rules.specs.declared.codes.Code.TheVariants.{Done}
use Rattle.rules.specs.declared.records.Lines.{Lines}

-- bytes as one number, the lowest first
unfoldable pub number_low : List ℕ → ℕ
number_low [] = 0
number_low (b ∷ more) = b + 256 * number_low more

-- the n lowest bytes of a number, the lowest first
unfoldable pub bytes_low : ℕ → ℕ → List ℕ
bytes_low zero v = []
bytes_low (suc n) v = v % 256 ∷ bytes_low n (v / 256)

-- the first eight bytes of the answer to 0 ticks, as one number, the lowest first
unfoldable pub ready_of : State → ℕ
ready_of s = number_low (take 8 (answer_bytes (answer_of (ended s Done 0))))

-- where the fields stand in it: IRQ, the moves, whether data is driven, its parity, ACK driven, the data driven, the counts
abbrev pub irq_place : ℕ
irq_place = 0x10

abbrev pub parity_place : ℕ
parity_place = 0x100

abbrev pub driving_place : ℕ
driving_place = 0x400

abbrev pub move_place : ℕ
move_place = 0x800

abbrev pub ack_place : ℕ
ack_place = 0x100000000

abbrev pub data_place : ℕ
data_place = 0x10000000000

abbrev pub scsi_place : ℕ
scsi_place = 0x1000000000000

abbrev pub offset_place : ℕ
offset_place = 0x10000000000000

abbrev pub host_place : ℕ
host_place = 0x100000000000000

-- what an event shows more than the answer to 0 ticks after it: code, ACKs, moves and value
unfoldable pub add_of : Stepped → ℕ
add_of x = number_of x.code * 32 + x.acks + x.moves * move_place + x.value / 256 * 0x10000 + x.value % 256 * 0x1000000

-- the record of a line event with these lines: kind 5, then the 18 bits of its payload
unfoldable pub lines_record : Lines → ℕ
lines_record l =
    0xA0000000 + l.byte * 1024 + one l.parity * 512 + one l.rst * 256
    + byte_of l.cd l.io l.msg l.atn l.sel l.bsy l.req l.ack

-- the record of a line event that changes nothing
unfoldable pub line_record : State → ℕ
line_record s = lines_record s.lines
