-- What is seen and driven on the bus, and the words that document 01 and R-1 make of it.
-- "A line is seen if others or the chip drive it. The chip drives RST (SCSIRSTO), ATN, SEL, BSY (343h bits 4 to 2) and ACK;
-- never CD, IO, MSG, REQ."
use Rattle.std.specs.Prelude.{ℕ, ◌+◌, ◌%◌, ◌^◌, min, Bool, true, false, not, ◌&&◌, ◌||◌, cond, eqb}
use Rattle.std.specs.Bool.{beq}
use Rattle.std.specs.Int.Bits.{bit_or}
use Rattle.rules.specs.Numbers.{one, ones, even}
use Rattle.rules.specs.State.{State}
use Rattle.rules.specs.declared.registers.Scsiid.{Scsiid}
use Rattle.rules.specs.declared.registers.Registers.{Registers}
use Rattle.rules.specs.declared.chip.Phase.{Phase}
use Rattle.rules.specs.declared.chip.Phase.TheVariants.{Idle, Waiting, Arbitrating, Clearing, Selecting, Holding, Answering, Answered}

-- R-1: the sequencer's phases, one of "idle, waiting, arbitrating, clearing, selecting, holding, answering, answered", numbered in
-- this order
unfoldable pub phase_number : Phase → ℕ
phase_number Idle = 0
phase_number Waiting = 1
phase_number Arbitrating = 2
phase_number Clearing = 3
phase_number Selecting = 4
phase_number Holding = 5
phase_number Answering = 6
phase_number Answered = 7

unfoldable pub is_phase : Phase → Phase → Bool
is_phase p q = eqb (phase_number p) (phase_number q)

-- R-1, "What the chip drives beside 343h and automatic ACK", the lines: arbitrating BSY; clearing BSY, SEL; selecting, holding SEL;
-- answered BSY; "others none"
unfoldable pub phase_bsy : Phase → Bool
phase_bsy Idle = false
phase_bsy Waiting = false
phase_bsy Arbitrating = true
phase_bsy Clearing = true
phase_bsy Selecting = false
phase_bsy Holding = false
phase_bsy Answering = false
phase_bsy Answered = true

unfoldable pub phase_sel : Phase → Bool
phase_sel Idle = false
phase_sel Waiting = false
phase_sel Arbitrating = false
phase_sel Clearing = true
phase_sel Selecting = true
phase_sel Holding = true
phase_sel Answering = false
phase_sel Answered = false

-- and does it give data?
unfoldable pub phase_drives : Phase → Bool
phase_drives Idle = false
phase_drives Waiting = false
phase_drives Arbitrating = true
phase_drives Clearing = true
phase_drives Selecting = true
phase_drives Holding = true
phase_drives Answering = false
phase_drives Answered = false

-- "own = 1 shifted by OID, other = 1 shifted by TID (345h as written)", of three bits each
unfoldable pub own_id : Scsiid → ℕ
own_id r = 2 ^ (r.oid % 8)

unfoldable pub other_id : Scsiid → ℕ
other_id r = 2 ^ (r.tid % 8)

-- the data: arbitrating, clearing own; selecting, holding own and other
unfoldable pub phase_data : Phase → Scsiid → ℕ
phase_data Idle r = 0
phase_data Waiting r = 0
phase_data Arbitrating r = own_id r
phase_data Clearing r = own_id r
phase_data Selecting r = bit_or (own_id r) (other_id r)
phase_data Holding r = bit_or (own_id r) (other_id r)
phase_data Answering r = 0
phase_data Answered r = 0

unfoldable pub rst_seen : State → Bool
rst_seen s = s.lines.rst || s.registers.scsiseq.scsirsto

unfoldable pub atn_seen : State → Bool
atn_seen s = s.lines.atn || s.registers.scsisig.atno

unfoldable pub sel_seen : State → Bool
sel_seen s = (s.lines.sel || s.registers.scsisig.selo) || phase_sel s.sequencer.phase

unfoldable pub bsy_seen : State → Bool
bsy_seen s = (s.lines.bsy || s.registers.scsisig.bsyo) || phase_bsy s.sequencer.phase

abbrev pub cd_seen : State → Bool
cd_seen s = s.lines.cd

abbrev pub io_seen : State → Bool
io_seen s = s.lines.io

abbrev pub msg_seen : State → Bool
msg_seen s = s.lines.msg

abbrev pub req_seen : State → Bool
req_seen s = s.lines.req

-- "Modes by SPIOEN, DMAEN: 0,0 Manual; 1,0 Automatic; 0,1 Normal; 1,1 none."
unfoldable pub manual : Registers → Bool
manual r = not r.sxfrctl0.spioen && not r.sxfrctl0.dmaen

unfoldable pub automatic : Registers → Bool
automatic r = r.sxfrctl0.spioen && not r.sxfrctl0.dmaen

unfoldable pub normal : Registers → Bool
normal r = not r.sxfrctl0.spioen && r.sxfrctl0.dmaen

-- "ACKO drives ACK in Manual mode only, uncounted."
unfoldable pub ack_driven : State → Bool
ack_driven s = s.transfer.ack || (manual s.registers && s.registers.scsisig.acko)

unfoldable pub ack_seen : State → Bool
ack_seen s = s.lines.ack || ack_driven s

-- "Connected: BSY seen, SEL and RST not."; R-1: "Connected now also needs that the phase is not arbitrating: the chip's own
-- arbitration is no connection."
unfoldable pub connected : State → Bool
connected s = bsy_seen s && not (sel_seen s) && not (rst_seen s) && not (is_phase Arbitrating s.sequencer.phase)

-- "Matched: connected and CD, IO, MSG equal 343h bits 7-5."
unfoldable pub matched : State → Bool
matched s =
    connected s && beq (cd_seen s) s.registers.scsisig.cdexp && beq (io_seen s) s.registers.scsisig.ioexp
    && beq (msg_seen s) s.registers.scsisig.msgexp

-- "Path: Normal, and WRITE differs from IOEXP (343h bit 6)."
unfoldable pub path : Registers → Bool
path r = normal r && not (beq r.dmacntrl0.write r.scsisig.ioexp)

-- "Synchronous: SOFS not 0, CD and MSG not seen"
unfoldable pub synchronous : State → Bool
synchronous s = not (eqb s.registers.scsirate.sofs 0) && not (cd_seen s) && not (msg_seen s)

-- "limit = smaller of SOFS and 8"
unfoldable pub limit : Registers → ℕ
limit r = min r.scsirate.sofs 8

-- "connected and not matched", of which PHASECHG and PHASEMIS speak
unfoldable pub mismatched : State → Bool
mismatched s = connected s && not (matched s)

-- "Data is driven when connected and IO not seen: the latch in Manual and Automatic, the byte last sent in Normal while
-- automatic ACK is on."
unfoldable pub byte_driving : State → Bool
byte_driving s =
    connected s && not (io_seen s)
    && (manual s.registers || automatic s.registers || (normal s.registers && s.transfer.ack))

-- "Undriven data and parity are 0."
unfoldable pub byte_driven : State → ℕ
byte_driven s = cond (byte_driving s) (cond (normal s.registers) s.transfer.last s.registers.scsidat) 0

-- R-1: "Where the sequencer gives data, that is what is driven, whatever the mode, with its parity; else document 01's rule."
unfoldable pub driving : State → Bool
driving s = phase_drives s.sequencer.phase || byte_driving s

unfoldable pub data_driven : State → ℕ
data_driven s = cond (phase_drives s.sequencer.phase) (phase_data s.sequencer.phase s.registers.scsiid) (byte_driven s)

-- "Parity driven makes the ones odd."
unfoldable pub parity_driven : State → Bool
parity_driven s = driving s && even (ones (data_driven s))

unfoldable pub data_seen : State → ℕ
data_seen s = bit_or s.lines.byte (data_driven s)

unfoldable pub parity_seen : State → Bool
parity_seen s = s.lines.parity || parity_driven s

-- "data with parity has an even number of ones"
unfoldable pub parity_even : State → Bool
parity_even s = even (ones (data_seen s) + one (parity_seen s))
