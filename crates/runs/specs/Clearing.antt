-- The clearing: from the cut to the next start.
use Rattle.std.specs.Prelude.{ℕ, ◌+◌, Bool, true, false, not, ◌&&◌, ◌||◌, cond, List, [], ◌∷◌, eqb, length}
use Rattle.rules.specs.Numbers.{bit}
use Rattle.rules.specs.Map.{offset_of}
use Rattle.rules.specs.State.{State}
use Rattle.rules.specs.Events.{writes, value_of}
use Rattle.rules.specs.Codes.{is_done}
use Rattle.rules.specs.Step.{step}
use Rattle.rules.specs.declared.map.Register.{Register}
use Rattle.rules.specs.declared.map.Register.TheVariants.{SCSISEQ, SXFRCTL0, SCSISIGO, DMACNTRL0}
use Rattle.rules.specs.declared.records.Event.{Event}
use Rattle.rules.specs.declared.records.Event.TheVariants.{PowerReset, Write, Read, WordWrite, WordRead, Drive, Ticks}
use Rattle.runs.specs.Comes.{may_come}
use Rattle.runs.specs.Run.{accepted}

-- "SCSIEN and SPIOEN 0"
unfoldable pub switched_off : State → Bool
switched_off s = not s.registers.sxfrctl0.scsien && not s.registers.sxfrctl0.spioen

unfoldable pub both_empty : State → Bool
both_empty s = eqb (length s.transfer.host) 0 && eqb (length s.transfer.scsi) 0

-- "all with SCSIEN and SPIOEN 0 until both FIFOs are empty": a record after which they are 0; or both FIFOs are empty before it,
-- and it brings the port no byte, since port writes belong to a run
unfoldable pub may_clear : State → List ℕ → Bool
may_clear s bytes = switched_off (step s bytes).state || (both_empty s && eqb (length (accepted s bytes)) 0)

abbrev pub all_clear : State → List (List ℕ) → Bool
all_clear s [] = true
all_clear s (bytes ∷ more) = may_clear s bytes && all_clear (step s bytes).state more

-- until the FIFOs are empty: SCSIEN and SPIOEN are 0 after each record, and 343h is written "with ACKO 0"
unfoldable pub leaves_acko : Event → Bool
leaves_acko e = not (writes e SCSISIGO && bit (value_of e) 0)

abbrev pub all_off : State → List (List ℕ) → Bool
all_off s [] = true
all_off s (bytes ∷ more) =
    switched_off (step s bytes).state && may_come leaves_acko s bytes && all_off (step s bytes).state more

-- what a driver can tell of a record by itself: it leaves SCSIEN and SPIOEN 0, since it is no power reset and sets neither in 341h
abbrev pub stays_off : Event → Bool
stays_off PowerReset = false
stays_off (Write offset value) = not (eqb offset (offset_of SXFRCTL0) && (bit value 7 || bit value 3))
stays_off (Read offset) = true
stays_off (WordWrite word) = true
stays_off WordRead = true
stays_off (Drive lines) = true
stays_off (Ticks n) = true

-- every record gets code 0
abbrev pub all_done : State → List (List ℕ) → Bool
all_done s [] = true
all_done s (bytes ∷ more) = is_done (step s bytes).code && all_done (step s bytes).state more

-- the record of a register write: kind 1, the offset, the value
abbrev pub write_record : Register → ℕ → List ℕ
write_record r value = (32 + offset_of r) ∷ 0 ∷ 0 ∷ value ∷ []

-- Manual mode: the path is shut, so that no FIFO refills the other
abbrev pub manual_value : ℕ
manual_value = 0x00

-- SCSIRSTO: RST is driven, and the sequencer is idle at once, whatever it did
abbrev pub reset_value : ℕ
reset_value = 0x01

-- RST released, and bits 6-4 clear: an idle sequencer is neither asked nor called, and stays idle
abbrev pub idle_value : ℕ
idle_value = 0x00

-- RSTFIFO, with ENDMA, WRITE 1 and the port's width
abbrev pub control_value : Bool → ℕ
control_value eightbit = cond eightbit 0xCA 0x8A

-- CLRSTCNT and CLRCH
abbrev pub clear_value : ℕ
clear_value = 0x12

-- ACKO 0, and data out expected
abbrev pub signal_value : ℕ
signal_value = 0x00

-- SCSIEN, DMAEN, CHEN: the path opens on empty FIFOs
abbrev pub open_value : ℕ
open_value = 0xE0

-- "empties both FIFOs, zeroes counter and offset, and writes 343h with ACKO 0 ... and starts anew", in Manual mode
unfoldable pub from_manual : Bool → List (List ℕ)
from_manual eightbit =
    write_record DMACNTRL0 (control_value eightbit)
    ∷ write_record SXFRCTL0 clear_value
    ∷ write_record SCSISIGO signal_value
    ∷ write_record SXFRCTL0 open_value
    ∷ []

-- A CLEARING THAT A DRIVER CAN USE, KNOWN BY ITS RECORDS: it ends at a start from every chip. R-1 wants there "340h bits 6-4 clear and
-- the sequencer idle", so it has a pulse on RST; nothing less does it whatever others drive. A chip that has answered a reselection lets
-- go only when others release SEL, and a selection on a free bus goes on, ENSELO or not, until it waits for BSY, where ENSTIMER keeps it
-- from giving up before its timeout. RST ends each of them in one event. Manual mode comes first: SCSIEN and SPIOEN are 0
unfoldable pub clearing_of : Bool → List (List ℕ)
clearing_of eightbit =
    write_record SXFRCTL0 manual_value
    ∷ write_record SCSISEQ reset_value
    ∷ write_record SCSISEQ idle_value
    ∷ from_manual eightbit

-- the clearing of a driver that has not selected since its run, and so knows the sequencer off: no pulse on RST
unfoldable pub short_clearing_of : Bool → List (List ℕ)
short_clearing_of eightbit = write_record SXFRCTL0 manual_value ∷ from_manual eightbit
