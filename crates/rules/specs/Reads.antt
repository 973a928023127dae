-- What a read gives: one definition for each register, then the choice among them by name.
use Rattle.std.specs.Prelude.{Option, Some, None}
use Rattle.std.specs.Prelude.{ℕ, ◌+◌, ◌*◌, ◌-◌, ◌%◌, false, not, ◌&&◌, List, [], ◌∷◌, eqb, leb, length, get_or}
use Rattle.rules.specs.Numbers.{byte_of}
use Rattle.rules.specs.Registers.{scsiseq_byte, sxfrctl0_byte, sxfrctl1_byte, simode0_byte, simode1_byte, dmacntrl0_byte, dmacntrl1_byte}
use Rattle.rules.specs.State.{State}
use Rattle.rules.specs.Seen.{cd_seen, io_seen, msg_seen, atn_seen, sel_seen, bsy_seen, req_seen, ack_seen, data_seen}
use Rattle.rules.specs.Counter.{counter_byte}
use Rattle.rules.specs.Stack.{stack_byte}
use Rattle.rules.specs.Interrupts.{phasemis, instat}
use Rattle.rules.specs.Map.{read_at}
use Rattle.rules.specs.declared.map.Register.{Register}
use Rattle.rules.specs.declared.map.Register.TheVariants.{SCSISEQ, SXFRCTL0, SXFRCTL1, SCSISIGI, SCSISIGO, SCSIRATE, SELID, SCSIID, SCSIDAT, SCSIBUS, STCNT0, STCNT1, STCNT2, SSTAT0, CLRSINT0, SSTAT1, CLRSINT1, SSTAT2, SSTAT3, SCSITEST, SSTAT4, CLRSERR, SIMODE0, SIMODE1, DMACNTRL0, DMACNTRL1, DMASTAT, FIFOSTAT, DMADATA, BRSTCNTRL, REV, STACK, TEST, ID}
use Rattle.rules.specs.declared.records.Event.{Event}
use Rattle.rules.specs.declared.records.Event.TheVariants.{PowerReset, Write, Read, WordWrite, WordRead, Drive, Ticks}

-- 343h: document 001, "reads the actual state of the signals on the SCSI bus pins"
unfoldable pub scsisigi : State → ℕ
scsisigi s =
    byte_of (cd_seen s) (io_seen s) (msg_seen s) (atn_seen s) (sel_seen s) (bsy_seen s) (req_seen s) (ack_seen s)

-- "346h and 347h read the data seen."
unfoldable pub scsibus : State → ℕ
scsibus s = data_seen s

-- 34Bh: SELDO 6, SELDI 5, SELINGO 4 (R-1), SPIORDY 1; "Status bits not ruled here read 0.", and "TARGET (34Bh bit 7) reads 0 until R-7."
unfoldable pub sstat0 : State → ℕ
sstat0 s =
    let t = s.sequencer.status in
    byte_of false t.seldo t.seldi t.selingo false false s.status.spiordy false

-- 34Ch: SELTO 7 (R-1), SCSIRSTI 5, PHASEMIS 4, BUSFREE 3, SCSIPERR 2, PHASECHG 1, REQINIT 0
unfoldable pub sstat1 : State → ℕ
sstat1 s =
    byte_of s.sequencer.status.selto false s.status.scsirsti (phasemis s) s.status.busfree s.status.scsiperr s.status.phasechg
    s.status.reqinit

-- "34Dh gives the FIFO count's low 3 bits with EMPTY, SFULL, SOFFSET."
unfoldable pub sstat2 : State → ℕ
sstat2 s =
    byte_of false false (not (eqb s.transfer.offset 0)) (eqb (length s.transfer.scsi) 0)
    (eqb (length s.transfer.scsi) 8) false false false
    + length s.transfer.scsi % 8

-- "34Eh gives (offset minus SCSI FIFO count) modulo 16, then offset."
unfoldable pub sstat3 : State → ℕ
sstat3 s = (s.transfer.offset + 16 - length s.transfer.scsi) % 16 * 16 + s.transfer.offset

-- 34Fh: SYNCERR 2, FWERR 1
unfoldable pub sstat4 : State → ℕ
sstat4 s = byte_of false false false false false s.status.syncerr s.status.fwerr false

-- "354h: WORDRDY 6 (WRITE 0 and two or more bytes), INSTAT 5, full 4, empty 3, half 2 (64 or more); others 0."
unfoldable pub dmastat : State → ℕ
dmastat s =
    let n = length s.transfer.host in
    byte_of false (not s.registers.dmacntrl0.write && leb 2 n) (instat s) (eqb n 128) (eqb n 0) (leb 64 n) false false

-- "35Fh gives the 32 ID bytes in turn and starts again": (C)1991ADAPTECAIC6360 and spaces
unfoldable pub id_bytes : List ℕ
id_bytes =
    0x28 ∷ 0x43 ∷ 0x29 ∷ 0x31 ∷ 0x39 ∷ 0x39 ∷ 0x31 ∷ 0x41 ∷ 0x44 ∷ 0x41 ∷ 0x50 ∷ 0x54 ∷ 0x45 ∷ 0x43 ∷ 0x41 ∷ 0x49
    ∷ 0x43 ∷ 0x36 ∷ 0x33 ∷ 0x36 ∷ 0x30 ∷ 0x20 ∷ 0x20 ∷ 0x20 ∷ 0x20 ∷ 0x20 ∷ 0x20 ∷ 0x20 ∷ 0x20 ∷ 0x20 ∷ 0x20 ∷ 0x20 ∷ []

-- a register that can be read, by its name; those that cannot give 0 and are never asked (specs/Map.antt)
unfoldable pub read_of : State → Register → ℕ
read_of s SCSISEQ = scsiseq_byte s.registers.scsiseq
read_of s SXFRCTL0 = sxfrctl0_byte s.registers.sxfrctl0
read_of s SXFRCTL1 = sxfrctl1_byte s.registers.sxfrctl1
read_of s SCSISIGI = scsisigi s
read_of s SELID = s.sequencer.selid  -- R-1: "345h reads the byte that others drove when the chip was last reselected"
read_of s SCSIDAT = scsibus s
read_of s SCSIBUS = scsibus s
read_of s STCNT0 = counter_byte 0 s.transfer.counter
read_of s STCNT1 = counter_byte 1 s.transfer.counter
read_of s STCNT2 = counter_byte 2 s.transfer.counter
read_of s SSTAT0 = sstat0 s
read_of s SSTAT1 = sstat1 s
read_of s SSTAT2 = sstat2 s
read_of s SSTAT3 = sstat3 s
read_of s SSTAT4 = sstat4 s
read_of s SIMODE0 = simode0_byte s.registers.simode0
read_of s SIMODE1 = simode1_byte s.registers.simode1
read_of s DMACNTRL0 = dmacntrl0_byte s.registers.dmacntrl0
read_of s DMACNTRL1 = dmacntrl1_byte s.registers.dmacntrl1 s.stack.pointer
read_of s DMASTAT = dmastat s
read_of s FIFOSTAT = length s.transfer.host
read_of s DMADATA = get_or s.transfer.host 0 0
read_of s BRSTCNTRL = s.registers.brstcntrl
read_of s REV = 1
read_of s STACK = stack_byte s.registers.dmacntrl1.enstk32 s.stack
read_of s ID = get_or id_bytes s.identity 0
read_of s SCSISIGO = 0
read_of s SCSIRATE = 0
read_of s SCSIID = 0
read_of s CLRSINT0 = 0
read_of s CLRSINT1 = 0
read_of s SCSITEST = 0
read_of s CLRSERR = 0
read_of s TEST = 0

abbrev pub read_mapped : State → Option Register → ℕ
read_mapped s (Some r) = read_of s r
read_mapped s None = 0

-- the value of an event that is done: "what was read, else 0"
unfoldable pub value_read : State → Event → ℕ
value_read s PowerReset = 0
value_read s (Write offset value) = 0
value_read s (Read offset) = read_mapped s (read_at offset)
value_read s (WordWrite word) = 0
value_read s WordRead = get_or s.transfer.host 0 0 + 256 * get_or s.transfer.host 1 0
value_read s (Drive lines) = 0
value_read s (Ticks n) = 0
