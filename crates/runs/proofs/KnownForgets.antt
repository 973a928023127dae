-- What the fold must forget, computed: from a driver that knows everything, and from one that knows nothing.
use mathlib.Core.Path.{◌≡◌, refl}
use mathlib.Core.Bool.{Bool, true, false}
use Rattle.rules.specs.Records.{lines_of}
use Rattle.rules.specs.Events.{writes, reads, value_of, port_write}
use Rattle.rules.specs.StepA.{clrstcnt, clrch, rstfifo}
use Rattle.rules.specs.declared.records.Event.TheVariants.{PowerReset, Write, Read, WordWrite, Drive}
use Rattle.runs.specs.Known.{Known, nothing, after_cut_and_reading, own_effect, pulses, settled, learned_of, may_clear_known}

-- all that can be known at once with the path open, or shut; in Automatic mode SPIOEN is 1; SELDO may be 1, or is known to be 0
abbrev all : Bool → Bool → Bool → Known
all shut manual unselected =
    record {
      host = true;
      scsi = true;
      counter = true;
      offset = true;
      acko = true;
      ioexp = true;
      write = true;
      dmaen = true;
      pathless = shut;
      spioen = manual;
      scsien = true;
      uncalled = true;
      off = true;
      unselected = unselected;
      shows = true;
    }

-- a byte or a word written to the port: the host FIFO is not empty
pub port_byte : (learned_of (all true true true) (Write 0x16 0x41) 0).host ≡ false
unfolding own_effect settled pulses writes reads value_of port_write rstfifo clrch clrstcnt
port_byte = refl

pub port_word : (learned_of (all true true true) (WordWrite 0x4241) 0).host ≡ false
unfolding own_effect settled pulses writes reads value_of port_write rstfifo clrch clrstcnt
port_word = refl

-- RSTFIFO with WRITE unknown: bytes of the SCSI FIFO may go into the host FIFO
pub inbound_host : (learned_of nothing (Write 0x12 0x82) 0).host ≡ false
unfolding own_effect settled pulses writes reads value_of port_write rstfifo clrch clrstcnt
inbound_host = refl

-- CLRCH before RSTFIFO with the path open: bytes of the host FIFO go into the SCSI FIFO
pub refilled_scsi : (learned_of after_cut_and_reading (Write 0x01 0x42) 0).scsi ≡ false
unfolding own_effect settled pulses writes reads value_of port_write rstfifo clrch clrstcnt
refilled_scsi = refl

-- "CLRCH also clears the counter; its register page decides: it does not"; 348h written; an Automatic ACK
pub clrch_counter : (learned_of nothing (Write 0x01 0x02) 0).counter ≡ false
unfolding own_effect settled pulses writes reads value_of port_write rstfifo clrch clrstcnt
clrch_counter = refl

pub written_counter : (learned_of (all true true true) (Write 0x08 0x01) 0).counter ≡ false
unfolding own_effect settled pulses writes reads value_of port_write rstfifo clrch clrstcnt
written_counter = refl

pub automatic_counter : (learned_of (all true false true) (Write 0x06 0x80) 0).counter ≡ false
unfolding own_effect settled pulses writes reads value_of port_write rstfifo clrch clrstcnt
automatic_counter = refl

-- a REQ with the path open may raise the offset
pub raised_offset : (learned_of (all false true true) (Drive (lines_of 0x06)) 0).offset ≡ false
unfolding own_effect settled pulses writes reads value_of port_write rstfifo clrch clrstcnt
raised_offset = refl

-- ENSELO where SELDO may be 1: a read that shows it 1 then tells nothing, neither before the write nor behind it
pub seldo_before : (learned_of (all true true false) (Write 0x00 0x48) 0).shows ≡ false
unfolding own_effect settled pulses writes reads value_of port_write rstfifo clrch clrstcnt
seldo_before = refl

pub asked_off : (learned_of (all true true true) (Write 0x00 0x48) 0).off ≡ false
unfolding own_effect settled pulses writes reads value_of port_write rstfifo clrch clrstcnt
asked_off = refl

-- ENRESELI: the chip may be called
pub called_shows : (learned_of (all true true true) (Write 0x00 0x58) 0).shows ≡ false
unfolding own_effect settled pulses writes reads value_of port_write rstfifo clrch clrstcnt
called_shows = refl

-- SELDO 1 shown where nothing tells what it means
pub shown_alone : (learned_of nothing (Read 0x0B) 0x40).off ≡ false
unfolding own_effect settled pulses writes reads value_of port_write rstfifo clrch clrstcnt
shown_alone = refl

-- after a cut the FIFOs, the counter and the offset are as the run left them
pub cut_leaves_scsi : after_cut_and_reading.scsi ≡ false
cut_leaves_scsi = refl

-- and with SCSIEN set then, or SPIOEN, the clearing would not keep document 01's condition
pub opened_full : may_clear_known after_cut_and_reading (learned_of after_cut_and_reading (Write 0x01 0xE0) 0) ≡ false
unfolding own_effect settled pulses writes reads value_of port_write rstfifo clrch clrstcnt
opened_full = refl

pub automatic_full : may_clear_known after_cut_and_reading (learned_of after_cut_and_reading (Write 0x01 0x08) 0) ≡ false
unfolding own_effect settled pulses writes reads value_of port_write rstfifo clrch clrstcnt
automatic_full = refl

-- a power reset
pub reset_forgets : learned_of (all true true true) PowerReset 0 ≡ nothing
reset_forgets = refl
