-- What a driver knows of the chip from its records and the values that its reads got: one fold over events, with no word of the state.
-- "empties both FIFOs, zeroes counter and offset, and writes 343h with ACKO 0, all with SCSIEN and SPIOEN 0 until both FIFOs are empty"
use Rattle.std.specs.Prelude.{Option, Some, None}
use Rattle.std.specs.Prelude.{ℕ, Bool, true, false, not, ◌&&◌, ◌||◌, cond}
use Rattle.rules.specs.Numbers.{bit}
use Rattle.rules.specs.Events.{writes, reads, value_of, port_write}
use Rattle.rules.specs.StepA.{clrstcnt, clrch, rstfifo}
use Rattle.rules.specs.declared.map.Register.TheVariants.{SCSISEQ, SXFRCTL0, SCSISIGO, SCSIDAT, STCNT0, STCNT1, STCNT2, SSTAT0, DMACNTRL0}
use Rattle.rules.specs.declared.records.Event.{Event}
use Rattle.rules.specs.declared.records.Event.TheVariants.{PowerReset, Write, Read, WordWrite, WordRead, Drive, Ticks}

-- each is true where the driver knows it; false says nothing of the chip
pub record Known : Type 0 where
  pub host : Bool  -- the host FIFO is empty
  pub scsi : Bool  -- the SCSI FIFO is empty
  pub counter : Bool  -- the counter is 0
  pub offset : Bool  -- the offset is 0
  pub acko : Bool  -- ACKO is 0
  pub ioexp : Bool  -- IOEXP is 0
  pub write : Bool  -- WRITE is 1
  pub dmaen : Bool  -- DMAEN is 1
  pub pathless : Bool  -- DMAEN is 0, so that there is no path
  pub spioen : Bool  -- SPIOEN is 0
  pub scsien : Bool  -- SCSIEN is 0
  pub uncalled : Bool  -- ENSELI and ENRESELI are 0
  pub off : Bool  -- 340h bits 6-4 are clear and the sequencer is idle
  pub unselected : Bool  -- SELDO is 0
  pub shows : Bool  -- ENSELI and ENRESELI are 0, and if SELDO is 1 the sequencer is off

-- of a chip of which nothing is known
abbrev pub nothing : Known
nothing =
    record {
      host = false;
      scsi = false;
      counter = false;
      offset = false;
      acko = false;
      ioexp = false;
      write = false;
      dmaen = false;
      pathless = false;
      spioen = false;
      scsien = false;
      uncalled = false;
      off = false;
      unselected = false;
      shows = false;
    }

-- after a write run, its cut and the reading of the counter: ACKO 0, WRITE 1, SPIOEN and SCSIEN 0, and the sequencer as the run left it
abbrev pub after_cut_and_reading : Known
after_cut_and_reading =
    record {
      host = false;
      scsi = false;  -- "FIFOs and counter stay."
      counter = false;
      offset = false;
      acko = true;
      ioexp = false;
      write = true;
      dmaen = false;
      pathless = false;
      spioen = true;
      scsien = true;
      uncalled = true;
      off = true;
      unselected = false;
      shows = false;
    }

-- a bit of the value written
abbrev pub sets : Event → ℕ → Bool
sets e k = bit (value_of e) k

abbrev pub unsets : Event → ℕ → Bool
unsets e k = not (bit (value_of e) k)

-- "340h bits 6-4 clear"
abbrev pub unsets_selection : Event → Bool
unsets_selection e = unsets e 6 && (unsets e 5 && unsets e 4)

-- "The counter reads and writes as 24 bits, 348h lowest."
abbrev pub writes_counter : Event → Bool
writes_counter e = writes e STCNT0 || (writes e STCNT1 || writes e STCNT2)

-- "An access to 346h": in Automatic mode it may count
abbrev pub uses_latch : Event → Bool
uses_latch e = writes e SCSIDAT || reads e SCSIDAT

-- only an event that moves the lines can bring a REQ
abbrev pub moves_lines : Event → Bool
moves_lines PowerReset = false
moves_lines (Write offset value) = false
moves_lines (Read offset) = false
moves_lines (WordWrite word) = false
moves_lines WordRead = false
moves_lines (Drive lines) = true
moves_lines (Ticks n) = false

-- a read of 34Bh whose answer shows SELDO 1, or 0
abbrev pub seldo_shown : Event → ℕ → Bool
seldo_shown e answered = reads e SSTAT0 && bit answered 6

abbrev pub seldo_missed : Event → ℕ → Bool
seldo_missed e answered = reads e SSTAT0 && not (bit answered 6)

-- A, THE EVENT'S OWN EFFECT on what is known: what it writes and empties; what a port write, a write of the counter or an Automatic ACK
-- makes another; what a read of 34Bh tells. A write of 340h that asks for a selection keeps only what SELDO 0 before it allows
unfoldable pub own_effect : Known → Event → ℕ → Known
own_effect k e answered =
    record {
      host = rstfifo e || (not (port_write e) && k.host);
      scsi = clrch e || k.scsi;
      counter = clrstcnt e || (not (writes_counter e) && ((not (uses_latch e) || k.spioen) && k.counter));
      offset = clrch e || k.offset;
      acko = cond (writes e SCSISIGO) (unsets e 0) k.acko;
      ioexp = cond (writes e SCSISIGO) (unsets e 6) k.ioexp;
      write = cond (writes e DMACNTRL0) (sets e 3) k.write;
      dmaen = cond (writes e SXFRCTL0) (sets e 6) k.dmaen;
      pathless = cond (writes e SXFRCTL0) (unsets e 6) k.pathless;
      spioen = cond (writes e SXFRCTL0) (unsets e 3) k.spioen;
      scsien = cond (writes e SXFRCTL0) (unsets e 7) k.scsien;
      uncalled = cond (writes e SCSISEQ) (unsets e 5 && unsets e 4) k.uncalled;
      off = cond (writes e SCSISEQ) (unsets_selection e && k.off) ((seldo_shown e answered && k.shows) || k.off);
      unselected = seldo_missed e answered || k.unselected;
      shows =
          cond (writes e SCSISEQ) ((unsets e 5 && unsets e 4) && k.unselected)
          ((seldo_missed e answered && k.uncalled) || k.shows);
    }

-- a write of 340h with SCSIRSTO and bits 6-4 clear: "RST seen: idle"
unfoldable pub pulses : Event → Bool
pulses e = writes e SCSISEQ && (sets e 0 && unsets_selection e)

-- B AND C, WHAT THE EDGES AND SETTLING LEAVE OF IT: bytes go from FIFO to FIFO and are sent where there may be a path, a synchronous REQ
-- raises the offset, and SELDO may rise while the sequencer is not off
unfoldable pub settled : Event → Known → Known
settled e k =
    record {
      host = (k.pathless || k.write) && k.host;
      scsi = (k.pathless || (k.write && k.host)) && k.scsi;
      counter = (k.pathless || (k.scsien || (k.write && (k.host && k.scsi)))) && k.counter;
      offset = (not (moves_lines e) || k.pathless) && k.offset;
      acko = k.acko;
      ioexp = k.ioexp;
      write = k.write;
      dmaen = k.dmaen;
      pathless = k.pathless;
      spioen = k.spioen;
      scsien = k.scsien;
      uncalled = k.uncalled;
      off = pulses e || k.off;
      unselected = k.off && k.unselected;
      shows = k.shows;
    }

-- an event that is done; after a power reset a driver begins anew
abbrev pub learned_of : Known → Event → ℕ → Known
learned_of k PowerReset answered = nothing
learned_of k (Write offset value) answered = settled (Write offset value) (own_effect k (Write offset value) answered)
learned_of k (Read offset) answered = settled (Read offset) (own_effect k (Read offset) answered)
learned_of k (WordWrite word) answered = settled (WordWrite word) (own_effect k (WordWrite word) answered)
learned_of k WordRead answered = settled WordRead (own_effect k WordRead answered)
learned_of k (Drive lines) answered = settled (Drive lines) (own_effect k (Drive lines) answered)
learned_of k (Ticks n) answered = settled (Ticks n) (own_effect k (Ticks n) answered)

-- WHAT IS KNOWN AFTER A RECORD: a refused one changes nothing, of any other it is what its event leaves known
abbrev pub learned_by : Bool → Known → Option Event → ℕ → Known
learned_by is_refused k (Some e) answered = cond is_refused k (learned_of k e answered)
learned_by is_refused k None answered = k

-- "SCSIEN and SPIOEN 0"
abbrev pub known_off : Known → Bool
known_off k = k.scsien && k.spioen

abbrev pub known_empty : Known → Bool
known_empty k = k.host && k.scsi

-- DOCUMENT 01'S CONDITION ON A CLEARING, "all with SCSIEN and SPIOEN 0 until both FIFOs are empty": after the record they are known to be
-- 0, or both FIFOs are known to be empty before and after it
abbrev pub may_clear_known : Known → Known → Bool
may_clear_known before later = known_off later || (known_empty before && known_empty later)

-- A START OF A WRITE RUN, read off what is known
abbrev pub known_start : Known → Bool
known_start k =
    k.host && (k.scsi && (k.counter && (k.offset && (k.acko && (k.ioexp && (k.write && (k.dmaen && (k.spioen && k.off))))))))
