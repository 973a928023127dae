-- The chip as the code keeps it, and as a state. One state has one chip: FIFO bytes oldest first, 0 past the count.
-- A chip whose numbers are out of range, which can only be made by hand, is read as the chip with each brought into range.
use Rattle.std.specs.Prelude.{ℕ, ◌%◌, min, List, length, take}
use Rattle.rules.specs.State.{State, Transfer}
use Rattle.rules.specs.Counter.{counter_size}
use Rattle.rules.specs.Numbers.{padded}
use Rattle.rules.specs.declared.registers.Registers.{Registers}
use Rattle.rules.specs.declared.chip.Fifo.{Fifo}
use Rattle.rules.specs.declared.chip.DataPath.{DataPath}
use Rattle.rules.specs.declared.chip.Stack.{Stack}
use Rattle.rules.specs.declared.chip.Sequencer.{Sequencer}
use Rattle.rules.specs.declared.chip.Chip.{Chip}

-- bytes with their count, as a list
abbrev pub fifo_view : {places : ℕ} → Fifo places → List ℕ
fifo_view f = take f.count f.bytes

-- the one form of a list
abbrev pub fifo_of : (places : ℕ) → List ℕ → Fifo places
fifo_of places l = record { bytes = padded places l; count = length l }

abbrev pub host_view : Fifo 128 → List ℕ
host_view f = fifo_view f

abbrev pub host_of : List ℕ → Fifo 128
host_of l = fifo_of 128 l

abbrev pub scsi_view : Fifo 8 → List ℕ
scsi_view f = fifo_view f

abbrev pub scsi_of : List ℕ → Fifo 8
scsi_of l = fifo_of 8 l

unfoldable pub path_view : DataPath → Transfer
path_view p =
    record {
      host = host_view p.host;
      scsi = scsi_view p.scsi;
      counter = p.counter % counter_size;
      offset = min 8 p.offset;
      ack = p.ack;
      last = p.last;
    }

unfoldable pub path_of : Transfer → DataPath
path_of t =
    record {
      host = host_of t.host;
      scsi = scsi_of t.scsi;
      counter = t.counter;
      offset = t.offset;
      ack = t.ack;
      last = t.last;
    }

unfoldable pub registers_view : Registers → Registers
registers_view r =
    record {
      scsiseq = r.scsiseq;
      sxfrctl0 = r.sxfrctl0;
      sxfrctl1 = r.sxfrctl1;
      scsisig = r.scsisig;
      scsirate = record { sxfr = r.scsirate.sxfr % 8; sofs = r.scsirate.sofs % 16 };
      scsiid = record { oid = r.scsiid.oid % 8; tid = r.scsiid.tid % 8 };
      scsidat = r.scsidat;
      simode0 = r.simode0;
      simode1 = r.simode1;
      dmacntrl0 = r.dmacntrl0;
      dmacntrl1 = r.dmacntrl1;
      brstcntrl = r.brstcntrl;
    }

unfoldable pub stack_view : Stack → Stack
stack_view k = record { bytes = k.bytes; pointer = k.pointer % 32 }

unfoldable pub sequencer_view : Sequencer → Sequencer
sequencer_view q =
    record {
      phase = q.phase;
      ticks = q.ticks % counter_size;
      noted = q.noted;
      selid = q.selid;
      status = q.status;
      latches = q.latches;
    }

-- the state that a chip value stands for
unfoldable pub view : Chip → State
view c =
    record {
      lines = c.lines;
      registers = registers_view c.registers;
      transfer = path_view c.transfer;
      status = c.status;
      latches = c.latches;
      stack = stack_view c.stack;
      keptbad = c.keptbad;
      quiet = min 8 c.quiet;
      identity = c.identity % 32;
      sequencer = sequencer_view c.sequencer;
    }

-- the chip value of a state
unfoldable pub chip_of : State → Chip
chip_of s =
    record {
      lines = s.lines;
      registers = s.registers;
      transfer = path_of s.transfer;
      status = s.status;
      latches = s.latches;
      stack = s.stack;
      keptbad = s.keptbad;
      quiet = s.quiet;
      identity = s.identity;
      sequencer = s.sequencer;
    }
