-- A state with one part another, all else as it was: no other definition writes a state or its data path out in full.
use Rattle.std.specs.Prelude.{ℕ, Bool, List}
use Rattle.rules.specs.State.{State, Transfer}
use Rattle.rules.specs.declared.registers.Registers.{Registers}
use Rattle.rules.specs.declared.records.Lines.{Lines}
use Rattle.rules.specs.declared.chip.Status.{Status}
use Rattle.rules.specs.declared.chip.Latches.{Latches}
use Rattle.rules.specs.declared.chip.Stack.{Stack}
use Rattle.rules.specs.declared.chip.Sequencer.{Sequencer}

abbrev pub with_lines : Lines → State → State
with_lines x s =
    record {
      lines = x;
      registers = s.registers;
      transfer = s.transfer;
      status = s.status;
      latches = s.latches;
      stack = s.stack;
      keptbad = s.keptbad;
      quiet = s.quiet;
      identity = s.identity;
      sequencer = s.sequencer;
    }

abbrev pub with_registers : Registers → State → State
with_registers x s =
    record {
      lines = s.lines;
      registers = x;
      transfer = s.transfer;
      status = s.status;
      latches = s.latches;
      stack = s.stack;
      keptbad = s.keptbad;
      quiet = s.quiet;
      identity = s.identity;
      sequencer = s.sequencer;
    }

abbrev pub with_transfer : Transfer → State → State
with_transfer x s =
    record {
      lines = s.lines;
      registers = s.registers;
      transfer = x;
      status = s.status;
      latches = s.latches;
      stack = s.stack;
      keptbad = s.keptbad;
      quiet = s.quiet;
      identity = s.identity;
      sequencer = s.sequencer;
    }

abbrev pub with_status : Status → State → State
with_status x s =
    record {
      lines = s.lines;
      registers = s.registers;
      transfer = s.transfer;
      status = x;
      latches = s.latches;
      stack = s.stack;
      keptbad = s.keptbad;
      quiet = s.quiet;
      identity = s.identity;
      sequencer = s.sequencer;
    }

abbrev pub with_latches : Latches → State → State
with_latches x s =
    record {
      lines = s.lines;
      registers = s.registers;
      transfer = s.transfer;
      status = s.status;
      latches = x;
      stack = s.stack;
      keptbad = s.keptbad;
      quiet = s.quiet;
      identity = s.identity;
      sequencer = s.sequencer;
    }

abbrev pub with_stack : Stack → State → State
with_stack x s =
    record {
      lines = s.lines;
      registers = s.registers;
      transfer = s.transfer;
      status = s.status;
      latches = s.latches;
      stack = x;
      keptbad = s.keptbad;
      quiet = s.quiet;
      identity = s.identity;
      sequencer = s.sequencer;
    }

abbrev pub with_kept : Bool → State → State
with_kept x s =
    record {
      lines = s.lines;
      registers = s.registers;
      transfer = s.transfer;
      status = s.status;
      latches = s.latches;
      stack = s.stack;
      keptbad = x;
      quiet = s.quiet;
      identity = s.identity;
      sequencer = s.sequencer;
    }

abbrev pub with_quiet : ℕ → State → State
with_quiet x s =
    record {
      lines = s.lines;
      registers = s.registers;
      transfer = s.transfer;
      status = s.status;
      latches = s.latches;
      stack = s.stack;
      keptbad = s.keptbad;
      quiet = x;
      identity = s.identity;
      sequencer = s.sequencer;
    }

abbrev pub with_identity : ℕ → State → State
with_identity x s =
    record {
      lines = s.lines;
      registers = s.registers;
      transfer = s.transfer;
      status = s.status;
      latches = s.latches;
      stack = s.stack;
      keptbad = s.keptbad;
      quiet = s.quiet;
      identity = x;
      sequencer = s.sequencer;
    }

abbrev pub with_sequencer : Sequencer → State → State
with_sequencer x s =
    record {
      lines = s.lines;
      registers = s.registers;
      transfer = s.transfer;
      status = s.status;
      latches = s.latches;
      stack = s.stack;
      keptbad = s.keptbad;
      quiet = s.quiet;
      identity = s.identity;
      sequencer = x;
    }

-- a data path with one part another
abbrev pub transfer_with_host : List ℕ → Transfer → Transfer
transfer_with_host x t =
    record { host = x; scsi = t.scsi; counter = t.counter; offset = t.offset; ack = t.ack; last = t.last }

abbrev pub transfer_with_scsi : List ℕ → Transfer → Transfer
transfer_with_scsi x t =
    record { host = t.host; scsi = x; counter = t.counter; offset = t.offset; ack = t.ack; last = t.last }

abbrev pub transfer_with_counter : ℕ → Transfer → Transfer
transfer_with_counter x t =
    record { host = t.host; scsi = t.scsi; counter = x; offset = t.offset; ack = t.ack; last = t.last }

abbrev pub transfer_with_offset : ℕ → Transfer → Transfer
transfer_with_offset x t =
    record { host = t.host; scsi = t.scsi; counter = t.counter; offset = x; ack = t.ack; last = t.last }

abbrev pub transfer_with_ack : Bool → Transfer → Transfer
transfer_with_ack x t =
    record { host = t.host; scsi = t.scsi; counter = t.counter; offset = t.offset; ack = x; last = t.last }

abbrev pub transfer_with_last : ℕ → Transfer → Transfer
transfer_with_last x t =
    record { host = t.host; scsi = t.scsi; counter = t.counter; offset = t.offset; ack = t.ack; last = x }

-- the state with one part of its data path another
abbrev pub with_host : List ℕ → State → State
with_host x s = with_transfer (transfer_with_host x s.transfer) s

abbrev pub with_scsi : List ℕ → State → State
with_scsi x s = with_transfer (transfer_with_scsi x s.transfer) s

abbrev pub with_counter : ℕ → State → State
with_counter x s = with_transfer (transfer_with_counter x s.transfer) s

abbrev pub with_offset : ℕ → State → State
with_offset x s = with_transfer (transfer_with_offset x s.transfer) s

abbrev pub with_ack : Bool → State → State
with_ack x s = with_transfer (transfer_with_ack x s.transfer) s

abbrev pub with_last : ℕ → State → State
with_last x s = with_transfer (transfer_with_last x s.transfer) s
