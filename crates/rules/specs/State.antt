-- The state of the chip: its components, with the two FIFOs as lists of bytes, oldest first.
use Rattle.std.specs.Prelude.{ℕ, Bool, false, List, [], replicate}
use Rattle.rules.specs.Registers.{scsiseq_of, sxfrctl0_of, sxfrctl1_of, scsisig_of, scsirate_of, scsiid_of, simode0_of, simode1_of, dmacntrl0_of, dmacntrl1_of}
use Rattle.rules.specs.declared.registers.Registers.{Registers}
use Rattle.rules.specs.declared.records.Lines.{Lines}
use Rattle.rules.specs.declared.chip.Status.{Status}
use Rattle.rules.specs.declared.chip.Latches.{Latches}
use Rattle.rules.specs.declared.chip.Stack.{Stack}
use Rattle.rules.specs.declared.chip.Phase.TheVariants.{Idle}
use Rattle.rules.specs.declared.chip.Selection.{Selection}
use Rattle.rules.specs.declared.chip.Sequencer.{Sequencer}

-- "both FIFOs; counter, offset": the data path; ack is the automatic ACK, last the byte last sent
pub record Transfer : Type 0 where
  pub host : List ℕ
  pub scsi : List ℕ
  pub counter : ℕ
  pub offset : ℕ
  pub ack : Bool
  pub last : ℕ

-- lines: those that others drive; keptbad: the kept parity of R-2 is bad; quiet: the quiet ticks; identity: the place in the ID
-- string; sequencer: that of R-1
pub record State : Type 0 where
  pub lines : Lines
  pub registers : Registers
  pub transfer : Transfer
  pub status : Status
  pub latches : Latches
  pub stack : Stack
  pub keptbad : Bool
  pub quiet : ℕ
  pub identity : ℕ
  pub sequencer : Sequencer

-- "Power reset: everything 0 and empty, all lines released, those others drive included."; R-2: "Before any inbound byte the kept
-- parity is good."
abbrev pub released : Lines
released =
    record {
      byte = 0;
      parity = false;
      rst = false;
      cd = false;
      io = false;
      msg = false;
      atn = false;
      sel = false;
      bsy = false;
      req = false;
      ack = false;
    }

abbrev pub registers_reset : Registers
registers_reset =
    record {
      scsiseq = scsiseq_of 0;
      sxfrctl0 = sxfrctl0_of 0;
      sxfrctl1 = sxfrctl1_of 0;
      scsisig = scsisig_of false 0;
      scsirate = scsirate_of 0;
      scsiid = scsiid_of 0;
      scsidat = 0;
      simode0 = simode0_of 0;
      simode1 = simode1_of 0;
      dmacntrl0 = dmacntrl0_of 0;
      dmacntrl1 = dmacntrl1_of 0;
      brstcntrl = 0;
    }

abbrev pub status_reset : Status
status_reset =
    record {
      spiordy = false;
      scsirsti = false;
      busfree = false;
      scsiperr = false;
      phasechg = false;
      reqinit = false;
      syncerr = false;
      fwerr = false;
    }

abbrev pub latches_reset : Latches
latches_reset =
    record { spiordy = false; scsirsti = false; busfree = false; scsiperr = false; phasechg = false; reqinit = false }

-- R-1: "All is 0, released and idle after power reset."
abbrev pub no_selection : Selection
no_selection = record { seldo = false; seldi = false; selingo = false; selto = false }

abbrev pub sequencer_reset : Sequencer
sequencer_reset =
    record { phase = Idle; ticks = 0; noted = false; selid = 0; status = no_selection; latches = no_selection }

unfoldable pub power_reset : State
power_reset =
    record {
      lines = released;
      registers = registers_reset;
      transfer = record { host = []; scsi = []; counter = 0; offset = 0; ack = false; last = 0 };
      status = status_reset;
      latches = latches_reset;
      stack = record { bytes = replicate 32 0; pointer = 0 };
      keptbad = false;
      quiet = 0;
      identity = 0;
      sequencer = sequencer_reset;
    }
