-- The chip's state in the bytes of one array, and read back from them.
use Rattle.std.specs.Prelude.{ℕ, ◌+◌, ◌*◌, ◌%◌, false, ◌≡◌, List, [], ◌∷◌, ◌++◌, eqb, length, take, drop, get_or}
use Rattle.rules.specs.Numbers.{bit, one, byte_of, padded}
use Rattle.rules.specs.Counter.{counter_byte}
use Rattle.rules.specs.Registers.{scsiseq_of, scsiseq_byte, sxfrctl0_of, sxfrctl0_byte, sxfrctl1_of, sxfrctl1_byte, scsisig_of, scsirate_of, scsiid_of, simode0_of, simode0_byte, simode1_of, simode1_byte, dmacntrl0_of, dmacntrl0_byte, dmacntrl1_of, dmacntrl1_byte}
use Rattle.rules.specs.State.{State, Transfer}
use Rattle.rules.specs.Ranges.{InRange, InBytes}
use Rattle.image.specs.Layout.{ack_place, brstcntrl_place, control_place, counter_high_place, counter_low_place, counter_middle_place, data_place, dmacntrl0_place, dmacntrl1_place, host_bytes_place, host_count_place, identity_place, kept_place, last_place, latches_place, offset_place, pointer_place, quiet_place, scsi_bytes_place, scsi_count_place, scsidat_place, scsiid_place, scsirate_place, scsiseq_place, scsisig_place, selection_latches_place, selid_place, sequencer_place, simode0_place, simode1_place, stack_bytes_place, status_place, sxfrctl0_place, sxfrctl1_place, ticks_high_place, ticks_low_place, ticks_middle_place, upper_place}
use Rattle.rules.specs.declared.registers.Scsisig.{Scsisig}
use Rattle.rules.specs.declared.registers.Scsirate.{Scsirate}
use Rattle.rules.specs.declared.registers.Scsiid.{Scsiid}
use Rattle.rules.specs.declared.registers.Registers.{Registers}
use Rattle.rules.specs.declared.records.Lines.{Lines}
use Rattle.rules.specs.declared.chip.Status.{Status}
use Rattle.rules.specs.declared.chip.Latches.{Latches}
use Rattle.rules.specs.declared.chip.Phase.{Phase}
use Rattle.rules.specs.declared.chip.Phase.TheVariants.{Idle, Waiting, Arbitrating, Clearing, Selecting, Holding, Answering, Answered}
use Rattle.rules.specs.declared.chip.Selection.{Selection}
use Rattle.rules.specs.declared.chip.Sequencer.{Sequencer}
use Rattle.rules.specs.Seen.{phase_number}

-- bytes that no register read gives: 343h and 344h, 345h as written
abbrev pub scsisig_byte : Scsisig → ℕ
scsisig_byte g = byte_of g.cdexp g.ioexp g.msgexp g.atno g.selo g.bsyo g.reqo g.acko

abbrev pub scsirate_byte : Scsirate → ℕ
scsirate_byte r = r.sxfr * 16 + r.sofs

abbrev pub scsiid_byte : Scsiid → ℕ
scsiid_byte r = r.oid * 16 + r.tid

abbrev pub status_byte : Status → ℕ
status_byte t =
    byte_of t.spiordy t.scsirsti t.busfree t.scsiperr t.phasechg t.reqinit t.syncerr t.fwerr

abbrev pub status_of : ℕ → Status
status_of v =
    record {
      spiordy = bit v 7;
      scsirsti = bit v 6;
      busfree = bit v 5;
      scsiperr = bit v 4;
      phasechg = bit v 3;
      reqinit = bit v 2;
      syncerr = bit v 1;
      fwerr = bit v 0;
    }

abbrev pub latches_byte : Latches → ℕ
latches_byte k = byte_of false false k.spiordy k.scsirsti k.busfree k.scsiperr k.phasechg k.reqinit

abbrev pub latches_of : ℕ → Latches
latches_of v =
    record {
      spiordy = bit v 5;
      scsirsti = bit v 4;
      busfree = bit v 3;
      scsiperr = bit v 2;
      phasechg = bit v 1;
      reqinit = bit v 0;
    }

-- R-1: the phase by its number, and the byte that it stands in with the statuses and what is noted
abbrev pub phase_of : ℕ → Phase
phase_of n =
    get_or (Idle ∷ Waiting ∷ Arbitrating ∷ Clearing ∷ Selecting ∷ Holding ∷ Answering ∷ Answered ∷ []) n Idle

abbrev pub sequencer_byte : Sequencer → ℕ
sequencer_byte q =
    let t = q.status in
    byte_of t.seldo t.seldi t.selto q.noted t.selingo false false false + phase_number q.phase

abbrev pub statuses_of : ℕ → Selection
statuses_of v = record { seldo = bit v 7; seldi = bit v 6; selingo = bit v 3; selto = bit v 5 }

abbrev pub selection_byte : Selection → ℕ
selection_byte k = byte_of false false false false k.seldo k.seldi k.selingo k.selto

abbrev pub selection_of : ℕ → Selection
selection_of v = record { seldo = bit v 3; seldi = bit v 2; selingo = bit v 1; selto = bit v 0 }

-- the sequencer, its latches, its ticks with the highest byte first, and what 345h reads
abbrev pub sequencer_bytes : Sequencer → List ℕ
sequencer_bytes q =
    sequencer_byte q
    ∷ selection_byte q.latches
    ∷ counter_byte 2 q.ticks
    ∷ counter_byte 1 q.ticks
    ∷ counter_byte 0 q.ticks
    ∷ q.selid
    ∷ []

-- parity and RST, then the lines in the order of 343h
abbrev pub upper_byte : Lines → ℕ
upper_byte l = byte_of false false false false false false l.parity l.rst

abbrev pub control_byte : Lines → ℕ
control_byte l = byte_of l.cd l.io l.msg l.atn l.sel l.bsy l.req l.ack

-- the 35 bytes before the FIFOs and the stack
abbrev pub head_of : State → List ℕ
head_of s =
    scsiseq_byte s.registers.scsiseq
    ∷ sxfrctl0_byte s.registers.sxfrctl0
    ∷ sxfrctl1_byte s.registers.sxfrctl1
    ∷ scsisig_byte s.registers.scsisig
    ∷ scsirate_byte s.registers.scsirate
    ∷ scsiid_byte s.registers.scsiid
    ∷ s.registers.scsidat
    ∷ simode0_byte s.registers.simode0
    ∷ simode1_byte s.registers.simode1
    ∷ dmacntrl0_byte s.registers.dmacntrl0
    ∷ dmacntrl1_byte s.registers.dmacntrl1 0
    ∷ s.registers.brstcntrl
    ∷ status_byte s.status
    ∷ latches_byte s.latches
    ∷ s.lines.byte
    ∷ upper_byte s.lines
    ∷ control_byte s.lines
    ∷ s.transfer.offset
    ∷ one s.transfer.ack
    ∷ s.transfer.last
    ∷ s.quiet
    ∷ s.identity
    ∷ s.stack.pointer
    ∷ one s.keptbad
    ∷ sequencer_byte s.sequencer
    ∷ selection_byte s.sequencer.latches
    ∷ counter_byte 2 s.sequencer.ticks
    ∷ counter_byte 1 s.sequencer.ticks
    ∷ counter_byte 0 s.sequencer.ticks
    ∷ s.sequencer.selid
    ∷ length s.transfer.scsi
    ∷ length s.transfer.host
    ∷ counter_byte 2 s.transfer.counter
    ∷ counter_byte 1 s.transfer.counter
    ∷ counter_byte 0 s.transfer.counter
    ∷ []

-- one state has one image: FIFO bytes oldest first, 0 past the count
unfoldable pub image_of : State → List ℕ
image_of s = head_of s ++ padded 8 s.transfer.scsi ++ s.stack.bytes ++ padded 128 s.transfer.host

abbrev pub registers_at : List ℕ → Registers
registers_at m =
    record {
      scsiseq = scsiseq_of (get_or m scsiseq_place 0);
      sxfrctl0 = sxfrctl0_of (get_or m sxfrctl0_place 0);
      sxfrctl1 = sxfrctl1_of (get_or m sxfrctl1_place 0);
      scsisig = scsisig_of false (get_or m scsisig_place 0);
      scsirate = scsirate_of (get_or m scsirate_place 0);
      scsiid = scsiid_of (get_or m scsiid_place 0);
      scsidat = get_or m scsidat_place 0;
      simode0 = simode0_of (get_or m simode0_place 0);
      simode1 = simode1_of (get_or m simode1_place 0);
      dmacntrl0 = dmacntrl0_of (get_or m dmacntrl0_place 0);
      dmacntrl1 = dmacntrl1_of (get_or m dmacntrl1_place 0);
      brstcntrl = get_or m brstcntrl_place 0;
    }

abbrev pub lines_at : List ℕ → Lines
lines_at m =
    record {
      byte = get_or m data_place 0;
      parity = bit (get_or m upper_place 0) 1;
      rst = bit (get_or m upper_place 0) 0;
      cd = bit (get_or m control_place 0) 7;
      io = bit (get_or m control_place 0) 6;
      msg = bit (get_or m control_place 0) 5;
      atn = bit (get_or m control_place 0) 4;
      sel = bit (get_or m control_place 0) 3;
      bsy = bit (get_or m control_place 0) 2;
      req = bit (get_or m control_place 0) 1;
      ack = bit (get_or m control_place 0) 0;
    }

abbrev pub transfer_at : List ℕ → Transfer
transfer_at m =
    record {
      host = take (get_or m host_count_place 0) (drop host_bytes_place m);
      scsi = take (get_or m scsi_count_place 0) (drop scsi_bytes_place m);
      counter = get_or m counter_low_place 0 + 256 * get_or m counter_middle_place 0 + 65536 * get_or m counter_high_place 0;
      offset = get_or m offset_place 0;
      ack = eqb (get_or m ack_place 0) 1;
      last = get_or m last_place 0;
    }

abbrev pub sequencer_at : List ℕ → Sequencer
sequencer_at m =
    let v = get_or m sequencer_place 0 in
    record {
      phase = phase_of (v % 8);
      ticks = get_or m ticks_low_place 0 + 256 * get_or m ticks_middle_place 0 + 65536 * get_or m ticks_high_place 0;
      noted = bit v 4;
      selid = get_or m selid_place 0;
      status = statuses_of v;
      latches = selection_of (get_or m selection_latches_place 0);
    }

-- the state that an image stands for
unfoldable pub state_at : List ℕ → State
state_at m =
    record {
      lines = lines_at m;
      registers = registers_at m;
      transfer = transfer_at m;
      status = status_of (get_or m status_place 0);
      latches = latches_of (get_or m latches_place 0);
      stack = record { bytes = take 32 (drop stack_bytes_place m); pointer = get_or m pointer_place 0 };
      keptbad = eqb (get_or m kept_place 0) 1;
      quiet = get_or m quiet_place 0;
      identity = get_or m identity_place 0;
      sequencer = sequencer_at m;
    }

-- an array that is the image of a state in range
pub record IsImage (m : List ℕ) : Type 0 where
  pub packed : m ≡ image_of (state_at m)
  pub range : InRange (state_at m)
  pub bytes : InBytes (state_at m)
