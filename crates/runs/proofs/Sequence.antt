-- The concrete clearing reaches the start of a run, whatever the lines are.
use Rattle.std.specs.Prelude.{Some}
use mathlib.Core.Path.{◌≡◌, refl, sym, ap, ◌∙◌}
use mathlib.Core.Bool.{Bool, true, false, and-false, or-true}
use mathlib.Core.List.{List, [], ◌∷◌, append-nil}
use Prim.Native.Nat.{ℕ, ◌+◌, ◌≤◌}
use native.Mathlib.Omega.{arith}
use lib.ListN.{length}
use borrow.Author.Tests.{le-ltb}
use Rattle.rules.specs.Numbers.{bit}
use Rattle.rules.specs.Map.{offset_of, table, written_at}
use Rattle.rules.specs.State.{State}
use Rattle.rules.specs.Seen.{rst_seen, normal, path}
use Rattle.rules.specs.Records.{decode, fields_of, well_formed}
use Rattle.rules.specs.Events.{writes, reads, value_of, offered, asked, port_write, port_read, lines_after}
use Rattle.rules.specs.Codes.{absent, test_value, shut, no_room, no_bytes, access_code}
use Rattle.rules.specs.StepA.{clrstcnt, clrch, rstfifo, latch_access, automatic_ack, registers_a, host_a, counter_a, transfer_a, after_a}
use Rattle.rules.specs.StepB.{ack_released, bus_reset, req_rises, beyond, after_req_rises, bus_freed, after_sequencer, phase_changed, at_req, after_b}
use Rattle.rules.specs.StepC.{conditions, started, turns, settled_c}
use Rattle.rules.specs.StepD.{finished, after_d}
use Rattle.rules.specs.Step.{done, access, step_event, step_decoded, step, after}
use Rattle.rules.specs.declared.registers.Registers.{Registers}
use Rattle.rules.specs.declared.chip.Phase.TheVariants.{Idle}
use Rattle.rules.specs.declared.codes.Code.TheVariants.{Done}
use Rattle.rules.specs.declared.map.Register.{Register}
use Rattle.rules.specs.declared.map.Register.TheVariants.{SCSISEQ, SXFRCTL0, SCSISIGO, DMACNTRL0}
use Rattle.rules.specs.declared.records.Event.{Event}
use Rattle.rules.specs.declared.records.Event.TheVariants.{Write}
use Rattle.rules.proofs.InOrder.{Spares, before_req, after_req, Apart, b_leaves, scsien_stays, acko_stays, ioexp_stays}
use Rattle.rules.proofs.Refusals.{no_rise, not_beyond}
use Rattle.rules.proofs.StayIdle.{SequencerOff, idle_stays, idle_cleared, reset_idles}
use Rattle.runs.specs.Run.{Starts, accepted, took_at_req}
use Rattle.runs.specs.Clearing.{switched_off, both_empty, may_clear, all_clear, all_done, write_record, manual_value, reset_value, idle_value, control_value, clear_value, signal_value, open_value, from_manual, clearing_of, short_clearing_of}
use Rattle.runs.proofs.Stages.{write_a, host_b, scsi_over_b}
use Rattle.runs.proofs.Settles.{settle_still, no_path_no_move, disabled_no_handshake}
use Rattle.runs.proofs.Clearing.{empty_settles}

-- a register write brings no edge of REQ
module _ (s : State) (offset value : ℕ) where
  no_req : req_rises s (at_req s (Write offset value)) ≡ false
  unfolding lines_after
  no_req = no_rise s (Write offset value) refl

  stores_none : took_at_req s (Write offset value) ≡ []
  unfolding took_at_req
  stores_none = rw no_req

  none_beyond : beyond s (at_req s (Write offset value)) ≡ false
  unfolding lines_after
  none_beyond = not_beyond s (Write offset value) refl

-- Manual mode with SCSIEN 0
record ManualMode (r : Registers) : Type 0 where
  scsien : r.sxfrctl0.scsien ≡ false
  dmaen : r.sxfrctl0.dmaen ≡ false
  spioen : r.sxfrctl0.spioen ≡ false

mode_b : (s : State) (e : Event) → ManualMode (after_a s e).registers → ManualMode (after_b s e).registers
mode_b s e m =
    record {
      scsien = scsien_stays s e m.scsien;
      dmaen = ap (λ (a : Apart). a.dmaen) (b_leaves s e) ∙ m.dmaen;
      spioen = ap (λ (a : Apart). a.spioen) (b_leaves s e) ∙ m.spioen;
    }

-- the direction and the counter are as A leaves them
pub write_b : (s : State) (e : Event) → (after_a s e).registers.dmacntrl0.write ≡ true → (after_b s e).registers.dmacntrl0.write ≡ true
write_b s e h = sym (write_a s e) ∙ h

pub counter_b : (s : State) (e : Event) → (after_b s e).transfer.counter ≡ (after_a s e).transfer.counter
counter_b s e = ap (λ (a : Apart). a.counter) (b_leaves s e)

-- without DMAEN there is no path, and settling changes nothing
pub manual_no_path : (r : Registers) → r.sxfrctl0.dmaen ≡ false → path r ≡ false
unfolding path normal
manual_no_path r h = rw (h, and-false)

no_path_disables : (s : State) → path s.registers ≡ false → (conditions s).enabled ≡ false
unfolding conditions
no_path_disables s h = rw (h, and-false)

pub pathless_settles : (s : State) (e : Event) → (after_b s e).registers.sxfrctl0.dmaen ≡ false → settled_c s e ≡ started (after_b s e)
unfolding settled_c conditions started
pathless_settles s e d =
    let p = manual_no_path (after_b s e).registers d in
    settle_still (conditions (after_b s e)) (started (after_b s e)) (no_path_no_move (conditions (after_b s e)) (after_b s e).transfer p)
    (disabled_no_handshake (conditions (after_b s e)) (after_b s e).transfer (no_path_disables (after_b s e) p)) turns

manual_settles : (s : State) (e : Event) → ManualMode (after_b s e).registers → settled_c s e ≡ started (after_b s e)
manual_settles s e m = pathless_settles s e m.dmaen

-- the write of a register that is there, with room in the host FIFO: it is done
pub record Plain (r : Register) (value : ℕ) : Type 0 where
  pub decoded : decode (write_record r value) ≡ Some (Write (offset_of r) value)
  pub present : absent (Write (offset_of r) value) ≡ false
  pub untested : test_value (Write (offset_of r) value) ≡ false
  pub portless : (registers : Registers) → shut registers (Write (offset_of r) value) ≡ false
  pub offers : offered (Write (offset_of r) value) ≡ []

module _ (s : State) (r : Register) (value : ℕ) (p : Plain r value) (room : length s.transfer.host ≤ 128) where
  abbrev written : Event
  written = Write (offset_of r) value

  has_room : no_room s written ≡ false
  unfolding no_room
  has_room = rw p.offers (le-ltb 128 (length s.transfer.host + 0) (omega arith))

  asks_nothing : no_bytes s written ≡ false
  unfolding no_bytes asked
  asks_nothing = le-ltb (length s.transfer.host) 0 (omega arith)

  write_code : access_code s written ≡ Done
  unfolding access_code
  write_code = rw (p.present, p.untested, p.portless s.registers, has_room, asks_nothing)

  write_steps : step s (write_record r value) ≡ done s written
  unfolding step step_decoded step_event access
  write_steps = rw (p.decoded, write_code)

  done_code_0 : (done s written).code ≡ Done
  unfolding done
  done_code_0 = rw (none_beyond s (offset_of r) value)

  pub write_answers : (step s (write_record r value)).code ≡ Done
  write_answers = rw write_steps done_code_0

  write_leaves_lem : (step s (write_record r value)).state ≡ after_d s written
  unfolding done
  write_leaves_lem = rw write_steps

  -- a sequencer that is off stays so, but for a write to 340h
  still_off : writes written SCSISEQ ≡ false → SequencerOff s → SequencerOff (step s (write_record r value)).state
  still_off w o = rw write_leaves_lem (idle_stays s written w o)

  -- where settling changes nothing, the write leaves what B leaves
  module _ (rest : settled_c s written ≡ started (after_b s written)) where
    after_registers : (step s (write_record r value)).state.registers ≡ (after_b s written).registers
    unfolding done after_d finished
    after_registers = rw write_steps

    after_transfer : (step s (write_record r value)).state.transfer ≡ (after_b s written).transfer
    unfolding done after_d finished started
    after_transfer = rw (write_steps, rest)

-- the writes are plain
plain_manual : Plain SXFRCTL0 manual_value
unfolding decode fields_of well_formed absent written_at table test_value writes shut port_write port_read offered
plain_manual = record { decoded = refl; present = refl; untested = refl; portless = λ x. refl; offers = refl }

plain_reset : Plain SCSISEQ reset_value
unfolding decode fields_of well_formed absent written_at table test_value writes shut port_write port_read offered
plain_reset = record { decoded = refl; present = refl; untested = refl; portless = λ x. refl; offers = refl }

plain_idle : Plain SCSISEQ idle_value
unfolding decode fields_of well_formed absent written_at table test_value writes shut port_write port_read offered
plain_idle = record { decoded = refl; present = refl; untested = refl; portless = λ x. refl; offers = refl }

plain_control : (eightbit : Bool) → Plain DMACNTRL0 (control_value eightbit)
unfolding decode fields_of well_formed absent written_at table test_value writes shut port_write port_read offered
plain_control true = record { decoded = refl; present = refl; untested = refl; portless = λ x. refl; offers = refl }
plain_control false = record { decoded = refl; present = refl; untested = refl; portless = λ x. refl; offers = refl }

plain_clear : Plain SXFRCTL0 clear_value
unfolding decode fields_of well_formed absent written_at table test_value writes shut port_write port_read offered
plain_clear = record { decoded = refl; present = refl; untested = refl; portless = λ x. refl; offers = refl }

plain_signals : Plain SCSISIGO signal_value
unfolding decode fields_of well_formed absent written_at table test_value writes shut port_write port_read offered
plain_signals = record { decoded = refl; present = refl; untested = refl; portless = λ x. refl; offers = refl }

plain_open : Plain SXFRCTL0 open_value
unfolding decode fields_of well_formed absent written_at table test_value writes shut port_write port_read offered
plain_open = record { decoded = refl; present = refl; untested = refl; portless = λ x. refl; offers = refl }

-- 341h with 00h: Manual mode, and the host FIFO as it was
record Manual (s : State) : Type 0 where
  room : length s.transfer.host ≤ 128
  mode : ManualMode s.registers

module _ (s : State) (room : length s.transfer.host ≤ 128) where
  manual_a : ManualMode (after_a s (Write 0x01 manual_value)).registers
  unfolding after_a registers_a writes value_of
  manual_a = record { scsien = refl; dmaen = refl; spioen = refl }

  manual_host : (after_b s (Write 0x01 manual_value)).transfer.host ≡ s.transfer.host
  unfolding after_a transfer_a host_a rstfifo writes port_write asked
  manual_host = host_b s (Write 0x01 manual_value)

  after_manual : Manual (step s (write_record SXFRCTL0 manual_value)).state
  after_manual =
      let mode = mode_b s (Write 0x01 manual_value) manual_a in
      let rest = manual_settles s (Write 0x01 manual_value) mode in
      record {
        room = rw (after_transfer s SXFRCTL0 manual_value plain_manual room rest, manual_host) room;
        mode = rw (after_registers s SXFRCTL0 manual_value plain_manual room rest) mode;
      }

-- 340h: Manual mode and the host FIFO as they were
module _ (s : State) (m : Manual s) (value : ℕ) (p : Plain SCSISEQ value) where
  sequence_a : ManualMode (after_a s (Write 0x00 value)).registers
  unfolding after_a registers_a writes value_of
  sequence_a = record { scsien = m.mode.scsien; dmaen = m.mode.dmaen; spioen = m.mode.spioen }

  sequence_host : (after_b s (Write 0x00 value)).transfer.host ≡ s.transfer.host
  unfolding after_a transfer_a host_a rstfifo writes port_write asked
  sequence_host = host_b s (Write 0x00 value)

  after_sequence : Manual (step s (write_record SCSISEQ value)).state
  after_sequence =
      let mode = mode_b s (Write 0x00 value) sequence_a in
      let rest = manual_settles s (Write 0x00 value) mode in
      record {
        room = rw (after_transfer s SCSISEQ value p m.room rest, sequence_host) m.room;
        mode = rw (after_registers s SCSISEQ value p m.room rest) mode;
      }

-- with SCSIRSTO: the sequencer is idle, whatever it was
after_reset : (s : State) → Manual s → (step s (write_record SCSISEQ reset_value)).state.sequencer.phase ≡ Idle
unfolding after_a registers_a lines_after rst_seen writes value_of
after_reset s m =
    rw (write_leaves_lem s SCSISEQ reset_value plain_reset m.room) (reset_idles s (Write 0x00 reset_value) (or-true s.lines.rst))

-- and then with 0: off
after_idle : (s : State) → Manual s → s.sequencer.phase ≡ Idle → SequencerOff (step s (write_record SCSISEQ idle_value)).state
unfolding writes value_of
after_idle s m i = rw (write_leaves_lem s SCSISEQ idle_value plain_idle m.room) (idle_cleared s (Write 0x00 idle_value) refl refl i)

-- 352h with RSTFIFO and WRITE
record Emptied (s : State) : Type 0 where
  host : s.transfer.host ≡ []
  mode : ManualMode s.registers
  write : s.registers.dmacntrl0.write ≡ true

module _ (s : State) (m : Manual s) (eightbit : Bool) where
  emptied_a : ManualMode (after_a s (Write 0x12 (control_value eightbit))).registers
  unfolding after_a registers_a writes value_of
  emptied_a = record { scsien = m.mode.scsien; dmaen = m.mode.dmaen; spioen = m.mode.spioen }

  emptied_write : (after_b s (Write 0x12 (control_value eightbit))).registers.dmacntrl0.write ≡ true
  unfolding after_a registers_a writes value_of
  emptied_write = write_b s (Write 0x12 (control_value eightbit)) (go eightbit)
    where
      go : (b : Bool) → bit (control_value b) 3 ≡ true
      go true = refl
      go false = refl

  emptied_host : (after_b s (Write 0x12 (control_value eightbit))).transfer.host ≡ []
  unfolding after_a transfer_a host_a rstfifo writes value_of
  emptied_host = host_b s (Write 0x12 (control_value eightbit)) ∙ rw (go eightbit)
    where
      go : (b : Bool) → bit (control_value b) 1 ≡ true
      go true = refl
      go false = refl

  after_emptied : Emptied (step s (write_record DMACNTRL0 (control_value eightbit))).state
  after_emptied =
      let mode = mode_b s (Write 0x12 (control_value eightbit)) emptied_a in
      let rest = manual_settles s (Write 0x12 (control_value eightbit)) mode in
      let p = plain_control eightbit in
      record {
        host = rw (after_transfer s DMACNTRL0 (control_value eightbit) p m.room rest) emptied_host;
        mode = rw (after_registers s DMACNTRL0 (control_value eightbit) p m.room rest) mode;
        write = rw (after_registers s DMACNTRL0 (control_value eightbit) p m.room rest) emptied_write;
      }

-- 341h with CLRSTCNT and CLRCH
record Zeroed (s : State) : Type 0 where
  host : s.transfer.host ≡ []
  scsi : s.transfer.scsi ≡ []
  counter : s.transfer.counter ≡ 0
  offset : s.transfer.offset ≡ 0
  mode : ManualMode s.registers
  write : s.registers.dmacntrl0.write ≡ true

-- an offset of 0 stays 0 where no REQ rises
abbrev pub At0 : State → Type 0
At0 n = n.transfer.offset ≡ 0

pub at0 : Spares At0
unfolding ack_released bus_reset bus_freed after_sequencer phase_changed
at0 =
    record {
      released = λ n h. h;
      reset = λ n h. refl;
      ticked = λ n ticks h. h;
      freed = λ n h. refl;
      sequenced = λ n tick before h. h;
      changed = λ n h. h;
    }

offset_over_b : (s : State) (o v : ℕ) → (after_a s (Write o v)).transfer.offset ≡ 0 → (after_b s (Write o v)).transfer.offset ≡ 0
unfolding after_req_rises
offset_over_b s o v h = after_req At0 at0 s (Write o v) (rw (no_req s o v) (before_req At0 at0 s (Write o v) h))

scsi_kept : (s : State) (o v : ℕ) → (after_b s (Write o v)).transfer.scsi ≡ (after_a s (Write o v)).transfer.scsi
scsi_kept s o v = scsi_over_b s (Write o v) ∙ rw (stores_none s o v) (append-nil (after_a s (Write o v)).transfer.scsi)

module _ (s : State) (m : Emptied s) where
  zeroed_room : length s.transfer.host ≤ 128
  zeroed_room = rw m.host (omega arith)

  zeroed_mode : ManualMode (after_a s (Write 0x01 clear_value)).registers
  unfolding after_a registers_a writes value_of
  zeroed_mode = record { scsien = refl; dmaen = refl; spioen = refl }

  zeroed_write : (after_b s (Write 0x01 clear_value)).registers.dmacntrl0.write ≡ true
  unfolding after_a registers_a writes value_of
  zeroed_write = write_b s (Write 0x01 clear_value) m.write

  zeroed_a : ((after_a s (Write 0x01 clear_value)).transfer.scsi ≡ []) × ((after_a s (Write 0x01 clear_value)).transfer.offset ≡ 0)
  unfolding after_a transfer_a clrch writes value_of
  zeroed_a = (refl, refl)

  zeroed_b : ((after_b s (Write 0x01 clear_value)).transfer.host ≡ []) × ((after_b s (Write 0x01 clear_value)).transfer.counter ≡ 0)
  unfolding after_a transfer_a host_a counter_a clrstcnt rstfifo writes value_of port_write asked
  zeroed_b = (host_b s (Write 0x01 clear_value) ∙ m.host, counter_b s (Write 0x01 clear_value))

  after_zeroed : Zeroed (step s (write_record SXFRCTL0 clear_value)).state
  after_zeroed =
      let mode = mode_b s (Write 0x01 clear_value) zeroed_mode in
      let rest = manual_settles s (Write 0x01 clear_value) mode in
      let transfer = after_transfer s SXFRCTL0 clear_value plain_clear zeroed_room rest in
      let registers = after_registers s SXFRCTL0 clear_value plain_clear zeroed_room rest in
      record {
        host = rw transfer zeroed_b.0;
        scsi = rw transfer (scsi_kept s 0x01 clear_value ∙ zeroed_a.0);
        counter = rw transfer zeroed_b.1;
        offset = rw transfer (offset_over_b s 0x01 clear_value zeroed_a.1);
        mode = rw registers mode;
        write = rw registers zeroed_write;
      }

-- 343h with ACKO 0 and IOEXP 0
record Ready (s : State) : Type 0 where
  zeroed : Zeroed s
  ioexp : s.registers.scsisig.ioexp ≡ false
  acko : s.registers.scsisig.acko ≡ false

module _ (s : State) (m : Zeroed s) where
  ready_room : length s.transfer.host ≤ 128
  ready_room = rw m.host (omega arith)

  ready_mode : ManualMode (after_a s (Write 0x03 signal_value)).registers
  unfolding after_a registers_a writes value_of
  ready_mode = record { scsien = m.mode.scsien; dmaen = m.mode.dmaen; spioen = m.mode.spioen }

  ready_write : (after_b s (Write 0x03 signal_value)).registers.dmacntrl0.write ≡ true
  unfolding after_a registers_a writes value_of
  ready_write = write_b s (Write 0x03 signal_value) m.write

  ready_signals : ((after_a s (Write 0x03 signal_value)).registers.scsisig.ioexp ≡ false) × ((after_a s (Write 0x03 signal_value)).registers.scsisig.acko ≡ false)
  unfolding after_a registers_a writes value_of
  ready_signals = (refl, refl)

  ready_a : ((after_a s (Write 0x03 signal_value)).transfer.scsi ≡ []) × ((after_a s (Write 0x03 signal_value)).transfer.offset ≡ 0)
  unfolding after_a transfer_a clrch writes value_of
  ready_a = (m.scsi, m.offset)

  ready_b : ((after_b s (Write 0x03 signal_value)).transfer.host ≡ []) × ((after_b s (Write 0x03 signal_value)).transfer.counter ≡ 0)
  unfolding after_a transfer_a host_a counter_a clrstcnt rstfifo automatic_ack latch_access writes reads value_of port_write asked
  ready_b = (host_b s (Write 0x03 signal_value) ∙ m.host, counter_b s (Write 0x03 signal_value) ∙ m.counter)

  after_ready : Ready (step s (write_record SCSISIGO signal_value)).state
  after_ready =
      let mode = mode_b s (Write 0x03 signal_value) ready_mode in
      let rest = manual_settles s (Write 0x03 signal_value) mode in
      let transfer = after_transfer s SCSISIGO signal_value plain_signals ready_room rest in
      let registers = after_registers s SCSISIGO signal_value plain_signals ready_room rest in
      record {
        zeroed =
            record {
              host = rw transfer ready_b.0;
              scsi = rw transfer (scsi_kept s 0x03 signal_value ∙ ready_a.0);
              counter = rw transfer ready_b.1;
              offset = rw transfer (offset_over_b s 0x03 signal_value ready_a.1);
              mode = rw registers mode;
              write = rw registers ready_write;
            };
        ioexp = rw registers (ioexp_stays s (Write 0x03 signal_value) ready_signals.0);
        acko = rw registers (acko_stays s (Write 0x03 signal_value) ready_signals.1);
      }

pub outward_path : (r : Registers) → r.dmacntrl0.write ≡ true → r.sxfrctl0.dmaen ≡ true → r.sxfrctl0.spioen ≡ false → r.scsisig.ioexp ≡ false → path r ≡ true
unfolding path normal
outward_path r w d p i = rw (w, d, p, i)

-- 341h with SCSIEN, DMAEN, CHEN: the path opens on empty FIFOs
module _ (s : State) (m : Ready s) (o : SequencerOff s) where
  open_room : length s.transfer.host ≤ 128
  open_room = rw m.zeroed.host (omega arith)

  open_registers : ((after_b s (Write 0x01 open_value)).registers.dmacntrl0.write ≡ true) × ((after_b s (Write 0x01 open_value)).registers.sxfrctl0.dmaen ≡ true) × ((after_b s (Write 0x01 open_value)).registers.sxfrctl0.spioen ≡ false)
  unfolding after_a registers_a writes value_of
  open_registers =
      let e = Write 0x01 open_value in
      (write_b s e m.zeroed.write, ap (λ (a : Apart). a.dmaen) (b_leaves s e), ap (λ (a : Apart). a.spioen) (b_leaves s e))

  open_signals : ((after_a s (Write 0x01 open_value)).registers.scsisig.ioexp ≡ false) × ((after_a s (Write 0x01 open_value)).registers.scsisig.acko ≡ false)
  unfolding after_a registers_a writes value_of
  open_signals = (m.ioexp, m.acko)

  open_a : ((after_a s (Write 0x01 open_value)).transfer.scsi ≡ []) × ((after_a s (Write 0x01 open_value)).transfer.offset ≡ 0)
  unfolding after_a transfer_a clrch writes value_of
  open_a = (m.zeroed.scsi, m.zeroed.offset)

  open_b : ((after_b s (Write 0x01 open_value)).transfer.host ≡ []) × ((after_b s (Write 0x01 open_value)).transfer.counter ≡ 0)
  unfolding after_a transfer_a host_a counter_a clrstcnt rstfifo automatic_ack latch_access writes reads value_of port_write asked
  open_b = (host_b s (Write 0x01 open_value) ∙ m.zeroed.host, counter_b s (Write 0x01 open_value) ∙ m.zeroed.counter)

  after_open : Starts true (step s (write_record SXFRCTL0 open_value)).state
  unfolding writes
  after_open =
      let off = still_off s SXFRCTL0 open_value plain_open open_room refl o in
      let scsi = scsi_kept s 0x01 open_value ∙ open_a.0 in
      let rest = empty_settles s (Write 0x01 open_value) open_registers.0 open_b.0 scsi in
      let transfer = after_transfer s SXFRCTL0 open_value plain_open open_room rest in
      let registers = after_registers s SXFRCTL0 open_value plain_open open_room rest in
      record {
        host = rw transfer open_b.0;
        scsi = rw transfer scsi;
        counter = rw transfer open_b.1;
        offset = rw transfer (offset_over_b s 0x01 open_value open_a.1);
        acko = rw registers (acko_stays s (Write 0x01 open_value) open_signals.1);
        opened =
            rw registers
            (outward_path (after_b s (Write 0x01 open_value)).registers open_registers.0 open_registers.1 open_registers.2
            (ioexp_stays s (Write 0x01 open_value) open_signals.0));
        direction = rw registers open_registers.0;
        enselo = off.enselo;
        enseli = off.enseli;
        enrseli = off.enrseli;
        idle = off.idle;
      }

-- Manual mode with SCSIEN 0 is within the paper's condition
mode_clears : (s : State) (bytes : List ℕ) → ManualMode (step s bytes).state.registers → may_clear s bytes ≡ true
unfolding may_clear switched_off
mode_clears s bytes m = rw (m.scsien, m.spioen)

-- and so is the opening of the path on empty FIFOs
ready_empty : (s : State) → Ready s → both_empty s ≡ true
unfolding both_empty
ready_empty s m = rw (m.zeroed.host, m.zeroed.scsi)

open_takes_none : (s : State) → Ready s → accepted s (write_record SXFRCTL0 open_value) ≡ []
open_takes_none s m = rw (write_answers s SXFRCTL0 open_value plain_open (rw m.zeroed.host (omega arith)), plain_open.decoded) plain_open.offers

open_clears : (s : State) → Ready s → may_clear s (write_record SXFRCTL0 open_value) ≡ true
unfolding may_clear
open_clears s m =
    rw (ready_empty s m, open_takes_none s m) (or-true (switched_off (step s (write_record SXFRCTL0 open_value)).state))

-- records that end at a start, keep the paper's condition, and get code 0 each
pub record Works (s : State) (records : List (List ℕ)) : Type 0 where
  pub starts : Starts true (after s records)
  pub allowed : all_clear s records ≡ true
  pub answered : all_done s records ≡ true

works_after : (s : State) (bytes : List ℕ) (more : List (List ℕ)) → may_clear s bytes ≡ true → (step s bytes).code ≡ Done → Works (step s bytes).state more → Works s (bytes ∷ more)
works_after s bytes more a c w = record { starts = w.starts; allowed = rw a w.allowed; answered = rw c w.answered }

-- from Manual mode with the sequencer off
from_manual_lem : (s : State) (eightbit : Bool) → Manual s → SequencerOff s → Works s (from_manual eightbit)
unfolding from_manual writes
from_manual_lem s eightbit m o =
    let s1 : State = (step s (write_record DMACNTRL0 (control_value eightbit))).state in
    let s2 : State = (step s1 (write_record SXFRCTL0 clear_value)).state in
    let s3 : State = (step s2 (write_record SCSISIGO signal_value)).state in
    let b = after_emptied s m eightbit in
    let c = after_zeroed s1 b in
    let d = after_ready s2 c in
    let p = still_off s DMACNTRL0 (control_value eightbit) (plain_control eightbit) m.room refl o in
    let q = still_off s1 SXFRCTL0 clear_value plain_clear (zeroed_room s1 b) refl p in
    let r = still_off s2 SCSISIGO signal_value plain_signals (ready_room s2 c) refl q in
    works_after s (write_record DMACNTRL0 (control_value eightbit)) _ (mode_clears s _ b.mode) (write_answers s DMACNTRL0 (control_value eightbit) (plain_control eightbit) m.room)
    (works_after s1 (write_record SXFRCTL0 clear_value) _ (mode_clears s1 _ c.mode) (write_answers s1 SXFRCTL0 clear_value plain_clear (zeroed_room s1 b))
    (works_after s2 (write_record SCSISIGO signal_value) _ (mode_clears s2 _ d.zeroed.mode) (write_answers s2 SCSISIGO signal_value plain_signals (ready_room s2 c))
    (works_after s3 (write_record SXFRCTL0 open_value) _ (open_clears s3 d) (write_answers s3 SXFRCTL0 open_value plain_open (open_room s3 d r))
    (record { starts = after_open s3 d r; allowed = refl; answered = refl }))))

abbrev pub ClearingWorks : State → Bool → Type 0
ClearingWorks s eightbit = Works s (clearing_of eightbit)

-- THE CLEARING THAT A DRIVER CAN USE: it reaches the start of a write run from every state whose host FIFO holds at most 128 bytes,
-- whatever the lines are and the sequencer does; it keeps the paper's condition, and each of its records gets code 0
pub clearing_works : (s : State) (eightbit : Bool) → length s.transfer.host ≤ 128 → ClearingWorks s eightbit
unfolding clearing_of
clearing_works s eightbit room =
    let s1 : State = (step s (write_record SXFRCTL0 manual_value)).state in
    let s2 : State = (step s1 (write_record SCSISEQ reset_value)).state in
    let s3 : State = (step s2 (write_record SCSISEQ idle_value)).state in
    let a = after_manual s room in
    let b = after_sequence s1 a reset_value plain_reset in
    let c = after_sequence s2 b idle_value plain_idle in
    works_after s (write_record SXFRCTL0 manual_value) _ (mode_clears s _ a.mode) (write_answers s SXFRCTL0 manual_value plain_manual room)
    (works_after s1 (write_record SCSISEQ reset_value) _ (mode_clears s1 _ b.mode) (write_answers s1 SCSISEQ reset_value plain_reset a.room)
    (works_after s2 (write_record SCSISEQ idle_value) _ (mode_clears s2 _ c.mode) (write_answers s2 SCSISEQ idle_value plain_idle b.room)
    (from_manual_lem s3 eightbit c (after_idle s2 b (after_reset s1 a)))))

-- where the sequencer is off, as a run leaves it, the clearing without a pulse on RST reaches one too
pub short_clearing_works : (s : State) (eightbit : Bool) → length s.transfer.host ≤ 128 → SequencerOff s → Works s (short_clearing_of eightbit)
unfolding short_clearing_of writes
short_clearing_works s eightbit room o =
    let a = after_manual s room in
    works_after s (write_record SXFRCTL0 manual_value) _ (mode_clears s _ a.mode) (write_answers s SXFRCTL0 manual_value plain_manual room)
    (from_manual_lem (step s (write_record SXFRCTL0 manual_value)).state eightbit a (still_off s SXFRCTL0 manual_value plain_manual room refl o))
