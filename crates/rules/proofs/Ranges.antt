-- Whatever records come, the state stays in range: from power reset the offset is at most 8, the SCSI FIFO at most 8, the host
-- FIFO at most 128, the counter below 16,777,216 and the pointer below 32.
use Rattle.std.specs.Prelude.{Option, Some, None}
use mathlib.Core.Path.{◌≡◌, refl, sym, ◌∙◌}
use mathlib.Core.Bool.{Bool, true, false, not, ◌&&◌, ◌||◌, cond}
use mathlib.Core.List.{List, [], ◌∷◌, ◌++◌}
use Prim.Native.Nat.{ℕ, zero, suc, ◌+◌, ◌/◌, ◌%◌, ◌^◌, ◌<◌, ◌≤◌}
use native.Mathlib.Omega.{arith}
use lib.Dec.{ltb, leb, eqb}
use lib.Bits.{or_lt}
use lib.Pow.{are_bytes, pow-lt}
use lib.ListN.{length, take, drop, get_or, set, replicate, length-append, length-take, length-drop, length-set}
use borrow.Author.Tests.{ltb-true, ltb-false, leb-false}
use Rattle.rules.specs.Numbers.{one, byte_of}
use Rattle.rules.specs.State.{State, Transfer, power_reset}
use Rattle.rules.specs.Seen.{phase_drives, own_id, other_id, phase_data, atn_seen, bsy_seen, sel_seen, io_seen, ack_seen, normal, limit, byte_driving, byte_driven, data_driven, data_seen}
use Rattle.rules.specs.Map.{read_at}
use Rattle.rules.specs.Records.{lines_of, payload_limit, offset_limit, event_of, well_formed, fields_of, payload_of, decode}
use Rattle.rules.specs.Events.{writes, reads, value_of, lines_after, offered, asked, port_write}
use Rattle.rules.specs.Counter.{counter_size, stepped_to, counter_step, counter_with}
use Rattle.rules.specs.Stack.{stack_byte, stack_place, pointer_after, stack_read, stack_written, pointed}
use Rattle.rules.specs.Interrupts.{phasemis, instat}
use Rattle.rules.specs.Reads.{scsisigi, scsibus, sstat0, sstat1, sstat2, sstat3, sstat4, dmastat, id_bytes, read_of, read_mapped, value_read}
use Rattle.rules.specs.Codes.{no_room, access_code, refused_value, is_done}
use Rattle.rules.specs.StepA.{clrstcnt, clrch, rstfifo, automatic_ack, registers_a, host_a, counter_a, transfer_a, stack_a, identity_a, gives_up, sequencer_a, after_a}
use Rattle.rules.specs.declared.counts.Direction.{Direction}
use Rattle.rules.specs.declared.counts.Direction.TheVariants.{Up, Down}
use Rattle.rules.specs.StepB.{ack_released, registers_with, offset_cleared, bus_reset, beyond_limit, req_within, synchronous_req, stored_byte, req_risen, quiet_after, bus_freed, after_sequencer, phase_changed, first_four, after_b}
use Rattle.rules.specs.Sequencer.{sequenced_of, waited, entered, selingo_cleared, selingo_raised, selto_raised, seldo_raised, seldi_raised, selection_freed, silenced, arbitrates, selects, times_out, reselected, connects, sequenced}
use Rattle.rules.proofs.Sequencing.{Ticking, sequenced_keeps}
use Rattle.rules.specs.declared.chip.Phase.{Phase}
use Rattle.rules.specs.declared.chip.Sequenced.{Sequenced}
use Rattle.rules.specs.declared.chip.Phase.TheVariants.{Idle, Waiting, Arbitrating, Clearing, Selecting, Holding, Answering, Answered}
use Rattle.rules.specs.declared.chip.Sequencer.{Sequencer}
use Rattle.rules.specs.Seen.{is_phase}
use Rattle.rules.specs.StepC.{Settling, conditions, can_move, move, can_handshake, stored_by, handshake, settle, turns, started, settled_c}
use Rattle.rules.specs.StepD.{finished, after_d}
use Rattle.rules.specs.Answers.{Stepped}
use Rattle.rules.specs.Step.{ended, done, access, joined, single_ticks, ticks_taken, step_event, step_decoded, step, after}
use Rattle.rules.specs.Ranges.{EventFits, DecodedFits, TransferFits, RegistersFit, StackFits, InRange, Bytes, TransferBytes, RegistersBytes, InBytes}
use Rattle.rules.specs.declared.registers.Scsiseq.{Scsiseq}
use Rattle.rules.specs.declared.registers.Sxfrctl0.{Sxfrctl0}
use Rattle.rules.specs.declared.registers.Scsisig.{Scsisig}
use Rattle.rules.specs.declared.registers.Scsirate.{Scsirate}
use Rattle.rules.specs.declared.registers.Scsiid.{Scsiid}
use Rattle.rules.specs.declared.registers.Registers.{Registers}
use Rattle.rules.specs.declared.map.Register.{Register}
use Rattle.rules.specs.declared.map.Register.TheVariants.{SCSISEQ, SXFRCTL0, SXFRCTL1, SCSISIGI, SCSISIGO, SCSIRATE, SELID, SCSIID, SCSIDAT, SCSIBUS, STCNT0, STCNT1, STCNT2, SSTAT0, CLRSINT0, SSTAT1, CLRSINT1, SSTAT2, SSTAT3, SCSITEST, SSTAT4, CLRSERR, SIMODE0, SIMODE1, DMACNTRL0, DMACNTRL1, DMASTAT, FIFOSTAT, DMADATA, BRSTCNTRL, REV, STACK, TEST, ID}
use Rattle.rules.specs.declared.records.Lines.{Lines}
use Rattle.rules.specs.declared.records.Event.{Event}
use Rattle.rules.specs.declared.records.Event.TheVariants.{PowerReset, Write, Read, WordWrite, WordRead, Drive, Ticks}
use Rattle.rules.specs.declared.codes.Code.{Code}
use Rattle.rules.specs.declared.codes.Code.TheVariants.{Done, Malformed, Absent, Shut, NoRoom, NoBytes, BeyondLimit, TestValue}
use Rattle.rules.specs.declared.chip.Conditions.{Conditions}
use Rattle.rules.specs.declared.chip.Stack.{Stack}
use Rattle.rules.proofs.Logic.{never, left_true, right_true, cond_case}
use Rattle.rules.proofs.InOrder.{Keeps, four_keep, b_keeps}
use Rattle.rules.proofs.Refusals.{done_passed}
use Rattle.rules.proofs.Rest.{move_inbound, move_full, handshake_full, Report, settling_reports}
use Rattle.rules.proofs.Settling.{settle_keeps}

-- bytes one after the other are bytes
pub bytes_append : (l k : List ℕ) → Bytes l → Bytes k → Bytes (l ++ k)
bytes_append [] k p q = q
bytes_append (b ∷ l) k p q = (p.0, bytes_append l k p.1 q)

-- the first of some bytes are bytes
pub bytes_take : (n : ℕ) (l : List ℕ) → Bytes l → Bytes (take n l)
bytes_take zero l p = tt
bytes_take (suc n) [] p = tt
bytes_take (suc n) (b ∷ l) p = (p.0, bytes_take n l p.1)

-- and so are those after them
pub bytes_drop : (n : ℕ) (l : List ℕ) → Bytes l → Bytes (drop n l)
bytes_drop zero l p = p
bytes_drop (suc n) [] p = tt
bytes_drop (suc n) (b ∷ l) p = bytes_drop n l p.1

-- what stands at a place among bytes is a byte
pub bytes_at : (l : List ℕ) (k : ℕ) → Bytes l → get_or l k 0 < 256
bytes_at [] k p = omega arith
bytes_at (b ∷ l) zero p = p.0
bytes_at (b ∷ l) (suc k) p = bytes_at l k p.1

-- bytes with a byte stored among them are bytes
pub bytes_set : (l : List ℕ) (k v : ℕ) → v < 256 → Bytes l → Bytes (set l k v)
bytes_set [] k v h p = tt
bytes_set (b ∷ l) zero v h p = (h, p.1)
bytes_set (b ∷ l) (suc k) v h p = (p.0, bytes_set l k v h p.1)

-- zeros are bytes
pub bytes_zeros : (n : ℕ) → Bytes (replicate n 0)
bytes_zeros zero = tt
bytes_zeros (suc n) = (omega arith, bytes_zeros n)

-- a list whose test passes is a list of bytes
pub bytes_computed : (l : List ℕ) → are_bytes l ≡ true → Bytes l
bytes_computed [] h = tt
bytes_computed (b ∷ l) h = (ltb-true b 256 (left_true (ltb b 256) (are_bytes l) h), bytes_computed l (right_true (ltb b 256) (are_bytes l) h))

-- a bit is at most 1
pub one_fits : (b : Bool) → one b ≤ 1
one_fits true = omega arith
one_fits false = omega arith

-- eight bits packed are below 256
pub byte_fits : (b7 b6 b5 b4 b3 b2 b1 b0 : Bool) → byte_of b7 b6 b5 b4 b3 b2 b1 b0 < 256
byte_fits b7 b6 b5 b4 b3 b2 b1 b0 =
    omega (arith, one_fits b7, one_fits b6, one_fits b5, one_fits b4, one_fits b3, one_fits b2, one_fits b1, one_fits b0)

-- the event of each kind, where payload and offset are below their limits
event_fits : (kind offset payload : ℕ) → payload < payload_limit kind → offset < offset_limit kind → DecodedFits (event_of kind offset payload)
unfolding lines_of
event_fits zero offset payload p o = tt
event_fits (suc zero) offset payload p o = (o, p)
event_fits (suc (suc zero)) offset payload p o = o
event_fits (suc (suc (suc zero))) offset payload p o = p
event_fits (suc (suc (suc (suc zero)))) offset payload p o = tt
event_fits (suc (suc (suc (suc (suc zero))))) offset payload p o = omega arith
event_fits (suc (suc (suc (suc (suc (suc zero)))))) offset payload p o = p
event_fits (suc (suc (suc (suc (suc (suc (suc k))))))) offset payload p o = tt

fields_fit : (kind offset payload : ℕ) → DecodedFits (fields_of kind offset payload)
unfolding fields_of well_formed
fields_fit kind offset payload =
    cond_case DecodedFits (ltb payload (payload_limit kind) && ltb offset (offset_limit kind)) (event_of kind offset payload) None
    (λ h.
    event_fits kind offset payload
    (ltb-true payload (payload_limit kind) (left_true (ltb payload (payload_limit kind)) (ltb offset (offset_limit kind)) h))
    (ltb-true offset (offset_limit kind) (right_true (ltb payload (payload_limit kind)) (ltb offset (offset_limit kind)) h)))
    (λ h. tt)

-- WHATEVER LIST OF NUMBERS IS DECODED, the event it gives has its fields in range
pub decode_fits : (bytes : List ℕ) → DecodedFits (decode bytes)
unfolding decode
decode_fits bytes =
    cond_case DecodedFits (eqb (length bytes) 4)
    (fields_of (get_or bytes 0 0 / 32) (get_or bytes 0 0 % 32) (payload_of (get_or bytes 1 0) (get_or bytes 2 0) (get_or bytes 3 0))) None
    (λ h. fields_fit (get_or bytes 0 0 / 32) (get_or bytes 0 0 % 32) (payload_of (get_or bytes 1 0) (get_or bytes 2 0) (get_or bytes 3 0)))
    (λ h. tt)

-- what an event brings is in range: the byte written, the lines driven, the bytes offered to the port
value_of_fits : (e : Event) → EventFits e → value_of e < 256
unfolding value_of
value_of_fits PowerReset f = omega arith
value_of_fits (Write offset value) f = f.1
value_of_fits (Read offset) f = omega arith
value_of_fits (WordWrite word) f = omega arith
value_of_fits WordRead f = omega arith
value_of_fits (Drive lines) f = omega arith
value_of_fits (Ticks n) f = omega arith

lines_fit : (e : Event) (l : Lines) → EventFits e → l.byte < 256 → (lines_after e l).byte < 256
unfolding lines_after
lines_fit PowerReset l f h = h
lines_fit (Write offset value) l f h = h
lines_fit (Read offset) l f h = h
lines_fit (WordWrite word) l f h = h
lines_fit WordRead l f h = h
lines_fit (Drive lines) l f h = f
lines_fit (Ticks n) l f h = h

offered_fits : (e : Event) → EventFits e → Bytes (offered e)
unfolding offered
offered_fits PowerReset f = tt
offered_fits (Write offset value) f = cond_case Bytes (eqb offset 0x16) _ _ (λ h. (f.1, tt)) (λ h. tt)
offered_fits (Read offset) f = tt
offered_fits (WordWrite word) f = (omega arith, (omega arith, tt))
offered_fits WordRead f = tt
offered_fits (Drive lines) f = tt
offered_fits (Ticks n) f = tt

-- A, by component
registers_a_lem : (r : Registers) (e : Event) → RegistersFit r → RegistersFit (registers_a r e)
unfolding registers_a
registers_a_lem r e i =
    record {
      sxfr = cond_case (λ (x : Scsirate). x.sxfr < 8) (writes e SCSIRATE) _ _ (λ h. omega arith) (λ h. i.sxfr);
      sofs = cond_case (λ (x : Scsirate). x.sofs < 16) (writes e SCSIRATE) _ _ (λ h. omega arith) (λ h. i.sofs);
      oid = cond_case (λ (x : Scsiid). x.oid < 8) (writes e SCSIID) _ _ (λ h. omega arith) (λ h. i.oid);
      tid = cond_case (λ (x : Scsiid). x.tid < 8) (writes e SCSIID) _ _ (λ h. omega arith) (λ h. i.tid);
    }

registers_bytes_a : (r : Registers) (e : Event) → EventFits e → RegistersBytes r → RegistersBytes (registers_a r e)
unfolding registers_a
registers_bytes_a r e f i =
    let v = value_of_fits e f in
    record {
      scsidat = cond_case (λ n. n < 256) (writes e SCSIDAT) _ _ (λ h. v) (λ h. i.scsidat);
      brstcntrl = cond_case (λ n. n < 256) (writes e BRSTCNTRL) _ _ (λ h. v) (λ h. i.brstcntrl);
    }

-- the host FIFO: the checks have left room for the whole access
host_a_lem : (e : Event) (host : List ℕ) → length host + length (offered e) ≤ 128 → length host ≤ 128 → length (host_a e host) ≤ 128
unfolding host_a
host_a_lem e host room h =
    cond_case (λ (l : List ℕ). length l ≤ 128) (rstfifo e) _ _ (λ t. omega arith)
    (λ t. cond_case (λ (l : List ℕ). length l ≤ 128) (port_write e) _ _ (λ w. simp length-append room) (λ w. simp length-drop (omega arith)))

host_bytes_a : (e : Event) (host : List ℕ) → EventFits e → Bytes host → Bytes (host_a e host)
unfolding host_a
host_bytes_a e host f h =
    cond_case Bytes (rstfifo e) _ _ (λ t. tt)
    (λ t. cond_case Bytes (port_write e) _ _ (λ w. bytes_append host (offered e) h (offered_fits e f)) (λ w. bytes_drop (asked e) host h))

-- one ACK more is in range, and so is a counter with one of its bytes written
pub counter_fits : (d : Direction) (n : ℕ) → (counter_step d n).value < counter_size
unfolding counter_step stepped_to
counter_fits Up n = omega arith
counter_fits Down n = omega arith

counter_a_lem : (acked : Bool) (e : Event) (n : ℕ) → EventFits e → n < counter_size → counter_a acked e n < counter_size
unfolding counter_a
counter_a_lem acked e n f h = go (clrstcnt e) (writes e STCNT0) (writes e STCNT1) (writes e STCNT2) acked
  where
    v : value_of e < 256
    v = value_of_fits e f

    go : (z a b c k : Bool) → cond z 0 (cond a (counter_with 0 (value_of e) n) (cond b (counter_with 1 (value_of e) n) (cond c (counter_with 2 (value_of e) n) (cond k (counter_step Up n).value n)))) < counter_size
    go true a b c k = omega arith
    go false true b c k = omega (arith, v)
    go false false true c k = omega (arith, v)
    go false false false true k = omega (arith, v)
    go false false false false true = counter_fits Up n
    go false false false false false = h

transfer_a_lem : (acked : Bool) (t : Transfer) (e : Event) → EventFits e → length t.host + length (offered e) ≤ 128 → TransferFits t → TransferFits (transfer_a acked t e)
unfolding transfer_a
transfer_a_lem acked t e f room i =
    record {
      host = host_a_lem e t.host room i.host;
      scsi = cond_case (λ (l : List ℕ). length l ≤ 8) (clrch e) _ _ (λ h. omega arith) (λ h. i.scsi);
      counter = counter_a_lem acked e t.counter f i.counter;
      offset = cond_case (λ n. n ≤ 8) (clrch e) _ _ (λ h. omega arith) (λ h. i.offset);
    }

transfer_bytes_a : (acked : Bool) (t : Transfer) (e : Event) → EventFits e → TransferBytes t → TransferBytes (transfer_a acked t e)
unfolding transfer_a
transfer_bytes_a acked t e f i =
    record {
      last = i.last;
      host = host_bytes_a e t.host f i.host;
      scsi = cond_case Bytes (clrch e) _ _ (λ h. tt) (λ h. i.scsi);
    }

pointer_fits : (wide : Bool) (k : Stack) → pointer_after wide k < 32
unfolding pointer_after stack_place
pointer_fits true k = omega arith
pointer_fits false k = omega arith

stack_a_lem : (wide : Bool) (k : Stack) (e : Event) → StackFits k → StackFits (stack_a wide k e)
unfolding stack_a stack_written stack_read pointed
stack_a_lem wide k e i = go (writes e STACK) (reads e STACK) (writes e DMACNTRL1)
  where
    go : (w r p : Bool) → StackFits (cond w (stack_written wide (value_of e) k) (cond r (stack_read wide k) (cond p (pointed (value_of e) k) k)))
    go true r p = record { pointer = pointer_fits wide k; size = length-set k.bytes (stack_place wide k) (value_of e) ∙ i.size }
    go false true p = record { pointer = pointer_fits wide k; size = i.size }
    go false false true = record { pointer = omega arith; size = i.size }
    go false false false = i

stack_bytes_a : (wide : Bool) (k : Stack) (e : Event) → EventFits e → Bytes k.bytes → Bytes (stack_a wide k e).bytes
unfolding stack_a stack_written stack_read pointed
stack_bytes_a wide k e f i = go (writes e STACK) (reads e STACK) (writes e DMACNTRL1)
  where
    go : (w r p : Bool) → Bytes (cond w (stack_written wide (value_of e) k) (cond r (stack_read wide k) (cond p (pointed (value_of e) k) k))).bytes
    go true r p = bytes_set k.bytes (stack_place wide k) (value_of e) (value_of_fits e f) i
    go false true p = i
    go false false true = i
    go false false false = i

identity_a_lem : (n : ℕ) (e : Event) → n < 32 → identity_a n e < 32
unfolding identity_a
identity_a_lem n e h = cond_case (λ m. m < 32) (reads e ID) _ _ (λ q. omega arith) (λ q. h)

sequencer_a_lem : (s : State) (e : Event) → s.sequencer.ticks < counter_size → (sequencer_a s.registers s.quiet s.sequencer e).ticks < counter_size
unfolding sequencer_a
sequencer_a_lem s e h =
    cond_case (λ n. n < counter_size) (gives_up (registers_a s.registers e) s.sequencer e) 0 s.sequencer.ticks (λ q. omega arith) (λ q. h)

-- after A: nothing is out of range where the port has room
after_a_lem : (s : State) (e : Event) → EventFits e → length s.transfer.host + length (offered e) ≤ 128 → InRange s → InRange (after_a s e)
unfolding after_a
after_a_lem s e f room i =
    record {
      registers = registers_a_lem s.registers e i.registers;
      transfer = transfer_a_lem (automatic_ack s e) s.transfer e f room i.transfer;
      stack = stack_a_lem s.registers.dmacntrl1.enstk32 s.stack e i.stack;
      quiet = i.quiet;
      identity = identity_a_lem s.identity e i.identity;
      sequencer = sequencer_a_lem s e i.sequencer;
    }

pub bytes_after_a : (s : State) (e : Event) → EventFits e → InBytes s → InBytes (after_a s e)
unfolding after_a sequencer_a
bytes_after_a s e f i =
    record {
      lines = lines_fit e s.lines f i.lines;
      registers = registers_bytes_a s.registers e f i.registers;
      transfer = transfer_bytes_a (automatic_ack s e) s.transfer e f i.transfer;
      stack = stack_bytes_a s.registers.dmacntrl1.enstk32 s.stack e f i.stack;
      selid = i.selid;
    }

-- the IDs are bits of a byte
id_fits : (k : ℕ) → k < 8 → 2 ^ k < 256
id_fits k h = pow-lt h

own_fits : (r : Scsiid) → own_id r < 256
unfolding own_id
own_fits r = id_fits (r.oid % 8) (omega arith)

other_fits : (r : Scsiid) → other_id r < 256
unfolding other_id
other_fits r = id_fits (r.tid % 8) (omega arith)

phase_data_fits : (p : Phase) (r : Scsiid) → phase_data p r < 256
unfolding phase_data
phase_data_fits Idle r = omega arith
phase_data_fits Waiting r = omega arith
phase_data_fits Arbitrating r = own_fits r
phase_data_fits Clearing r = own_fits r
phase_data_fits Selecting r = or_lt 8 (own_id r) (other_id r) (own_fits r) (other_fits r)
phase_data_fits Holding r = or_lt 8 (own_id r) (other_id r) (own_fits r) (other_fits r)
phase_data_fits Answering r = omega arith
phase_data_fits Answered r = omega arith

-- the data driven and the data seen are bytes
pub data_driven_fits : (s : State) → RegistersBytes s.registers → TransferBytes s.transfer → data_driven s < 256
unfolding data_driven byte_driven
data_driven_fits s i j = go (phase_drives s.sequencer.phase) (byte_driving s) (normal s.registers)
  where
    go : (q d n : Bool) → cond q (phase_data s.sequencer.phase s.registers.scsiid) (cond d (cond n s.transfer.last s.registers.scsidat) 0) < 256
    go true d n = phase_data_fits s.sequencer.phase s.registers.scsiid
    go false true true = j.last
    go false true false = i.scsidat
    go false false n = omega arith

-- the data seen, driven by others or by the chip, is a byte
pub data_seen_fits : (s : State) → s.lines.byte < 256 → RegistersBytes s.registers → TransferBytes s.transfer → data_seen s < 256
unfolding data_seen
data_seen_fits s h i j = or_lt 8 s.lines.byte (data_driven s) h (data_driven_fits s i j)

-- a REQ within the limit is below it, and a byte that is stored has room
pub below_limit : (g a b : Bool) → (g && not (a || b)) ≡ true → a ≡ false
below_limit g false b e = refl
below_limit true true b e = sym e
below_limit false true b e = sym e

pub stored_room : (g a i c : Bool) → (g && not (a || (i && c)) && i) ≡ true → c ≡ false
stored_room g a i false e = refl
stored_room true true i true e = sym e
stored_room true false true true e = sym e
stored_room true false false true e = sym e
stored_room false a i true e = sym e

module _ (now : State) where
  offset_room : req_within now ≡ true → now.transfer.offset < 8
  unfolding req_within beyond_limit limit
  offset_room e =
      omega (arith, leb-false (limit now.registers) now.transfer.offset (below_limit (synchronous_req now) (leb (limit now.registers) now.transfer.offset) _ e))

  scsi_room : (req_within now && io_seen now) ≡ true → length now.transfer.scsi < 8
  unfolding req_within beyond_limit
  scsi_room e =
      leb-false 8 (length now.transfer.scsi) (stored_room (synchronous_req now) (leb (limit now.registers) now.transfer.offset) (io_seen now) (leb 8 (length now.transfer.scsi)) e)

-- B, by its changes: the registers, and the data path
registers_with_lem : (q : Scsiseq) (x : Sxfrctl0) (g : Scsisig) (r : Registers) → RegistersFit r → RegistersFit (registers_with q x g r)
registers_with_lem q x g r i = record { sxfr = i.sxfr; sofs = i.sofs; oid = i.oid; tid = i.tid }

registers_bytes_with : (q : Scsiseq) (x : Sxfrctl0) (g : Scsisig) (r : Registers) → RegistersBytes r → RegistersBytes (registers_with q x g r)
registers_bytes_with q x g r i = record { scsidat = i.scsidat; brstcntrl = i.brstcntrl }

offset_cleared_lem : (s : State) → TransferFits s.transfer → TransferFits (offset_cleared s).transfer
offset_cleared_lem s i = record { host = i.host; scsi = i.scsi; counter = i.counter; offset = omega arith }

module _ (now : State) where
  transfer_risen : TransferFits now.transfer → TransferFits (req_risen now).transfer
  unfolding req_risen stored_byte
  transfer_risen i =
      record {
        host = i.host;
        scsi =
            cond_case (λ (l : List ℕ). length (now.transfer.scsi ++ l) ≤ 8) (req_within now && io_seen now) _ _
            (λ e. simp length-append (omega (arith, scsi_room now e))) (λ e. simp length-append (omega (arith, i.scsi)));
        counter = i.counter;
        offset = cond_case (λ n. n ≤ 8) (req_within now) _ _ (λ e. omega (arith, offset_room now e)) (λ e. i.offset);
      }

  bytes_risen : InBytes now → Bytes (req_risen now).transfer.scsi
  unfolding req_risen stored_byte
  bytes_risen i =
      let seen = data_seen_fits now i.lines i.registers i.transfer in
      bytes_append now.transfer.scsi (stored_byte now) i.transfer.scsi
      (cond_case Bytes (req_within now && io_seen now) _ _ (λ e. (seen, tt)) (λ e. tt))

  quiet_fits_lem : (ticks : ℕ) → quiet_after ticks now ≤ 8
  unfolding quiet_after
  quiet_fits_lem ticks =
      cond_case (λ n. n ≤ 8) (bsy_seen now || sel_seen now) _ _
      (λ h. omega arith) (λ h. omega arith)

-- what the sequencer leaves: the quiet ticks are at most 8, its own ticks below the longest timeout
pub record SequencedFits (x : Sequenced) : Type 0 where
  pub quiet : x.quiet ≤ 8
  pub ticks : x.sequencer.ticks < counter_size

sequencing : (s : State) → Ticking s SequencedFits
unfolding waited entered arbitrates selects times_out reselected connects silenced selingo_cleared selingo_raised selto_raised seldo_raised seldi_raised
sequencing s =
    record {
      waits = λ n x h f. record { quiet = f.quiet; ticks = omega arith };
      moved = λ p x f. record { quiet = f.quiet; ticks = omega arith };
      arbitrated = λ x f. record { quiet = omega arith; ticks = omega arith };
      selecting = λ x f. record { quiet = f.quiet; ticks = omega arith };
      ended = λ x f. record { quiet = f.quiet; ticks = omega arith };
      answered = λ x f. record { quiet = f.quiet; ticks = omega arith };
      taken = λ x f. record { quiet = f.quiet; ticks = omega arith };
      silent =
          λ x f.
          record {
            quiet = f.quiet;
            ticks = cond_case (λ (q : Sequencer). q.ticks < counter_size) (is_phase Idle x.sequencer.phase) _ _ (λ e. f.ticks) (λ e. omega arith);
          };
    }

pub sequenced_fits : (s : State) (tick : Bool) (before : ℕ) → s.quiet ≤ 8 → s.sequencer.ticks < counter_size → SequencedFits (sequenced tick before s)
unfolding sequenced_of
sequenced_fits s tick before q t =
    sequenced_keeps s SequencedFits (sequencing s) tick before (record { quiet = q; ticks = t })

-- 345h holds a byte
selid_keeps : (s : State) → s.lines.byte < 256 → Ticking s (λ x. x.sequencer.selid < 256)
unfolding waited entered arbitrates selects times_out reselected connects silenced selingo_cleared selingo_raised selto_raised seldo_raised seldi_raised
selid_keeps s b =
    record {
      waits = λ n x h f. f;
      moved = λ p x f. f;
      arbitrated = λ x f. f;
      selecting = λ x f. f;
      ended = λ x f. f;
      answered = λ x f. b;
      taken = λ x f. f;
      silent = λ x f. cond_case (λ (q : Sequencer). q.selid < 256) (is_phase Idle x.sequencer.phase) _ _ (λ e. f) (λ e. f);
    }

sequenced_byte : (s : State) (tick : Bool) (before : ℕ) → s.lines.byte < 256 → s.sequencer.selid < 256 → (sequenced tick before s).sequencer.selid < 256
unfolding sequenced_of
sequenced_byte s tick before b h = sequenced_keeps s (λ x. x.sequencer.selid < 256) (selid_keeps s b) tick before h

range_keeps : Keeps InRange
unfolding ack_released bus_reset req_risen bus_freed selection_freed after_sequencer phase_changed
range_keeps =
    record {
      released =
          λ n i.
          record {
            registers = i.registers;
            transfer = record { host = i.transfer.host; scsi = i.transfer.scsi; counter = i.transfer.counter; offset = i.transfer.offset };
            stack = i.stack;
            quiet = i.quiet;
            identity = i.identity;
            sequencer = i.sequencer;
          };
      reset =
          λ n i.
          record {
            registers = registers_with_lem _ _ _ n.registers i.registers;
            transfer = offset_cleared_lem n i.transfer;
            stack = i.stack;
            quiet = i.quiet;
            identity = i.identity;
            sequencer = i.sequencer;
          };
      risen =
          λ n i.
          record {
            registers = registers_with_lem _ _ _ n.registers i.registers;
            transfer = transfer_risen n i.transfer;
            stack = i.stack;
            quiet = i.quiet;
            identity = i.identity;
            sequencer = i.sequencer;
          };
      ticked =
          λ n ticks i.
          record { registers = i.registers; transfer = i.transfer; stack = i.stack; quiet = quiet_fits_lem n ticks; identity = i.identity; sequencer = i.sequencer };
      freed =
          λ n i.
          record {
            registers = registers_with_lem _ _ _ n.registers i.registers;
            transfer = offset_cleared_lem n i.transfer;
            stack = i.stack;
            quiet = i.quiet;
            identity = i.identity;
            sequencer = i.sequencer;
          };
      sequenced =
          λ n tick before i.
          let x = sequenced_fits n tick before i.quiet i.sequencer in
          record {
            registers = registers_with_lem _ _ _ n.registers i.registers;
            transfer = i.transfer;
            stack = i.stack;
            quiet = x.quiet;
            identity = i.identity;
            sequencer = x.ticks;
          };
      changed =
          λ n i.
          record { registers = i.registers; transfer = i.transfer; stack = i.stack; quiet = i.quiet; identity = i.identity; sequencer = i.sequencer };
    }

bytes_keeps : Keeps InBytes
unfolding ack_released bus_reset req_risen bus_freed selection_freed after_sequencer phase_changed
bytes_keeps =
    record {
      released =
          λ n i.
          let t = i.transfer in
          record { lines = i.lines; registers = i.registers; transfer = record { last = t.last; host = t.host; scsi = t.scsi }; stack = i.stack; selid = i.selid };
      reset =
          λ n i.
          let t = i.transfer in
          let registers = registers_bytes_with _ _ _ n.registers i.registers in
          record { lines = i.lines; registers = registers; transfer = record { last = t.last; host = t.host; scsi = t.scsi }; stack = i.stack; selid = i.selid };
      risen =
          λ n i.
          let t = i.transfer in
          let registers = registers_bytes_with _ _ _ n.registers i.registers in
          record { lines = i.lines; registers = registers; transfer = record { last = t.last; host = t.host; scsi = bytes_risen n i }; stack = i.stack; selid = i.selid };
      ticked = λ n ticks i. record { lines = i.lines; registers = i.registers; transfer = i.transfer; stack = i.stack; selid = i.selid };
      freed =
          λ n i.
          let t = i.transfer in
          let registers = registers_bytes_with _ _ _ n.registers i.registers in
          record { lines = i.lines; registers = registers; transfer = record { last = t.last; host = t.host; scsi = t.scsi }; stack = i.stack; selid = i.selid };
      sequenced =
          λ n tick before i.
          record {
            lines = i.lines;
            registers = registers_bytes_with _ _ _ n.registers i.registers;
            transfer = i.transfer;
            stack = i.stack;
            selid = sequenced_byte n tick before i.lines i.selid;
          };
      changed = λ n i. record { lines = i.lines; registers = i.registers; transfer = i.transfer; stack = i.stack; selid = i.selid };
    }

-- after B
after_b_lem : (s : State) (e : Event) → InRange (after_a s e) → InRange (after_b s e)
after_b_lem = b_keeps InRange range_keeps

pub bytes_after_b : (s : State) (e : Event) → InBytes (after_a s e) → InBytes (after_b s e)
bytes_after_b = b_keeps InBytes bytes_keeps

-- and after each of its parts: the four steps before the sequencer, and the sequencer
pub four_fits : (last : State) (ticks : ℕ) (now : State) → InRange now → InRange (first_four last ticks now)
four_fits = four_keep InRange range_keeps

pub bytes_four : (last : State) (ticks : ℕ) (now : State) → InBytes now → InBytes (first_four last ticks now)
bytes_four = four_keep InBytes bytes_keeps

pub sequencer_fits : (now : State) (tick : Bool) (before : ℕ) → InRange now → InRange (after_sequencer tick before now)
sequencer_fits = range_keeps.sequenced

pub bytes_sequencer : (now : State) (tick : Bool) (before : ℕ) → InBytes now → InBytes (after_sequencer tick before now)
bytes_sequencer = bytes_keeps.sequenced

-- settling keeps the data path in range
module _ (c : Conditions) (s : Settling) where
  fits_move : can_move c s.transfer ≡ true → TransferFits s.transfer → TransferFits (move c s).transfer
  unfolding move
  fits_move h i = record { host = host c.outbound refl; scsi = move_full c s h i.scsi; counter = i.counter; offset = i.offset }
    where
      host : (o : Bool) → c.outbound ≡ o → length (move c s).transfer.host ≤ 128
      host true o = rw o (simp length-drop (omega (arith, i.host)))
      host false o = rw o (simp (length-append, length-take) (omega (arith, move_inbound c s.transfer o h)))

  fits_handshake : can_handshake c s.transfer ≡ true → TransferFits s.transfer → TransferFits (handshake c s).transfer
  unfolding handshake
  fits_handshake h i =
      record {
        host = i.host;
        scsi = handshake_full c s h i.scsi;
        counter = counter_fits Up s.transfer.counter;
        offset = cond_case (λ n. n ≤ 8) c.synchronous _ _ (λ y. omega (arith, i.offset)) (λ y. i.offset);
      }

-- settling keeps the data path in range, however many turns it takes
pub fits_settle : (c : Conditions) (n : ℕ) (s : Settling) → TransferFits s.transfer → TransferFits (settle c n s).transfer
fits_settle c = settle_keeps (λ (s : Settling). TransferFits s.transfer) c (fits_move c) (fits_handshake c)

-- settling stores and sends bytes only
pub record SettlingBytes (s : Settling) : Type 0 where
  pub transfer : TransferBytes s.transfer
  pub sent : Bytes s.sent

module _ (c : Conditions) (byte : c.byte < 256) (s : Settling) where
  bytes_move : can_move c s.transfer ≡ true → SettlingBytes s → SettlingBytes (move c s)
  unfolding move
  bytes_move h f =
      let i = f.transfer in
      let t = s.transfer in
      record {
        transfer =
            record {
              last = i.last;
              host = cond_case Bytes c.outbound _ _ (λ o. bytes_drop 1 t.host i.host) (λ o. bytes_append t.host (take 1 t.scsi) i.host (bytes_take 1 t.scsi i.scsi));
              scsi = cond_case Bytes c.outbound _ _ (λ o. bytes_append t.scsi (take 1 t.host) i.scsi (bytes_take 1 t.host i.host)) (λ o. bytes_drop 1 t.scsi i.scsi);
            };
        sent = f.sent;
      }

  bytes_handshake : can_handshake c s.transfer ≡ true → SettlingBytes s → SettlingBytes (handshake c s)
  unfolding handshake
  bytes_handshake h f =
      let i = f.transfer in
      let t = s.transfer in
      record {
        transfer =
            record {
              last = cond_case (λ n. n < 256) c.outbound _ _ (λ o. bytes_at t.scsi 0 i.scsi) (λ o. i.last);
              host = i.host;
              scsi = cond_case Bytes c.outbound _ _ (λ o. bytes_drop 1 t.scsi i.scsi) (λ o. bytes_append t.scsi (stored_by c) i.scsi stored);
            };
        sent = cond_case Bytes c.outbound _ _ (λ o. bytes_append s.sent (take 1 t.scsi) f.sent (bytes_take 1 t.scsi i.scsi)) (λ o. f.sent);
      }
    where
      stored : Bytes (stored_by c)
      stored = cond_case Bytes c.synchronous [] (c.byte ∷ []) (λ y. tt) (λ y. (byte, tt))

-- settling keeps bytes bytes
pub bytes_settle : (c : Conditions) → c.byte < 256 → (n : ℕ) (s : Settling) → SettlingBytes s → SettlingBytes (settle c n s)
bytes_settle c byte = settle_keeps SettlingBytes c (bytes_move c byte) (bytes_handshake c byte)

-- the byte on the bus, as settling sees it
pub conditions_byte : (s : State) → InBytes s → (conditions s).byte < 256
unfolding conditions
conditions_byte s i = data_seen_fits s i.lines i.registers i.transfer

-- the data path after C is in range
pub settled_fits : (s : State) (e : Event) → InRange (after_b s e) → TransferFits (settled_c s e).transfer
unfolding settled_c started
settled_fits s e i = fits_settle (conditions (after_b s e)) turns (started (after_b s e)) i.transfer

-- the data path after C holds bytes, and what C sends is bytes
pub settled_bytes : (s : State) (e : Event) → InBytes (after_b s e) → SettlingBytes (settled_c s e)
unfolding settled_c started
settled_bytes s e i =
    bytes_settle (conditions (after_b s e)) (conditions_byte (after_b s e) i) turns (started (after_b s e)) (record { transfer = i.transfer; sent = tt })

-- C reports at most 16 moves, 8 ACKs and 8 bytes sent
pub settled_reports : (s : State) (e : Event) → InRange (after_b s e) → Report (conditions (after_b s e)) (settled_c s e)
unfolding settled_c
settled_reports s e i =
    settling_reports (conditions (after_b s e)) turns (after_b s e) i.transfer.scsi i.transfer.offset

-- after D
pub after_d_lem : (s : State) (e : Event) → InRange (after_b s e) → InRange (after_d s e)
unfolding after_d finished
after_d_lem s e i =
    record {
      registers = i.registers;
      transfer = settled_fits s e i;
      stack = i.stack;
      quiet = i.quiet;
      identity = i.identity;
      sequencer = i.sequencer;
    }

-- and holds bytes
pub bytes_after_d : (s : State) (e : Event) → InBytes (after_b s e) → InBytes (after_d s e)
unfolding after_d finished
bytes_after_d s e i =
    record { lines = i.lines; registers = i.registers; transfer = (settled_bytes s e i).transfer; stack = i.stack; selid = i.selid }

-- every register reads as a byte
pub read_fits : (s : State) (r : Register) → InRange s → InBytes s → read_of s r < 256
unfolding read_of scsisigi scsibus sstat0 sstat1 sstat2 sstat3 sstat4 dmastat id_bytes stack_byte
read_fits s SCSISEQ i j =
    let q = s.registers.scsiseq in
    byte_fits q.temodeo q.enselo q.enseli q.enrseli q.enautoatno q.enautoatni q.enautoatnp q.scsirsto
read_fits s SXFRCTL0 i j =
    let q = s.registers.sxfrctl0 in
    byte_fits q.scsien q.dmaen q.chen false q.spioen false false false
read_fits s SXFRCTL1 i j =
    let q = s.registers.sxfrctl1 in
    byte_fits q.bitbucket q.swrapen q.enspchk q.stimesel1 q.stimesel0 q.enstimer q.bytealign false
read_fits s SCSISIGI i j =
    byte_fits s.lines.cd s.lines.io s.lines.msg (atn_seen s) (sel_seen s) (bsy_seen s) s.lines.req (ack_seen s)
read_fits s SELID i j = j.selid
read_fits s SCSIDAT i j = data_seen_fits s j.lines j.registers j.transfer
read_fits s SCSIBUS i j = data_seen_fits s j.lines j.registers j.transfer
read_fits s STCNT0 i j = omega arith
read_fits s STCNT1 i j = omega arith
read_fits s STCNT2 i j = omega arith
read_fits s SSTAT0 i j =
    let q = s.sequencer.status in
    byte_fits false q.seldo q.seldi q.selingo false false s.status.spiordy false
read_fits s SSTAT1 i j =
    let q = s.status in
    byte_fits s.sequencer.status.selto false q.scsirsti (phasemis s) q.busfree q.scsiperr q.phasechg q.reqinit
read_fits s SSTAT2 i j =
    let n = length s.transfer.scsi in
    omega (arith, one_fits (not (eqb s.transfer.offset 0)), one_fits (eqb n 0), one_fits (eqb n 8))
read_fits s SSTAT3 i j = omega (arith, i.transfer.offset)
read_fits s SSTAT4 i j = byte_fits false false false false false s.status.syncerr s.status.fwerr false
read_fits s SIMODE0 i j =
    let q = s.registers.simode0 in
    byte_fits false q.enseldo q.enseldi q.enselingo q.enswrap q.ensdone q.enspiordy q.endmadone
read_fits s SIMODE1 i j =
    let q = s.registers.simode1 in
    byte_fits q.enseltimo q.enatntarg q.enscsirst q.enphasemis q.enbusfree q.enscsiperr q.enphasechg q.enreqinit
read_fits s DMACNTRL0 i j =
    let q = s.registers.dmacntrl0 in
    byte_fits q.endma q.eightbit q.dma q.dwordpio q.write q.inten false q.swint
read_fits s DMACNTRL1 i j =
    let q = s.registers.dmacntrl1 in
    omega (arith, one_fits q.pwrdwn, one_fits q.enstk32, i.stack.pointer)
read_fits s DMASTAT i j =
    let n = length s.transfer.host in
    byte_fits false (not s.registers.dmacntrl0.write && leb 2 n) (instat s) (eqb n 128) (eqb n 0) (leb 64 n) false false
read_fits s FIFOSTAT i j = omega (arith, i.transfer.host)
read_fits s DMADATA i j = bytes_at s.transfer.host 0 j.transfer.host
read_fits s BRSTCNTRL i j = j.registers.brstcntrl
read_fits s REV i j = omega arith
read_fits s STACK i j = bytes_at s.stack.bytes (stack_place s.registers.dmacntrl1.enstk32 s.stack) j.stack
read_fits s ID i j = bytes_at id_bytes s.identity (bytes_computed id_bytes refl)
read_fits s SCSISIGO i j = omega arith
read_fits s SCSIRATE i j = omega arith
read_fits s SCSIID i j = omega arith
read_fits s CLRSINT0 i j = omega arith
read_fits s CLRSINT1 i j = omega arith
read_fits s SCSITEST i j = omega arith
read_fits s CLRSERR i j = omega arith
read_fits s TEST i j = omega arith

-- every value read has at most 16 bits
pub value_fits : (s : State) (e : Event) → InRange s → InBytes s → value_read s e < 65536
unfolding value_read
value_fits s PowerReset i j = omega arith
value_fits s (Write offset value) i j = omega arith
value_fits s (Read offset) i j = mapped (read_at offset)
  where
    mapped : (m : Option Register) → read_mapped s m < 65536
    mapped (Some r) = omega (arith, read_fits s r i j)
    mapped None = omega arith
value_fits s (WordWrite word) i j = omega arith
value_fits s WordRead i j =
    omega (arith, bytes_at s.transfer.host 0 j.transfer.host, bytes_at s.transfer.host 1 j.transfer.host)
value_fits s (Drive lines) i j = omega arith
value_fits s (Ticks n) i j = omega arith

refused_value_fits : (e : Event) → refused_value e < 65536
unfolding refused_value
refused_value_fits PowerReset = omega arith
refused_value_fits (Write offset value) = omega arith
refused_value_fits (Read offset) = omega arith
refused_value_fits (WordWrite word) = omega arith
refused_value_fits WordRead = omega arith
refused_value_fits (Drive lines) = omega arith
refused_value_fits (Ticks n) = omega arith

-- POWER RESET IS IN RANGE
pub power_reset_fits : InRange power_reset
unfolding power_reset
power_reset_fits =
    record {
      registers = omega arith;
      transfer = omega arith;
      stack = record { pointer = omega arith; size = refl };
      quiet = omega arith;
      identity = omega arith;
      sequencer = omega arith;
    }

-- power reset holds bytes
pub power_reset_bytes : InBytes power_reset
unfolding power_reset
power_reset_bytes =
    record {
      lines = omega arith;
      registers = omega arith;
      transfer = record { last = omega arith; host = tt; scsi = tt };
      stack = bytes_zeros 32;
      selid = omega arith;
    }

-- what a step gives is in range: the state; "at most 16" moves; "ACKs at most 8"; at most 8 bytes sent
pub record StepFits (r : Stepped) : Type 0 where
  pub state : InRange r.state
  pub moves : r.moves ≤ 16
  pub acks : r.acks ≤ 8
  pub sent : length r.sent ≤ 8

-- and its bytes are bytes, its value one of 16 bits
pub record StepBytes (r : Stepped) : Type 0 where
  pub state : InBytes r.state
  pub value : r.value < 65536
  pub sent : Bytes r.sent

pub ended_fits : (s : State) (code : Code) (value : ℕ) → InRange s → StepFits (ended s code value)
unfolding ended
ended_fits s code value i = record { state = i; moves = omega arith; acks = omega arith; sent = omega arith }

ended_bytes : (s : State) (code : Code) (value : ℕ) → value < 65536 → InBytes s → StepBytes (ended s code value)
unfolding ended
ended_bytes s code value h i = record { state = i; value = h; sent = tt }

-- a code that counts as done is Done
is_done_lem : (c : Code) → is_done c ≡ true → c ≡ Done
is_done_lem Done h = refl
is_done_lem Malformed h = absurd (never h)
is_done_lem Absent h = absurd (never h)
is_done_lem Shut h = absurd (never h)
is_done_lem NoRoom h = absurd (never h)
is_done_lem NoBytes h = absurd (never h)
is_done_lem BeyondLimit h = absurd (never h)
is_done_lem TestValue h = absurd (never h)

-- the bytes that an access offers fit into the host FIFO where it is done
pub port_room : (s : State) (e : Event) → is_done (access_code s e) ≡ true → length s.transfer.host + length (offered e) ≤ 128
unfolding no_room
port_room s e d =
    ltb-false 128 (length s.transfer.host + length (offered e)) (done_passed s e (is_done_lem (access_code s e) d)).room

-- an access that is done leaves the state in range after A
pub after_a_fits : (s : State) (e : Event) → EventFits e → is_done (access_code s e) ≡ true → InRange s → InRange (after_a s e)
after_a_fits s e f d i = after_a_lem s e f (port_room s e d) i

-- and after B
pub after_b_fits : (s : State) (e : Event) → EventFits e → is_done (access_code s e) ≡ true → InRange s → InRange (after_b s e)
after_b_fits s e f d i = after_b_lem s e (after_a_fits s e f d i)

pub done_fits : (s : State) (e : Event) → EventFits e → is_done (access_code s e) ≡ true → InRange s → StepFits (done s e)
unfolding done
done_fits s e f d i =
    let b = after_b_fits s e f d i in
    let r = settled_reports s e b in
    record { state = after_d_lem s e b; moves = r.moves; acks = r.acks; sent = r.sent }

done_bytes : (s : State) (e : Event) → EventFits e → InRange s → InBytes s → StepBytes (done s e)
unfolding done
done_bytes s e f i j =
    let b = bytes_after_b s e (bytes_after_a s e f j) in
    record { state = bytes_after_d s e b; value = value_fits s e i j; sent = (settled_bytes s e b).sent }

pub access_fits : (s : State) (e : Event) → EventFits e → InRange s → StepFits (access s e)
unfolding access
access_fits s e f i =
    cond_case StepFits (is_done (access_code s e)) _ _ (λ d. done_fits s e f d i)
    (λ d. ended_fits s (access_code s e) (refused_value e) i)

access_bytes : (s : State) (e : Event) → EventFits e → InRange s → InBytes s → StepBytes (access s e)
unfolding access
access_bytes s e f i j =
    cond_case StepBytes (is_done (access_code s e)) _ _ (λ d. done_bytes s e f i j)
    (λ d. ended_bytes s (access_code s e) (refused_value e) (refused_value_fits e) j)

-- ticks, one by one, keep what a tick keeps
pub ticks_keep : (P : Stepped → Type 0) → ((s : State) → P (ended s Done 0)) → ((s : State) (r : Stepped) → P r → P (joined (access s (Ticks 1)) r)) → (n : ℕ) (s : State) → P (single_ticks n s)
unfolding single_ticks
ticks_keep P none more zero s = none s
ticks_keep P none more (suc n) s = more s (single_ticks n (access s (Ticks 1)).state) (ticks_keep P none more n (access s (Ticks 1)).state)

pub single_in_range : (n : ℕ) (s : State) → InRange s → InRange (single_ticks n s).state
unfolding single_ticks ended
single_in_range zero s i = i
single_in_range (suc n) s i =
    single_in_range n (access s (Ticks 1)).state (access_fits s (Ticks 1) (omega arith) i).state

pub single_bytes : (n : ℕ) (s : State) → InRange s → InBytes s → StepBytes (single_ticks n s)
unfolding single_ticks
single_bytes zero s i j = ended_bytes s Done 0 (omega arith) j
single_bytes (suc n) s i j =
    let first = access_bytes s (Ticks 1) (omega arith) i j in
    let rest = single_bytes n (access s (Ticks 1)).state (access_fits s (Ticks 1) (omega arith) i).state first.state in
    record { state = rest.state; value = omega arith; sent = bytes_append (access s (Ticks 1)).sent (single_ticks n (access s (Ticks 1)).state).sent first.sent rest.sent }

ticks_in_range : (n : ℕ) (s : State) → InRange s → InRange (ticks_taken n s).state
unfolding ticks_taken
ticks_in_range zero s i = (access_fits s (Ticks 0) (omega arith) i).state
ticks_in_range (suc n) s i = single_in_range (suc n) s i

ticks_bytes : (n : ℕ) (s : State) → InRange s → InBytes s → StepBytes (ticks_taken n s)
unfolding ticks_taken
ticks_bytes zero s i j = access_bytes s (Ticks 0) (omega arith) i j
ticks_bytes (suc n) s i j = single_bytes (suc n) s i j

event_in_range : (s : State) (e : Event) → EventFits e → InRange s → InRange (step_event s e).state
unfolding step_event ended
event_in_range s PowerReset f i = power_reset_fits
event_in_range s (Write offset value) f i = (access_fits s (Write offset value) f i).state
event_in_range s (Read offset) f i = (access_fits s (Read offset) f i).state
event_in_range s (WordWrite word) f i = (access_fits s (WordWrite word) f i).state
event_in_range s WordRead f i = (access_fits s WordRead f i).state
event_in_range s (Drive lines) f i = (access_fits s (Drive lines) f i).state
event_in_range s (Ticks n) f i = ticks_in_range n s i

event_step_bytes : (s : State) (e : Event) → EventFits e → InRange s → InBytes s → StepBytes (step_event s e)
unfolding step_event
event_step_bytes s PowerReset f i j = ended_bytes power_reset Done 0 (omega arith) power_reset_bytes
event_step_bytes s (Write offset value) f i j = access_bytes s (Write offset value) f i j
event_step_bytes s (Read offset) f i j = access_bytes s (Read offset) f i j
event_step_bytes s (WordWrite word) f i j = access_bytes s (WordWrite word) f i j
event_step_bytes s WordRead f i j = access_bytes s WordRead f i j
event_step_bytes s (Drive lines) f i j = access_bytes s (Drive lines) f i j
event_step_bytes s (Ticks n) f i j = ticks_bytes n s i j

decoded_in_range : (s : State) (d : Option Event) → DecodedFits d → InRange s → InRange (step_decoded s d).state
unfolding step_decoded ended
decoded_in_range s (Some e) f i = event_in_range s e f i
decoded_in_range s None f i = i

decoded_step_bytes : (s : State) (d : Option Event) → DecodedFits d → InRange s → InBytes s → StepBytes (step_decoded s d)
unfolding step_decoded
decoded_step_bytes s (Some e) f i j = event_step_bytes s e f i j
decoded_step_bytes s None f i j = ended_bytes s Malformed 0 (omega arith) j

-- EVERY RECORD, whatever numbers it holds, leaves the state in range
pub step_in_range : (s : State) (bytes : List ℕ) → InRange s → InRange (step s bytes).state
unfolding step
step_in_range s bytes i = decoded_in_range s (decode bytes) (decode_fits bytes) i

-- every record leaves bytes where bytes are stored, sends bytes, and gives a value of 16 bits
pub step_bytes : (s : State) (bytes : List ℕ) → InRange s → InBytes s → StepBytes (step s bytes)
unfolding step
step_bytes s bytes i j = decoded_step_bytes s (decode bytes) (decode_fits bytes) i j

-- and so does every list of records
pub after_fits : (s : State) (records : List (List ℕ)) → InRange s → InRange (after s records)
after_fits s [] i = i
after_fits s (bytes ∷ more) i = after_fits (step s bytes).state more (step_in_range s bytes i)

-- FROM POWER RESET, AFTER ANY LIST OF RECORDS, THE STATE IS IN RANGE
pub always_in_range : (records : List (List ℕ)) → InRange (after power_reset records)
always_in_range records = after_fits power_reset records power_reset_fits

-- the bounds, in document 01's own numbers
pub record Bounded (s : State) : Type 0 where
  pub offset : s.transfer.offset ≤ 8
  pub scsi : length s.transfer.scsi ≤ 8
  pub host : length s.transfer.host ≤ 128
  pub counter : s.transfer.counter < 16777216
  pub pointer : s.stack.pointer < 32

-- FROM POWER RESET, AFTER ANY LIST OF RECORDS: offset and SCSI FIFO at most 8, host FIFO at most 128, counter below
-- 16,777,216, pointer below 32
pub always_bounded : (records : List (List ℕ)) → Bounded (after power_reset records)
always_bounded records =
    let i = always_in_range records in
    record {
      offset = i.transfer.offset;
      scsi = i.transfer.scsi;
      host = i.transfer.host;
      counter = i.transfer.counter;
      pointer = i.stack.pointer;
    }

-- and what is stored as a byte is one
pub after_bytes : (s : State) (records : List (List ℕ)) → InRange s → InBytes s → InBytes (after s records)
after_bytes s [] i j = j
after_bytes s (bytes ∷ more) i j =
    after_bytes (step s bytes).state more (step_in_range s bytes i) (step_bytes s bytes i j).state

-- from power reset, after any list of records, what is stored as a byte is one
pub always_in_bytes : (records : List (List ℕ)) → InBytes (after power_reset records)
always_in_bytes records = after_bytes power_reset records power_reset_fits power_reset_bytes
