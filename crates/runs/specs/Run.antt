-- A run: how it starts, what it allows, and the bytes that go in and out.
use Rattle.std.specs.Prelude.{Some}
use Rattle.std.specs.Prelude.{ℕ, zero, suc, ◌/◌, ◌%◌, ◌≡◌, Bool, true, false, not, ◌&&◌, ◌||◌, cond, List, [], ◌∷◌, ◌++◌, eqb, take, replicate}
use Rattle.rules.specs.Numbers.{bit}
use Rattle.rules.specs.Map.{offset_of}
use Rattle.rules.specs.State.{State}
use Rattle.rules.specs.Seen.{path}
use Rattle.rules.specs.Records.{decode}
use Rattle.rules.specs.Events.{offered, asked}
use Rattle.rules.specs.StepB.{req_rises, stored_byte, at_req, after_b}
use Rattle.rules.specs.StepC.{conditions, settled_c}
use Rattle.rules.specs.Step.{access, step}
use Rattle.rules.specs.declared.map.Register.TheVariants.{SXFRCTL0, CLRSINT0, CLRSINT1, SIMODE0, SIMODE1, DMACNTRL1, DMADATA, STACK}
use Rattle.rules.specs.declared.chip.Phase.TheVariants.{Idle}
use Rattle.rules.specs.declared.records.Event.{Event}
use Rattle.rules.specs.declared.records.Event.TheVariants.{PowerReset, Write, Read, WordWrite, WordRead, Drive, Ticks}
use Rattle.runs.specs.Comes.{unless_refused}

-- "A write run starts with FIFOs empty, counter and offset 0, ACKO 0, path with WRITE 1."
-- "For a read run (the same with WRITE 0, IOEXP 1 ...)": path says that IOEXP differs from WRITE
-- R-1: "a run now starts with 340h bits 6-4 clear and the sequencer idle": ENSELO, ENSELI, ENRESELI
pub record Starts (write : Bool) (s : State) : Type 0 where
  pub host : s.transfer.host ≡ []
  pub scsi : s.transfer.scsi ≡ []
  pub counter : s.transfer.counter ≡ 0
  pub offset : s.transfer.offset ≡ 0
  pub acko : s.registers.scsisig.acko ≡ false
  pub opened : path s.registers ≡ true
  pub direction : s.registers.dmacntrl0.write ≡ write
  pub enselo : s.registers.scsiseq.enselo ≡ false
  pub enseli : s.registers.scsiseq.enseli ≡ false
  pub enrseli : s.registers.scsiseq.enrseli ≡ false
  pub idle : s.sequencer.phase ≡ Idle

-- "bits 4, 3, 1 zero": CLRSTCNT, SPIOEN and CLRCH
unfoldable pub keeps_run : ℕ → Bool
keeps_run value = not (bit value 4) && not (bit value 3) && not (bit value 1)

-- "port writes ... and writes to 341h (bits 4, 3, 1 zero), 34Bh, 34Ch, 350h, 351h, 353h, 35Dh"
unfoldable pub write_allowed : ℕ → ℕ → Bool
write_allowed offset value =
    eqb offset (offset_of DMADATA) || eqb offset (offset_of CLRSINT0) || eqb offset (offset_of CLRSINT1) || eqb offset (offset_of SIMODE0)
    || eqb offset (offset_of SIMODE1) || eqb offset (offset_of DMACNTRL1) || eqb offset (offset_of STACK)
    || (eqb offset (offset_of SXFRCTL0) && keeps_run value)

-- "It allows reads, port writes, lines, ticks, and writes to ..."; a read run the same, with port reads among the reads
abbrev pub run_allows : Event → Bool
run_allows PowerReset = false
run_allows (Write offset value) = write_allowed offset value
run_allows (Read offset) = true
run_allows (WordWrite word) = true
run_allows WordRead = true
run_allows (Drive lines) = true
run_allows (Ticks n) = true

-- "what the port accepted": what a port write offers, unless it is refused
abbrev pub accepted : State → List ℕ → List ℕ
accepted s bytes = unless_refused offered (decode bytes) (step s bytes).code

-- "Taken means a Normal-mode ACK issued in a run.": the bytes that these ACKs send
abbrev pub sent_by : State → List ℕ → List ℕ
sent_by s bytes = (step s bytes).sent

-- "bytes read by the host": what a port read takes off the host FIFO's front
abbrev pub host_read : State → List ℕ → List ℕ
host_read s bytes = unless_refused (λ e. take (asked e) s.transfer.host) (decode bytes) (step s bytes).code

-- "A word's low byte comes first.": so many bytes of the value that a port read answers
abbrev pub low_bytes : ℕ → ℕ → List ℕ
low_bytes n value = take n (value % 256 ∷ value / 256 % 256 ∷ [])

-- "what the chip took": in B the data seen with a synchronous REQ, where it is stored
unfoldable pub took_at_req : State → Event → List ℕ
took_at_req s e = cond (req_rises s (at_req s e)) (stored_byte (at_req s e)) []

-- and in C the data seen, once for each asynchronous inbound handshake
unfoldable pub took_by_handshakes : State → Event → List ℕ
took_by_handshakes s e =
    let c = conditions (after_b s e) in
    cond (c.outbound || c.synchronous) [] (replicate (settled_c s e).acks c.byte)

abbrev pub took : State → Event → List ℕ
took s e = took_at_req s e ++ took_by_handshakes s e

-- R-1: "An event of n ticks leaves the chip as n events of one tick would": it takes what they take, one after the other
unfoldable pub took_in_ticks : ℕ → State → List ℕ
took_in_ticks zero s = []
took_in_ticks (suc n) s =
    unless_refused (took s) (Some (Ticks 1)) (access s (Ticks 1)).code ++ took_in_ticks n (access s (Ticks 1)).state

unfoldable pub took_by_ticks : ℕ → State → List ℕ
took_by_ticks zero s = took s (Ticks 0)
took_by_ticks (suc n) s = took_in_ticks (suc n) s

abbrev pub took_in_event : State → Event → List ℕ
took_in_event s PowerReset = took s PowerReset
took_in_event s (Write offset value) = took s (Write offset value)
took_in_event s (Read offset) = took s (Read offset)
took_in_event s (WordWrite word) = took s (WordWrite word)
took_in_event s WordRead = took s WordRead
took_in_event s (Drive lines) = took s (Drive lines)
took_in_event s (Ticks n) = took_by_ticks n s

abbrev pub chip_took : State → List ℕ → List ℕ
chip_took s bytes = unless_refused (took_in_event s) (decode bytes) (step s bytes).code
