-- "READS AND WRITES OF 35Dh AND 353h ANSWER AS BEFORE": the step of an access is an event of 0 ticks, but for the stack, the bits of 353h
-- and the value, and these are what `stack_accessed` leaves and gives.
use Rattle.std.specs.Prelude.{Some}
use Prim.Native.Nat.{ℕ, ◌+◌, ◌%◌, ◌<◌, ◌≤◌}
use mathlib.Core.Path.{◌≡◌, refl, ap, sym, subst, ◌∙◌}
use mathlib.Core.Bool.{cond}
use mathlib.Core.List.{List, []}
use native.Mathlib.Omega.{arith}
use borrow.Author.Tests.{le-ltb, lt-ltb}
use lib.ListN.{length}
use Rattle.rules.specs.State.{State, power_reset}
use Rattle.rules.specs.Registers.{dmacntrl1_byte}
use Rattle.rules.specs.Records.{well_formed, fields_of, decode, payload_of}
use Rattle.rules.specs.Map.{table, read_at, written_at}
use Rattle.rules.specs.Events.{writes, reads, value_of, ticks_of, lines_after, offered, asked, port_write, port_read}
use Rattle.rules.specs.Reads.{read_of, value_read}
use Rattle.rules.specs.Codes.{absent, test_value, shut, no_room, no_bytes, access_code, is_done}
use Rattle.rules.specs.StepA.{clears, clears_latch, clears_error, clrstcnt, clrch, rstfifo, latch_access, automatic_ack, registers_a, host_a, counter_a, transfer_a, error_a, status_a, latches_a, stack_a, identity_a, gives_up, selection_a, noted_a, selection_latches_a, sequencer_a, after_a}
use Rattle.rules.specs.StepB.{in_order, after_b, at_req, beyond}
use Rattle.rules.specs.StepC.{conditions, settle, turns, started, settled_c}
use Rattle.rules.specs.StepD.{finished, after_d}
use Rattle.rules.specs.Answers.{Stepped, answer_of, answer_bytes}
use Rattle.rules.specs.Step.{done, access, ticks_taken, step_event, step_decoded, step, answer, after}
use Rattle.rules.specs.Chips.{stack_view}
use Rattle.rules.specs.Ranges.{InRange}
use Rattle.rules.specs.Rest.{AtRest}
use Rattle.rules.specs.declared.codes.Code.TheVariants.{Done, BeyondLimit}
use Rattle.rules.specs.declared.chip.Stack.{Stack}
use Rattle.rules.specs.declared.records.Event.TheVariants.{Ticks}
use Rattle.rules.proofs.Refusals.{not_beyond}
use Rattle.rules.proofs.Ranges.{after_b_fits, always_in_range}
use Rattle.rules.proofs.Still.{zero_ticks, ticks_done, done_rests, zero_ticks_at_rest, zero_ticks_lem}
use Rattle.stack.specs.Accesses.{stack_accessed}
use Rattle.stack.specs.Apart.{with_apart, stepped_apart, bytes_with, access_event, access_record, AccessFits}
use Rattle.stack.specs.declared.lent.Access.{Access}
use Rattle.stack.specs.declared.lent.Access.TheVariants.{ReadStack, WriteStack, ReadDmacntrl1, WriteDmacntrl1}
use Rattle.stack.specs.declared.lent.Accessed.{Accessed}
use Rattle.stack.proofs.Tidied.{tidied_byte, tidied_read, tidied_written, tidied_pointed}
use Rattle.stack.proofs.Apart.{conditions_same, b_apart, d_apart, answer_apart}

-- what the access leaves and gives, of the state that holds the stack
abbrev pub access_in : Access → State → Accessed
access_in a s = stack_accessed a s.registers.dmacntrl1 s.stack

-- what a step of 0 ticks gives, with what the access leaves and gives
abbrev pub access_over : Access → State → Stepped → Stepped
access_over a s r = stepped_apart (access_in a s).control (access_in a s).stack (access_in a s).value r

module _ (s : State) where
  -- A
  a_access : (a : Access) → after_a s (access_event a) ≡ with_apart (access_in a s).control (access_in a s).stack (after_a s (Ticks 0))
  unfolding after_a lines_after registers_a transfer_a host_a counter_a status_a error_a latches_a stack_a identity_a automatic_ack latch_access clrstcnt clrch rstfifo clears clears_latch clears_error sequencer_a gives_up selection_a noted_a selection_latches_a writes reads value_of asked port_write stack_accessed
  a_access ReadStack =
      ap (λ (k : Stack). with_apart s.registers.dmacntrl1 k (after_a s (Ticks 0))) (sym (tidied_read s.registers.dmacntrl1.enstk32 s.stack))
  a_access (WriteStack byte) =
      ap (λ (k : Stack). with_apart s.registers.dmacntrl1 k (after_a s (Ticks 0))) (sym (tidied_written s.registers.dmacntrl1.enstk32 byte s.stack))
  a_access ReadDmacntrl1 = refl
  a_access (WriteDmacntrl1 byte) =
      ap (λ (k : Stack). with_apart (access_in (WriteDmacntrl1 byte) s).control k (after_a s (Ticks 0))) (sym (tidied_pointed byte s.stack))

  no_ticks_lem : (a : Access) → ticks_of (access_event a) ≡ 0
  unfolding ticks_of
  no_ticks_lem ReadStack = refl
  no_ticks_lem (WriteStack byte) = refl
  no_ticks_lem ReadDmacntrl1 = refl
  no_ticks_lem (WriteDmacntrl1 byte) = refl

  -- B
  b_access : (a : Access) → after_b s (access_event a) ≡ with_apart (access_in a s).control (access_in a s).stack (after_b s (Ticks 0))
  unfolding after_b ticks_of
  b_access a =
      let d = (access_in a s).control in
      let k = (access_in a s).stack in
      (λ i. in_order s (no_ticks_lem a i) (a_access a i)) ∙ b_apart s.registers.dmacntrl1 d s.stack k s (after_a s (Ticks 0)) 0

  -- C
  c_access : (a : Access) → settled_c s (access_event a) ≡ settled_c s (Ticks 0)
  unfolding settled_c started
  c_access a =
      let d = (access_in a s).control in
      let k = (access_in a s).stack in
      let b = after_b s (Ticks 0) in
      ap (λ (x : State). settle (conditions x) turns (started x)) (b_access a) ∙ ap (λ x. settle x turns (started b)) (conditions_same d k b)

  -- D
  d_access : (a : Access) → after_d s (access_event a) ≡ with_apart (access_in a s).control (access_in a s).stack (after_d s (Ticks 0))
  unfolding after_d
  d_access a =
      let d = (access_in a s).control in
      let k = (access_in a s).stack in
      (λ i. finished s (a_access a i) (b_access a i) (c_access a i))
      ∙ d_apart s.registers.dmacntrl1 d s.stack k s (after_a s (Ticks 0)) (after_b s (Ticks 0)) (settled_c s (Ticks 0))

  -- no line changes, so no REQ is beyond the limit
  same_lines : (a : Access) → lines_after (access_event a) s.lines ≡ s.lines
  unfolding lines_after
  same_lines ReadStack = refl
  same_lines (WriteStack byte) = refl
  same_lines ReadDmacntrl1 = refl
  same_lines (WriteDmacntrl1 byte) = refl

  still_lines : lines_after (Ticks 0) s.lines ≡ s.lines
  unfolding lines_after
  still_lines = refl

  same_limit : (a : Access) → beyond s (at_req s (access_event a)) ≡ beyond s (at_req s (Ticks 0))
  same_limit a = not_beyond s (access_event a) (same_lines a) ∙ sym (not_beyond s (Ticks 0) still_lines)

  -- the checks that an access passes
  same_code : (a : Access) → length s.transfer.host ≤ 128 → access_code s (access_event a) ≡ Done
  unfolding access_code absent test_value shut no_room no_bytes writes offered asked port_write port_read table read_at written_at
  same_code ReadStack h = rw (le-ltb 128 (length s.transfer.host + 0) (omega arith), le-ltb (length s.transfer.host) 0 (omega arith))
  same_code (WriteStack byte) h = rw (le-ltb 128 (length s.transfer.host + 0) (omega arith), le-ltb (length s.transfer.host) 0 (omega arith))
  same_code ReadDmacntrl1 h = rw (le-ltb 128 (length s.transfer.host + 0) (omega arith), le-ltb (length s.transfer.host) 0 (omega arith))
  same_code (WriteDmacntrl1 byte) h = rw (le-ltb 128 (length s.transfer.host + 0) (omega arith), le-ltb (length s.transfer.host) 0 (omega arith))

  -- the value
  in_place : (p : ℕ) → p < 32 → p ≡ p % 32
  in_place p h = omega arith

  same_value : (a : Access) → s.stack.pointer < 32 → value_read s (access_event a) ≡ (access_in a s).value
  unfolding value_read table read_at read_of stack_accessed stack_view
  same_value ReadStack h = sym (tidied_byte s.registers.dmacntrl1.enstk32 s.stack)
  same_value (WriteStack byte) h = refl
  same_value ReadDmacntrl1 h = ap (dmacntrl1_byte s.registers.dmacntrl1) (in_place s.stack.pointer h)
  same_value (WriteDmacntrl1 byte) h = refl

  done_access : (a : Access) → s.stack.pointer < 32 → done s (access_event a) ≡ access_over a s (done s (Ticks 0))
  unfolding done
  done_access a h =
      λ i.
      record {
        state = d_access a i;
        code = cond (same_limit a i) BeyondLimit Done;
        value = same_value a h i;
        moves = (c_access a i).moves;
        acks = (c_access a i).acks;
        sent = (c_access a i).sent;
      }

  -- AN ACCESS IS AN EVENT OF 0 TICKS, BUT FOR WHAT IT LEAVES OF THE STACK AND THE BITS OF 353h AND FOR THE VALUE
  pub access_over_lem : (a : Access) → InRange s → access s (access_event a) ≡ access_over a s (access s (Ticks 0))
  unfolding access
  access_over_lem a i =
      rw (same_code a i.transfer.host, ticks_done s 0 i.transfer.host) (done_access a i.stack.pointer)

  event_over : (a : Access) → InRange s → step_event s (access_event a) ≡ access_over a s (step_event s (Ticks 0))
  unfolding step_event ticks_taken
  event_over ReadStack i = access_over_lem ReadStack i
  event_over (WriteStack byte) i = access_over_lem (WriteStack byte) i
  event_over ReadDmacntrl1 i = access_over_lem ReadDmacntrl1 i
  event_over (WriteDmacntrl1 byte) i = access_over_lem (WriteDmacntrl1 byte) i

-- a chip that 0 ticks would not change is at rest
pub still_rests : (s : State) → InRange s → (step s zero_ticks).state ≡ s → AtRest s
unfolding step decode fields_of well_formed step_decoded step_event ticks_taken access done
still_rests s i e =
    let d = ap is_done (ticks_done s 0 i.transfer.host) in
    subst AtRest (sym (rw d refl) ∙ e) (done_rests s (Ticks 0) (after_b_fits s (Ticks 0) (omega arith) d i))

-- the record of an access is that event
payload : (byte : ℕ) → payload_of 0 0 byte ≡ byte
payload byte = omega arith

pub decode_access : (a : Access) → AccessFits a → decode (access_record a) ≡ Some (access_event a)
unfolding decode fields_of well_formed
decode_access ReadStack f = refl
decode_access (WriteStack byte) f = rw (payload byte, lt-ltb byte 256 f)
decode_access ReadDmacntrl1 f = refl
decode_access (WriteDmacntrl1 byte) f = rw (payload byte, lt-ltb byte 256 f)

step_access : (a : Access) (s : State) → AccessFits a → step s (access_record a) ≡ step_event s (access_event a)
unfolding step step_decoded
step_access a s f = ap (step_decoded s) (decode_access a f)

-- what the step gives, where 0 ticks change nothing: code 0, the value, no move, no ACK, nothing sent
abbrev pub answered : Accessed → State → Stepped
answered r s = record { state = with_apart r.control r.stack s; code = Done; value = r.value; moves = 0; acks = 0; sent = [] }

-- THEY ANSWER AS BEFORE: in a chip that 0 ticks would not change the step of an access gives that chip with exactly the stack and the bits of
-- 353h that the lent functions leave, the value that they give, and code 0
pub event_as_before : (a : Access) (s : State) → InRange s → AtRest s → step_event s (access_event a) ≡ answered (access_in a s) s
unfolding step decode fields_of well_formed step_decoded
event_as_before a s i r = event_over s a i ∙ ap (access_over a s) (zero_ticks_at_rest s r i)

pub as_before : (a : Access) (s : State) → AccessFits a → InRange s → (step s zero_ticks).state ≡ s → step s (access_record a) ≡ answered (access_in a s) s
as_before a s f i e = step_access a s f ∙ event_as_before a s i (still_rests s i e)

-- and in the rest of the answer what an event of 0 ticks shows
pub event_answer : (a : Access) (s : State) → InRange s → answer_bytes (answer_of (step_event s (access_event a))) ≡ bytes_with (access_in a s).value (answer s zero_ticks)
unfolding answer answer_bytes step decode fields_of well_formed step_decoded
event_answer a s i =
    let r = access_in a s in
    ap (λ (x : Stepped). answer_bytes (answer_of x)) (event_over s a i)
    ∙ ap answer_bytes (answer_apart r.control r.stack r.value (step s zero_ticks))

pub answer_as_before : (a : Access) (s : State) → AccessFits a → InRange s → answer s (access_record a) ≡ bytes_with (access_in a s).value (answer s zero_ticks)
unfolding answer
answer_as_before a s f i = ap (λ (x : Stepped). answer_bytes (answer_of x)) (step_access a s f) ∙ event_answer a s i

-- so of every chip that records from power reset reach
pub always_as_before : (a : Access) (records : List (List ℕ)) → AccessFits a → step (after power_reset records) (access_record a) ≡ answered (access_in a (after power_reset records)) (after power_reset records)
always_as_before a records f =
    as_before a (after power_reset records) f (always_in_range records) (ap (λ (r : Stepped). r.state) (zero_ticks_lem records))
