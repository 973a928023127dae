-- NO OTHER RECORD READS OR CHANGES THE STACK OR THE BITS OF 353h, but power reset, which zeroes them: two states that differ in these alone
-- give the same answer and states that differ in these alone.
use Rattle.std.specs.Prelude.{Option, Some, None}
use Prim.Native.Nat.{ℕ, zero, suc}
use mathlib.Core.Path.{◌≡◌, refl, ap, sym, ◌∙◌}
use mathlib.Core.Bool.{Bool, true, false, not, ◌&&◌, ◌||◌, cond}
use mathlib.Core.List.{List}
use borrow.Author.Tests.{eq-eqb}
use lib.Dec.{eqb, leb}
use lib.ListN.{length, replicate}
use Rattle.rules.specs.State.{State, power_reset}
use Rattle.rules.specs.Numbers.{byte_of}
use Rattle.rules.specs.Seen.{cd_seen, io_seen, msg_seen, atn_seen, sel_seen, bsy_seen, req_seen, automatic}
use Rattle.rules.specs.Records.{decode}
use Rattle.rules.specs.Map.{read_at, offset_of}
use Rattle.rules.specs.Events.{writes, reads, value_of, ticks_of}
use Rattle.rules.specs.Registers.{dmacntrl1_of}
use Rattle.rules.specs.Sequencer.{selection_asked}
use Rattle.rules.specs.Reads.{scsisigi, scsibus, sstat0, sstat2, sstat3, sstat4, dmastat, read_of, read_mapped, value_read}
use Rattle.rules.specs.Codes.{shut, no_room, no_bytes, access_code, refused_value, is_done}
use Rattle.rules.specs.StepA.{latch_access, automatic_ack, registers_a, transfer_a, status_a, latches_a, stack_a, identity_a, gives_up, selection_a, selection_latches_a, sequencer_a, after_a}
use Rattle.rules.specs.StepB.{after_req_falls, after_rst_rises, in_order, after_b, at_req, beyond}
use Rattle.rules.specs.StepC.{conditions, settle, turns, started, settled_c}
use Rattle.rules.specs.StepD.{finished, after_d}
use Rattle.rules.specs.Answers.{Stepped, answer_of, answer_bytes}
use Rattle.rules.specs.Step.{ended, refused, done, access, joined, single_ticks, ticks_taken, step_event, step_decoded, step, answer}
use Rattle.rules.specs.declared.codes.Code.{Code}
use Rattle.rules.specs.declared.codes.Code.TheVariants.{Done, BeyondLimit}
use Rattle.rules.specs.declared.chip.Stack.{Stack}
use Rattle.rules.specs.declared.map.Register.{Register}
use Rattle.rules.specs.declared.map.Register.TheVariants.{SCSISEQ, SXFRCTL0, SXFRCTL1, SCSISIGI, SCSISIGO, SCSIRATE, SELID, SCSIID, SCSIDAT, SCSIBUS, STCNT0, STCNT1, STCNT2, SSTAT0, CLRSINT0, SSTAT1, CLRSINT1, SSTAT2, SSTAT3, SCSITEST, SSTAT4, CLRSERR, SIMODE0, SIMODE1, DMACNTRL0, DMACNTRL1, DMASTAT, FIFOSTAT, DMADATA, BRSTCNTRL, REV, STACK, TEST, ID}
use Rattle.rules.specs.declared.registers.Dmacntrl1.{Dmacntrl1}
use Rattle.rules.specs.declared.records.Event.{Event}
use Rattle.rules.specs.declared.records.Event.TheVariants.{PowerReset, Write, Read, WordWrite, WordRead, Drive, Ticks}
use Rattle.rules.proofs.Logic.{never}
use Rattle.map.proofs.Offsets.{read_offset}
use Rattle.stack.specs.Apart.{with_apart, stepped_apart, touches, resets, elsewhere}
use Rattle.stack.proofs.Apart.{matched_same, ack_same, data_same, instat_same, sstat1_same, conditions_same, b_apart, d_apart, req_apart, beyond_same, answer_apart}

-- what an event that touches neither 35Dh nor 353h does not do
pub record Away (e : Event) : Type 0 where
  pub unwritten : writes e STACK ≡ false
  pub unread : reads e STACK ≡ false
  pub bits : writes e DMACNTRL1 ≡ false
  pub byte : reads e DMACNTRL1 ≡ false

pub away : (e : Event) → touches e ≡ false → Away e
unfolding touches
away e h = go (writes e STACK) (reads e STACK) (writes e DMACNTRL1) (reads e DMACNTRL1) refl refl refl refl h
  where
    go : (a b c d : Bool) → writes e STACK ≡ a → reads e STACK ≡ b → writes e DMACNTRL1 ≡ c → reads e DMACNTRL1 ≡ d → (a || b || c || d) ≡ false → Away e
    go false false false false p q r t z = record { unwritten = p; unread = q; bits = r; byte = t }
    go true b c d p q r t z = absurd (never (sym z))
    go false true c d p q r t z = absurd (never (sym z))
    go false false true d p q r t z = absurd (never (sym z))
    go false false false true p q r t z = absurd (never (sym z))

module _ (d : Dmacntrl1) (k : Stack) (s : State) where
  abbrev other : State
  other = with_apart d k s

  -- A
  ack_a_same : (e : Event) → automatic_ack other e ≡ automatic_ack s e
  unfolding automatic_ack latch_access automatic
  ack_a_same e = ap (λ (b : Bool). latch_access s e && automatic s.registers && b && req_seen s) (matched_same d k s)

  sequencer_a_same : (e : Event) → sequencer_a other.registers s.quiet s.sequencer e ≡ sequencer_a s.registers s.quiet s.sequencer e
  unfolding sequencer_a gives_up selection_asked selection_a selection_latches_a registers_a
  sequencer_a_same e = refl

  stack_stays : (e : Event) → Away e → stack_a d.enstk32 k e ≡ k
  unfolding stack_a
  stack_stays e a = rw (a.unwritten, a.unread, a.bits)

  bits_stay : (e : Event) → Away e → cond (writes e DMACNTRL1) (dmacntrl1_of (value_of e)) d ≡ d
  bits_stay e a = rw a.bits

  a_other : (e : Event) → Away e → after_a other e ≡ with_apart d k (after_a s e)
  unfolding after_a registers_a latch_access
  a_other e a =
      λ i.
      with_apart (bits_stay e a i) (stack_stays e a i)
      (record {
        lines = (after_a s e).lines;
        registers = (after_a s e).registers;
        transfer = transfer_a (ack_a_same e i) s.transfer e;
        status = status_a (latch_access s e) (ack_a_same e i) (registers_a s.registers e).sxfrctl1.enspchk s.keptbad s.status e;
        latches = latches_a s.latches e;
        stack = (after_a s e).stack;
        keptbad = s.keptbad;
        quiet = s.quiet;
        identity = identity_a s.identity e;
        sequencer = sequencer_a_same e i;
      })

  -- B, C and D
  b_other : (e : Event) → Away e → after_b other e ≡ with_apart d k (after_b s e)
  unfolding after_b
  b_other e a = ap (in_order other (ticks_of e)) (a_other e a) ∙ b_apart d d k k s (after_a s e) (ticks_of e)

  c_other : (e : Event) → Away e → settled_c other e ≡ settled_c s e
  unfolding settled_c started
  c_other e a =
      let b = after_b s e in
      ap (λ (x : State). settle (conditions x) turns (started x)) (b_other e a) ∙ ap (λ x. settle x turns (started b)) (conditions_same d k b)

  d_other : (e : Event) → Away e → after_d other e ≡ with_apart d k (after_d s e)
  unfolding after_d
  d_other e a =
      (λ i. finished other (a_other e a i) (b_other e a i) (c_other e a i)) ∙ d_apart d d k k s (after_a s e) (after_b s e) (settled_c s e)

  limit_other : (e : Event) → Away e → beyond other (at_req other e) ≡ beyond s (at_req s e)
  unfolding at_req
  limit_other e a =
      ap (λ (x : State). beyond other (after_rst_rises other (after_req_falls other x))) (a_other e a)
      ∙ ap (beyond other) (req_apart d d k k s (after_a s e)) ∙ beyond_same d d k k s _

  -- the checks
  code_other : (e : Event) → access_code other e ≡ access_code s e
  unfolding access_code shut no_room no_bytes
  code_other e = refl

  -- the value: each register but two reads the same
  sigi_same : scsisigi other ≡ scsisigi s
  unfolding scsisigi atn_seen sel_seen bsy_seen
  sigi_same =
      ap (byte_of (cd_seen s) (io_seen s) (msg_seen s) (atn_seen s) (sel_seen s) (bsy_seen s) (req_seen s)) (ack_same d k s)

  dmastat_same : dmastat other ≡ dmastat s
  unfolding dmastat
  dmastat_same =
      let n = length s.transfer.host in
      ap (λ (b : Bool). byte_of false (not s.registers.dmacntrl0.write && leb 2 n) b (eqb n 128) (eqb n 0) (leb 64 n) false false) (instat_same d k s)

  read_same : (r : Register) → (r ≡ STACK → ⊥) → (r ≡ DMACNTRL1 → ⊥) → read_of other r ≡ read_of s r
  unfolding read_of scsibus sstat0 sstat2 sstat3 sstat4
  read_same SCSISEQ f g = refl
  read_same SXFRCTL0 f g = refl
  read_same SXFRCTL1 f g = refl
  read_same SCSISIGI f g = sigi_same
  read_same SELID f g = refl
  read_same SCSIDAT f g = data_same d k s
  read_same SCSIBUS f g = data_same d k s
  read_same STCNT0 f g = refl
  read_same STCNT1 f g = refl
  read_same STCNT2 f g = refl
  read_same SSTAT0 f g = refl
  read_same SSTAT1 f g = sstat1_same d k s
  read_same SSTAT2 f g = refl
  read_same SSTAT3 f g = refl
  read_same SSTAT4 f g = refl
  read_same SIMODE0 f g = refl
  read_same SIMODE1 f g = refl
  read_same DMACNTRL0 f g = refl
  read_same DMACNTRL1 f g = absurd (g refl)
  read_same DMASTAT f g = dmastat_same
  read_same FIFOSTAT f g = refl
  read_same DMADATA f g = refl
  read_same BRSTCNTRL f g = refl
  read_same REV f g = refl
  read_same STACK f g = absurd (f refl)
  read_same ID f g = refl
  read_same SCSISIGO f g = refl
  read_same SCSIRATE f g = refl
  read_same SCSIID f g = refl
  read_same CLRSINT0 f g = refl
  read_same CLRSINT1 f g = refl
  read_same SCSITEST f g = refl
  read_same CLRSERR f g = refl
  read_same TEST f g = refl

  -- a read that finds a register is a read of it
  missed : (offset : ℕ) (r t : Register) → read_at offset ≡ Some r → reads (Read offset) t ≡ false → r ≡ t → ⊥
  unfolding reads
  missed offset r t e h same =
      never (sym h ∙ ap (eqb offset) (sym (read_offset offset r e ∙ ap offset_of same)) ∙ eq-eqb offset offset refl)

  mapped_same : (offset : ℕ) (m : Option Register) → read_at offset ≡ m → Away (Read offset) → read_mapped other m ≡ read_mapped s m
  mapped_same offset (Some r) e a =
      read_same r (missed offset r STACK e a.unread) (missed offset r DMACNTRL1 e a.byte)
  mapped_same offset None e a = refl

  value_other : (e : Event) → Away e → value_read other e ≡ value_read s e
  unfolding value_read
  value_other PowerReset a = refl
  value_other (Write offset value) a = refl
  value_other (Read offset) a = mapped_same offset (read_at offset) refl a
  value_other (WordWrite word) a = refl
  value_other WordRead a = refl
  value_other (Drive lines) a = refl
  value_other (Ticks n) a = refl

  -- a step with the stack and the bits put in
  abbrev put : Stepped → Stepped
  put r = stepped_apart d k r.value r

  done_other : (e : Event) → Away e → done other e ≡ put (done s e)
  unfolding done
  done_other e a =
      λ i.
      record {
        state = d_other e a i;
        code = cond (limit_other e a i) BeyondLimit Done;
        value = value_other e a i;
        moves = (c_other e a i).moves;
        acks = (c_other e a i).acks;
        sent = (c_other e a i).sent;
      }

  access_other : (e : Event) → Away e → access other e ≡ put (access s e)
  unfolding access ended
  access_other e a =
      ap (λ (c : Code). cond (is_done c) (done other e) (refused other c (refused_value e))) (code_other e)
      ∙ go (is_done (access_code s e))
    where
      go : (b : Bool) → cond b (done other e) (refused other (access_code s e) (refused_value e)) ≡ put (cond b (done s e) (refused s (access_code s e) (refused_value e)))
      go true = done_other e a
      go false = refl

-- ticks, one by one
tick_away : (n : ℕ) → Away (Ticks n)
unfolding writes reads
tick_away n = record { unwritten = refl; unread = refl; bits = refl; byte = refl }

single_other : (n : ℕ) (d : Dmacntrl1) (k : Stack) (s : State) → single_ticks n (with_apart d k s) ≡ put d k s (single_ticks n s)
unfolding single_ticks ended
single_other zero d k s = refl
single_other (suc n) d k s =
    let first = access_other d k s (Ticks 1) (tick_away 1) in
    (λ i. joined (first i) (single_ticks n (first i).state))
    ∙ ap (joined (put d k s (access s (Ticks 1)))) (single_other n d k (access s (Ticks 1)).state)

-- EVERY OTHER EVENT
pub event_other : (d : Dmacntrl1) (k : Stack) (s : State) (e : Event) → touches e ≡ false → resets e ≡ false
    → step_event (with_apart d k s) e ≡ stepped_apart d k (step_event s e).value (step_event s e)
unfolding step_event ticks_taken resets
event_other d k s PowerReset h z = absurd (never (sym z))
event_other d k s (Write offset value) h z = access_other d k s (Write offset value) (away _ h)
event_other d k s (Read offset) h z = access_other d k s (Read offset) (away _ h)
event_other d k s (WordWrite word) h z = access_other d k s (WordWrite word) (away _ h)
event_other d k s WordRead h z = access_other d k s WordRead (away _ h)
event_other d k s (Drive lines) h z = access_other d k s (Drive lines) (away _ h)
event_other d k s (Ticks zero) h z = access_other d k s (Ticks 0) (tick_away 0)
event_other d k s (Ticks (suc n)) h z = single_other (suc n) d k s

-- EVERY OTHER RECORD, well formed or not
both_not : (a b : Bool) → (not a && not b) ≡ true → (a ≡ false) × (b ≡ false)
both_not true b h = absurd (never h)
both_not false true h = absurd (never h)
both_not false false h = (refl, refl)

decoded_other : (d : Dmacntrl1) (k : Stack) (s : State) (x : Option Event) → elsewhere x ≡ true
    → step_decoded (with_apart d k s) x ≡ stepped_apart d k (step_decoded s x).value (step_decoded s x)
unfolding step_decoded ended
decoded_other d k s (Some e) h =
    let p = both_not (touches e) (resets e) h in
    event_other d k s e p.0 p.1
decoded_other d k s None h = refl

pub record_other : (d : Dmacntrl1) (k : Stack) (s : State) (bytes : List ℕ) → elsewhere (decode bytes) ≡ true
    → step (with_apart d k s) bytes ≡ stepped_apart d k (step s bytes).value (step s bytes)
unfolding step
record_other d k s bytes h = decoded_other d k s (decode bytes) h

-- so it leaves both as they are
pub others_leave : (s : State) (bytes : List ℕ) → elsewhere (decode bytes) ≡ true
    → ((step s bytes).state.stack ≡ s.stack) × ((step s bytes).state.registers.dmacntrl1 ≡ s.registers.dmacntrl1)
others_leave s bytes h =
    let e = record_other s.registers.dmacntrl1 s.stack s bytes h in
    (ap (λ (r : Stepped). r.state.stack) e, ap (λ (r : Stepped). r.state.registers.dmacntrl1) e)

-- and the sixteen bytes of its answer are the same
pub answer_other : (d : Dmacntrl1) (k : Stack) (s : State) (bytes : List ℕ) → elsewhere (decode bytes) ≡ true → answer (with_apart d k s) bytes ≡ answer s bytes
unfolding answer answer_of
answer_other d k s bytes h =
    ap (λ (r : Stepped). answer_bytes (answer_of r)) (record_other d k s bytes h) ∙ ap answer_bytes (answer_apart d k (step s bytes).value (step s bytes))

-- POWER RESET ZEROES BOTH, whatever they were
abbrev pub stack_zero : Stack
stack_zero = record { bytes = replicate 32 0; pointer = 0 }

pub reset_zeroes : (d : Dmacntrl1) (k : Stack) (s : State) → step_event (with_apart d k s) PowerReset ≡ step_event s PowerReset
unfolding step_event
reset_zeroes d k s = refl

pub reset_leaves : (s : State) → ((step_event s PowerReset).state.stack ≡ stack_zero) × ((step_event s PowerReset).state.registers.dmacntrl1 ≡ dmacntrl1_of 0)
unfolding step_event ended power_reset
reset_leaves s = (refl, refl)
