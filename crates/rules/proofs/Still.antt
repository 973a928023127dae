-- An event of 0 ticks after any event changes nothing.
use Rattle.std.specs.Prelude.{Option, Some, None}
use mathlib.Core.Path.{◌≡◌, refl, sym, ◌∙◌, ap}
use mathlib.Core.Bool.{Bool, true, false, not, ◌&&◌, ◌||◌, cond, and-not_self, and-false}
use mathlib.Core.List.{List, [], ◌∷◌}
use Prim.Native.Nat.{ℕ, zero, suc, ◌+◌, ◌≤◌, min}
use native.Mathlib.Omega.{arith}
use lib.Dec.{ltb, leb}
use lib.ListN.{length}
use borrow.Author.Tests.{le-ltb}
use Rattle.rules.specs.Rest.{AtRest}
use Rattle.rules.specs.State.{State, power_reset}
use Rattle.rules.specs.Changed.{with_transfer}
use Rattle.rules.specs.Seen.{phase_bsy, phase_sel, ack_driven, ack_seen, bsy_seen, connected, io_seen, matched, mismatched, parity_even, req_seen, rst_seen, sel_seen, synchronous}
use Rattle.rules.specs.Records.{well_formed, fields_of, decode}
use Rattle.rules.specs.Events.{writes, reads, value_of, ticks_of, lines_after, offered, asked, port_write, port_read}
use Rattle.rules.specs.Interrupts.{latched}
use Rattle.rules.specs.Reads.{value_read}
use Rattle.rules.specs.Codes.{absent, test_value, shut, no_room, no_bytes, access_code, is_done}
use Rattle.rules.specs.Sequencer.{sequenced_of, selection_freed, sequenced}
use Rattle.rules.specs.declared.chip.Sequenced.{Sequenced}
use Rattle.rules.specs.StepA.{clears, clears_latch, clears_error, clrstcnt, clrch, rstfifo, latch_access, automatic_ack, registers_a, host_a, counter_a, transfer_a, error_a, status_a, latches_a, stack_a, identity_a, gives_up, selection_a, noted_a, selection_latches_a, sequencer_a, after_a}
use Rattle.rules.specs.StepB.{req_falls, ack_released, after_req_falls, rst_rises, bus_reset, after_rst_rises, req_rises, parity_bad, req_risen, after_req_rises, quiet_after, bus_free, bus_freed, after_quiet_ticks, phase_changes, phase_changed, after_phase_changes, after_sequencer, first_four, in_order, after_b, at_req, beyond}
use Rattle.rules.specs.StepC.{conditions, can_move, can_handshake, can_synchronous, can_asynchronous, settle, turns, started, settled_c}
use Rattle.rules.specs.StepD.{fifo_conflict, pio_ready, status_raised, status_d, latches_d, finished, after_d}
use Rattle.rules.specs.Answers.{Stepped}
use Rattle.rules.specs.Step.{ended, done, access, single_ticks, ticks_taken, step_event, step_decoded, step, after}
use Rattle.rules.specs.Ranges.{EventFits, DecodedFits, InRange}
use Rattle.rules.specs.declared.registers.Registers.{Registers}
use Rattle.rules.specs.declared.records.Event.{Event}
use Rattle.rules.specs.declared.records.Event.TheVariants.{PowerReset, Write, Read, WordWrite, WordRead, Drive, Ticks}
use Rattle.rules.specs.declared.codes.Code.TheVariants.{Done, BeyondLimit}
use Rattle.rules.specs.declared.chip.Status.{Status}
use Rattle.rules.specs.declared.chip.Latches.{Latches}
use Rattle.rules.specs.declared.chip.Sequencer.{Sequencer}
use Rattle.rules.proofs.Computes.{computes}
use Rattle.rules.proofs.Logic.{never, cond_case}
use Rattle.rules.proofs.InOrder.{Keeps, b_keeps, ticks_leave_lem}
use Rattle.rules.proofs.Resolving.{Sequential, busy_at, Hushed, tickless, sequenced_into_lem, sequenced_into, same_into, sequencer_calm, sequential_status, sequential_latches, sequential_transfer, hushed_sequenced}
use Rattle.rules.proofs.Refusals.{not_beyond}
use Rattle.rules.proofs.Ranges.{decode_fits, after_b_fits, power_reset_fits, access_fits, step_in_range, always_in_range}
use Rattle.rules.proofs.Rest.{settle_rests, settling_rests}
use Rattle.rules.specs.Rest.{Resting}

-- a status that its cause sets, or that another holds clear, stays as it is
pub set_already : (cause status : Bool) → (cause ≡ true → status ≡ true) → (cause || status) ≡ status
set_already true status h = sym (h refl)
set_already false status h = refl

pub clear_already : (keep status : Bool) → (keep ≡ false → status ≡ false) → (keep && status) ≡ status
clear_already true status h = refl
clear_already false status h = sym (h refl)

-- a latch whose status does not rise and whose enable is as before stays as it is
pub latch_still : (kept enable status : Bool) → latched (record { kept = kept; enable = enable; enabled_before = enable; status = status; raised = status }) ≡ kept
latch_still true enable status = refl
latch_still false true true = refl
latch_still false true false = refl
latch_still false false status = refl

-- A of ticks
status_still : (enspchk kept : Bool) (t : Status) (n : ℕ) → (enspchk ≡ false → t.scsiperr ≡ false) → status_a false false enspchk kept t (Ticks n) ≡ t
unfolding status_a error_a clears clears_error writes
status_still enspchk kept t n h =
    λ i.
    record {
      spiordy = t.spiordy;
      scsirsti = t.scsirsti;
      busfree = t.busfree;
      scsiperr = clear_already enspchk t.scsiperr h i;
      phasechg = t.phasechg;
      reqinit = t.reqinit;
      syncerr = t.syncerr;
      fwerr = t.fwerr;
    }

sequencer_a_still : (r : Registers) (quiet : ℕ) (q : Sequencer) (n : ℕ) → sequencer_a r quiet q (Ticks n) ≡ q
unfolding sequencer_a gives_up selection_a noted_a selection_latches_a registers_a clears clears_latch writes
sequencer_a_still r quiet q n = refl

pub after_a_still : (s : State) (n : ℕ) → AtRest s → after_a s (Ticks n) ≡ s
unfolding after_a lines_after registers_a transfer_a host_a counter_a latches_a stack_a identity_a automatic_ack latch_access clrstcnt clrch rstfifo clears clears_latch clears_error writes reads value_of asked port_write
after_a_still s n r =
    λ i.
    record {
      lines = s.lines;
      registers = s.registers;
      transfer = s.transfer;
      status = status_still s.registers.sxfrctl1.enspchk s.keptbad s.status n r.scsiperr i;
      latches = s.latches;
      stack = s.stack;
      keptbad = s.keptbad;
      quiet = s.quiet;
      identity = s.identity;
      sequencer = sequencer_a_still s.registers s.quiet s.sequencer n i;
    }

-- B of no ticks: nothing rises or falls
pub no_fall : (s : State) → req_falls s s ≡ false
unfolding req_falls
no_fall s = and-not_self (req_seen s)

pub falls_still : (s : State) → after_req_falls s s ≡ s
unfolding after_req_falls
falls_still s = rw (no_fall s)

pub no_reset : (s : State) → rst_rises s s ≡ false
unfolding rst_rises
no_reset s = and-not_self (rst_seen s)

pub reset_still : (s : State) → after_rst_rises s s ≡ s
unfolding after_rst_rises
reset_still s = rw (no_reset s)

pub no_rise : (s : State) → req_rises s s ≡ false
unfolding req_rises
no_rise s = go (req_seen s) (not (rst_seen s))
  where
    go : (q n : Bool) → (q && not q && n) ≡ false
    go true n = refl
    go false n = refl

pub rises_still : (s : State) → after_req_rises s s ≡ s
unfolding after_req_rises
rises_still s = rw (no_rise s)

pub no_change : (s : State) → phase_changes s s ≡ false
unfolding phase_changes
no_change s = and-not_self (mismatched s)

phase_still : (s : State) → after_phase_changes s s ≡ s
unfolding after_phase_changes
phase_still s = rw (no_change s)

-- the sequencer without a tick
pub sequencer_still : (s : State) (before : ℕ) → sequenced false 0 s ≡ sequenced_of s → after_sequencer false before s ≡ s
sequencer_still s before h =
    sequenced_into_lem s false before ∙ ap (λ (x : Sequenced). sequenced_into x s) (tickless s before ∙ sym (tickless s 0) ∙ h) ∙ same_into s

module _ (s : State) (r : AtRest s) (h : s.quiet ≤ 8) where
  pub quiet_still : quiet_after 0 s ≡ s.quiet
  unfolding quiet_after
  quiet_still = go (bsy_seen s || sel_seen s) refl
    where
      go : (b : Bool) → (bsy_seen s || sel_seen s) ≡ b → cond b 0 (min 8 (s.quiet + 0)) ≡ s.quiet
      go true e = sym (r.quiet e)
      go false e = omega arith

  free_still : bus_free 0 s ≡ false
  unfolding bus_free
  free_still = rw quiet_still (and-not_self (leb 8 s.quiet))

  ticks_still : after_quiet_ticks 0 s ≡ s
  unfolding after_quiet_ticks
  ticks_still = rw (free_still, quiet_still)

  after_b_still : after_b s (Ticks 0) ≡ s
  unfolding after_b ticks_of in_order first_four
  after_b_still =
      ap (λ (a : State). in_order s 0 a) (after_a_still s 0 r)
      ∙ simp (falls_still s, reset_still s, rises_still s, ticks_still, sequencer_still s s.quiet r.sequencer, phase_still s)

-- C of no ticks
pub settled_still : (s : State) → AtRest s → s.quiet ≤ 8 → settled_c s (Ticks 0) ≡ started s
unfolding settled_c started
settled_still s r h =
    ap (λ (b : State). settle (conditions b) turns (started b)) (after_b_still s r h) ∙ settle_rests (conditions s) turns (started s) r.resting

-- D of no ticks
pub raised_still : (s : State) → AtRest s → status_raised s ≡ s.status
unfolding status_raised
raised_still s r =
    λ i.
    record {
      spiordy = set_already (pio_ready s) s.status.spiordy r.spiordy i;
      scsirsti = s.status.scsirsti;
      busfree = s.status.busfree;
      scsiperr = s.status.scsiperr;
      phasechg = s.status.phasechg;
      reqinit = s.status.reqinit;
      syncerr = s.status.syncerr;
      fwerr = set_already (fifo_conflict s.registers) s.status.fwerr r.fwerr i;
    }

pub status_d_still : (seen : Bool) (t : Status) → (seen ≡ true → t.reqinit ≡ false) → status_d 0 seen t ≡ t
unfolding status_d
status_d_still seen t h =
    λ i.
    record {
      spiordy = t.spiordy;
      scsirsti = t.scsirsti;
      busfree = t.busfree;
      scsiperr = t.scsiperr;
      phasechg = t.phasechg;
      reqinit = go seen h i;
      syncerr = t.syncerr;
      fwerr = t.fwerr;
    }
  where
    go : (b : Bool) → (b ≡ true → t.reqinit ≡ false) → (not b && t.reqinit) ≡ t.reqinit
    go true k = sym (k refl)
    go false k = refl

pub latches_still : (r : Registers) (t : Status) (k : Latches) → latches_d r r t t k ≡ k
unfolding latches_d
latches_still r t k =
    λ i.
    record {
      spiordy = latch_still k.spiordy r.simode0.enspiordy t.spiordy i;
      scsirsti = latch_still k.scsirsti r.simode1.enscsirst t.scsirsti i;
      busfree = latch_still k.busfree r.simode1.enbusfree t.busfree i;
      scsiperr = latch_still k.scsiperr r.simode1.enscsiperr t.scsiperr i;
      phasechg = latch_still k.phasechg r.simode1.enphasechg t.phasechg i;
      reqinit = latch_still k.reqinit r.simode1.enreqinit t.reqinit i;
    }

pub finished_still : (s : State) → AtRest s → finished s s s (started s) ≡ s
unfolding finished started
finished_still s r =
    λ i.
    record {
      lines = s.lines;
      registers = s.registers;
      transfer = s.transfer;
      status = status i;
      latches = latches i;
      stack = s.stack;
      keptbad = s.keptbad;
      quiet = s.quiet;
      identity = s.identity;
      sequencer = s.sequencer;
    }
  where
    seen : Bool
    seen = ack_seen s

    status : status_d 0 seen (status_raised s) ≡ s.status
    status = ap (λ (t : Status). status_d 0 seen t) (raised_still s r) ∙ status_d_still seen s.status r.reqinit

    latches : latches_d s.registers s.registers s.status (status_raised s) s.latches ≡ s.latches
    latches = ap (λ (t : Status). latches_d s.registers s.registers s.status t s.latches) (raised_still s r) ∙ latches_still s.registers s.status s.latches

pub after_d_still : (s : State) → AtRest s → s.quiet ≤ 8 → after_d s (Ticks 0) ≡ s
unfolding after_d
after_d_still s r h = rw (after_a_still s 0 r, after_b_still s r h, settled_still s r h) (finished_still s r)

-- the record of 0 ticks
abbrev pub zero_ticks : List ℕ
zero_ticks = 0xC0 ∷ 0 ∷ 0 ∷ 0 ∷ []

-- the step that changes nothing: the same state, code 0, no value, no move, no ACK, nothing sent
abbrev pub nothing : State → Stepped
nothing s = record { state = s; code = Done; value = 0; moves = 0; acks = 0; sent = [] }

pub ticks_done : (s : State) (n : ℕ) → length s.transfer.host ≤ 128 → access_code s (Ticks n) ≡ Done
unfolding access_code absent test_value shut no_room no_bytes writes offered asked port_write port_read
ticks_done s n h = rw (le-ltb 128 (length s.transfer.host + 0) (omega arith), le-ltb (length s.transfer.host) 0 (omega arith))

ticks_beyond : (s : State) → beyond s (at_req s (Ticks 0)) ≡ false
unfolding lines_after
ticks_beyond s = not_beyond s (Ticks 0) refl

done_still : (s : State) → AtRest s → s.quiet ≤ 8 → done s (Ticks 0) ≡ nothing s
unfolding done value_read started
done_still s r h =
    λ i.
    record {
      state = after_d_still s r h i;
      code = cond (ticks_beyond s i) BeyondLimit Done;
      value = 0;
      moves = (settled_still s r h i).moves;
      acks = (settled_still s r h i).acks;
      sent = (settled_still s r h i).sent;
    }

-- AT REST, AN EVENT OF 0 TICKS CHANGES NOTHING and reports nothing
pub zero_ticks_at_rest : (s : State) → AtRest s → InRange s → step s zero_ticks ≡ nothing s
unfolding step decode fields_of well_formed step_decoded step_event ticks_taken access
zero_ticks_at_rest s r i = rw (ticks_done s 0 i.transfer.host) (done_still s r i.quiet)

-- POWER RESET IS AT REST
pub power_reset_rests : AtRest power_reset
unfolding computes
power_reset_rests =
    record {
      resting = record { no_move = refl; no_handshake = refl };
      fwerr = λ e. absurd (never e);
      spiordy = λ e. absurd (never e);
      reqinit = λ e. refl;
      scsiperr = λ e. refl;
      quiet = λ e. refl;
      sequencer = refl;
    }

settled_rests : (s : State) (e : Event) → InRange (after_b s e) → Resting (conditions (after_d s e)) (settled_c s e).transfer
unfolding settled_c started after_d finished conditions can_move can_handshake can_synchronous can_asynchronous matched connected rst_seen sel_seen bsy_seen synchronous
settled_rests s e b =
    let r = settling_rests (conditions (after_b s e)) (started (after_b s e)) b.transfer.scsi b.transfer.offset in
    record { no_move = r.no_move; no_handshake = r.no_handshake }

-- what sets a status leaves it set, what clears one leaves it clear
sets : (cause status : Bool) → cause ≡ true → (cause || status) ≡ true
sets true status e = refl
sets false status e = absurd (never e)

clears_seen : (keep seen status : Bool) → seen ≡ true → (keep && not seen && status) ≡ false
clears_seen true true status e = refl
clears_seen false true status e = refl
clears_seen keep false status e = absurd (never e)

-- SCSIPERR neither rises nor stays where ENSPCHK is 0
checked_not : (bus enspchk even : Bool) → enspchk ≡ false → (bus && enspchk && even) ≡ false
checked_not bus enspchk even h = rw (h, and-false)

unchecked : (n : State) → n.registers.sxfrctl1.enspchk ≡ false → parity_bad n ≡ false
unfolding parity_bad
unchecked n h =
    checked_not (connected n && io_seen n) n.registers.sxfrctl1.enspchk
    (parity_even n) h

abbrev Checked : State → Type 0
Checked n = n.registers.sxfrctl1.enspchk ≡ false → n.status.scsiperr ≡ false

checked_keeps : Keeps Checked
unfolding ack_released bus_reset req_risen bus_freed after_sequencer phase_changed
checked_keeps =
    record {
      released = λ n k. k;
      reset = λ n k. k;
      risen = λ n k h. rw (unchecked n h) (k h);
      ticked = λ n ticks k. k;
      freed = λ n k. k;
      sequenced = λ n tick before k. k;
      changed = λ n k. k;
    }

parity_rests : (s : State) (e : Event) → Checked (after_b s e)
unfolding after_a status_a error_a
parity_rests s e = b_keeps Checked checked_keeps s e (λ h. rw h)

-- BSY or SEL that is seen after B was seen where the quiet ticks were counted
none : (b : Bool) (n : ℕ) → b ≡ true → cond b 0 n ≡ 0
none true n e = refl
none false n e = absurd (never e)

busy_counts : (ticks : ℕ) (n : State) → busy_at n ≡ true → quiet_after ticks n ≡ 0
unfolding quiet_after
busy_counts ticks n h = none (busy_at n) (min 8 (n.quiet + ticks)) h

seen_before : (b x p l y q : Bool) → (((b || false) || p) || ((l || false) || q)) ≡ true → (((b || x) || p) || ((l || y) || q)) ≡ true
seen_before true x p l y q h = refl
seen_before false true p l y q h = refl
seen_before false false true l y q h = refl
seen_before false false false true y q h = refl
seen_before false false false false true q h = refl
seen_before false false false false false q h = h

module _ (n : State) where
  abbrev once_seen : Type 0
  once_seen =
      (((n.lines.bsy || false) || phase_bsy n.sequencer.phase) || ((n.lines.sel || false) || phase_sel n.sequencer.phase)) ≡ true

  once_seen_lem : once_seen → busy_at n ≡ true
  unfolding bsy_seen sel_seen
  once_seen_lem h =
      seen_before n.lines.bsy n.registers.scsisig.bsyo (phase_bsy n.sequencer.phase) n.lines.sel n.registers.scsisig.selo
      (phase_sel n.sequencer.phase) h

  freed_busy : busy_at (bus_freed n) ≡ true → busy_at n ≡ true
  unfolding bus_freed selection_freed bsy_seen sel_seen
  freed_busy h = once_seen_lem h

  reset_busy : busy_at (bus_reset n) ≡ true → busy_at n ≡ true
  unfolding bus_reset bsy_seen sel_seen
  reset_busy h = once_seen_lem h

hushed_keeps : Keeps Hushed
unfolding ack_released bus_reset req_risen bus_freed phase_changed bsy_seen sel_seen
hushed_keeps =
    record {
      released = λ n k. k;
      reset = λ n k h. k (reset_busy n h);
      risen = λ n k. k;
      ticked = λ n ticks k. busy_counts ticks n;
      freed = λ n k h. k (freed_busy n h);
      sequenced = hushed_sequenced;
      changed = λ n k. k;
    }

quiet_rests : (s : State) (e : Event) → Hushed (after_b s e)
unfolding bsy_seen sel_seen
quiet_rests s e = ticks_leave_lem Hushed hushed_keeps s e busy_counts

phase_sequential : (n : State) → Sequential n → Sequential (phase_changed n)
unfolding phase_changed
phase_sequential n h = sequential_status _ n h

-- the sequencer has nothing left to do when B is over
sequencer_rests : (s : State) (e : Event) → Sequential (after_b s e)
unfolding after_b in_order after_phase_changes
sequencer_rests s e =
    let n = after_sequencer (ltb 0 (ticks_of e)) s.quiet (first_four s (ticks_of e) (after_a s e)) in
    let h = sequencer_calm (first_four s (ticks_of e) (after_a s e)) (ltb 0 (ticks_of e)) s.quiet in
    cond_case Sequential (phase_changes s n) (phase_changed n) n (λ c. phase_sequential n h) (λ c. h)

-- nor after C and D
sequencer_done : (s : State) (e : Event) → Sequential (after_d s e)
unfolding after_d finished
sequencer_done s e =
    sequential_status _ _ (sequential_latches _ _ (sequential_transfer _ (after_b s e) (sequencer_rests s e)))

-- EVERY EVENT THAT IS DONE LEAVES THE CHIP AT REST
pub done_rests : (s : State) (e : Event) → InRange (after_b s e) → AtRest (after_d s e)
unfolding after_d finished status_d status_raised pio_ready ack_seen ack_driven matched connected rst_seen sel_seen bsy_seen
done_rests s e b =
    let r = (after_b s e).registers in
    let n = with_transfer (settled_c s e).transfer (after_b s e) in
    record {
      resting = settled_rests s e b;
      fwerr = sets (fifo_conflict r) (after_b s e).status.fwerr;
      spiordy = sets (pio_ready n) (after_b s e).status.spiordy;
      reqinit = clears_seen (not (ltb 0 (settled_c s e).acks)) (ack_seen n) (after_b s e).status.reqinit;
      scsiperr = parity_rests s e;
      quiet = quiet_rests s e;
      sequencer = sequencer_done s e;
    }

-- what a refusal and an access leave
pub access_rests : (s : State) (e : Event) → EventFits e → InRange s → AtRest s → AtRest (access s e).state
unfolding access done ended
access_rests s e f i r =
    cond_case (λ (k : Stepped). AtRest k.state) (is_done (access_code s e)) _ _
    (λ d. done_rests s e (after_b_fits s e f d i)) (λ d. r)

-- ticks, one by one
pub single_rests : (n : ℕ) (s : State) → InRange s → AtRest s → AtRest (single_ticks n s).state
unfolding single_ticks ended
single_rests zero s i r = r
single_rests (suc n) s i r =
    single_rests n (access s (Ticks 1)).state (access_fits s (Ticks 1) (omega arith) i).state (access_rests s (Ticks 1) (omega arith) i r)

ticks_rest : (n : ℕ) (s : State) → InRange s → AtRest s → AtRest (ticks_taken n s).state
unfolding ticks_taken
ticks_rest zero s i r = access_rests s (Ticks 0) (omega arith) i r
ticks_rest (suc n) s i r = single_rests (suc n) s i r

event_rests : (s : State) (e : Event) → EventFits e → InRange s → AtRest s → AtRest (step_event s e).state
unfolding step_event ended
event_rests s PowerReset f i r = power_reset_rests
event_rests s (Write offset value) f i r = access_rests s (Write offset value) f i r
event_rests s (Read offset) f i r = access_rests s (Read offset) f i r
event_rests s (WordWrite word) f i r = access_rests s (WordWrite word) f i r
event_rests s WordRead f i r = access_rests s WordRead f i r
event_rests s (Drive lines) f i r = access_rests s (Drive lines) f i r
event_rests s (Ticks n) f i r = ticks_rest n s i r

decoded_rests : (s : State) (d : Option Event) → DecodedFits d → InRange s → AtRest s → AtRest (step_decoded s d).state
unfolding step_decoded ended
decoded_rests s (Some e) f i r = event_rests s e f i r
decoded_rests s None f i r = r

-- EVERY RECORD LEAVES THE CHIP AT REST
pub step_rests : (s : State) (bytes : List ℕ) → InRange s → AtRest s → AtRest (step s bytes).state
unfolding step
step_rests s bytes i r = decoded_rests s (decode bytes) (decode_fits bytes) i r

-- and so does every list of records
pub after_rests : (s : State) (records : List (List ℕ)) → InRange s → AtRest s → AtRest (after s records)
after_rests s [] i r = r
after_rests s (bytes ∷ more) i r = after_rests (step s bytes).state more (step_in_range s bytes i) (step_rests s bytes i r)

-- FROM POWER RESET, AFTER ANY LIST OF RECORDS, THE CHIP IS AT REST
pub always_at_rest : (records : List (List ℕ)) → AtRest (after power_reset records)
always_at_rest records = after_rests power_reset records power_reset_fits power_reset_rests

-- FROM POWER RESET, AFTER ANY LIST OF RECORDS, AN EVENT OF 0 TICKS CHANGES NOTHING
pub zero_ticks_lem : (records : List (List ℕ)) → step (after power_reset records) zero_ticks ≡ nothing (after power_reset records)
zero_ticks_lem records = zero_ticks_at_rest (after power_reset records) (always_at_rest records) (always_in_range records)
