-- The clearing: no byte is sent from the cut to the next start, whatever the order, as long as the paper's condition holds.
use Rattle.std.specs.Prelude.{Option, Some}
use mathlib.Core.Path.{◌≡◌, refl, sym, ◌∙◌, ap}
use mathlib.Core.Bool.{Bool, true, false, not, ◌&&◌, ◌||◌, cond}
use mathlib.Core.List.{List, [], ◌∷◌, ◌++◌}
use Prim.Native.Nat.{ℕ, suc}
use native.Mathlib.Omega.{arith}
use lib.Dec.{eqb}
use lib.ListN.{length}
use lib.Seq.{drop-nil}
use borrow.Author.Tests.{eqb-true, not-true}
use Rattle.rules.specs.Numbers.{bit}
use Rattle.rules.specs.Map.{offset_of}
use Rattle.rules.specs.Registers.{sxfrctl0_of, scsisig_of}
use Rattle.rules.specs.State.{State, power_reset}
use Rattle.rules.specs.Events.{writes, value_of, ticks_of, offered, port_write}
use Rattle.rules.specs.Codes.{access_code, is_done}
use Rattle.rules.specs.StepA.{clears, clrch, rstfifo, with_atn, registers_a, host_a, transfer_a, after_a}
use Rattle.rules.specs.StepB.{ack_released, bus_reset, req_risen, bus_freed, after_sequencer, phase_changed, after_b}
use Rattle.rules.specs.StepC.{Settling, conditions, started, turns, settled_c}
use Rattle.rules.specs.StepD.{finished, after_d}
use Rattle.rules.specs.Answers.{Stepped}
use Rattle.rules.specs.Step.{ended, refused, done, single_ticks, step, after}
use Rattle.rules.specs.declared.registers.Sxfrctl0.{Sxfrctl0}
use Rattle.rules.specs.declared.registers.Scsisig.{Scsisig}
use Rattle.rules.specs.declared.map.Register.TheVariants.{SXFRCTL0, SCSISIGO}
use Rattle.rules.specs.declared.codes.Code.{Code}
use Rattle.rules.specs.declared.codes.Code.TheVariants.{Done}
use Rattle.rules.specs.declared.records.Event.{Event}
use Rattle.rules.specs.declared.records.Event.TheVariants.{PowerReset, Write, Read, WordWrite, WordRead, Drive, Ticks}
use Rattle.rules.proofs.InOrder.{b_keeps, acko_stays, scsien_stays}
use Rattle.rules.proofs.Logic.{never, left_true, right_true}
use Rattle.runs.specs.Comes.{is_refusal, says, may_come, all_come, unless_refused, along, acks_along}
use Rattle.runs.specs.Run.{sent_by}
use Rattle.runs.specs.Clearing.{switched_off, both_empty, leaves_acko, stays_off, all_off, may_clear, all_clear}
use Rattle.runs.proofs.Access.{done_code, ticks_law, step_law, come_law}
use Rattle.runs.proofs.Settles.{unsent_settles, settle_still, empty_no_move, empty_no_handshake}
use Rattle.runs.proofs.Stages.{stays_zero, write_a, spioen_a, outbound_stores_none, no_automatic_ack, host_b, scsi_over_b}
use Rattle.runs.proofs.Ticks.{tick_leaves}
use Rattle.runs.proofs.Cut.{both_true, idle_event}

none_of_length : (l : List ℕ) → eqb (length l) 0 ≡ true → l ≡ []
none_of_length [] h = refl
none_of_length (x ∷ l) h = let n = eqb-true (length (x ∷ l)) 0 h in absurd (omega arith)

-- what SCSIEN and SPIOEN 0 says
off_scsien : (s : State) → switched_off s ≡ true → s.registers.sxfrctl0.scsien ≡ false
unfolding switched_off
off_scsien s h =
    not-true s.registers.sxfrctl0.scsien (left_true (not s.registers.sxfrctl0.scsien) (not s.registers.sxfrctl0.spioen) h)

pub off_by : (s : State) → s.registers.sxfrctl0.scsien ≡ false → s.registers.sxfrctl0.spioen ≡ false → switched_off s ≡ true
unfolding switched_off
off_by s a b = rw (a, b)

off_spioen : (s : State) → switched_off s ≡ true → s.registers.sxfrctl0.spioen ≡ false
unfolding switched_off
off_spioen s h =
    not-true s.registers.sxfrctl0.spioen (right_true (not s.registers.sxfrctl0.scsien) (not s.registers.sxfrctl0.spioen) h)

-- outbound with both FIFOs empty settling changes nothing
pub empty_settles : (s : State) (e : Event) → (after_b s e).registers.dmacntrl0.write ≡ true → (after_b s e).transfer.host ≡ [] → (after_b s e).transfer.scsi ≡ [] → settled_c s e ≡ started (after_b s e)
unfolding settled_c conditions started
empty_settles s e w h k =
    settle_still (conditions (after_b s e)) (started (after_b s e)) (empty_no_move (conditions (after_b s e)) (after_b s e).transfer w h)
    (empty_no_handshake (conditions (after_b s e)) (after_b s e).transfer w k) turns

-- inbound nothing is sent
inbound_sends_none : (s : State) (e : Event) → (after_b s e).registers.dmacntrl0.write ≡ false → (settled_c s e).sent ≡ []
unfolding settled_c conditions started
inbound_sends_none s e w = unsent_settles (conditions (after_b s e)) w turns (started (after_b s e)) refl

-- both FIFOs empty and no byte offered: they are empty when settling starts
module _ (s : State) (e : Event) (none : offered e ≡ []) where
  host_still_empty : s.transfer.host ≡ [] → (after_b s e).transfer.host ≡ []
  unfolding after_a transfer_a host_a
  host_still_empty h = host_b s e ∙ rw (h, none, drop-nil) (go (rstfifo e) (port_write e))
    where
      go : (a b : Bool) → ◌≡◌ {A = List ℕ} (cond a [] (cond b [] [])) []
      go true b = refl
      go false true = refl
      go false false = refl

  scsi_still_empty : s.transfer.scsi ≡ [] → (after_b s e).registers.dmacntrl0.write ≡ true → (after_b s e).transfer.scsi ≡ []
  unfolding after_a transfer_a
  scsi_still_empty h w = scsi_over_b s e ∙ rw (outbound_stores_none s e w, h) (go (clrch e))
    where
      go : (a : Bool) → ◌≡◌ {A = List ℕ} (cond a [] [] ++ []) []
      go true = refl
      go false = refl

  empty_sends_none : s.transfer.host ≡ [] → s.transfer.scsi ≡ [] → (settled_c s e).sent ≡ []
  unfolding started
  empty_sends_none h k = go (after_b s e).registers.dmacntrl0.write refl
    where
      go : (w : Bool) → (after_b s e).registers.dmacntrl0.write ≡ w → (settled_c s e).sent ≡ []
      go false w = inbound_sends_none s e w
      go true w = ap (λ (x : Settling). x.sent) (empty_settles s e w (host_still_empty h) (scsi_still_empty k w))

-- ticks one by one: 341h stays, and with SCSIEN 0 nothing is sent
abbrev Leaves341 : State → Stepped → Type 0
Leaves341 s r =
    (r.state.registers.sxfrctl0 ≡ s.registers.sxfrctl0) × (s.registers.sxfrctl0.scsien ≡ false → r.sent ≡ [])

tick_off : (s : State) → s.registers.sxfrctl0.scsien ≡ false → (done s (Ticks 1)).sent ≡ []
unfolding done after_a registers_a writes
tick_off s o = (idle_event s (Ticks 1) (scsien_stays s (Ticks 1) o)).none

ticks_leave_lem : (n : ℕ) (s : State) → Leaves341 s (single_ticks n s)
unfolding ended
ticks_leave_lem =
    ticks_law Leaves341 (λ s code value. (refl, λ o. refl)) (λ s q. (tick_leaves s, tick_off s))
    (λ s first rest f g. (g.0 ∙ f.0, λ o. rw (f.1 o) (g.1 (ap (λ (x : Sxfrctl0). x.scsien) f.0 ∙ o))))

-- inbound they send nothing, and outbound nothing from empty FIFOs
abbrev Inward : State → Stepped → Type 0
Inward s r = s.registers.dmacntrl0.write ≡ false → (r.state.registers.dmacntrl0.write ≡ false) × (r.sent ≡ [])

record StillEmpty (r : Stepped) : Type 0 where
  write : r.state.registers.dmacntrl0.write ≡ true
  host : r.state.transfer.host ≡ []
  scsi : r.state.transfer.scsi ≡ []
  none : r.sent ≡ []

abbrev Outward : State → Stepped → Type 0
Outward s r = s.registers.dmacntrl0.write ≡ true → s.transfer.host ≡ [] → s.transfer.scsi ≡ [] → StillEmpty r

tick_direction : (s : State) → (after_b s (Ticks 1)).registers.dmacntrl0.write ≡ s.registers.dmacntrl0.write
unfolding after_a registers_a writes
tick_direction s = sym (write_a s (Ticks 1))

tick_outward : (s : State) → Outward s (done s (Ticks 1))
unfolding done after_d finished started offered
tick_outward s w h k =
    let b = tick_direction s ∙ w in
    let host = host_still_empty s (Ticks 1) refl h in
    let scsi = scsi_still_empty s (Ticks 1) refl k b in
    let rest = empty_settles s (Ticks 1) b host scsi in
    record {
      write = b;
      host = ap (λ (x : Settling). x.transfer.host) rest ∙ host;
      scsi = ap (λ (x : Settling). x.transfer.scsi) rest ∙ scsi;
      none = ap (λ (x : Settling). x.sent) rest;
    }

inward_ticks : (n : ℕ) (s : State) → Inward s (single_ticks n s)
unfolding ended done after_d finished
inward_ticks =
    ticks_law Inward (λ s code value w. (w, refl)) (λ s q w. (tick_direction s ∙ w, inbound_sends_none s (Ticks 1) (tick_direction s ∙ w)))
    (λ s first rest f g w. let x = f w in let y = g x.0 in (y.0, rw x.1 y.1))

outward_ticks : (n : ℕ) (s : State) → Outward s (single_ticks n s)
unfolding ended
outward_ticks =
    ticks_law Outward (λ s code value w h k. record { write = w; host = h; scsi = k; none = refl }) (λ s q. tick_outward s)
    (λ s first rest f g w h k.
    let x = f w h k in
    let y = g x.write x.host x.scsi in
    record { write = y.write; host = y.host; scsi = y.scsi; none = rw x.none y.none })

empty_ticks : (n : ℕ) (s : State) → s.transfer.host ≡ [] → s.transfer.scsi ≡ [] → (single_ticks n s).sent ≡ []
empty_ticks n s h k = go s.registers.dmacntrl0.write refl
  where
    go : (w : Bool) → s.registers.dmacntrl0.write ≡ w → (single_ticks n s).sent ≡ []
    go false w = (inward_ticks n s w).1
    go true w = (outward_ticks n s w h k).none

-- a step in the clearing sends nothing
module _ (s : State) where
  abbrev Clears : Option Event → Stepped → Type 0
  Clears d r = (switched_off r.state || (both_empty s && eqb (length (unless_refused offered d r.code)) 0)) ≡ true → r.sent ≡ []

  clears_refused : (d : Option Event) (code : Code) (value : ℕ) → is_refusal code ≡ true → Clears d (refused s code value)
  unfolding ended
  clears_refused d code value q h = refl

  clears_reset : Clears (Some PowerReset) (ended power_reset Done 0)
  unfolding ended
  clears_reset h = refl

  off_sends_none : (e : Event) → switched_off (done s e).state ≡ true → (done s e).sent ≡ []
  unfolding done after_d finished switched_off
  off_sends_none e h =
      (idle_event s e (not-true (after_b s e).registers.sxfrctl0.scsien (left_true (not (after_b s e).registers.sxfrctl0.scsien) (not (after_b s e).registers.sxfrctl0.spioen) h))
      ).none

  -- what "both empty" says
  empty_both : both_empty s ≡ true → (s.transfer.host ≡ []) × (s.transfer.scsi ≡ [])
  unfolding both_empty
  empty_both h = (
    none_of_length s.transfer.host (left_true (eqb (length s.transfer.host) 0) (eqb (length s.transfer.scsi) 0) h),
    none_of_length s.transfer.scsi (right_true (eqb (length s.transfer.host) 0) (eqb (length s.transfer.scsi) 0) h),
  )

  empty_done : (e : Event) → (both_empty s && eqb (length (offered e)) 0) ≡ true → (done s e).sent ≡ []
  unfolding done
  empty_done e h =
      let both = empty_both (left_true (both_empty s) (eqb (length (offered e)) 0) h) in
      empty_sends_none s e (none_of_length (offered e) (right_true (both_empty s) (eqb (length (offered e)) 0) h)) both.0 both.1

  clears_done : (e : Event) → ticks_of e ≡ 0 → is_done (access_code s e) ≡ true → Clears (Some e) (done s e)
  clears_done e n q h = go (switched_off (done s e).state) refl (rw (done_code s e) at h)
    where
      go : (t : Bool) → switched_off (done s e).state ≡ t → (t || (both_empty s && eqb (length (offered e)) 0)) ≡ true → (done s e).sent ≡ []
      go true k j = off_sends_none e k
      go false k j = empty_done e j

  clears_ticks : (n : ℕ) → Clears (Some (Ticks (suc n))) (single_ticks (suc n) s)
  clears_ticks n h = go (switched_off (single_ticks (suc n) s).state) refl h
    where
      go : (t : Bool) → switched_off (single_ticks (suc n) s).state ≡ t → (t || (both_empty s && eqb (length (unless_refused offered (Some (Ticks (suc n))) (single_ticks (suc n) s).code)) 0)) ≡ true → (single_ticks (suc n) s).sent ≡ []
      go true k j =
          let l = ticks_leave_lem (suc n) s in
          l.1 (ap (λ (x : Sxfrctl0). x.scsien) (sym l.0) ∙ off_scsien (single_ticks (suc n) s).state k)
      go false k j = let both = empty_both (left_true (both_empty s) _ j) in empty_ticks (suc n) s both.0 both.1

  pub clear_step : (bytes : List ℕ) → may_clear s bytes ≡ true → sent_by s bytes ≡ []
  unfolding may_clear
  clear_step = step_law s Clears clears_refused clears_reset clears_done clears_ticks

-- THE CLEARING sends nothing, in whatever order it clears
pub clearing_sends_nothing : (s : State) (records : List (List ℕ)) → all_clear s records ≡ true → along sent_by s records ≡ []
clearing_sends_nothing s [] h = refl
clearing_sends_nothing s (bytes ∷ more) h =
    rw (clear_step s bytes (left_true (may_clear s bytes) (all_clear (step s bytes).state more) h))
    (clearing_sends_nothing (step s bytes).state more (right_true (may_clear s bytes) (all_clear (step s bytes).state more) h))

-- WHAT A DRIVER KNOWS FROM ITS RECORDS: where none sets SCSIEN or SPIOEN, both stay 0, and the paper's condition on the clearing holds
sets_neither : (b x y : Bool) → not (b && (x || y)) ≡ true → ((b && x) ≡ false) × ((b && y) ≡ false)
sets_neither false x y h = (refl, refl)
sets_neither true false false h = (refl, refl)
sets_neither true false true h = absurd (never h)
sets_neither true true y h = absurd (never h)

stays_bits : (e : Event) → stays_off e ≡ true → ((writes e SXFRCTL0 && bit (value_of e) 7) ≡ false) × ((writes e SXFRCTL0 && bit (value_of e) 3) ≡ false)
unfolding writes value_of
stays_bits PowerReset h = absurd (never h)
stays_bits (Write offset value) h = sets_neither (eqb offset (offset_of SXFRCTL0)) (bit value 7) (bit value 3) h
stays_bits (Read offset) h = (refl, refl)
stays_bits (WordWrite word) h = (refl, refl)
stays_bits WordRead h = (refl, refl)
stays_bits (Drive lines) h = (refl, refl)
stays_bits (Ticks n) h = (refl, refl)

module _ (s : State) (o : switched_off s ≡ true) where
  bit_stays : (e : Event) (f : Sxfrctl0 → Bool) → (writes e SXFRCTL0 && f (sxfrctl0_of (value_of e))) ≡ false → f s.registers.sxfrctl0 ≡ false → f (after_a s e).registers.sxfrctl0 ≡ false
  unfolding after_a registers_a
  bit_stays e f q z = stays_zero f (writes e SXFRCTL0) (sxfrctl0_of (value_of e)) s.registers.sxfrctl0 q z

  off_done : (e : Event) → stays_off e ≡ true → switched_off (done s e).state ≡ true
  unfolding done after_d finished
  off_done e h =
      off_by (after_d s e) (scsien_stays s e (bit_stays e (λ x. x.scsien) (stays_bits e h).0 (off_scsien s o)))
      (spioen_a s e ∙ bit_stays e (λ x. x.spioen) (stays_bits e h).1 (off_spioen s o))

  off_ticks : (n : ℕ) → switched_off (single_ticks (suc n) s).state ≡ true
  unfolding switched_off
  off_ticks n = rw (ticks_leave_lem (suc n) s).0 o

  off_refused : (d : Option Event) (code : Code) (value : ℕ) → is_refusal code ≡ true → switched_off (refused s code value).state ≡ true
  unfolding ended
  off_refused d code value q = o

  pub step_stays_off : (bytes : List ℕ) → may_come stays_off s bytes ≡ true → switched_off (step s bytes).state ≡ true
  step_stays_off = come_law stays_off refl s (λ d r. switched_off r.state ≡ true) off_refused (λ e h t q. off_done e h) off_ticks

-- UNTIL THE FIFOS ARE EMPTY the chip issues no ACK at all: no Normal-mode ACK, no Automatic one, and none by ACKO
pub record Silent (s : State) (later : State) (acks : ℕ) : Type 0 where
  pub none : acks ≡ 0
  pub off : switched_off later ≡ true
  pub acko : later.registers.scsisig.acko ≡ false
  pub ack : later.transfer.ack ≡ true → s.transfer.ack ≡ true

acko_written : (b : Bool) (x y : Scsisig) → (b && x.acko) ≡ false → y.acko ≡ false → (cond b x y).acko ≡ false
acko_written true x y q h = q
acko_written false x y q h = h

module _ (s : State) (e : Event) (a : s.registers.scsisig.acko ≡ false) (keep : leaves_acko e ≡ true) where
  acko_a : (after_a s e).registers.scsisig.acko ≡ false
  unfolding after_a registers_a leaves_acko
  acko_a =
      acko_written (writes e SCSISIGO) (scsisig_of s.registers.scsisig.atno (value_of e))
      (with_atn (not (clears e 6) && s.registers.scsisig.atno) s.registers.scsisig)
      (not-true (writes e SCSISIGO && bit (value_of e) 0) keep) a

  acko_b : (after_b s e).registers.scsisig.acko ≡ false
  acko_b = acko_stays s e acko_a

-- without an Automatic ACK, B turns no ACK on
ack_before : (s : State) (e : Event) → s.registers.sxfrctl0.spioen ≡ false → (after_b s e).transfer.ack ≡ true → s.transfer.ack ≡ true
unfolding ack_released bus_reset req_risen bus_freed after_sequencer phase_changed after_a transfer_a
ack_before s e p =
    b_keeps (λ n. n.transfer.ack ≡ true → s.transfer.ack ≡ true)
    (record {
      released = λ n h t. absurd (never t);
      reset = λ n h t. absurd (never t);
      risen = λ n h. h;
      ticked = λ n ticks h. h;
      freed = λ n h t. absurd (never t);
      sequenced = λ n tick before h. h;
      changed = λ n h. h;
    })
    s e (λ h. rw (no_automatic_ack s e p) at h)

module _ (s : State) (o : switched_off s ≡ true) (a : s.registers.scsisig.acko ≡ false) where
  abbrev Silences : Option Event → Stepped → Type 0
  Silences d r = switched_off r.state ≡ true → (is_refusal r.code || says leaves_acko d) ≡ true → Silent s r.state r.acks

  silent_refused : (d : Option Event) (code : Code) (value : ℕ) → is_refusal code ≡ true → Silences d (refused s code value)
  unfolding ended
  silent_refused d code value q h k = record { none = refl; off = o; acko = a; ack = λ t. t }

  silent_reset : Silences (Some PowerReset) (ended power_reset Done 0)
  unfolding ended power_reset
  silent_reset h k = record { none = refl; off = h; acko = refl; ack = λ t. absurd (never t) }

  silent_done : (e : Event) → leaves_acko e ≡ true → switched_off (done s e).state ≡ true → Silent s (done s e).state (done s e).acks
  unfolding done after_d finished
  silent_done e k h =
      let i = idle_event s e (off_scsien (done s e).state h) in
      record {
        none = i.acks;
        off = h;
        acko = acko_b s e a k;
        ack = λ t. ack_before s e (off_spioen s o) (sym i.ack ∙ t);
      }

-- ticks one by one
abbrev SilentTicks : State → Stepped → Type 0
SilentTicks s r = switched_off s ≡ true → s.registers.scsisig.acko ≡ false → Silent s r.state r.acks

silent_ticks : (n : ℕ) (s : State) → SilentTicks s (single_ticks n s)
unfolding ended leaves_acko writes
silent_ticks =
    ticks_law SilentTicks (λ s code value o a. record { none = refl; off = o; acko = a; ack = λ t. t })
    (λ s q o a. silent_done s o a (Ticks 1) refl (off_done s o (Ticks 1) refl))
    (λ s first rest f g o a.
    let x = f o a in
    let y = g x.off x.acko in
    record { none = rw (x.none, y.none); off = y.off; acko = y.acko; ack = λ t. x.ack (y.ack t) })

module _ (s : State) (o : switched_off s ≡ true) (a : s.registers.scsisig.acko ≡ false) where
  pub step_silent : (bytes : List ℕ) → switched_off (step s bytes).state ≡ true → may_come leaves_acko s bytes ≡ true → Silent s (step s bytes).state (step s bytes).acks
  unfolding may_come
  step_silent =
      step_law s (Silences s o a) (silent_refused s o a) (silent_reset s o a)
      (λ e n q h k. silent_done s o a e (rw (done_code s e) at k) h) (λ n h k. silent_ticks (suc n) s o a)

pub no_ack_until_empty : (s : State) (records : List (List ℕ)) → switched_off s ≡ true → s.registers.scsisig.acko ≡ false → all_off s records ≡ true → Silent s (after s records) (acks_along s records)
no_ack_until_empty s [] o a h = record { none = refl; off = o; acko = a; ack = λ t. t }
no_ack_until_empty s (bytes ∷ more) o a h =
    let front = switched_off (step s bytes).state && may_come leaves_acko s bytes in
    let h1 = left_true front (all_off (step s bytes).state more) h in
    let x = step_silent s o a bytes (left_true (switched_off (step s bytes).state) (may_come leaves_acko s bytes) h1) (right_true (switched_off (step s bytes).state) (may_come leaves_acko s bytes) h1) in
    let y = no_ack_until_empty (step s bytes).state more x.off x.acko (right_true front (all_off (step s bytes).state more) h) in
    record { none = rw (x.none, y.none); off = y.off; acko = y.acko; ack = λ t. x.ack (y.ack t) }

-- such records, and then others that keep the condition
pub stays_clear : (s : State) (records later : List (List ℕ)) → switched_off s ≡ true → all_come stays_off s records ≡ true → all_clear (after s records) later ≡ true → all_clear s (records ++ later) ≡ true
unfolding may_clear
stays_clear s [] later o h k = k
stays_clear s (bytes ∷ more) later o h k =
    let n = step_stays_off s o bytes (left_true (may_come stays_off s bytes) (all_come stays_off (step s bytes).state more) h) in
    both_true (may_clear s bytes) (all_clear (step s bytes).state (more ++ later)) (rw n)
    (stays_clear (step s bytes).state more later n (right_true (may_come stays_off s bytes) (all_come stays_off (step s bytes).state more) h) k)
