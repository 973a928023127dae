-- A write run: at every moment the bytes sent, then the SCSI FIFO, then the host FIFO, are what the port accepted, and the counter is
-- the number sent.
use Rattle.std.specs.Prelude.{Option, Some}
use mathlib.Core.Path.{◌≡◌, refl, sym, ◌∙◌, ap}
use mathlib.Core.Bool.{true}
use mathlib.Core.List.{List, [], ◌++◌, append_assoc, append-nil}
use Prim.Native.Nat.{ℕ, suc, ◌%◌, ◌≤◌}
use native.Mathlib.Nat.{add-zero}
use native.Mathlib.Omega.{arith}
use lib.ListN.{length, length-append}
use Rattle.rules.specs.State.{State}
use Rattle.rules.specs.Events.{offered, ticks_of}
use Rattle.rules.specs.Codes.{access_code, is_done}
use Rattle.rules.specs.StepB.{after_b}
use Rattle.rules.specs.StepC.{conditions, started, turns, settled_c}
use Rattle.rules.specs.StepD.{finished, after_d}
use Rattle.rules.specs.Answers.{Stepped}
use Rattle.rules.specs.Step.{ended, refused, done, single_ticks, step, after}
use Rattle.rules.specs.declared.codes.Code.{Code}
use Rattle.rules.specs.declared.records.Event.{Event}
use Rattle.rules.specs.declared.records.Event.TheVariants.{Ticks}
use Rattle.runs.specs.Comes.{is_refusal, may_come, all_come, unless_refused, along}
use Rattle.runs.specs.Run.{Starts, run_allows, accepted, sent_by}
use Rattle.runs.proofs.Access.{Passed, passed, done_code, ticks_law, come_law}
use Rattle.runs.proofs.Along.{along_law}
use Rattle.runs.proofs.Settles.{Outbound, outbound_settles}
use Rattle.runs.proofs.Spared.{Spared, spared}
use Rattle.runs.proofs.Stages.{Held, held_at_start, held_after, outbound_stores_none, counter_before, host_outbound, scsi_before, offered_fits}

-- at a moment of a write run, after these bytes were accepted and those sent
pub record WriteMoment (s : State) (acceptedSoFar sentSoFar : List ℕ) : Type 0 where
  pub held : Held true s.registers
  pub order : sentSoFar ++ (s.transfer.scsi ++ s.transfer.host) ≡ acceptedSoFar
  pub count : s.transfer.counter ≡ length sentSoFar % 16777216
  pub room : length s.transfer.host ≤ 128

module _ (s : State) (e : Event) (p : Spared e) (k : Passed s e) (h : Held true s.registers) where
  held_next : Held true (after_b s e).registers
  held_next = held_after true s e p h

  -- settling of one event, from n bytes sent before
  outbound_event : (n : ℕ) → s.transfer.counter ≡ n % 16777216 → Outbound ((s.transfer.scsi ++ s.transfer.host) ++ offered e) n (settled_c s e)
  unfolding settled_c conditions started
  outbound_event n c =
      outbound_settles (conditions (after_b s e)) held_next.direction ((s.transfer.scsi ++ s.transfer.host) ++ offered e) n turns
      (started (after_b s e))
      (record {
        order =
            rw (scsi_before s e p (outbound_stores_none s e held_next.direction), host_outbound s e p h.direction k)
            (sym (append_assoc s.transfer.scsi s.transfer.host (offered e)));
        count = rw add-zero (counter_before s e p h.spioen ∙ c);
        room = rw (host_outbound s e p h.direction k) (offered_fits s e k);
      })

done_moment : (s : State) (e : Event) (a b : List ℕ) → Spared e → Passed s e → WriteMoment s a b → WriteMoment (done s e).state (a ++ offered e) (b ++ (done s e).sent)
unfolding done after_d finished
done_moment s e a b p k i =
    let r = outbound_event s e p k i.held (length b) i.count in
    record {
      held = held_after true s e p i.held;
      order =
          append_assoc b (settled_c s e).sent ((settled_c s e).transfer.scsi ++ (settled_c s e).transfer.host)
          ∙ ap (λ (x : List ℕ). b ++ x) r.order
          ∙ sym (append_assoc b (s.transfer.scsi ++ s.transfer.host) (offered e))
          ∙ ap (λ (x : List ℕ). x ++ offered e) i.order;
      count = r.count ∙ rw length-append;
      room = r.room;
    }

-- ticks one by one offer nothing, and send what each of them sends
abbrev Ticking : State → Stepped → Type 0
Ticking s r = (a b : List ℕ) → WriteMoment s a b → WriteMoment r.state a (b ++ r.sent)

ticks_moment : (n : ℕ) (s : State) → Ticking s (single_ticks n s)
unfolding ended offered
ticks_moment =
    ticks_law Ticking (λ s code value a b i. rw (append-nil b) i)
    (λ s q a b i. rw (append-nil a) at (done_moment s (Ticks 1) a b (spared (Ticks 1) refl) (passed s (Ticks 1) q) i))
    (λ s first rest f g a b i. rw (← append_assoc b first.sent rest.sent) (g a (b ++ first.sent) (f a b i)))

module _ (s : State) (a b : List ℕ) (i : WriteMoment s a b) where
  abbrev Next : Option Event → Stepped → Type 0
  Next d r = WriteMoment r.state (a ++ unless_refused offered d r.code) (b ++ r.sent)

  next_refused : (d : Option Event) (code : Code) (value : ℕ) → is_refusal code ≡ true → Next d (refused s code value)
  unfolding ended
  next_refused d code value q = rw (q, append-nil a, append-nil b) i

  next_done : (e : Event) → run_allows e ≡ true → ticks_of e ≡ 0 → is_done (access_code s e) ≡ true → Next (Some e) (done s e)
  next_done e h t q = rw (done_code s e) (done_moment s e a b (spared e h) (passed s e q) i)

  next_ticks : (n : ℕ) → Next (Some (Ticks (suc n))) (single_ticks (suc n) s)
  unfolding single_ticks offered
  next_ticks n = rw (append-nil a) (ticks_moment (suc n) s a b i)

  pub step_moment : (bytes : List ℕ) → may_come run_allows s bytes ≡ true → WriteMoment (step s bytes).state (a ++ accepted s bytes) (b ++ sent_by s bytes)
  step_moment = come_law run_allows refl s Next next_refused next_done next_ticks

start_moment : (s : State) → Starts true s → WriteMoment s [] []
start_moment s h =
    record { held = held_at_start true s h; order = rw (h.scsi, h.host); count = h.counter; room = rw h.host (omega arith) }

-- THE WRITE RUN: whatever has come since the start, bus resets and bus free among it. It holds at every moment, since the records up
-- to any moment are such a list too (earlier_comes)
pub write_run : (s : State) (records : List (List ℕ)) → Starts true s → all_come run_allows s records ≡ true → WriteMoment (after s records) (along accepted s records) (along sent_by s records)
write_run s records h q = along_law run_allows WriteMoment accepted sent_by step_moment s records [] [] (start_moment s h) q
