-- The cut: after it nothing is sent and the counter stays, so that the three reads give the number of bytes taken.
use Rattle.std.specs.Prelude.{Option, Some, None}
use mathlib.Core.Path.{◌≡◌, refl, sym, ◌∙◌, ap}
use mathlib.Core.Bool.{Bool, true, false, not, ◌&&◌, ◌||◌, cond}
use mathlib.Core.List.{List, [], ◌∷◌, ◌++◌, append-nil}
use Prim.Native.Nat.{ℕ, suc, ◌+◌, ◌*◌, ◌%◌, ◌<◌}
use native.Mathlib.Omega.{arith}
use lib.Dec.{eqb}
use lib.ListN.{length, take, get_or}
use lib.Seq.{take-append_seam}
use borrow.Author.Tests.{eqb-true, not-true}
use Rattle.rules.specs.Numbers.{bit}
use Rattle.rules.specs.Registers.{sxfrctl0_of}
use Rattle.rules.specs.Map.{offset_of, table, read_at}
use Rattle.rules.specs.State.{State, power_reset}
use Rattle.rules.specs.Records.{decode}
use Rattle.rules.specs.Counter.{counter_byte}
use Rattle.rules.specs.Reads.{read_of, read_mapped, value_read}
use Rattle.rules.specs.Events.{writes, reads, value_of, ticks_of}
use Rattle.rules.specs.Codes.{access_code, is_done}
use Rattle.rules.specs.StepA.{registers_a, after_a}
use Rattle.rules.specs.StepB.{after_b}
use Rattle.rules.specs.StepC.{conditions, started, turns, settled_c}
use Rattle.rules.specs.StepD.{finished, after_d}
use Rattle.rules.specs.Answers.{Stepped}
use Rattle.rules.specs.Step.{ended, refused, done, single_ticks, step, after}
use Rattle.rules.specs.declared.codes.Code.{Code}
use Rattle.rules.specs.declared.codes.Code.TheVariants.{Done, Malformed, Absent, Shut, NoRoom, NoBytes, BeyondLimit, TestValue}
use Rattle.rules.specs.declared.map.Register.{Register}
use Rattle.rules.specs.declared.map.Register.TheVariants.{SXFRCTL0, STCNT0, STCNT1, STCNT2}
use Rattle.rules.specs.declared.records.Event.{Event}
use Rattle.rules.specs.declared.records.Event.TheVariants.{PowerReset, Write, Read, WordWrite, WordRead, Drive, Ticks}
use Rattle.rules.proofs.InOrder.{scsien_stays}
use Rattle.rules.proofs.Logic.{never, left_true, right_true}
use Rattle.runs.specs.Comes.{is_refusal, says, may_come, all_come, along}
use Rattle.runs.specs.Run.{keeps_run, write_allowed, run_allows, accepted, sent_by}
use Rattle.runs.specs.Cut.{cut_value, is_cut, sets_scsien, calm, read_answer, read_answers, counter_read}
use Rattle.runs.specs.Rounds.{Round, records_of, after_cut, after_reading, taken_in, number_read, Proceeds}
use Rattle.runs.proofs.Along.{after_append, along_append, come_append, said_comes}
use Rattle.runs.proofs.WriteRun.{WriteMoment, write_run}
use Rattle.runs.proofs.Access.{ticks_law, step_law, come_law}
use Rattle.runs.proofs.Settles.{Idle, idle_settles}
use Rattle.runs.proofs.Spared.{Spared, spared}
use Rattle.runs.proofs.Stages.{Held, held_after, stays_zero, counter_before}

-- after the cut: SCSIEN is 0, nothing is sent and the counter stays
pub record Quiet (w : Bool) (s later : State) (sent : List ℕ) : Type 0 where
  pub off : later.registers.sxfrctl0.scsien ≡ false
  pub held : Held w later.registers
  pub same : later.transfer.counter ≡ s.transfer.counter
  pub none : sent ≡ []

-- with SCSIEN 0 after the event no handshake is enabled
pub off_disables : (s : State) → s.registers.sxfrctl0.scsien ≡ false → (conditions s).enabled ≡ false
unfolding conditions
off_disables s h = rw h

pub idle_event : (s : State) (e : Event) → (after_b s e).registers.sxfrctl0.scsien ≡ false → Idle (after_b s e).transfer.counter (after_b s e).transfer.ack (settled_c s e)
unfolding settled_c started
idle_event s e h =
    idle_settles (conditions (after_b s e)) (off_disables (after_b s e) h) _ _ turns (started (after_b s e))
    (record { none = refl; acks = refl; counter = refl; ack = refl })

done_quiet : (w : Bool) (s : State) (e : Event) → Spared e → Held w s.registers → (after_a s e).registers.sxfrctl0.scsien ≡ false → Quiet w s (done s e).state (done s e).sent
unfolding done after_d finished
done_quiet w s e p h n =
    let b = scsien_stays s e n in
    let i = idle_event s e b in
    record { off = b; held = held_after w s e p h; same = i.counter ∙ counter_before s e p h.spioen; none = i.none }

-- an event that a run allows and that does not set SCSIEN
calm_allowed : (e : Event) → calm e ≡ true → run_allows e ≡ true
unfolding calm
calm_allowed e h = left_true (run_allows e) (not (sets_scsien e)) h

calm_a : (s : State) (e : Event) → calm e ≡ true → s.registers.sxfrctl0.scsien ≡ false → (after_a s e).registers.sxfrctl0.scsien ≡ false
unfolding after_a registers_a calm sets_scsien
calm_a s e h o =
    stays_zero (λ x. x.scsien) (writes e SXFRCTL0) (sxfrctl0_of (value_of e)) s.registers.sxfrctl0
    (not-true (sets_scsien e) (right_true (run_allows e) (not (sets_scsien e)) h)) o

-- ticks one by one
abbrev QuietTicks : Bool → State → Stepped → Type 0
QuietTicks w s r = s.registers.sxfrctl0.scsien ≡ false → Held w s.registers → Quiet w s r.state r.sent

quiet_ticks : (w : Bool) (n : ℕ) (s : State) → QuietTicks w s (single_ticks n s)
unfolding ended calm sets_scsien writes
quiet_ticks w =
    ticks_law (QuietTicks w) (λ s code value o h. record { off = o; held = h; same = refl; none = refl })
    (λ s q o h. done_quiet w s (Ticks 1) (spared (Ticks 1) refl) h (calm_a s (Ticks 1) refl o))
    (λ s first rest f g o h.
    let a = f o h in
    let b = g a.off a.held in
    record { off = b.off; held = b.held; same = b.same ∙ a.same; none = rw a.none b.none })

module _ (w : Bool) (s : State) (o : s.registers.sxfrctl0.scsien ≡ false) (h : Held w s.registers) where
  calm_refused : (d : Option Event) (code : Code) (value : ℕ) → is_refusal code ≡ true → Quiet w s (refused s code value).state (refused s code value).sent
  unfolding ended
  calm_refused d code value q = record { off = o; held = h; same = refl; none = refl }

  pub step_quiet : (bytes : List ℕ) → may_come calm s bytes ≡ true → Quiet w s (step s bytes).state (sent_by s bytes)
  unfolding calm
  step_quiet =
      come_law calm refl s (λ d r. Quiet w s r.state r.sent) calm_refused
      (λ e c t q. done_quiet w s e (spared e (calm_allowed e c)) h (calm_a s e c o)) (λ n. quiet_ticks w (suc n) s o h)

pub calm_quiet : (w : Bool) (s : State) (records : List (List ℕ)) → s.registers.sxfrctl0.scsien ≡ false → Held w s.registers → all_come calm s records ≡ true → Quiet w s (after s records) (along sent_by s records)
calm_quiet w s [] o h q = record { off = o; held = h; same = refl; none = refl }
calm_quiet w s (bytes ∷ more) o h q =
    let a = step_quiet w s o h bytes (left_true (may_come calm s bytes) (all_come calm (step s bytes).state more) q) in
    let b = calm_quiet w (step s bytes).state more a.off a.held (right_true (may_come calm s bytes) (all_come calm (step s bytes).state more) q) in
    record { off = b.off; held = b.held; same = b.same ∙ a.same; none = rw a.none b.none }

-- the cut is a write that a run allows, and it leaves SCSIEN 0
cut_at : (offset value : ℕ) → (eqb offset (offset_of SXFRCTL0) && cut_value value) ≡ true → write_allowed offset value ≡ true
unfolding write_allowed cut_value
cut_at offset value h =
    let q = left_true (eqb offset (offset_of SXFRCTL0)) (cut_value value) h in
    let k = right_true (not (bit value 7)) (keeps_run value) (right_true (eqb offset (offset_of SXFRCTL0)) (cut_value value) h) in
    rw (eqb-true offset (offset_of SXFRCTL0) q) k

pub cut_allowed : (e : Event) → is_cut e ≡ true → run_allows e ≡ true
unfolding is_cut writes value_of
cut_allowed PowerReset h = h
cut_allowed (Write offset value) h = cut_at offset value h
cut_allowed (Read offset) h = refl
cut_allowed (WordWrite word) h = refl
cut_allowed WordRead h = refl
cut_allowed (Drive lines) h = refl
cut_allowed (Ticks n) h = refl

cut_a : (s : State) (e : Event) → is_cut e ≡ true → (after_a s e).registers.sxfrctl0.scsien ≡ false
unfolding after_a registers_a is_cut cut_value
cut_a s e h =
    rw (left_true (writes e SXFRCTL0) (cut_value (value_of e)) h)
    (not-true (bit (value_of e) 7)
    (left_true (not (bit (value_of e) 7)) (keeps_run (value_of e)) (right_true (writes e SXFRCTL0) (cut_value (value_of e)) h)))

pub done_is_no_refusal : (code : Code) → is_done code ≡ true → is_refusal code ≡ true → ⊥
done_is_no_refusal Done h q = never q
done_is_no_refusal Malformed h q = never h
done_is_no_refusal Absent h q = never h
done_is_no_refusal Shut h q = never h
done_is_no_refusal NoRoom h q = never h
done_is_no_refusal NoBytes h q = never h
done_is_no_refusal BeyondLimit h q = never h
done_is_no_refusal TestValue h q = never h

module _ (w : Bool) (s : State) (h : Held w s.registers) where
  abbrev Stops : Option Event → Stepped → Type 0
  Stops d r = says is_cut d ≡ true → is_done r.code ≡ true → Quiet w s r.state r.sent

  cut_refused : (d : Option Event) (code : Code) (value : ℕ) → is_refusal code ≡ true → Stops d (refused s code value)
  unfolding ended
  cut_refused d code value q k c = absurd (done_is_no_refusal code c q)

  cut_reset : Stops (Some PowerReset) (ended power_reset Done 0)
  unfolding is_cut writes
  cut_reset k c = absurd (never k)

  cut_ticks : (n : ℕ) → Stops (Some (Ticks (suc n))) (single_ticks (suc n) s)
  unfolding is_cut writes
  cut_ticks n k c = absurd (never k)

  -- a cut that gets code 0 stops the run
  pub cut_stops : (bytes : List ℕ) → says is_cut (decode bytes) ≡ true → (step s bytes).code ≡ Done → Quiet w s (step s bytes).state (sent_by s bytes)
  cut_stops bytes k c =
      step_law s Stops cut_refused cut_reset (λ e t q k c. done_quiet w s e (spared e (cut_allowed e k)) h (cut_a s e k)) cut_ticks bytes k (ap is_done c)

-- a done read gives what the register reads
module _ (r : Register) (there : read_at (offset_of r) ≡ Some r) (s : State) where
  abbrev Gives : Option Event → Stepped → Type 0
  Gives d x = is_done x.code ≡ true → says (λ e. reads e r) d ≡ true → x.value ≡ read_of s r

  gives_refused : (d : Option Event) (code : Code) (value : ℕ) → is_refusal code ≡ true → Gives d (refused s code value)
  unfolding ended
  gives_refused d code value q c k = absurd (done_is_no_refusal code c q)

  gives_reset : Gives (Some PowerReset) (ended power_reset Done 0)
  unfolding reads
  gives_reset c k = absurd (never k)

  pub gives_value : (e : Event) → reads e r ≡ true → value_read s e ≡ read_of s r
  unfolding reads value_read
  gives_value PowerReset k = absurd (never k)
  gives_value (Write offset value) k = absurd (never k)
  gives_value (Read offset) k = ap (read_mapped s) (ap read_at (eqb-true offset (offset_of r) k) ∙ there)
  gives_value (WordWrite word) k = absurd (never k)
  gives_value WordRead k = absurd (never k)
  gives_value (Drive lines) k = absurd (never k)
  gives_value (Ticks n) k = absurd (never k)

  gives_done : (e : Event) → ticks_of e ≡ 0 → is_done (access_code s e) ≡ true → Gives (Some e) (done s e)
  unfolding done
  gives_done e t q c k = gives_value e k

  gives_ticks : (n : ℕ) → Gives (Some (Ticks (suc n))) (single_ticks (suc n) s)
  unfolding reads
  gives_ticks n c k = absurd (never k)

  pub read_gives : (bytes : List ℕ) → is_done (step s bytes).code ≡ true → says (λ e. reads e r) (decode bytes) ≡ true → (step s bytes).value ≡ read_of s r
  read_gives = step_law s Gives gives_refused gives_reset gives_done gives_ticks

-- the first done read of a byte of the counter, whatever calm records come before it
module _ (w : Bool) (r : Register) (k : ℕ) (there : read_at (offset_of r) ≡ Some r) (byte : (s : State) → read_of s r ≡ counter_byte k s.transfer.counter) where
  abbrev First : List ℕ → ℕ → Type 0
  First answers counter = 0 < length answers → get_or answers 0 0 ≡ counter_byte k counter

  first_answer : (s : State) (bytes answers : List ℕ) → First answers s.transfer.counter → First (read_answer r s bytes ++ answers) s.transfer.counter
  unfolding read_answer
  first_answer s bytes answers later = go (is_done (step s bytes).code && says (λ e. reads e r) (decode bytes)) refl
    where
      go : (t : Bool) → (is_done (step s bytes).code && says (λ e. reads e r) (decode bytes)) ≡ t → First (cond t ((step s bytes).value ∷ []) [] ++ answers) s.transfer.counter
      go true e m =
          read_gives r there s bytes (left_true (is_done (step s bytes).code) (says (λ e. reads e r) (decode bytes)) e)
          (right_true (is_done (step s bytes).code) (says (λ e. reads e r) (decode bytes)) e)
          ∙ byte s
      go false e m = later m

  pub byte_read : (s : State) (records : List (List ℕ)) → s.registers.sxfrctl0.scsien ≡ false → Held w s.registers → all_come calm s records ≡ true → First (read_answers r s records) s.transfer.counter
  byte_read s [] o h q = λ n. absurd (omega arith)
  byte_read s (bytes ∷ more) o h q =
      let a = step_quiet w s o h bytes (left_true (may_come calm s bytes) (all_come calm (step s bytes).state more) q) in
      first_answer s bytes (read_answers r (step s bytes).state more)
      (λ m.
      byte_read (step s bytes).state more a.off a.held (right_true (may_come calm s bytes) (all_come calm (step s bytes).state more) q) m
      ∙ ap (counter_byte k) a.same)

-- the three bytes of a number below 16,777,216
counter_bytes : (n : ℕ) → n < 16777216 → counter_byte 0 n + 256 * counter_byte 1 n + 65536 * counter_byte 2 n ≡ n
counter_bytes n h = omega arith

-- the three reads give the counter
pub counter_read_lem : (w : Bool) (s : State) (records : List (List ℕ)) → s.registers.sxfrctl0.scsien ≡ false → Held w s.registers → all_come calm s records ≡ true → 0 < length (read_answers STCNT0 s records) → 0 < length (read_answers STCNT1 s records) → 0 < length (read_answers STCNT2 s records) → s.transfer.counter < 16777216 → counter_read s records ≡ s.transfer.counter
unfolding read_of read_at table
counter_read_lem w s records o h q n0 n1 n2 small =
    rw (byte_read w STCNT0 0 refl (λ s. refl) s records o h q n0, byte_read w STCNT1 1 refl (λ s. refl) s records o h q n1, byte_read w STCNT2 2 refl (λ s. refl) s records o h q n2)
    (counter_bytes s.transfer.counter small)

-- what may come after the cut may come in a run
or_more : (a b c : Bool) → (b ≡ true → c ≡ true) → (a || b) ≡ true → (a || c) ≡ true
or_more true b c f h = refl
or_more false b c f h = f h

pub both_true : (a b : Bool) → a ≡ true → b ≡ true → (a && b) ≡ true
both_true a b p q = rw (p, q)

says_more : (p q : Event → Bool) → ((e : Event) → p e ≡ true → q e ≡ true) → (d : Option Event) → says p d ≡ true → says q d ≡ true
says_more p q f (Some e) h = f e h
says_more p q f None h = h

comes_more : (p q : Event → Bool) → ((e : Event) → p e ≡ true → q e ≡ true) → (s : State) (bytes : List ℕ) → may_come p s bytes ≡ true → may_come q s bytes ≡ true
unfolding may_come
comes_more p q f s bytes = or_more (is_refusal (step s bytes).code) (says p (decode bytes)) (says q (decode bytes)) (says_more p q f (decode bytes))

pub all_come_more : (p q : Event → Bool) → ((e : Event) → p e ≡ true → q e ≡ true) → (s : State) (records : List (List ℕ)) → all_come p s records ≡ true → all_come q s records ≡ true
all_come_more p q f s [] h = refl
all_come_more p q f s (bytes ∷ more) h =
    both_true (may_come q s bytes) (all_come q (step s bytes).state more)
    (comes_more p q f s bytes (left_true (may_come p s bytes) (all_come p (step s bytes).state more) h))
    (all_come_more p q f (step s bytes).state more (right_true (may_come p s bytes) (all_come p (step s bytes).state more) h))

cut_comes : (s : State) (bytes : List ℕ) → says is_cut (decode bytes) ≡ true → may_come run_allows s bytes ≡ true
cut_comes s bytes h = said_comes run_allows s bytes (says_more is_cut run_allows cut_allowed (decode bytes) h)

-- the run with its cut and the reading is itself a list of records that a run allows
pub still_a_run : (s : State) (r : Round) → Proceeds s r → all_come run_allows s (records_of r) ≡ true
still_a_run s r p =
    come_append run_allows s r.run (r.cut ∷ r.reading)
    ∙ both_true (all_come run_allows s r.run) (may_come run_allows (after s r.run) r.cut && all_come run_allows (after_cut s r) r.reading) p.run
    (both_true (may_come run_allows (after s r.run) r.cut) (all_come run_allows (after_cut s r) r.reading) (cut_comes (after s r.run) r.cut p.cut)
    (all_come_more calm run_allows calm_allowed (after_cut s r) r.reading p.reading))

-- what the cut and the reading leave
pub record CutAndRead (s : State) (r : Round) : Type 0 where
  pub number : number_read s r ≡ length (taken_in s r) % 16777216
  pub first : taken_in s r ≡ take (length (taken_in s r)) (along accepted s (records_of r))
  pub in_run : taken_in s r ≡ along sent_by s r.run
  pub afterwards : along sent_by (after s r.run) (r.cut ∷ r.reading) ≡ []
  pub off : (after_reading s r).registers.sxfrctl0.scsien ≡ false
  pub moment : WriteMoment (after_reading s r) (along accepted s (records_of r)) (taken_in s r)

pub front : (a b c : List ℕ) → a ++ b ≡ c → a ≡ take (length a) c
front a b c h = sym (take-append_seam a b) ∙ ap (λ (x : List ℕ). take (length a) x) h

-- THE CUT: the three reads give the number of bytes taken, and those are the first so many bytes that the port accepted
pub cut_and_read : (s : State) (r : Round) → Proceeds s r → CutAndRead s r
cut_and_read s r p =
    let m = write_run s r.run p.start p.run in
    let c = cut_stops true (after s r.run) m.held r.cut p.cut p.cut_code in
    let q = calm_quiet true (after_cut s r) r.reading c.off c.held p.reading in
    let l = write_run s (records_of r) p.start (still_a_run s r p) in
    let none : along sent_by (after s r.run) (r.cut ∷ r.reading) ≡ [] = rw (c.none, q.none) in
    let t : taken_in s r ≡ along sent_by s r.run =
    along_append sent_by s r.run (r.cut ∷ r.reading) ∙ rw none (append-nil (along sent_by s r.run)) in
    let n : (after_cut s r).transfer.counter ≡ length (taken_in s r) % 16777216 =
    c.same ∙ m.count ∙ ap (λ (x : List ℕ). length x % 16777216) (sym t) in
    let small : (after_cut s r).transfer.counter < 16777216 = rw n (omega arith) in
    record {
      number = counter_read_lem true (after_cut s r) r.reading c.off c.held p.reading p.low p.middle p.high small ∙ n;
      first = front (taken_in s r) _ (along accepted s (records_of r)) l.order;
      in_run = t;
      afterwards = none;
      off = q.off;
      moment = rw (after_append s r.run (r.cut ∷ r.reading)) at l;
    }
