-- A read run: at every moment the bytes read by the host, then the host FIFO, then the SCSI FIFO, are what the chip took.
use Rattle.std.specs.Prelude.{Option, Some}
use mathlib.Core.Path.{◌≡◌, refl, sym, ◌∙◌, ap, ap₂}
use mathlib.Core.Bool.{Bool, true, false, cond}
use mathlib.Core.List.{List, [], ◌∷◌, ◌++◌, append_assoc, append-nil}
use Prim.Native.Nat.{ℕ, zero, suc, ◌+◌, ◌*◌, ◌/◌, ◌%◌, ◌≤◌, ◌<◌}
use native.Mathlib.Omega.{arith}
use lib.Dec.{eqb}
use lib.ListN.{length, take, drop, get_or, length-take, take-append-drop}
use borrow.Author.Tests.{eqb-true, ltb-false}
use Rattle.rules.specs.State.{State, power_reset}
use Rattle.rules.specs.Records.{decode}
use Rattle.rules.specs.Map.{table, read_at}
use Rattle.rules.specs.Reads.{read_of, read_mapped, value_read}
use Rattle.rules.specs.Events.{ticks_of, asked, port_read}
use Rattle.rules.specs.Codes.{no_bytes, access_code, is_done}
use Rattle.rules.specs.Ranges.{Bytes}
use Rattle.rules.specs.StepA.{transfer_a, after_a}
use Rattle.rules.specs.StepB.{after_b}
use Rattle.rules.specs.StepC.{conditions, started, turns, settled_c}
use Rattle.rules.specs.StepD.{finished, after_d}
use Rattle.rules.specs.Answers.{Stepped}
use Rattle.rules.specs.Step.{ended, refused, done, access, single_ticks, step, after}
use Rattle.rules.specs.declared.codes.Code.{Code}
use Rattle.rules.specs.declared.codes.Code.TheVariants.{Done}
use Rattle.rules.specs.declared.records.Event.{Event}
use Rattle.rules.specs.declared.records.Event.TheVariants.{PowerReset, Write, Read, WordWrite, WordRead, Drive, Ticks}
use Rattle.rules.proofs.Logic.{never, cond_case}
use Rattle.rules.proofs.Ranges.{bytes_take}
use Rattle.runs.specs.Comes.{is_refusal, says, may_come, all_come, event_bytes, unless_refused, along}
use Rattle.runs.specs.Run.{Starts, run_allows, host_read, low_bytes, took_at_req, took_by_handshakes, took, took_in_ticks, took_by_ticks, took_in_event, chip_took}
use Rattle.runs.proofs.Access.{refusal, Passed, passed, done_code, step_law, come_law}
use Rattle.runs.proofs.Along.{along_law}
use Rattle.runs.proofs.Settles.{stored_by, Inbound, inbound_settles}
use Rattle.runs.proofs.Spared.{Spared, spared}
use Rattle.runs.proofs.Stages.{Held, held_at_start, held_after, asks_none, host_b, host_inbound, scsi_over_b}

-- at a moment of a read run, after the chip took these bytes and the host read those
pub record ReadMoment (s : State) (tookSoFar readSoFar : List ℕ) : Type 0 where
  pub held : Held false s.registers
  pub order : readSoFar ++ (s.transfer.host ++ s.transfer.scsi) ≡ tookSoFar

handshakes_inbound : (s : State) (e : Event) → (after_b s e).registers.dmacntrl0.write ≡ false → took_by_handshakes s e ≡ stored_by (conditions (after_b s e)) (settled_c s e).acks
unfolding took_by_handshakes conditions
handshakes_inbound s e w = rw w

-- WHAT THE CHIP TAKES GOES INTO THE FIFOS: for every event with WRITE 0
pub took_goes_in : (s : State) (e : Event) → (after_b s e).registers.dmacntrl0.write ≡ false → (settled_c s e).transfer.host ++ (settled_c s e).transfer.scsi ≡ ((after_a s e).transfer.host ++ (after_a s e).transfer.scsi) ++ took s e
unfolding settled_c conditions started
took_goes_in s e w =
    inbound_settles (conditions (after_b s e)) w (((after_a s e).transfer.host ++ (after_a s e).transfer.scsi) ++ took_at_req s e) turns (started (after_b s e)) before
    ∙ append_assoc ((after_a s e).transfer.host ++ (after_a s e).transfer.scsi) (took_at_req s e) _
    ∙ ap (λ (x : List ℕ). ((after_a s e).transfer.host ++ (after_a s e).transfer.scsi) ++ (took_at_req s e ++ x)) (sym (handshakes_inbound s e w))
  where
    nothing_yet_lem : (t : Bool) → ◌≡◌ {A = List ℕ} (cond t [] []) []
    nothing_yet_lem true = refl
    nothing_yet_lem false = refl

    before : Inbound (conditions (after_b s e)) w (((after_a s e).transfer.host ++ (after_a s e).transfer.scsi) ++ took_at_req s e) (started (after_b s e))
    before = rw (host_b s e, scsi_over_b s e, nothing_yet_lem) (simp (append_assoc, append-nil))

-- a port read gives the host what it takes off the front
module _ (s : State) (e : Event) (p : Spared e) where
  scsi_a : (after_a s e).transfer.scsi ≡ s.transfer.scsi
  unfolding after_a transfer_a
  scsi_a = rw p.clrch

  host_over_a : s.registers.dmacntrl0.write ≡ false → Passed s e → (after_a s e).transfer.host ≡ drop (asked e) s.transfer.host
  host_over_a w k = sym (host_b s e) ∙ host_inbound s e p w k

done_moment : (s : State) (e : Event) (a b : List ℕ) → Spared e → Passed s e → ReadMoment s a b → ReadMoment (done s e).state (a ++ took s e) (b ++ take (asked e) s.transfer.host)
unfolding done after_d finished
done_moment s e a b p k i =
    let h = held_after false s e p i.held in
    let front = take (asked e) s.transfer.host in
    let back = drop (asked e) s.transfer.host in
    record {
      held = h;
      order =
          ap (λ (x : List ℕ). (b ++ front) ++ x)
          (took_goes_in s e h.direction ∙ ap (λ (x : List ℕ). x ++ took s e) (ap₂ (λ (x y : List ℕ). x ++ y) (host_over_a s e p i.held.direction k) (scsi_a s e p)))
          ∙ regroup b front back s.transfer.scsi (took s e)
          ∙ ap (λ (x : List ℕ). (b ++ (x ++ s.transfer.scsi)) ++ took s e) (take-append-drop (asked e) s.transfer.host)
          ∙ ap (λ (x : List ℕ). x ++ took s e) i.order;
    }
  where
    regroup : (b x y z t : List ℕ) → (b ++ x) ++ ((y ++ z) ++ t) ≡ (b ++ ((x ++ y) ++ z)) ++ t
    regroup b x y z t = simp append_assoc

-- a tick, refused or done, and ticks one by one
tick_moment : (s : State) (a b : List ℕ) → ReadMoment s a b → ReadMoment (access s (Ticks 1)).state (a ++ unless_refused (took s) (Some (Ticks 1)) (access s (Ticks 1)).code) b
unfolding access ended asked
tick_moment s a b i =
    cond_case (λ (r : Stepped). ReadMoment r.state (a ++ unless_refused (took s) (Some (Ticks 1)) r.code) b) (is_done (access_code s (Ticks 1))) _ _
    (λ q. rw (done_code s (Ticks 1)) (rw (append-nil b) at (done_moment s (Ticks 1) a b (spared (Ticks 1) refl) (passed s (Ticks 1) q) i)))
    (λ q. rw (refusal s (Ticks 1) q, append-nil a) i)

ticks_moment : (n : ℕ) (s : State) (a b : List ℕ) → ReadMoment s a b → ReadMoment (single_ticks n s).state (a ++ took_in_ticks n s) b
unfolding single_ticks ended took_in_ticks
ticks_moment zero s a b i = rw (append-nil a) i
ticks_moment (suc n) s a b i =
    let first = unless_refused (took s) (Some (Ticks 1)) (access s (Ticks 1)).code in
    rw (← append_assoc a first (took_in_ticks n (access s (Ticks 1)).state))
    (ticks_moment n (access s (Ticks 1)).state (a ++ first) b (tick_moment s a b i))

-- an event without ticks takes what B and C take of it
took_once : (s : State) (e : Event) → ticks_of e ≡ 0 → took_in_event s e ≡ took s e
unfolding ticks_of took_by_ticks
took_once s PowerReset t = refl
took_once s (Write offset value) t = refl
took_once s (Read offset) t = refl
took_once s (WordWrite word) t = refl
took_once s WordRead t = refl
took_once s (Drive lines) t = refl
took_once s (Ticks n) t = rw t

module _ (s : State) (a b : List ℕ) (i : ReadMoment s a b) where
  abbrev Next : Option Event → Stepped → Type 0
  Next d r =
      ReadMoment r.state (a ++ unless_refused (took_in_event s) d r.code) (b ++ unless_refused (λ e. take (asked e) s.transfer.host) d r.code)

  next_refused : (d : Option Event) (code : Code) (value : ℕ) → is_refusal code ≡ true → Next d (refused s code value)
  unfolding ended
  next_refused d code value q = rw (q, append-nil a, append-nil b) i

  next_done : (e : Event) → run_allows e ≡ true → ticks_of e ≡ 0 → is_done (access_code s e) ≡ true → Next (Some e) (done s e)
  next_done e h t q = rw (done_code s e, took_once s e t) (done_moment s e a b (spared e h) (passed s e q) i)

  next_ticks : (n : ℕ) → Next (Some (Ticks (suc n))) (single_ticks (suc n) s)
  unfolding single_ticks asked took_by_ticks
  next_ticks n = rw (append-nil b) (ticks_moment (suc n) s a b i)

  pub step_moment : (bytes : List ℕ) → may_come run_allows s bytes ≡ true → ReadMoment (step s bytes).state (a ++ chip_took s bytes) (b ++ host_read s bytes)
  step_moment = come_law run_allows refl s Next next_refused next_done next_ticks

start_moment : (s : State) → Starts false s → ReadMoment s [] []
start_moment s h = record { held = held_at_start false s h; order = rw (h.scsi, h.host) }

-- THE READ RUN: whatever has come since the start, bus resets and bus free among it, and so at every moment (earlier_comes)
pub read_run_lem : (s : State) (records : List (List ℕ)) → Starts false s → all_come run_allows s records ≡ true → ReadMoment (after s records) (along chip_took s records) (along host_read s records)
read_run_lem s records h q = along_law run_allows ReadMoment chip_took host_read step_moment s records [] [] (start_moment s h) q

-- the bytes that the host reads are those of the answer's value, the low byte first
abbrev pub little_endian : List ℕ → ℕ
little_endian [] = 0
little_endian (b ∷ more) = b + 256 * little_endian more

front_value_1 : (l : List ℕ) → 1 ≤ length l → get_or l 0 0 ≡ little_endian (take 1 l)
front_value_1 [] h = absurd (omega arith)
front_value_1 (a ∷ l) h = omega arith

front_value_2 : (l : List ℕ) → 2 ≤ length l → get_or l 0 0 + 256 * get_or l 1 0 ≡ little_endian (take 2 l)
front_value_2 [] h = absurd (omega arith)
front_value_2 (a ∷ []) h = absurd (omega arith)
front_value_2 (a ∷ b ∷ l) h = omega arith

module _ (s : State) where
  abbrev Answers : Option Event → Stepped → Type 0
  Answers d r = says port_read d ≡ true → is_refusal r.code ≡ false → r.value ≡ little_endian (unless_refused (λ e. take (asked e) s.transfer.host) d r.code)

  answers_refused : (d : Option Event) (code : Code) (value : ℕ) → is_refusal code ≡ true → Answers d (refused s code value)
  unfolding ended
  answers_refused d code value q h k = absurd (never (sym k ∙ q))

  answers_reset : Answers (Some PowerReset) (ended power_reset Done 0)
  unfolding port_read
  answers_reset h k = absurd (never h)

  byte_answer : (offset : ℕ) → Passed s (Read offset) → eqb offset 0x16 ≡ true → value_read s (Read offset) ≡ little_endian (take (asked (Read offset)) s.transfer.host)
  unfolding value_read read_of read_at table asked no_bytes
  byte_answer offset k q =
      let n = ltb-false (length s.transfer.host) (asked (Read offset)) k.bytes in
      ap (λ (o : ℕ). read_mapped s (read_at o)) (eqb-true offset 0x16 q)
      ∙ front_value_1 s.transfer.host (rw q at n)
      ∙ rw q

  port_answer : (e : Event) → Passed s e → port_read e ≡ true → value_read s e ≡ little_endian (take (asked e) s.transfer.host)
  unfolding port_read value_read asked no_bytes
  port_answer PowerReset k h = absurd (never h)
  port_answer (Write offset value) k h = absurd (never h)
  port_answer (Read offset) k h = byte_answer offset k h
  port_answer (WordWrite word) k h = absurd (never h)
  port_answer WordRead k h = front_value_2 s.transfer.host (ltb-false (length s.transfer.host) 2 k.bytes)
  port_answer (Drive lines) k h = absurd (never h)
  port_answer (Ticks n) k h = absurd (never h)

  answers_ticks : (n : ℕ) → Answers (Some (Ticks (suc n))) (single_ticks (suc n) s)
  unfolding port_read
  answers_ticks n h k = absurd (never h)

  answers_done : (e : Event) → ticks_of e ≡ 0 → is_done (access_code s e) ≡ true → Answers (Some e) (done s e)
  unfolding done
  answers_done e t q h k = rw k (port_answer e (passed s e q) h)

  -- what a port read that is not refused answers is what the host has read
  pub read_is_answered : (bytes : List ℕ) → says port_read (decode bytes) ≡ true → is_refusal (step s bytes).code ≡ false → (step s bytes).value ≡ little_endian (host_read s bytes)
  read_is_answered = step_law s Answers answers_refused answers_reset answers_done answers_ticks

-- so the value's low bytes are what the host has read
low_of : (x n : ℕ) → x < 256 → (x + 256 * n) % 256 ≡ x
low_of x n h = omega arith

high_of : (x n : ℕ) → x < 256 → (x + 256 * n) / 256 ≡ n
high_of x n h = omega arith

low_bytes_lem : (l : List ℕ) → Bytes l → length l ≤ 2 → low_bytes (length l) (little_endian l) ≡ l
low_bytes_lem [] b h = refl
low_bytes_lem (x ∷ []) b h = rw (low_of x 0 b.0)
low_bytes_lem (x ∷ y ∷ []) b h = rw (low_of x (y + 256 * 0) b.0, high_of x (y + 256 * 0) b.0, low_of y 0 b.1.0)
low_bytes_lem (x ∷ y ∷ z ∷ l) b h = absurd (omega arith)

asks_few : (e : Event) → asked e ≤ 2
unfolding asked
asks_few PowerReset = omega arith
asks_few (Write offset value) = omega arith
asks_few (Read offset) = go (eqb offset 0x16)
  where
    go : (t : Bool) → cond t 1 0 ≤ 2
    go true = omega arith
    go false = omega arith
asks_few (WordWrite word) = omega arith
asks_few WordRead = omega arith
asks_few (Drive lines) = omega arith
asks_few (Ticks n) = omega arith

module _ (s : State) (b : Bytes s.transfer.host) where
  abbrev Hands : Option Event → Stepped → Type 0
  Hands d r = is_refusal r.code ≡ false → event_bytes (λ e. low_bytes (asked e) r.value) d ≡ event_bytes (λ e. take (asked e) s.transfer.host) d

  hands_refused : (d : Option Event) (code : Code) (value : ℕ) → is_refusal code ≡ true → Hands d (refused s code value)
  unfolding ended
  hands_refused d code value q k = absurd (never (sym k ∙ q))

  hands_reset : Hands (Some PowerReset) (refused power_reset Done 0)
  unfolding asked
  hands_reset k = refl

  hands_event : (e : Event) → Passed s e → low_bytes (asked e) (value_read s e) ≡ take (asked e) s.transfer.host
  unfolding no_bytes
  hands_event e k = go (port_read e) refl
    where
      go : (t : Bool) → port_read e ≡ t → low_bytes (asked e) (value_read s e) ≡ take (asked e) s.transfer.host
      go true h =
          let n = ltb-false (length s.transfer.host) (asked e) k.bytes in
          let few = asks_few e in
          let front = take (asked e) s.transfer.host in
          let size : length front ≡ asked e = simp length-take (omega arith) in
          let law = low_bytes_lem front (bytes_take (asked e) s.transfer.host b) (rw size few) in
          ap (λ (v : ℕ). low_bytes (asked e) v) (port_answer s e k h) ∙ rw size at law
      go false h = rw (asks_none e h)

  hands_ticks : (n : ℕ) → Hands (Some (Ticks (suc n))) (single_ticks (suc n) s)
  unfolding asked
  hands_ticks n k = refl

  hands_done : (e : Event) → ticks_of e ≡ 0 → is_done (access_code s e) ≡ true → Hands (Some e) (done s e)
  unfolding done
  hands_done e t q k = hands_event e (passed s e q)

  -- the low bytes of the value are the bytes that the host has read
  pub read_hands : (bytes : List ℕ) → is_refusal (step s bytes).code ≡ false → event_bytes (λ e. low_bytes (asked e) (step s bytes).value) (decode bytes) ≡ event_bytes (λ e. take (asked e) s.transfer.host) (decode bytes)
  read_hands = step_law s Hands hands_refused hands_reset hands_done hands_ticks
