-- The words that a string call did, as single events: where they leave the chip, and what they send, accept and hand out.
use Rattle.std.specs.Prelude.{Some}
use Prim.Native.Nat.{ℕ, zero, suc, ◌+◌, ◌*◌, ◌/◌, ◌%◌, ◌<◌}
use mathlib.Core.Path.{◌≡◌, refl, ap, ap₂, sym, subst, ◌∙◌}
use mathlib.Core.Bool.{Bool, true, false, cond, ◌||◌, not, beq, or-true}
use mathlib.Core.List.{List, [], ◌∷◌, ◌++◌}
use native.Mathlib.Omega.{arith}
use lib.ListN.{length, take, drop}
use Rattle.rules.specs.State.{State}
use Rattle.rules.specs.Ranges.{Bytes}
use Rattle.rules.specs.Records.{decode, fields_of, well_formed}
use Rattle.rules.specs.Events.{offered, asked, writes, wide, port_write, port_read}
use Rattle.rules.specs.Codes.{is_refusal, absent, test_value, shut, access_code}
use Rattle.rules.specs.Step.{access, ended, step, answer, after}
use Rattle.rules.specs.declared.codes.Code.TheVariants.{Shut}
use Rattle.rules.specs.declared.registers.Registers.{Registers}
use Rattle.rules.specs.declared.records.Event.{Event}
use Rattle.rules.specs.declared.records.Event.TheVariants.{WordWrite, WordRead}
use Rattle.rules.proofs.Logic.{never}
use Rattle.rules.proofs.Ranges.{step_bytes}
use Rattle.rules.proofs.Refusals.{in_order_lem, refusal_changes_nothing}
use Rattle.runs.specs.Comes.{says, event_bytes, along, all_come, may_come as recordMayCome}
use Rattle.runs.specs.Run.{accepted, sent_by, host_read, low_bytes}
use Rattle.runs.proofs.Along.{said_comes}
use Rattle.words.specs.Words.{word_write, word_writes, word_read, word_reads, word_bytes, Strung, strung_none, stopped, one_done, one_then, strung}
use Rattle.words.proofs.Accesses.{decode_write, step_read, offered_word}
use Rattle.driver.specs.Exchanges.{Exchange, handed, handed_over, offered_of, accepted_of, value_of, read_of, may_come, all_over, over}
use Rattle.driver.specs.Driving.{Offers}
use Rattle.driver.specs.Calls.{Ranged, Trace}
use Rattle.driver.specs.Strings.{answered_from}
use Rattle.driver.proofs.Shown.{refused_shown, value_shown, accepted_shown}
use Rattle.driver.proofs.Traces.{ranged_step, accepted_along, reads_along, comes_along}
use Rattle.driver.proofs.Steps.{answer_size_lem}

-- none of the records is refused
abbrev pub Unrefused : State → List (List ℕ) → Type 0
Unrefused s [] = Unit {0}
Unrefused s (bytes ∷ more) = (is_refusal (step s bytes).code ≡ false) × Unrefused (step s bytes).state more

-- the values that they answer
abbrev pub values_along : State → List (List ℕ) → List ℕ
values_along s [] = []
values_along s (bytes ∷ more) = (step s bytes).value ∷ values_along (step s bytes).state more

-- what is strung up to the first refusal is what the records done give one after the other
pub record Tells (s : State) (records : List (List ℕ)) (r : Strung) : Type 0 where
  pub state : r.state ≡ after s (take r.done records)
  pub sent : r.sent ≡ along sent_by s (take r.done records)
  pub values : r.values ≡ values_along s (take r.done records)
  pub number : length r.values ≡ r.done
  pub unrefused : Unrefused s (take r.done records)

one_more_lem : (n : ℕ) → 1 + n ≡ suc n
one_more_lem n = omega arith

one_tells :
    (s : State) (bytes : List ℕ) (more : List (List ℕ)) (rest : Strung) → Tells (step s bytes).state more rest →
    Tells s (bytes ∷ more) (one_then (step s bytes) rest)
unfolding one_then stopped one_done
one_tells s bytes more rest h = go (is_refusal (step s bytes).code) refl
  where
    go :
        (t : Bool) → is_refusal (step s bytes).code ≡ t →
        Tells s (bytes ∷ more) (cond t (stopped (step s bytes)) (one_done (step s bytes) rest))
    go true e =
        record { state = (refusal_changes_nothing s bytes e).state; sent = refl; values = refl; number = refl; unrefused = tt }
    go false e =
        rw (one_more_lem rest.done)
        record {
          state = h.state;
          sent = ap (λ (l : List ℕ). (step s bytes).sent ++ l) h.sent;
          values = ap (λ (l : List ℕ). (step s bytes).value ∷ l) h.values;
          number = ap suc h.number;
          unrefused = (e, h.unrefused);
        }

pub strung_tells : (s : State) (records : List (List ℕ)) → Tells s records (strung s records)
unfolding strung strung_none
strung_tells s [] = record { state = refl; sent = refl; values = refl; number = refl; unrefused = tt }
strung_tells s (bytes ∷ more) =
    one_tells s bytes more (strung (step s bytes).state more) (strung_tells (step s bytes).state more)

-- SINGLE EVENTS WITH THEIR ANSWERS ARE A TRACE, and what they hand over are the records
pub answered_handed : (s : State) (records : List (List ℕ)) → Ranged s → handed_over (answered_from s records) ≡ records
answered_handed s [] i = refl
answered_handed s (bytes ∷ more) i =
    rw (answer_size_lem s bytes i, answered_handed (step s bytes).state more (ranged_step s bytes i))

pub answered_trace : (s : State) (records : List (List ℕ)) → Ranged s → Trace s (answered_from s records)
answered_trace s [] i = tt
answered_trace s (bytes ∷ more) i =
    rw (answer_size_lem s bytes i) (λ q. refl, answered_trace (step s bytes).state more (ranged_step s bytes i))

-- what they show is what the definition gives along the records
module _ (s : State) (records : List (List ℕ)) (i : Ranged s) where
  abbrev xs : List Exchange
  xs = answered_from s records

  pub answered_accepts : over accepted_of xs ≡ along accepted s records
  answered_accepts = accepted_along s xs i (answered_trace s records i) ∙ ap (along accepted s) (answered_handed s records i)

  pub answered_reads : over read_of xs ≡ along host_read s records
  answered_reads = reads_along s xs i (answered_trace s records i) ∙ ap (along host_read s) (answered_handed s records i)

  pub answered_comes : (allows : Event → Bool) → all_over (may_come allows) xs ≡ all_come allows s records
  answered_comes allows =
      comes_along allows s xs i (answered_trace s records i) ∙ ap (all_come allows s) (answered_handed s records i)

-- a word read's record
decode_read : decode word_read ≡ Some WordRead
unfolding decode fields_of well_formed
decode_read = refl

twice : (n : ℕ) → 2 * suc n ≡ suc (suc (2 * n))
twice n = omega arith

-- THE FIRST WORDS OF A RUN OF BYTES: each may come in a run, offers two bytes, and hands none to the host
module _ (s : State) (low high : ℕ) (a : low < 256) (b : high < 256) where
  write_comes :
      (allows : Event → Bool) → ((word : ℕ) → allows (WordWrite word) ≡ true) → recordMayCome allows s (word_write low high) ≡ true
  write_comes allows f =
      said_comes allows s (word_write low high) (ap (says allows) (decode_write low high a b) ∙ f (high * 256 + low))

  write_accepts : is_refusal (step s (word_write low high)).code ≡ false → accepted s (word_write low high) ≡ low ∷ high ∷ []
  write_accepts e = rw (e, decode_write low high a b) (offered_word low high a)

  write_hands : host_read s (word_write low high) ≡ []
  unfolding asked
  write_hands = rw (decode_write low high a b) (go (is_refusal (step s (word_write low high)).code))
    where
      go : (t : Bool) → cond t [] (take 0 s.transfer.host) ≡ []
      go true = refl
      go false = refl

pub writes_come :
    (allows : Event → Bool) → ((word : ℕ) → allows (WordWrite word) ≡ true) → (s : State) (n words : ℕ) (bytes : List ℕ) →
    Bytes bytes → length bytes ≡ 2 * words → all_come allows s (take n (word_writes words bytes)) ≡ true
writes_come allows f s zero words bytes b e = refl
writes_come allows f s (suc n) zero bytes b e = refl
writes_come allows f s (suc n) (suc words) (low ∷ high ∷ bytes) b e =
    rw (write_comes s low high b.0 b.1.0 allows f)
    (writes_come allows f (step s (word_write low high)).state n words bytes b.1.1 (omega arith))
writes_come allows f s (suc n) (suc words) [] b e = absurd (omega arith)
writes_come allows f s (suc n) (suc words) (low ∷ []) b e = absurd (omega arith)

pub writes_accept :
    (s : State) (n words : ℕ) (bytes : List ℕ) → Bytes bytes → length bytes ≡ 2 * words → Unrefused s (take n (word_writes words bytes)) →
    along accepted s (take n (word_writes words bytes)) ≡ take (2 * n) bytes
writes_accept s zero words bytes b e u = refl
writes_accept s (suc n) zero [] b e u = sym (rw (twice n))
writes_accept s (suc n) zero (low ∷ bytes) b e u = absurd (omega arith)
writes_accept s (suc n) (suc words) (low ∷ high ∷ bytes) b e u =
    let next = (step s (word_write low high)).state in
    let later = writes_accept next n words bytes b.1.1 (omega arith) u.1 in
    rw (twice n, write_accepts s low high b.0 b.1.0 u.0, later)
writes_accept s (suc n) (suc words) [] b e u = absurd (omega arith)
writes_accept s (suc n) (suc words) (low ∷ []) b e u = absurd (omega arith)

pub writes_hand_none :
    (s : State) (n words : ℕ) (bytes : List ℕ) → Bytes bytes → length bytes ≡ 2 * words →
    along host_read s (take n (word_writes words bytes)) ≡ []
writes_hand_none s zero words bytes b e = refl
writes_hand_none s (suc n) zero bytes b e = refl
writes_hand_none s (suc n) (suc words) (low ∷ high ∷ bytes) b e =
    let later = writes_hand_none (step s (word_write low high)).state n words bytes b.1.1 (omega arith) in
    rw (write_hands s low high b.0 b.1.0, later)
writes_hand_none s (suc n) (suc words) [] b e = absurd (omega arith)
writes_hand_none s (suc n) (suc words) (low ∷ []) b e = absurd (omega arith)

-- THE FIRST WORDS OF A READ: each may come in a run and offers none
pub reads_come :
    (allows : Event → Bool) → allows WordRead ≡ true → (s : State) (n words : ℕ) → all_come allows s (take n (word_reads words)) ≡ true
reads_come allows f s zero words = refl
reads_come allows f s (suc n) zero = refl
reads_come allows f s (suc n) (suc words) =
    rw (said_comes allows s word_read (ap (says allows) decode_read ∙ f)) (reads_come allows f (step s word_read).state n words)

read_offers_none : event_bytes offered (decode word_read) ≡ []
unfolding offered
read_offers_none = rw decode_read

read_accepts_none : (s : State) → accepted s word_read ≡ []
unfolding offered
read_accepts_none s = rw decode_read (go (is_refusal (step s word_read).code))
  where
    go : (t : Bool) → ◌≡◌ {A = List ℕ} (cond t [] []) []
    go true = refl
    go false = refl

pub reads_accept_none : (s : State) (n words : ℕ) → along accepted s (take n (word_reads words)) ≡ []
reads_accept_none s zero words = refl
reads_accept_none s (suc n) zero = refl
reads_accept_none s (suc n) (suc words) = rw (read_accepts_none s, reads_accept_none (step s word_read).state n words)

-- in a write run the port is shut to them
read_present : absent WordRead ≡ false
unfolding absent
read_present = refl

read_tests_none : test_value WordRead ≡ false
unfolding test_value writes
read_tests_none = refl

shut_to_read : (r : Registers) → r.dmacntrl0.write ≡ true → shut r WordRead ≡ true
unfolding shut port_write port_read wide
shut_to_read r e = rw e (or-true (not r.dmacntrl0.endma || r.dmacntrl0.dma || beq r.dmacntrl0.eightbit true))

read_shut : (s : State) → s.registers.dmacntrl0.write ≡ true → is_refusal (step s word_read).code ≡ true
unfolding access ended
read_shut s e =
    let c : access_code s WordRead ≡ Shut =
    (in_order_lem s WordRead).fourth read_present read_tests_none (shut_to_read s.registers e) in
    rw (step_read s, c)

pub none_in_write_run :
    (s : State) (n words : ℕ) → s.registers.dmacntrl0.write ≡ true → Unrefused s (take n (word_reads words)) →
    take n (word_reads words) ≡ []
none_in_write_run s zero words e u = refl
none_in_write_run s (suc n) zero e u = refl
none_in_write_run s (suc n) (suc words) e u = absurd (never (sym u.0 ∙ read_shut s e))

-- the bytes that a driver finds in the answers are those of the values
low_bytes_lem : (v : ℕ) → v < 65536 → low_bytes 2 v ≡ v % 256 ∷ v / 256 ∷ []
low_bytes_lem v h =
    let e : v / 256 % 256 ≡ v / 256 = omega arith in
    rw e

abbrev hands_out : Bool → ℕ → List ℕ → List ℕ
hands_out t v bytes = cond t [] (event_bytes (λ e. low_bytes (asked e) v) (decode bytes))

hands_word : (v : ℕ) → hands_out false v word_read ≡ low_bytes 2 v
unfolding asked
hands_word v = rw decode_read

module _ (s : State) (i : Ranged s) (u : is_refusal (step s word_read).code ≡ false) where
  abbrev x : Exchange
  x = record { bytes = word_read; buffer = answer s word_read }

  read_handed : handed x ≡ word_read
  read_handed = rw (answer_size_lem s word_read i)

  read_unrefused : is_refusal (step s (handed x)).code ≡ false
  read_unrefused = ap (λ (b : List ℕ). is_refusal (step s b).code) read_handed ∙ u

  read_value : value_of x ≡ (step s word_read).value
  read_value = value_shown s x i (λ q. refl) read_unrefused ∙ ap (λ (b : List ℕ). (step s b).value) read_handed

  read_hands : read_of x ≡ word_bytes ((step s word_read).value ∷ [])
  read_hands =
      (λ j. hands_out ((refused_shown s x i (λ q. refl) ∙ read_unrefused) j) (read_value j) (read_handed j))
      ∙ hands_word (step s word_read).value
      ∙ low_bytes_lem (step s word_read).value (step_bytes s word_read i.range i.bytes).value

pub reads_hand :
    (s : State) (n words : ℕ) → Ranged s → Unrefused s (take n (word_reads words)) →
    over read_of (answered_from s (take n (word_reads words))) ≡ word_bytes (values_along s (take n (word_reads words)))
reads_hand s zero words i u = refl
reads_hand s (suc n) zero i u = refl
reads_hand s (suc n) (suc words) i u =
    ap₂ (λ (a b : List ℕ). a ++ b) (read_hands s i u.0)
    (reads_hand (step s word_read).state n words (ranged_step s word_read i) u.1)

pub word_bytes_length : (vs : List ℕ) → length (word_bytes vs) ≡ 2 * length vs
word_bytes_length [] = refl
word_bytes_length (v ∷ vs) = rw (word_bytes_length vs) (omega arith)

-- WHAT THE WORDS OFFER is the data in order
module _ (s : State) (i : Ranged s) (bytes offer take_in rest : List ℕ) (more : List Exchange) where
  abbrev one : Exchange
  one = record { bytes = bytes; buffer = answer s bytes }

  one_handed : handed one ≡ bytes
  one_handed = rw (answer_size_lem s bytes i)

  one_offers :
      event_bytes offered (decode bytes) ≡ offer → accepted s bytes ≡ take_in → take (length offer) rest ≡ offer →
      Offers (drop (length take_in) rest) more → Offers rest (one ∷ more)
  one_offers o p h later =
      let x : offered_of one ≡ offer = ap (λ (l : List ℕ). event_bytes offered (decode l)) one_handed ∙ o in
      let y : accepted_of one ≡ take_in = accepted_shown s one i (λ q. refl) ∙ ap (accepted s) one_handed ∙ p in (
        subst (λ (l : List ℕ). take (length l) rest ≡ l) (sym x) h,
        subst (λ (l : List ℕ). Offers (drop (length l) rest) more) (sym y) later,
      )

pub writes_offer :
    (s : State) (n words : ℕ) (bytes later : List ℕ) → Ranged s → Bytes bytes → length bytes ≡ 2 * words →
    Unrefused s (take n (word_writes words bytes)) → Offers (bytes ++ later) (answered_from s (take n (word_writes words bytes)))
writes_offer s zero words bytes later i b e u = tt
writes_offer s (suc n) zero bytes later i b e u = tt
writes_offer s (suc n) (suc words) (low ∷ high ∷ bytes) later i b e u =
    let next = (step s (word_write low high)).state in
    one_offers s i (word_write low high) (low ∷ high ∷ []) (low ∷ high ∷ []) (low ∷ high ∷ (bytes ++ later))
    (answered_from next (take n (word_writes words bytes)))
    (ap (event_bytes offered) (decode_write low high b.0 b.1.0) ∙ offered_word low high b.0)
    (write_accepts s low high b.0 b.1.0 u.0) refl
    (writes_offer next n words bytes later (ranged_step s (word_write low high) i) b.1.1 (omega arith) u.1)
writes_offer s (suc n) (suc words) [] later i b e u = absurd (omega arith)
writes_offer s (suc n) (suc words) (low ∷ []) later i b e u = absurd (omega arith)

pub reads_offer :
    (s : State) (n words : ℕ) (rest : List ℕ) → Ranged s → Offers rest (answered_from s (take n (word_reads words)))
reads_offer s zero words rest i = tt
reads_offer s (suc n) zero rest i = tt
reads_offer s (suc n) (suc words) rest i =
    let next = (step s word_read).state in
    one_offers s i word_read [] [] rest (answered_from next (take n (word_reads words))) read_offers_none (read_accepts_none s) refl
    (reads_offer next n words rest (ranged_step s word_read i))
