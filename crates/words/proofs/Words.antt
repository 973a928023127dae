-- THE WORDS OF A BLOCK ARE THEIR SINGLE EVENTS: from a chip at rest, as many words as the host FIFO has room, or bytes, for.
use Prim.Native.Nat.{ℕ, zero, suc, ◌+◌, ◌*◌, ◌<◌, ◌≤◌}
use mathlib.Core.Path.{◌≡◌, refl, sym, ◌∙◌, ap, subst}
use mathlib.Core.Bool.{Bool, true, false, cond}
use mathlib.Core.List.{List, [], ◌∷◌, ◌++◌, append-nil}
use native.Mathlib.Omega.{arith}
use lib.ListN.{length, take, drop, get_or, replicate, length-append, length-drop, take-append-drop}
use Rattle.rules.specs.Rest.{AtRest}
use Rattle.rules.specs.State.{State}
use Rattle.rules.specs.Changed.{with_host}
use Rattle.rules.specs.Ranges.{Bytes, InRange}
use Rattle.rules.specs.StepC.{Settling, conditions, turns, started}
use Rattle.rules.specs.Events.{offered}
use Rattle.rules.specs.Reads.{value_read}
use Rattle.rules.specs.Answers.{Stepped}
use Rattle.rules.specs.Step.{step}
use Rattle.rules.specs.declared.records.Event.TheVariants.{WordWrite, WordRead}
use Rattle.rules.specs.declared.codes.Code.TheVariants.{Done}
use Rattle.rules.proofs.Logic.{never}
use Rattle.rules.proofs.Rest.{settling_counts}
use Rattle.rules.proofs.Ranges.{step_in_range}
use Rattle.rules.proofs.Still.{step_rests}
use Rattle.words.specs.Words.{Strung, strung_none, one_done, one_then, strung, word_write, word_writes, word_read, word_reads}
use Rattle.words.specs.Blocks.{settled_with, together, block_settled, block_left}
use Rattle.words.proofs.Port.{word_written_lem, word_read_lem, block_stepped, port_at_rest}
use Rattle.words.proofs.Accesses.{shut_to_words, step_write, step_read, offered_word, open_direction, write_done, read_done}
use Rattle.words.proofs.Inbound.{inbound_appends}
use Rattle.words.proofs.Blocks.{left_joins, joins_out, joins_in, none_settles, none_left}

-- what k words done as a block give
abbrev pub strung_block : State → List ℕ → ℕ → List ℕ → Strung
strung_block s h k values =
    record { state = block_left s h; done = k; code = Done; sent = (block_settled s h).sent; values = values }

-- no word
no_words : (s : State) → AtRest s → strung_none s ≡ strung_block s s.transfer.host 0 []
unfolding strung_none started
no_words s r =
    λ i.
    record {
      state = sym (none_left s r) i;
      done = 0;
      code = Done;
      sent = sym (ap (λ (x : Settling). x.sent) (none_settles s r)) i;
      values = [];
    }

one_add : (k : ℕ) → 1 + k ≡ suc k
one_add k = omega arith

-- one word, and those after it
one_then_block : (s : State) (first second both : List ℕ) (k value : ℕ) (values : List ℕ)
    → together (block_settled s first) (block_settled (block_left s first) second) ≡ block_settled s both
    → one_then (block_stepped s first value) (strung_block (block_left s first) second k values) ≡ strung_block s both (suc k) (value ∷ values)
unfolding one_then one_done
one_then_block s first second both k value values e =
    λ i.
    record {
      state = left_joins s first second both e i;
      done = one_add k i;
      code = Done;
      sent = (e i).sent;
      values = value ∷ values;
    }

-- what holds between words: the chip at rest and in range
pub record Between (s : State) : Type 0 where
  pub range : InRange s
  pub rest : AtRest s

pub between : (s : State) (bytes : List ℕ) → Between s → Between (step s bytes).state
between s bytes b = record { range = step_in_range s bytes b.range; rest = step_rests s bytes b.range b.rest }

-- outbound settling takes bytes off the host FIFO and puts none there
pub host_falls : (s : State) (h : List ℕ) → (conditions s).outbound ≡ true → length s.transfer.scsi ≤ 8 → length (block_settled s h).transfer.host ≤ length h
unfolding settled_with started
host_falls s h o x =
    fewer (conditions s).outbound (length (block_settled s h).transfer.host) (block_settled s h).moves (length h) o
    (settling_counts (conditions s) turns (with_host h s) x).host
  where
    fewer : (out : Bool) (a m n : ℕ) → out ≡ true → cond out (a + m ≡ n) (a ≡ n + m) → a ≤ n
    fewer true a m n e k = omega arith
    fewer false a m n e k = absurd (never e)

module _ (s : State) (b : Between s) (o : shut_to_words false s.registers ≡ false) where
  outbound : (conditions s).outbound ≡ true
  unfolding conditions
  outbound = open_direction false s.registers o

  -- after a word the port is as open as before, and the host FIFO holds no more than the word brought
  open_after : (h : List ℕ) → shut_to_words false (block_left s h).registers ≡ false
  unfolding block_left
  open_after h = o

  room_after : (h : List ℕ) → length (block_left s h).transfer.host ≤ length h
  unfolding block_left
  room_after h = host_falls s h outbound b.range.transfer.scsi

  pub write_first : (low high : ℕ) → low < 256 → high < 256 → length s.transfer.host ≤ 126
      → step s (word_write low high) ≡ block_stepped s (s.transfer.host ++ (low ∷ high ∷ [])) 0
  unfolding value_read
  write_first low high l u room =
      let e = WordWrite (high * 256 + low) in
      step_write s low high l u
      ∙ write_done s b.range.transfer.host (high * 256 + low) o room
      ∙ port_at_rest e s (s.transfer.host ++ offered e) (word_written_lem (high * 256 + low) s) b.rest b.range.quiet
      ∙ ap (λ (l : List ℕ). block_stepped s (s.transfer.host ++ l) 0) (offered_word low high l)

-- WORDS WRITTEN
pub write_block : (k : ℕ) (s : State) (bytes : List ℕ) → Between s → shut_to_words false s.registers ≡ false → Bytes bytes → length bytes ≡ 2 * k
    → length s.transfer.host + 2 * k ≤ 128 → strung s (word_writes k bytes) ≡ strung_block s (s.transfer.host ++ bytes) k (replicate k 0)
unfolding strung
write_block zero s [] b o t n room = no_words s b.rest ∙ ap (λ (l : List ℕ). strung_block s l 0 []) (sym (append-nil s.transfer.host))
write_block zero s (x ∷ l) b o t n room = absurd (omega arith)
write_block (suc k) s [] b o t n room = absurd (omega arith)
write_block (suc k) s (x ∷ []) b o t n room = absurd (omega arith)
write_block (suc k) s (x ∷ y ∷ bytes) b o t n room =
    let first = s.transfer.host ++ (x ∷ y ∷ []) in
    let e = write_first s b o x y t.0 t.1.0 (omega arith) in
    let next = block_left s first in
    let m = between s (word_write x y) b in
    ap (λ (r : Stepped). one_then r (strung r.state (word_writes k bytes))) e
    ∙ ap (one_then (block_stepped s first 0)) (write_block k next bytes (subst Between (ap (λ (r : Stepped). r.state) e) m) (open_after s b o first) t.1.1 (omega arith) (omega (arith, room_after s b o first, length-append s.transfer.host (x ∷ y ∷ []))))
    ∙ one_then_block s first (next.transfer.host ++ bytes) (s.transfer.host ++ (x ∷ y ∷ bytes)) k 0 (replicate k 0) (joins_out s b.range.transfer (x ∷ y ∷ []) bytes (outbound s b o))

-- the values of k words, from the front of the host FIFO
abbrev pub values_of : ℕ → List ℕ → List ℕ
values_of zero bytes = []
values_of (suc k) bytes = (get_or bytes 0 0 + 256 * get_or bytes 1 0) ∷ values_of k (drop 2 bytes)

-- they are those of the bytes in front
values_more : (k : ℕ) (l more : List ℕ) → 2 * k ≤ length l → values_of k (l ++ more) ≡ values_of k l
values_more zero l more h = refl
values_more (suc k) [] more h = absurd (omega arith)
values_more (suc k) (x ∷ []) more h = absurd (omega arith)
values_more (suc k) (x ∷ y ∷ l) more h = ap (λ (v : List ℕ). (x + 256 * y) ∷ v) (values_more k l more (omega arith))

module _ (s : State) (b : Between s) (o : shut_to_words true s.registers ≡ false) where
  inbound : (conditions s).outbound ≡ false
  unfolding conditions
  inbound = open_direction true s.registers o

  read_open_after : (h : List ℕ) → shut_to_words true (block_left s h).registers ≡ false
  unfolding block_left
  read_open_after h = o

  -- settling adds behind what is left
  begins_after : (h : List ℕ) → take (length h) (block_left s h).transfer.host ≡ h
  unfolding block_left
  begins_after h = inbound_appends (conditions s) h s.transfer inbound

  behind : (h : List ℕ) → (block_left s h).transfer.host ≡ h ++ drop (length h) (block_left s h).transfer.host
  behind h =
      let l = (block_left s h).transfer.host in
      sym (take-append-drop (length h) l) ∙ ap (λ (x : List ℕ). x ++ drop (length h) l) (begins_after h)

  values_after : (k : ℕ) (h : List ℕ) → 2 * k ≤ length h → values_of k (block_left s h).transfer.host ≡ values_of k h
  values_after k h n = ap (values_of k) (behind h) ∙ values_more k h _ n

  bytes_after : (h : List ℕ) → length h ≤ length (block_left s h).transfer.host
  bytes_after h = omega (arith, ap length (behind h), length-append h (drop (length h) (block_left s h).transfer.host))

  pub read_first : 2 ≤ length s.transfer.host
      → step s word_read ≡ block_stepped s (drop 2 s.transfer.host) (get_or s.transfer.host 0 0 + 256 * get_or s.transfer.host 1 0)
  unfolding value_read
  read_first held =
      step_read s
      ∙ read_done s b.range.transfer.host o held
      ∙ port_at_rest WordRead s (drop 2 s.transfer.host) (word_read_lem s) b.rest b.range.quiet

-- WORDS READ
pub read_block : (k : ℕ) (s : State) → Between s → shut_to_words true s.registers ≡ false → 2 * k ≤ length s.transfer.host
    → strung s (word_reads k) ≡ strung_block s (drop (2 * k) s.transfer.host) k (values_of k s.transfer.host)
unfolding strung
read_block zero s b o held = no_words s b.rest
read_block (suc k) s b o held =
    let host = s.transfer.host in
    let first = drop 2 host in
    let value = get_or host 0 0 + 256 * get_or host 1 0 in
    let e = read_first s b o (omega arith) in
    let next = block_left s first in
    let n : 2 * k ≤ length first = simp length-drop (omega arith) in
    let twice : 2 + 2 * k ≡ 2 * suc k = omega arith in
    ap (λ (r : Stepped). one_then r (strung r.state (word_reads k))) e
    ∙ ap (one_then (block_stepped s first value)) (read_block k next (subst Between (ap (λ (r : Stepped). r.state) e) (between s word_read b)) (read_open_after s b o first) (omega (arith, n, bytes_after s b o first)))
    ∙ ap (λ (v : List ℕ). one_then (block_stepped s first value) (strung_block next (drop (2 * k) next.transfer.host) k v)) (values_after s b o k first n)
    ∙ one_then_block s first (drop (2 * k) next.transfer.host) (drop (2 + 2 * k) host) k value (values_of k first) (joins_in s b.range.transfer 2 (2 * k) (inbound s b o) (omega arith))
    ∙ ap (λ (m : ℕ). strung_block s (drop m host) (suc k) (value ∷ values_of k first)) twice
