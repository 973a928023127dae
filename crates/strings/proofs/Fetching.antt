-- Words read: the first by the step, then one block more at a time.
use Prim.Native.Nat.{ℕ, zero, suc, ◌+◌, ◌*◌, ◌-◌, ◌/◌, ◌%◌, ◌<◌, ◌≤◌}
use mathlib.Core.Path.{◌≡◌, refl, sym, ◌∙◌, ap, subst}
use mathlib.Core.Bool.{true, false, ◌&&◌}
use mathlib.Core.List.{List, [], ◌∷◌, ◌++◌}
use native.Mathlib.Omega.{arith}
use lib.Dec.{ltb}
use lib.ListN.{length, take, drop, get_or, set, replicate-append-replicate}
use lib.Seq.{length-take-le}
use Rattle.rules.specs.State.{State}
use Rattle.rules.specs.Ranges.{Bytes, InRange}
use Rattle.rules.specs.Codes.{number_of}
use Rattle.rules.specs.Step.{step}
use Rattle.rules.specs.declared.codes.Code.{Code}
use Rattle.rules.specs.declared.codes.Code.TheVariants.{Done, NoBytes}
use Rattle.image.specs.Image.{IsImage, state_at}
use Rattle.image.specs.Layout.{host_count_place}
use Rattle.event.specs.Outcomes.{Leaves}
use Rattle.event.specs.declared.stepping.Outcome.{Outcome}
use Rattle.settling.proofs.Carries.{host_held}
use Rattle.words.specs.Words.{Strung, strung_none, one_done, strung, word_read, word_reads, word_bytes}
use Rattle.words.proofs.Accesses.{step_read, read_refused}
use Rattle.words.proofs.Keeps.{read_is_done, read_leaves_open, read_is_stopped}
use Rattle.words.proofs.Words.{read_block, values_of}
use Rattle.strings.specs.Passed.{IsPassed, IsFetched}
use Rattle.strings.specs.Fetching.{IsBlockFetched}
use Rattle.strings.specs.declared.Passed.{Passed}
use Rattle.strings.proofs.First.{Word, is_done_lem, word_stored}
use Rattle.strings.proofs.Going.{Round, Turn, first_stops, first_done, first_round_lem, next_round, none_left, one_refused, no_turn}

-- the bytes of the values of k words are those of the host FIFO
words_bytes : (k : ℕ) (l : List ℕ) → Bytes l → 2 * k ≤ length l → word_bytes (values_of k l) ≡ take (2 * k) l
words_bytes zero l b h = refl
words_bytes (suc k) [] b h = absurd (omega arith)
words_bytes (suc k) (x ∷ []) b h = absurd (omega arith)
words_bytes (suc k) (x ∷ y ∷ l) b h =
    let low : (x + 256 * y) % 256 ≡ x = omega (arith, b.0) in
    let high : (x + 256 * y) / 256 ≡ y = omega (arith, b.0) in
    let more : suc (suc (2 * k)) ≡ 2 * suc k = omega arith in
    ap (λ (v : ℕ). v ∷ (x + 256 * y) / 256 ∷ word_bytes (values_of k l)) low
    ∙ ap (λ (v : ℕ). x ∷ v ∷ word_bytes (values_of k l)) high
    ∙ ap (λ (r : List ℕ). x ∷ y ∷ r) (words_bytes k l b.1.1 (omega arith))
    ∙ ap (λ (n : ℕ). take n (x ∷ y ∷ l)) more

-- THE FIRST WORD
pub word_read_lem : (s : State) → InRange s → Word true s word_read
word_read_lem s i = record { done = read_is_done s i; opens = read_leaves_open s i; stops = read_is_stopped s i }

two_set : (l : List ℕ) (v : ℕ) → 2 ≤ length l → set (set l 0 (v % 256)) 1 (v / 256) ≡ word_bytes (v ∷ []) ++ drop 2 l
two_set [] v h = absurd (omega arith)
two_set (x ∷ []) v h = absurd (omega arith)
two_set (x ∷ y ∷ l) v h = refl

pub first_read : {s : State} → InRange s → {m : List ℕ} {o : Outcome} → Leaves (step s word_read) m o → number_of o.code ≡ 0 → {before out : List ℕ} → 2 ≤ length before
    → out ≡ set (set before 0 (o.value % 256)) 1 (o.value / 256) → IsFetched s 1 before m out (record { done = 1; count = 2; code = o.code })
unfolding one_done strung_none
first_read {s} i {o = o} g z {before = before} h u =
    word_stored (word_read_lem s i) g z refl refl (u ∙ two_set before o.value h ∙ ap (λ (v : ℕ). word_bytes (v ∷ []) ++ drop 2 before) g.value)

-- between two blocks: d words are done, and the host FIFO holds so many bytes
pub record ReadRound (x : Strung) (before : List ℕ) (words : ℕ) (m out : List ℕ) (d held : ℕ) : Type 0 where
  pub round : Round true x before (word_reads (words - d)) m out d (2 * d)
  pub few : d ≤ words
  pub counted : held ≡ length (state_at m).transfer.host
  pub size : length before ≡ 2 * words

-- after the first word
module _ {m : List ℕ} (i : IsImage m) (words : ℕ) (some : 0 < words) {before n out : List ℕ} {r : Passed} (f : IsFetched (state_at m) 1 before n out r) where
  abbrev s : State
  s = state_at m

  all_words : word_reads words ≡ word_read ∷ word_reads (words - 1)
  all_words =
      let one : words ≡ suc (words - 1) = omega arith in
      ap (λ (k : ℕ). word_reads k) one

  pub read_stops : r.done ≡ 0 → IsFetched s words before n out r
  read_stops z = first_stops i (word_read_lem s i.range) all_words f z

  pub read_begun : (r.done ≡ 0 → ⊥) → length before ≡ 2 * words → {held : ℕ} → held ≡ get_or n host_count_place 0
      → ReadRound (strung s (word_reads words)) before words n out 1 held
  unfolding one_done strung_none
  read_begun z size u =
      let w = word_read_lem s i.range in
      let h = first_done i w all_words f z in
      let two : r.count ≡ 2 = f.count ∙ ap (λ (y : Strung). length (word_bytes y.values)) (is_done_lem w h) in
      let g = first_round_lem i w all_words f h (omega (arith, two, size)) in
      record {
        round = subst (λ (j : ℕ). Round true (strung s (word_reads words)) before (word_reads (words - 1)) n out 1 j) two g;
        few = some;
        counted = u ∙ host_held n g.image;
        size = size;
      }

module _ {x : Strung} {before : List ℕ} {words : ℕ} {m out : List ℕ} {d held : ℕ} (c : ReadRound x before words m out d held) where
  abbrev at : State
  at = state_at m

  abbrev host : List ℕ
  host = at.transfer.host

  -- ONE BLOCK MORE
  module _ {k : ℕ} (t : Turn words d (held / 2) k) where
    pub enough : 2 * k ≤ length host
    enough = omega (arith, t.fits, c.counted)

    pub there : 2 * d + 2 * k ≤ length out
    there = omega (arith, t.few, c.size, c.round.goes.long)

    parts : word_reads (words - d) ≡ word_reads k ++ word_reads (words - (d + k))
    parts =
        let e : words - d ≡ k + (words - (d + k)) = omega (arith, t.few) in
        ap (λ (j : ℕ). word_reads j) e ∙ sym (replicate-append-replicate k (words - (d + k)) word_read)

    pub next_read : {n next : List ℕ} → IsBlockFetched at (2 * k) (2 * d) out n next → {now : ℕ} → now ≡ get_or n host_count_place 0
        → ReadRound x before words n next (d + k) now
    next_read {n} b u =
        let twice : 2 * d + 2 * k ≡ 2 * (d + k) = omega arith in
        let g = c.round in
        let block = read_block k at (record { range = g.image.range; rest = g.rest }) g.opened enough in
        let bytes = words_bytes k host g.image.bytes.transfer.host enough in
        let count : 2 * (d + k) ≡ 2 * d + length (take (2 * k) host) = omega (arith, length-take-le (2 * k) host enough) in
        let stored = b.buffer ∙ ap (λ (j : ℕ). (take (2 * d) out ++ take (2 * k) host) ++ drop j out) twice in
        let r = next_round g (word_reads k) (word_reads (words - (d + k))) parts (drop (2 * k) host) block b.image bytes count stored (omega (arith, there)) in
        record { round = r; few = t.few; counted = u ∙ host_held n r.image; size = c.size }

  -- THE END: no words left, or no bytes for one
  abbrev Ends : Code → Type 0
  Ends code = IsPassed x (word_bytes x.values) before m out (record { done = d; count = 2 * d; code = code })

  pub all_read : d ≡ words → {code : Code} → code ≡ Done → Ends code
  all_read e q =
      let z : words - d ≡ 0 = omega (arith, e) in
      none_left c.round (ap (λ (k : ℕ). word_reads k) z) q

  pub no_bytes_lem : (ltb d words && ltb 1 held) ≡ false → (d ≡ words → ⊥) → {code : Code} → code ≡ NoBytes → Ends code
  no_bytes_lem t z q =
      let one : words - d ≡ suc (words - d - 1) = omega (arith, z, c.few) in
      let none : length host < 2 = omega (arith, no_turn words d 1 held t (omega (arith, z, c.few)), c.counted) in
      one_refused c.round (ap (λ (k : ℕ). word_reads k) one) 0xFFFF (step_read at ∙ read_refused at c.round.image.range.transfer.host c.round.opened none) refl q
