-- Words written: the first by the step, then one block more at a time.
use mathlib.Core.Path.{◌≡◌, refl, ap, sym, ◌∙◌}
use mathlib.Core.Bool.{Bool, true, false, ◌&&◌, cond}
use mathlib.Core.List.{List, [], ◌∷◌, ◌++◌, append-nil}
use Prim.Native.Nat.{ℕ, zero, suc, ◌+◌, ◌*◌, ◌-◌, ◌/◌, ◌<◌, ◌≤◌}
use native.Mathlib.Omega.{arith}
use native.Mathlib.Nat.{zero-add, suc-add}
use lib.Dec.{ltb}
use lib.ListN.{length, take, drop, get_or, replicate, length-take, length-drop}
use lib.Seq.{drop-drop}
use borrow.Author.Tests.{ltb-true, ltb-false}
use Rattle.rules.specs.State.{State}
use Rattle.rules.specs.Ranges.{Bytes, InRange}
use Rattle.rules.specs.StepC.{conditions, turns, started}
use Rattle.rules.specs.Changed.{with_host}
use Rattle.rules.specs.Codes.{number_of}
use Rattle.rules.specs.Step.{step}
use Rattle.rules.specs.declared.codes.Code.{Code}
use Rattle.rules.specs.declared.codes.Code.TheVariants.{Done, NoRoom}
use Rattle.rules.proofs.Ranges.{bytes_at, bytes_take, bytes_drop}
use Rattle.rules.proofs.Reports.{step_fits}
use Rattle.rules.proofs.Rest.{settling_reports}
use Rattle.image.specs.Image.{IsImage, state_at}
use Rattle.fifos.specs.Fifos.{sent_view, sent_of}
use Rattle.rules.specs.declared.chip.Fifo.{Fifo}
use Rattle.fifos.proofs.Behind.{view_of}
use Rattle.event.specs.Outcomes.{Leaves}
use Rattle.event.specs.declared.stepping.Outcome.{Outcome}
use Rattle.words.specs.Words.{Strung, strung_none, one_done, strung, word_write, word_writes}
use Rattle.words.specs.Blocks.{settled_with, block_settled}
use Rattle.words.proofs.Accesses.{step_write, write_refused}
use Rattle.words.proofs.Keeps.{write_is_done, write_leaves_open, write_is_stopped}
use Rattle.words.proofs.Words.{strung_block, write_block}
use Rattle.strings.specs.Passed.{IsBlock, IsPassed, IsWritten, FirstWritten}
use Rattle.strings.specs.declared.Passed.{Passed}
use Rattle.strings.proofs.First.{Word, is_done_lem, word_stored}
use Rattle.strings.proofs.Going.{Round, Turn, first_stops, first_done, first_round_lem, next_image, next_round, none_left, one_refused, no_turn}

-- the records of words, in two parts, and of the bytes that they take
writes_split : (j k : ℕ) (bytes : List ℕ) → word_writes (j + k) bytes ≡ word_writes j bytes ++ word_writes k (drop (2 * j) bytes)
writes_split zero k bytes = ap (λ (n : ℕ). word_writes n bytes) (zero-add k)
writes_split (suc j) k bytes =
    let twice : 2 + 2 * j ≡ 2 * suc j = omega arith in
    ap (λ (n : ℕ). word_writes n bytes) (suc-add j k)
    ∙ ap (λ (r : List (List ℕ)). word_write (get_or bytes 0 0) (get_or bytes 1 0) ∷ r)
    (writes_split j k (drop 2 bytes)
    ∙ ap (λ (l : List ℕ). word_writes j (drop 2 bytes) ++ word_writes k l) (drop-drop (2 * j) 2 bytes ∙ ap (λ (n : ℕ). drop n bytes) twice))

writes_take : (k : ℕ) (l : List ℕ) → 2 * k ≤ length l → word_writes k (take (2 * k) l) ≡ word_writes k l
writes_take zero l h = refl
writes_take (suc k) [] h = absurd (omega arith)
writes_take (suc k) (x ∷ []) h = absurd (omega arith)
writes_take (suc k) (x ∷ y ∷ l) h =
    let twice : 2 * suc k ≡ suc (suc (2 * k)) = omega arith in
    ap (λ (n : ℕ). word_writes (suc k) (take n (x ∷ y ∷ l))) twice
    ∙ ap (λ (r : List (List ℕ)). word_write x y ∷ r) (writes_take k l (omega arith))

-- the bytes sent
module _ (l : List ℕ) {x : Fifo 8} (e : x ≡ sent_of l) where
  sent_count : x.count ≡ length l
  sent_count = ap (λ (y : Fifo 8). y.count) e

  sent_view_lem : sent_view x ≡ l
  sent_view_lem = ap sent_view e ∙ view_of l

-- THE FIRST WORD
pub word_written_lem : (s : State) → InRange s → (bytes : List ℕ) → Bytes bytes → Word false s (word_write (get_or bytes 0 0) (get_or bytes 1 0))
word_written_lem s i bytes b =
    let low = bytes_at bytes 0 b in
    let high = bytes_at bytes 1 b in
    record { done = write_is_done s i _ _ low high; opens = write_leaves_open s i _ _ low high; stops = write_is_stopped s i _ _ low high }

module _ {s : State} (i : InRange s) (bytes : List ℕ) {m : List ℕ} {o : Outcome} (g : Leaves (step s (word_write (get_or bytes 0 0) (get_or bytes 1 0))) m o) where
  abbrev l : List ℕ
  l = (step s (word_write (get_or bytes 0 0) (get_or bytes 1 0))).sent

  pub few_sent : o.sent.count ≤ 8
  few_sent = omega (arith, sent_count l g.sent, (step_fits s (word_write (get_or bytes 0 0) (get_or bytes 1 0)) i).sent)

  pub first_stored : Bytes bytes → number_of o.code ≡ 0 → {before out : List ℕ} → out ≡ (take 0 before ++ sent_view o.sent) ++ drop (0 + o.sent.count) before
      → IsWritten s bytes 1 before m out (record { done = 1; count = o.sent.count; code = o.code })
  unfolding one_done strung_none
  first_stored b z {before} q =
      word_stored (word_written_lem s i bytes b) g z (append-nil l) (sent_count l g.sent)
      (q ∙ ap (λ (y : List ℕ). y ++ drop (0 + o.sent.count) before) (sent_view_lem l g.sent) ∙ ap (λ (j : ℕ). l ++ drop j before) (zero-add o.sent.count ∙ sent_count l g.sent))

-- between two blocks: d words are done and n bytes sent, and there is room for so many words more
pub record WriteRound (x : Strung) (before bytes : List ℕ) (words : ℕ) (m out : List ℕ) (d n w : ℕ) : Type 0 where
  pub round : Round false x before (word_writes (words - d) (drop (2 * d) bytes)) m out d n
  pub few : d ≤ words
  pub little : n ≤ 8 * d
  pub room : w ≡ (128 - length (state_at m).transfer.host) / 2
  pub known : Bytes bytes
  pub size : length bytes ≡ 2 * words
  pub buffer : 8 * words ≤ length before

-- after the first word
module _ {m₀ : List ℕ} (i : IsImage m₀) (words : ℕ) (some : 0 < words) {bytes before m out : List ℕ} {r : Passed} (f : FirstWritten (state_at m₀) bytes before m out r) where
  abbrev s : State
  s = state_at m₀

  all_words : word_writes words bytes ≡ word_write (get_or bytes 0 0) (get_or bytes 1 0) ∷ word_writes (words - 1) (drop 2 bytes)
  all_words =
      let one : words ≡ suc (words - 1) = omega arith in
      ap (λ (w : ℕ). word_writes w bytes) one

  pub write_stops : r.done ≡ 0 → IsWritten s bytes words before m out r
  write_stops z = first_stops i (word_written_lem s i.range bytes f.known) all_words f.passed z

  pub write_begun : (r.done ≡ 0 → ⊥) → length bytes ≡ 2 * words → 8 * words ≤ length before → {v : ℕ} → v ≡ (128 - length (state_at m).transfer.host) / 2
      → WriteRound (strung s (word_writes words bytes)) before bytes words m out 1 r.count v
  unfolding one_done strung_none
  write_begun z size buffer q =
      let word = word_write (get_or bytes 0 0) (get_or bytes 1 0) in
      let w = word_written_lem s i.range bytes f.known in
      let h = first_done i w all_words f.passed z in
      let sent : r.count ≡ length (step s word).sent = f.passed.count ∙ ap (λ (y : Strung). length y.sent) (is_done_lem w h) ∙ ap length (append-nil (step s word).sent) in
      let little : r.count ≤ 8 = omega (arith, sent, (step_fits s word i.range).sent) in
      record {
        round = first_round_lem i w all_words f.passed h (omega (arith, little, buffer));
        few = some;
        little = little;
        room = q;
        known = f.known;
        size = size;
        buffer = buffer;
      }

module _ {x : Strung} {before bytes : List ℕ} {words : ℕ} {m out : List ℕ} {d n w : ℕ} (g : WriteRound x before bytes words m out d n w) where
  abbrev at : State
  at = state_at m

  abbrev host : List ℕ
  host = at.transfer.host

  abbrev left : List ℕ
  left = drop (2 * d) bytes

  -- ONE BLOCK MORE
  module _ {k : ℕ} (t : Turn words d w k) where
    abbrev block : List ℕ
    block = take (2 * k) left

    abbrev rest : List (List ℕ)
    rest = word_writes (words - (d + k)) (drop (2 * (d + k)) bytes)

    left_long : 2 * k ≤ length left
    left_long = simp length-drop (omega (arith, g.size, t.few))

    pub block_room : length host + 2 * k ≤ 128
    block_room = omega (arith, t.some, t.fits, g.room, g.round.image.range.transfer.host)

    -- the block is the single events of its words
    block_is : strung at (word_writes k left) ≡ strung_block at (host ++ block) k (replicate k 0)
    block_is =
        let long : length block ≡ 2 * k = simp length-take (omega (arith, left_long)) in
        ap (strung at) (sym (writes_take k left left_long))
        ∙ write_block k at block (record { range = g.round.image.range; rest = g.round.rest }) g.round.opened (bytes_take (2 * k) left (bytes_drop (2 * d) bytes g.known)) long block_room

    -- and the others come after it
    parts : word_writes (words - d) left ≡ word_writes k left ++ rest
    parts =
        let e : words - d ≡ k + (words - (d + k)) = omega (arith, t.few) in
        let twice : 2 * d + 2 * k ≡ 2 * (d + k) = omega arith in
        ap (λ (j : ℕ). word_writes j left) e
        ∙ writes_split k (words - (d + k)) left
        ∙ ap (λ (l : List ℕ). word_writes k left ++ word_writes (words - (d + k)) l) (drop-drop (2 * k) (2 * d) bytes ∙ ap (λ (j : ℕ). drop j bytes) twice)

    module _ {m' : List ℕ} {r : Fifo 8} (b : IsBlock at (host ++ block) m' r) where
      abbrev sent : List ℕ
      sent = (block_settled at (host ++ block)).sent

      pub block_few : r.count ≤ 8
      unfolding settled_with started
      block_few =
          let i = g.round.image.range.transfer in
          omega (arith, sent_count sent b.sent, (settling_reports (conditions at) turns (with_host (host ++ block) at) i.scsi i.offset).sent)

      pub block_stores : n + r.count ≤ length out
      block_stores = omega (arith, block_few, g.little, g.buffer, t.some, t.few, g.round.goes.long)

      pub image_after : IsImage m'
      image_after = next_image g.round (word_writes k left) rest parts (host ++ block) block_is b.image

      pub next_written : {next : List ℕ} → next ≡ (take n out ++ sent_view r) ++ drop (n + r.count) out → {v : ℕ} → v ≡ (128 - length (state_at m').transfer.host) / 2
          → WriteRound x before bytes words m' next (d + k) (n + r.count) v
      next_written e q =
          let stored = e ∙ ap (λ (l : List ℕ). (take n out ++ l) ++ drop (n + r.count) out) (sent_view_lem sent b.sent) in
          record {
            round = next_round g.round (word_writes k left) rest parts (host ++ block) block_is b.image refl (ap (λ (j : ℕ). n + j) (sent_count sent b.sent)) stored block_stores;
            few = t.few;
            little = omega (arith, g.little, block_few, t.some);
            room = q;
            known = g.known;
            size = g.size;
            buffer = g.buffer;
          }

  -- THE END: no word is left, or no room for one
  pub all_written : {code : Code} → code ≡ cond (ltb d words) NoRoom Done → (ltb d words && ltb 0 w) ≡ false
      → IsPassed x x.sent before m out (record { done = d; count = n; code = code })
  all_written {code} q t = go (ltb d words) refl
    where
      go : (b : Bool) → ltb d words ≡ b → IsPassed x x.sent before m out (record { done = d; count = n; code = code })
      go true h =
          let more = ltb-true d words h in
          let one : words - d ≡ suc (words - d - 1) = omega arith in
          let full : 126 < length host = omega (arith, no_turn words d 0 w t more, g.room) in
          let known = bytes_drop (2 * d) bytes g.known in
          one_refused g.round (ap (λ (j : ℕ). word_writes j left) one) 0
          (step_write at _ _ (bytes_at left 0 known) (bytes_at left 1 known) ∙ write_refused at g.round.image.range.transfer.host _ g.round.opened full)
          refl (q ∙ ap (λ (b : Bool). cond b NoRoom Done) h)
      go false h =
          let none : words - d ≡ 0 = omega (arith, ltb-false d words h) in
          none_left g.round (ap (λ (j : ℕ). word_writes j left) none) (q ∙ ap (λ (b : Bool). cond b NoRoom Done) h)
