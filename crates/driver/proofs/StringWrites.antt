-- A write call on an accepted image: what it leaves, and what the host has in its hands of it, by the words done.
use Prim.Native.Nat.{ℕ, ◌*◌}
use mathlib.Core.Path.{◌≡◌, refl, ap, ap₂, sym, subst, ◌∙◌}
use mathlib.Core.Bool.{Bool, true, false}
use mathlib.Core.List.{List}
use lib.Dec.{leb}
use lib.ListN.{length, take, drop}
use lib.Seq.{take-append_seam}
use borrow.Author.Tests.{eqb-true}
use Rattle.rules.specs.State.{State}
use Rattle.rules.specs.Step.{after}
use Rattle.rules.proofs.Logic.{left_true}
use Rattle.image.specs.Image.{image_of, state_at}
use Rattle.saved.proofs.Acceptance.{Acceptable, acceptable_accepted}
use Rattle.runs.specs.Comes.{along}
use Rattle.runs.specs.Run.{sent_by}
use Rattle.words.specs.Words.{word_writes, strung}
use Rattle.words.specs.Calls.{readable, writable, wrote_of, not_written, written_words}
use Rattle.wordhost.specs.WordCalls.{image_written, wrote_over, LeftWrite}
use Rattle.driver.specs.Strings.{WriteCall, IsWritten}
use Rattle.driver.proofs.StringWords.{Unrefused, strung_tells}

module _ (k : WriteCall) (a : Acceptable k.image) (made : IsWritten k) where
  abbrev s : State
  s = state_at k.image

  abbrev records : List (List ℕ)
  records = word_writes k.words k.bytes

  abbrev fits : Bool
  fits = writable (length k.bytes) k.words (length k.before)

  on_chip : LeftWrite (wrote_over (written_words s k.bytes k.words k.before)) k.left k.done k.count k.buffer k.code
  unfolding image_written
  on_chip = rw (acceptable_accepted k.image a) at made

  went : fits ≡ true → LeftWrite (wrote_over (wrote_of (strung s records) k.before)) k.left k.done k.count k.buffer k.code
  unfolding written_words
  went e = rw e at on_chip

  refused : fits ≡ false → LeftWrite (wrote_over (not_written s k.before)) k.left k.done k.count k.buffer k.code
  unfolding written_words
  refused e = rw e at on_chip

  -- what it leaves and sends, by the words done
  pub record WriteGives : Type 0 where
    pub next : k.left ≡ image_of (after s (take k.done records))
    pub sent : take k.count k.buffer ≡ along sent_by s (take k.done records)
    pub unrefused : Unrefused s (take k.done records)

  pub write_gives : WriteGives
  unfolding wrote_of not_written
  write_gives = go fits refl
    where
      go : (t : Bool) → fits ≡ t → WriteGives
      go true e =
          let m = went e in
          let t = strung_tells s records in
          let n = sym m.done in
          record {
            next = m.image ∙ ap image_of t.state ∙ ap (λ (n : ℕ). image_of (after s (take n records))) n;
            sent =
                ap₂ (λ (n : ℕ) (l : List ℕ). take n l) m.count m.buffer
                ∙ take-append_seam (strung s records).sent (drop (length (strung s records).sent) k.before)
                ∙ t.sent ∙ ap (λ (n : ℕ). along sent_by s (take n records)) n;
            unrefused = subst (λ (n : ℕ). Unrefused s (take n records)) n t.unrefused;
          }
      go false e =
          let m = refused e in
          let n = sym m.done in
          record {
            next = m.image ∙ ap (λ (n : ℕ). image_of (after s (take n records))) n;
            sent =
                ap (λ (n : ℕ). take n k.buffer) m.count ∙ ap (λ (n : ℕ). along sent_by s (take n records)) n;
            unrefused = subst (λ (n : ℕ). Unrefused s (take n records)) n tt;
          }

  -- what holds of no words, and of words whose bytes are there, holds of the words done
  pub by_fit : (P : ℕ → Type 0) → P 0 → (length k.bytes ≡ 2 * k.words → P k.done) → P k.done
  unfolding writable readable not_written
  by_fit P none some = go fits refl
    where
      go : (t : Bool) → fits ≡ t → P k.done
      go true e = some (eqb-true _ _ (left_true (readable (length k.bytes) k.words) (leb (8 * k.words) (length k.before)) e))
      go false e = subst P (sym (refused e).done) none
