-- A read call on an accepted image: what it leaves, and what the host has in its hands of it, by the words done.
use Prim.Native.Nat.{ℕ, ◌*◌}
use mathlib.Core.Path.{◌≡◌, refl, ap, ap₂, sym, subst, ◌∙◌}
use mathlib.Core.Bool.{Bool, true, false}
use mathlib.Core.List.{List}
use lib.ListN.{length, take, drop}
use lib.Seq.{take_at}
use Rattle.rules.specs.State.{State}
use Rattle.rules.specs.Step.{after}
use Rattle.image.specs.Image.{image_of, state_at}
use Rattle.saved.proofs.Acceptance.{Acceptable, acceptable_accepted}
use Rattle.words.specs.Words.{word_reads, word_bytes, strung}
use Rattle.words.specs.Calls.{readable, fetched_of, not_fetched, fetched_words}
use Rattle.wordhost.specs.WordCalls.{image_fetched, fetched_over, LeftFetch}
use Rattle.driver.specs.Strings.{ReadCall, IsFetched}
use Rattle.driver.proofs.StringWords.{Unrefused, values_along, strung_tells, word_bytes_length}

module _ (k : ReadCall) (a : Acceptable k.image) (made : IsFetched k) where
  abbrev s : State
  s = state_at k.image

  abbrev records : List (List ℕ)
  records = word_reads k.words

  abbrev fits : Bool
  fits = readable (length k.before) k.words

  on_chip : LeftFetch (fetched_over (fetched_words s k.words k.before)) k.left k.done k.buffer k.code
  unfolding image_fetched
  on_chip = rw (acceptable_accepted k.image a) at made

  went : fits ≡ true → LeftFetch (fetched_over (fetched_of (strung s records) k.before)) k.left k.done k.buffer k.code
  unfolding fetched_words
  went e = rw e at on_chip

  refused : fits ≡ false → LeftFetch (fetched_over (not_fetched s k.before)) k.left k.done k.buffer k.code
  unfolding fetched_words
  refused e = rw e at on_chip

  pub record ReadGives : Type 0 where
    pub next : k.left ≡ image_of (after s (take k.done records))
    pub values : take (2 * k.done) k.buffer ≡ word_bytes (values_along s (take k.done records))
    pub unrefused : Unrefused s (take k.done records)

  pub read_gives : ReadGives
  unfolding fetched_of not_fetched
  read_gives = go fits refl
    where
      go : (t : Bool) → fits ≡ t → ReadGives
      go true e =
          let m = went e in
          let t = strung_tells s records in
          let n = sym m.done in
          let r = strung s records in
          record {
            next = m.image ∙ ap image_of t.state ∙ ap (λ (n : ℕ). image_of (after s (take n records))) n;
            values =
                ap₂ (λ (n : ℕ) (l : List ℕ). take (2 * n) l) m.done m.buffer
                ∙ take_at (word_bytes r.values) (drop (length (word_bytes r.values)) k.before) (2 * r.done)
                (word_bytes_length r.values ∙ ap (λ (n : ℕ). 2 * n) t.number)
                ∙ ap word_bytes t.values ∙ ap (λ (n : ℕ). word_bytes (values_along s (take n records))) n;
            unrefused = subst (λ (n : ℕ). Unrefused s (take n records)) n t.unrefused;
          }
      go false e =
          let m = refused e in
          let n = sym m.done in
          record {
            next = m.image ∙ ap (λ (n : ℕ). image_of (after s (take n records))) n;
            values =
                ap (λ (n : ℕ). take (2 * n) k.buffer) m.done ∙ ap (λ (n : ℕ). word_bytes (values_along s (take n records))) n;
            unrefused = subst (λ (n : ℕ). Unrefused s (take n records)) n tt;
          }
