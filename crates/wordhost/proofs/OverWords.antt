-- The string calls over an image: buffers that fit or not, and an image that is accepted or not.
use Prim.Native.Nat.{ℕ}
use mathlib.Core.Path.{◌≡◌, refl, ap, sym, subst, ◌∙◌}
use mathlib.Core.Bool.{Bool, true, false}
use mathlib.Core.List.{List}
use lib.ListN.{length}
use Rattle.rules.specs.Codes.{number_of}
use Rattle.rules.specs.declared.codes.Code.TheVariants.{Malformed}
use Rattle.image.specs.Image.{IsImage, state_at}
use Rattle.saved.specs.Accepted.{accepted}
use Rattle.words.specs.Calls.{Wrote, Fetched, readable, writable, wrote_of, fetched_of, not_written, not_fetched, written_words, fetched_words}
use Rattle.strings.specs.Passed.{IsWritten, IsFetched}
use Rattle.strings.specs.declared.Passed.{Passed}
use Rattle.strings.proofs.Fits.{write_fits, write_misfits, read_fits, read_misfits}
use Rattle.wordhost.specs.WordCalls.{image_written, image_fetched, LeftWrite, LeftFetch, IsWordsWritten, IsWordsRead}

-- "Code 1 before any word"
abbrev pub not_done : Passed
not_done = record { done = 0; count = 0; code = Malformed }

-- WORDS WRITTEN
module _ {m : List ℕ} (i : IsImage m) (bytes : List ℕ) (words : ℕ) (before : List ℕ) where
  abbrev fits : Bool
  fits = writable (length bytes) words (length before)

  pub not_written_lem : fits ≡ false → {r : Passed} → r ≡ not_done → IsWordsWritten (written_words (state_at m) bytes words before) m before r
  unfolding not_written
  not_written_lem e {r} p =
      subst (λ (x : Wrote). IsWordsWritten x m before r) (sym (write_misfits (state_at m) bytes words before e))
      (record {
        image = i.packed;
        done = ap (λ (y : Passed). y.done) p;
        count = ap (λ (y : Passed). y.count) p;
        buffer = refl;
        code = ap (λ (y : Passed). y.code) p;
      })

  pub all_written : fits ≡ true → {n out : List ℕ} {r : Passed} → IsWritten (state_at m) bytes words before n out r → IsWordsWritten (written_words (state_at m) bytes words before) n out r
  unfolding wrote_of
  all_written e {n} {out} {r} f =
      subst (λ (x : Wrote). IsWordsWritten x n out r) (sym (write_fits (state_at m) bytes words before e))
      (record { image = f.image; done = f.done; count = f.count; buffer = f.buffer; code = f.code })

-- WORDS READ
module _ {m : List ℕ} (i : IsImage m) (words : ℕ) (before : List ℕ) where
  pub not_read : readable (length before) words ≡ false → {r : Passed} → r ≡ not_done → IsWordsRead (fetched_words (state_at m) words before) m before r
  unfolding not_fetched
  not_read e {r} p =
      subst (λ (x : Fetched). IsWordsRead x m before r) (sym (read_misfits (state_at m) words before e))
      (record { image = i.packed; done = ap (λ (y : Passed). y.done) p; buffer = refl; code = ap (λ (y : Passed). y.code) p })

  pub all_read : readable (length before) words ≡ true → {n out : List ℕ} {r : Passed} → IsFetched (state_at m) words before n out r → IsWordsRead (fetched_words (state_at m) words before) n out r
  unfolding fetched_of
  all_read e {n} {out} {r} f =
      subst (λ (x : Fetched). IsWordsRead x n out r) (sym (read_fits (state_at m) words before e))
      (record { image = f.image; done = f.done; buffer = f.buffer; code = f.code })

-- THE WRITE CALL
module _ (image bytes : List ℕ) (words : ℕ) (before : List ℕ) where
  pub write_refused : accepted image ≡ false → {r : Passed} → r ≡ not_done → LeftWrite (image_written image bytes words before) image r.done r.count before (number_of r.code)
  unfolding image_written
  write_refused h p =
      rw h
      (record {
        image = refl;
        done = ap (λ (y : Passed). y.done) p;
        count = ap (λ (y : Passed). y.count) p;
        buffer = refl;
        code = ap (λ (y : Passed). number_of y.code) p;
      })

  pub write_done : accepted image ≡ true → {m n out : List ℕ} {r : Passed} → m ≡ image → IsWordsWritten (written_words (state_at m) bytes words before) n out r
      → {k : List ℕ} → k ≡ n → LeftWrite (image_written image bytes words before) k r.done r.count out (number_of r.code)
  unfolding image_written
  write_done h {m} {n} {out} {r} e w f =
      let g : IsWordsWritten (written_words (state_at image) bytes words before) n out r = subst (λ (x : List ℕ). IsWordsWritten (written_words (state_at x) bytes words before) n out r) e w in
      rw h (record { image = f ∙ g.image; done = g.done; count = g.count; buffer = g.buffer; code = ap number_of g.code })

-- THE READ CALL
module _ (image : List ℕ) (words : ℕ) (before : List ℕ) where
  pub read_refused : accepted image ≡ false → {r : Passed} → r ≡ not_done → LeftFetch (image_fetched image words before) image r.done before (number_of r.code)
  unfolding image_fetched
  read_refused h p =
      rw h
      (record {
        image = refl;
        done = ap (λ (y : Passed). y.done) p;
        buffer = refl;
        code = ap (λ (y : Passed). number_of y.code) p;
      })

  pub read_done : accepted image ≡ true → {m n out : List ℕ} {r : Passed} → m ≡ image → IsWordsRead (fetched_words (state_at m) words before) n out r
      → {k : List ℕ} → k ≡ n → LeftFetch (image_fetched image words before) k r.done out (number_of r.code)
  unfolding image_fetched
  read_done h {m} {n} {out} {r} e w f =
      let g : IsWordsRead (fetched_words (state_at image) words before) n out r = subst (λ (x : List ℕ). IsWordsRead (fetched_words (state_at x) words before) n out r) e w in
      rw h (record { image = f ∙ g.image; done = g.done; buffer = g.buffer; code = ap number_of g.code })
