-- The read call of a chip by value: a buffer of two bytes a word, or any other.
use Prim.Native.Nat.{ℕ}
use mathlib.Core.Path.{◌≡◌, refl, sym, ◌∙◌, ap}
use mathlib.Core.Bool.{true, false}
use mathlib.Core.List.{List}
use lib.ListN.{length}
use Rattle.rules.specs.State.{State}
use Rattle.rules.specs.Chips.{view, chip_of}
use Rattle.rules.specs.declared.chip.Chip.{Chip}
use Rattle.rules.specs.declared.codes.Code.{Code}
use Rattle.rules.specs.declared.codes.Code.TheVariants.{Malformed}
use Rattle.image.specs.Image.{IsImage, state_at}
use Rattle.chips.specs.HeadRuns.{Stored}
use Rattle.step.specs.Entry.{Entered}
use Rattle.words.specs.Words.{strung, word_reads}
use Rattle.words.specs.Calls as calls
use Rattle.words.specs.Calls.{readable, fetched_of, not_fetched, fetched_words}
use Rattle.strings.specs.Passed.{IsFetched}
use Rattle.strings.specs.Fetching.{IsReadCall}
use Rattle.strings.specs.declared.Passed.{Passed}
use Rattle.strings.proofs.Leaves.{image_strung}
use Rattle.strings.proofs.Fits.{read_fits, read_misfits}
use Rattle.strings.proofs.ByValue.{stored_state, taken_up}

module _ {c t : Chip} (g : Entered c t) (words : ℕ) (before : List ℕ) where
  -- the parts of what a call hands back
  parts : (w : calls.Fetched) → fetched_words (view c) words before ≡ w → {d : Chip} {n : ℕ} {k : Code} {out : List ℕ}
      → d ≡ chip_of w.state → n ≡ w.done → k ≡ w.code → out ≡ w.buffer → IsReadCall c words before out (record { chip = d; done = n; code = k })
  parts w f p q r u =
      let e = sym f in
      record {
        returns =
            λ j.
            record {
              chip = (p ∙ ap (λ (y : calls.Fetched). chip_of y.state) e) j;
              done = (q ∙ ap (λ (y : calls.Fetched). y.done) e) j;
              code = (r ∙ ap (λ (y : calls.Fetched). y.code) e) j;
            };
        buffer = u ∙ ap (λ (y : calls.Fetched). y.buffer) e;
      }

  -- another size: code 1, all as it was
  pub other_size : readable (length before) words ≡ false → IsReadCall c words before before (record { chip = t; done = 0; code = Malformed })
  unfolding not_fetched
  other_size e = parts (not_fetched (view c) before) (read_misfits (view c) words before e) g.packed refl refl refl

  -- the words read from the image of the chip
  module _ {m : List ℕ} (k : Stored t m) {n out : List ℕ} {r : Passed} (f : IsFetched (state_at m) words before n out r) where
    pub image_read : IsImage n
    image_read = image_strung k.sound (word_reads words) f.image

    pub all_read : readable (length before) words ≡ true → {d : Chip} → d ≡ chip_of (state_at n)
        → IsReadCall c words before out (record { chip = d; done = r.done; code = r.code })
    unfolding fetched_of
    all_read e p =
        parts (fetched_of (strung (state_at m) (word_reads words)) before)
        (read_fits (view c) words before e ∙ ap (λ (s : State). fetched_of (strung s (word_reads words)) before) (sym (stored_state g k)))
        (taken_up g k (word_reads words) f.image p) f.done f.code f.buffer
