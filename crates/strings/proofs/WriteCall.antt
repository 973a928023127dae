-- The write call of a chip by value: buffers of two bytes a word and of eight for the sent bytes, or any other.
use Prim.Native.Nat.{ℕ}
use mathlib.Core.Path.{◌≡◌, refl, sym, ◌∙◌, ap}
use mathlib.Core.Bool.{true, false}
use mathlib.Core.List.{List}
use lib.ListN.{length}
use Rattle.rules.specs.State.{State}
use Rattle.rules.specs.Chips.{view, chip_of}
use Rattle.rules.specs.declared.chip.Chip.{Chip}
use Rattle.rules.specs.declared.codes.Code.{Code}
use Rattle.rules.specs.declared.codes.Code.TheVariants.{Malformed}
use Rattle.image.specs.Image.{IsImage, state_at}
use Rattle.chips.specs.HeadRuns.{Stored}
use Rattle.step.specs.Entry.{Entered}
use Rattle.words.specs.Words.{strung, word_writes}
use Rattle.words.specs.Calls.{Wrote, writable, wrote_of, not_written, written_words}
use Rattle.strings.specs.Passed.{IsWritten}
use Rattle.strings.specs.Writing.{IsWriteCall}
use Rattle.strings.specs.declared.Passed.{Passed}
use Rattle.strings.proofs.Leaves.{image_strung}
use Rattle.strings.proofs.Fits.{write_fits, write_misfits}
use Rattle.strings.proofs.ByValue.{stored_state, taken_up}

module _ {c t : Chip} (g : Entered c t) (bytes : List ℕ) (words : ℕ) (before : List ℕ) where
  -- the parts of what a call hands back
  parts : (w : Wrote) → written_words (view c) bytes words before ≡ w → {d : Chip} {n j : ℕ} {k : Code} {out : List ℕ}
      → d ≡ chip_of w.state → n ≡ w.done → j ≡ w.count → k ≡ w.code → out ≡ w.buffer
      → IsWriteCall c bytes words before out (record { chip = d; done = n; sent = j; code = k })
  parts w f p q a r u =
      let e = sym f in
      record {
        returns =
            λ i.
            record {
              chip = (p ∙ ap (λ (y : Wrote). chip_of y.state) e) i;
              done = (q ∙ ap (λ (y : Wrote). y.done) e) i;
              sent = (a ∙ ap (λ (y : Wrote). y.count) e) i;
              code = (r ∙ ap (λ (y : Wrote). y.code) e) i;
            };
        buffer = u ∙ ap (λ (y : Wrote). y.buffer) e;
      }

  -- other sizes: code 1, all as it was
  pub other_sizes : writable (length bytes) words (length before) ≡ false
      → IsWriteCall c bytes words before before (record { chip = t; done = 0; sent = 0; code = Malformed })
  unfolding not_written
  other_sizes e = parts (not_written (view c) before) (write_misfits (view c) bytes words before e) g.packed refl refl refl refl

  -- the words written to the image of the chip
  module _ {m : List ℕ} (k : Stored t m) {n out : List ℕ} {r : Passed} (f : IsWritten (state_at m) bytes words before n out r) where
    pub image_written_lem : IsImage n
    image_written_lem = image_strung k.sound (word_writes words bytes) f.image

    pub all_written : writable (length bytes) words (length before) ≡ true → {d : Chip} → d ≡ chip_of (state_at n)
        → IsWriteCall c bytes words before out (record { chip = d; done = r.done; sent = r.count; code = r.code })
    unfolding wrote_of
    all_written e p =
        parts (wrote_of (strung (state_at m) (word_writes words bytes)) before)
        (write_fits (view c) bytes words before e ∙ ap (λ (s : State). wrote_of (strung s (word_writes words bytes)) before) (sym (stored_state g k)))
        (taken_up g k (word_writes words bytes) f.image p) f.done f.count f.code f.buffer
