-- A chip in a lent slice: the steps of the writing, and a slice of another length.
use Rattle.std.specs.Prelude.{Ok, Err}
use Prim.Native.Nat.{ℕ}
use mathlib.Core.Path.{◌≡◌, ap, ◌∙◌}
use mathlib.Core.Bool.{false}
use mathlib.Core.List.{List}
use borrow.Author.Tests.{eq-eqb, ne_eqb}
use lib.ListN.{length}
use Rattle.rules.specs.Chips.{view}
use Rattle.rules.specs.declared.chip.Chip.{Chip}
use Rattle.rules.proofs.Packing.{read_back}
use Rattle.image.specs.Image.{image_of}
use Rattle.image.specs.Layout.{image_size}
use Rattle.chips.specs.HeadRuns.{Stored}
use Rattle.rules.specs.Ranges.{Tidy}
use Rattle.step.specs.Entry.{Entered}
use Rattle.step.proofs.Parts.{tidy_of}
use Rattle.saved.specs.Accepted.{accepted}
use Rattle.saved.specs.Lent.{chip_written, IsWritten}
use Rattle.saved.specs.declared.slices.Refused.TheVariants.{OtherLength}

-- the writing
pub entered_tidy : (c tidy : Chip) → Entered c tidy → Tidy tidy
entered_tidy c tidy e = tidy_of (view c) tidy e.range e.packed

pub other_length : (c : Chip) (out : List ℕ) → (length out ≡ image_size → ⊥) → IsWritten c out out (Err OtherLength)
unfolding chip_written
other_length c out h = record { fits = rw (ne_eqb (length out) image_size h); bytes = rw (ne_eqb (length out) image_size h) }

pub right_length : (c tidy : Chip) → Entered c tidy → {m out after : List ℕ} → Stored tidy m → length out ≡ image_size → after ≡ m → IsWritten c out after (Ok tt)
unfolding chip_written
right_length c tidy e {m} {out} s h a =
    let v : view tidy ≡ view c = ap view e.packed ∙ read_back (view c) e.range in
    record {
      fits = rw (eq-eqb (length out) image_size h);
      bytes = rw (eq-eqb (length out) image_size h) (a ∙ s.packed ∙ ap image_of v);
    }

-- another length is not accepted
pub length_refused : (m : List ℕ) → (length m ≡ image_size → ⊥) → accepted m ≡ false
unfolding accepted
length_refused m h = rw (ne_eqb (length m) image_size h)
