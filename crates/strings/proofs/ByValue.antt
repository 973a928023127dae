-- A chip by value: it is laid out as an image, records go over it, and what they leave is taken up again.
use Prim.Native.Nat.{ℕ}
use mathlib.Core.Path.{◌≡◌, ◌∙◌, ap}
use mathlib.Core.List.{List}
use Rattle.rules.specs.Chips.{view, chip_of}
use Rattle.rules.specs.Ranges.{Tidy}
use Rattle.rules.specs.declared.chip.Chip.{Chip}
use Rattle.image.specs.Image.{image_of, state_at}
use Rattle.image.proofs.ReadBack.{read_back}
use Rattle.chips.specs.HeadRuns.{Stored}
use Rattle.step.specs.Entry.{Entered}
use Rattle.step.proofs.Parts.{tidy_of, view_of}
use Rattle.words.specs.Words.{strung}
use Rattle.strings.proofs.Leaves.{state_strung}

module _ {c t : Chip} (g : Entered c t) where
  pub entered_tidy : Tidy t
  entered_tidy = tidy_of (view c) t g.range g.packed

  module _ {m : List ℕ} (k : Stored t m) where
    pub stored_state : state_at m ≡ view c
    stored_state =
        ap state_at (k.packed ∙ ap image_of (view_of (view c) t g.range g.packed)) ∙ read_back (view c) g.range

    pub taken_up : (records : List (List ℕ)) {n : List ℕ} → n ≡ image_of (strung (state_at m) records).state → {d : Chip} → d ≡ chip_of (state_at n)
        → d ≡ chip_of (strung (state_at m) records).state
    taken_up records e p = p ∙ ap chip_of (state_strung k.sound records e)
