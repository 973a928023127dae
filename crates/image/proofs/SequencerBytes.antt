-- The sequencer's bytes stored one by one are the image with that sequencer.
use mathlib.Core.Path.{◌≡◌, refl}
use lib.Seq.{sets}
use Rattle.rules.specs.Changed.{with_sequencer}
use Rattle.rules.specs.State.{State}
use Rattle.rules.specs.declared.chip.Sequencer.{Sequencer}
use Rattle.image.specs.Image.{image_of, sequencer_bytes}
use Rattle.image.specs.Layout.{sequencer_place}

pub sequencer_image : (q : Sequencer) (s : State) → sets (image_of s) sequencer_place (sequencer_bytes q) ≡ image_of (with_sequencer q s)
unfolding image_of
sequencer_image q s = refl
