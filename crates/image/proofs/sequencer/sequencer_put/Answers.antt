use mathlib.Core.Path.{◌∙◌}
use mathlib.Core.List.{List}
use Prim.Native.Nat.{ℕ}
use lib.Seq.{sets}
use Rattle.rules.specs.Changed.{with_sequencer}
use Rattle.image.specs.Image.{sequencer_bytes}
use Rattle.image.specs.Layout.{sequencer_place}
use Rattle.image.proofs.AtPlaces.{of_image}
use Rattle.image.proofs.SequencerBytes.{sequencer_image}
use Rattle.image.proofs.sequencer.sequencer_put.Goals as goal

pub returns : goal.returns
returns c =
    let q = c.args.q in
    c.sequencer_placed.ensures.0
    ∙ of_image (λ (m : List ℕ). sets m sequencer_place (sequencer_bytes q)) (with_sequencer q) (sequencer_image q) c.args.m.now c.requires.image
