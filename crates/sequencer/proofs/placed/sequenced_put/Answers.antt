use mathlib.Core.Path.{◌∙◌}
use lib.ListN.{set}
use Rattle.image.specs.Image.{state_at}
use Rattle.image.specs.Layout.{quiet_place, scsiseq_place, scsisig_place}
use Rattle.sequencer.proofs.InPlace.{sequenced_image}
use Rattle.sequencer.proofs.placed.sequenced_put.Goals as goal

pub returns : goal.returns
unfolding state_at
returns c =
    let a = c.args in
    (λ i. set (set (set (c.sequencer_put.ensures i) scsiseq_place (c.with_enselo-v.ensures i)) scsisig_place (c.with_atn-w.ensures i)) quiet_place a.x.quiet)
    ∙ sequenced_image a.x (state_at a.m.now)
