use Prim.Native.Nat.{◌<◌}
use mathlib.Core.Path.{ap, sym, subst, ◌∙◌}
use Rattle.rules.specs.Counter.{counter_size}
use Rattle.rules.specs.StepB.{after_sequencer}
use Rattle.rules.specs.declared.chip.Sequenced.{Sequenced}
use Rattle.rules.proofs.Ranges.{sequenced_fits}
use Rattle.image.specs.Image.{image_of, state_at}
use Rattle.sequencer.specs.Since.{sequenced_in}
use Rattle.sequencer.proofs.placed.sequenced_in.Goals as goal

pub sequenced-x-requires : goal.sequenced-x-requires
sequenced-x-requires c = c.requires.range.sequencer

pub sequenced_put-requires : goal.sequenced_put-requires
sequenced_put-requires c =
    let a = c.args in
    let i = c.requires.range in record { image = c.requires; ticks_lt_counter_size = subst (λ (y : Sequenced). y.sequencer.ticks < counter_size) (sym c.sequenced-x.ensures) (sequenced_fits (state_at a.m.now) a.tick a.before i.quiet i.sequencer).ticks }

pub returns : goal.returns
unfolding after_sequencer
returns c =
    let a = c.args in
    c.sequenced_put.ensures ∙ ap (λ (x : Sequenced). image_of (sequenced_in x (state_at a.m.now))) c.sequenced-x.ensures
