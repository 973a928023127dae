use mathlib.Core.Path.{ap, subst, sym, ◌∙◌}
use Prim.Native.Nat.{◌<◌}
use Rattle.rules.specs.Changed.{with_sequencer}
use Rattle.rules.specs.Counter.{counter_size}
use Rattle.rules.specs.Map.{offset_of}
use Rattle.rules.specs.declared.chip.Sequencer.{Sequencer}
use Rattle.rules.specs.declared.records.Event.TheVariants.{Write}
use Rattle.image.specs.Image.{image_of, state_at}
use Rattle.writes.proofs.SequencerWrites.{ticks_fit}
use Rattle.writes.proofs.selecting.sequencer_written_in.Goals as goal

pub sequencer_put-requires : goal.sequencer_put-requires
sequencer_put-requires c =
    let x = c.args in
    let s = state_at x.m.now in
    record { image = c.requires.image; ticks_lt_counter_size = subst (λ (q : Sequencer). q.ticks < counter_size) (sym c.sequencer_written-q.ensures) (ticks_fit s (Write (offset_of x.register) x.value) c.requires.image.range.sequencer) }

pub returns : goal.returns
returns c =
    let s = state_at c.args.m.now in
    c.sequencer_put.ensures ∙ ap (λ (q : Sequencer). image_of (with_sequencer q s)) c.sequencer_written-q.ensures
