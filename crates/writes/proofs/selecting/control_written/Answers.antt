use mathlib.Core.Path.{ap, sym, ◌∙◌}
use Rattle.image.specs.Image.{state_at}
use Rattle.writes.specs.SequencerWritten.{gave_up}
use Rattle.writes.proofs.SequencerWrites.{gave_up_is, goes_on}
use Rattle.writes.proofs.selecting.control_written.Goals as goal

pub returns-then-gives_up : goal.returns-then-gives_up
returns-then-gives_up c =
    let a = c.args in
    c.gave_up.ensures ∙ ap gave_up c.sequencer-q.ensures ∙ gave_up_is (state_at a.m.now) a.value (sym c.gives_up.ensures ∙ c.if-gives_up.true)

pub returns : goal.returns
returns c =
    let a = c.args in
    c.sequencer-q.ensures ∙ goes_on (state_at a.m.now) a.value (sym c.gives_up.ensures ∙ c.if-gives_up.false)
