use Rattle.rules.specs.Events.{writes, value_of}
use Rattle.rules.specs.StepA.{clears, clears_latch, registers_a, gives_up, selection_a, noted_a, selection_latches_a, sequencer_a}
use Rattle.image.specs.Image.{state_at}
use Rattle.writes.proofs.selecting.latches_cleared.Goals as goal

pub returns : goal.returns
unfolding sequencer_a selection_a noted_a selection_latches_a gives_up registers_a clears clears_latch writes value_of state_at
returns c = rw (c.noted.ensures, c.sequencer-q.ensures)
