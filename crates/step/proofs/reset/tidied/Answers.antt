use native.Mathlib.Nat.{min_comm}
use Rattle.rules.specs.Chips.{chip_of, view}
use Rattle.step.proofs.Tidied.{view_fits}
use Rattle.step.proofs.reset.tidied.Goals as goal

pub returns : goal.returns
unfolding chip_of view
returns c = record { packed = rw (c.sequencer_tidied.ensures, c.min.ensures, min_comm c.args.c.quiet 8, c.stack_tidied.ensures.packed, c.path_tidied.ensures.packed, c.registers_tidied.ensures); range = view_fits c.args.c c.path_tidied.ensures.range c.stack_tidied.ensures.range }
