use Rattle.interrupts.specs.Latching.{latches_from}
use Rattle.interrupts.proofs.latches.latches_from.Goals as goal

pub returns : goal.returns
unfolding latches_from
returns c =
    rw (c.sets.ensures, c.sets-2.ensures, c.sets-3.ensures, c.sets-4.ensures, c.sets-5.ensures, c.sets-6.ensures, c.from_byte-b0.ensures, c.from_byte-b1.ensures, c.from_byte-r0.ensures, c.from_byte-r1.ensures)
