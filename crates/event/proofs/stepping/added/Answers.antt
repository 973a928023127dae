use Rattle.event.proofs.stepping.added.Goals as goal

pub summed-requires : goal.summed-requires
summed-requires c = rw c.told.ensures (c.requires _ c.in-Some.is)
