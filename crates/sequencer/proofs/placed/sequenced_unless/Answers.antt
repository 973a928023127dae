use Rattle.sequencer.proofs.placed.sequenced_unless.Goals as goal

pub returns-then-not-rests : goal.returns-then-not-rests
returns-then-not-rests c =
    rw c.if-not-rests.true c.sequenced_in.ensures

pub returns-else-not-rests : goal.returns-else-not-rests
returns-else-not-rests c = rw c.if-not-rests.false
