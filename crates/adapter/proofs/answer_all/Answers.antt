use Rattle.adapter.proofs.Waiting.{left_over_small}
use Rattle.adapter.proofs.answer_all.Goals as goal

pub loop-preserved : goal.loop-preserved
loop-preserved c =
    let turn = c.one_read-t in
    rw turn.ensures.kept (left_over_small turn.result.received.held turn.result.received.is_end)
