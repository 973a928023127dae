use Rattle.event.proofs.Answered.{image_left, gives}
use Rattle.event.proofs.stepping.stepped.Goals as goal

pub answer_of-requires : goal.answer_of-requires
answer_of-requires c = image_left c.requires c.args.bytes.now c.outcome_of-o.ensures

pub returns : goal.returns
returns c = gives c.requires c.args.bytes.now c.outcome_of-o.ensures c.answer_of.ensures
