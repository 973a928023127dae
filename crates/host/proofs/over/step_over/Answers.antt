use mathlib.Core.Path.{refl}
use Rattle.host.proofs.OverImages.{called_short, called_one}
use Rattle.host.proofs.over.step_over.Goals as goal

pub returns-then-answer-ne-ANSWER_SIZE : goal.returns-then-answer-ne-ANSWER_SIZE
returns-then-answer-ne-ANSWER_SIZE c =
    called_short c.args.bytes.now c.requires c.if-answer-ne-ANSWER_SIZE.true

pub returns : goal.returns
returns c =
    called_one c.args.answer.now c.if-answer-ne-ANSWER_SIZE.false c.one_answered.ensures refl
