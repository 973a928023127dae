use Rattle.step.proofs.Called.{entry_tidy, entered, other_size}
use Rattle.step.proofs.step.Goals as goal

pub stepped_over-requires : goal.stepped_over-requires
stepped_over-requires c =
    record { tidy = entry_tidy c.args.c c.tidied-tidy.result c.tidied-tidy.ensures.range c.tidied-tidy.ensures.packed; answer_len = c.if-answer-eq-ANSWER_SIZE.true }

pub returns-then-answer-eq-ANSWER_SIZE : goal.returns-then-answer-eq-ANSWER_SIZE
returns-then-answer-eq-ANSWER_SIZE c =
    entered c.args.c c.tidied-tidy.result c.tidied-tidy.ensures.range c.tidied-tidy.ensures.packed c.args.bytes.now c.args.answer.now _ _ c.stepped_over.ensures

pub returns : goal.returns
returns c =
    other_size c.args.c c.tidied-tidy.result c.tidied-tidy.ensures.range c.tidied-tidy.ensures.packed c.args.bytes.now c.args.answer.now c.if-answer-eq-ANSWER_SIZE.false
