use Rattle.step.proofs.Called.{image_stepped, sixteen}
use Rattle.step.proofs.stepped_over.Goals as goal

pub load-requires : goal.load-requires
load-requires c =
    image_stepped c.args.c c.requires.tidy c.store.ensures c.args.bytes.now c.stepped-reply.ensures

pub returns : goal.returns
returns c =
    sixteen c.args.c c.requires.tidy c.store.ensures c.args.bytes.now c.stepped-reply.ensures c.args.answer.now _ c.requires.answer_len c.copy_from_slice.ensures.after c.load.result c.load.ensures
