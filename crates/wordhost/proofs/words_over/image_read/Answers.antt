use Rattle.wordhost.proofs.OverWords.{read_refused, read_done}
use Rattle.wordhost.proofs.words_over.image_read.Goals as goal

pub returns-in_default : goal.returns-in_default
returns-in_default c =
    let a = c.args in
    read_refused a.image.now a.words a.out.now c.in_default.ensures.0 c.not_done.ensures

pub returns : goal.returns
returns c =
    let a = c.args in
    read_done a.image.now a.words a.out.now c.in-Ok.ensures.0 c.in-Ok.ensures.1 c.words_read-r.ensures c.copy_from_slice.ensures.after
