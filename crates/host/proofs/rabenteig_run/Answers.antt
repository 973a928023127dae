use Rattle.host.proofs.OverImages.{run_refused, run_done}
use Rattle.host.proofs.rabenteig_run.Goals as goal

pub returns-in_default : goal.returns-in_default
returns-in_default c =
    let a = c.args in
    run_refused a.image.now a.records.now a.answers.now c.in_default.ensures.0 c.refuse_all.ensures

pub returns : goal.returns
returns c =
    let a = c.args in
    run_done a.image.now a.records.now a.answers.now c.in-Ok.ensures.0 c.in-Ok.ensures.1 c.answered-n.ensures c.copy_from_slice.ensures.after
