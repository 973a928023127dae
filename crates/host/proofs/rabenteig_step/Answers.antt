use Rattle.host.proofs.OverImages.{call_done_lem}
use Rattle.host.proofs.rabenteig_step.Goals as goal

pub returns : goal.returns
returns c =
    let a = c.args in
    call_done_lem a.image.now a.bytes.now a.answer.now c.in-Ok.ensures.0 c.in-Ok.ensures.1 c.step_over-code.ensures c.copy_from_slice.ensures.after
