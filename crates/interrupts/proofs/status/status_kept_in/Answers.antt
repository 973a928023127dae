use Rattle.image.specs.Image.{state_at}
use Rattle.image.proofs.AtPlaces.{status_at}
use Rattle.interrupts.proofs.StatusAndLatchBytes.{status_left}
use Rattle.interrupts.proofs.Idle.{status_idle, kept_unasked}
use Rattle.interrupts.proofs.status.status_kept_in.Goals as goal

pub returns-then-accessed-acked : goal.returns-then-accessed-acked
returns-then-accessed-acked c =
    let a = c.args in
    let m = a.m.now in
    status_left m c.requires _ (status_idle a.accessed a.acked (state_at m).keptbad c.enspchk-enspchk.ensures c.scsiperr.ensures c.if-accessed-acked.true)

pub returns : goal.returns
returns c =
    let m = c.args.m.now in
    rw (kept_unasked, status_at m, ← c.enspchk-enspchk.ensures, ← c.status_of.ensures, ← c.status_kept-t.ensures) c.status_put.ensures
