use mathlib.Core.Path.{ap, sym, ◌∙◌}
use mathlib.Core.Bool.{not}
use Rattle.image.specs.Image.{state_at}
use Rattle.image.proofs.AtPlaces.{status_at}
use Rattle.interrupts.proofs.StatusAndLatchBytes.{status_left, status_as}
use Rattle.interrupts.proofs.Falling.{no_ack, no_request, falls, without_reqinit}
use Rattle.interrupts.proofs.status.fallen_in.Goals as goal

pub returns-then-not-reqinit : goal.returns-then-not-reqinit
returns-then-not-reqinit c =
    let m = c.args.m.now in
    status_left m c.requires _ (no_request _ _ c.reqinit.ensures (ap not c.if-not-reqinit.true))

pub returns-then-acks-ack_seen : goal.returns-then-acks-ack_seen
returns-then-acks-ack_seen c =
    let m = c.args.m.now in
    status_left m c.requires _ (no_ack c.args.acks _ c.ack_seen.ensures c.if-acks-ack_seen.true)

pub returns : goal.returns
returns c =
    let m = c.args.m.now in
    status_as (state_at m) (ap without_reqinit (c.status_of.ensures ∙ sym (status_at m)) ∙ falls c.args.acks _ c.ack_seen.ensures c.if-acks-ack_seen.false) c.status_put.ensures
