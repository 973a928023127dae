use mathlib.Core.Path.{sym, ap, ◌∙◌}
use mathlib.Core.Bool.{Bool}
use Rattle.settling.specs.Blocks.{acknowledged}
use Rattle.rules.specs.Changed.{with_transfer}
use Rattle.image.specs.Image.{image_of, state_at}
use Rattle.settling.proofs.Handshakes.{ack_pulse, ack_on}
use Rattle.settling.proofs.shakes.ack_given.Goals as goal

pub returns-then-synchronous : goal.returns-then-synchronous
returns-then-synchronous c =
    let s = state_at c.args.m.now in
    ack_pulse s c.counter_stepped-passed.new.m c.saturating_sub.result c.counter_stepped-passed.ensures.m_after c.saturating_sub.ensures
    ∙ ap (λ (y : Bool). image_of (with_transfer (acknowledged y s.transfer) s)) (sym c.if-synchronous.true)

pub returns-else-synchronous : goal.returns-else-synchronous
returns-else-synchronous c =
    let s = state_at c.args.m.now in
    ack_on s c.acknowledged.new.m c.acknowledged.ensures
    ∙ ap (λ (y : Bool). image_of (with_transfer (acknowledged y s.transfer) s)) (sym c.if-synchronous.false)
