use mathlib.Core.Path.{refl, sym, ◌∙◌}
use Rattle.rules.specs.Seen.{automatic}
use Rattle.rules.proofs.Logic.{left_true, right_true}
use Rattle.image.specs.Image.{state_at}
use Rattle.image.proofs.AtPlaces.{status_at}
use Rattle.interrupts.proofs.StatusAndLatchBytes.{status_left, status_as}
use Rattle.interrupts.proofs.Raising.{no_conflict, raised_at, raised_before}
use Rattle.interrupts.proofs.status.raised_in.Goals as goal

pub returns-then-is_raised : goal.returns-then-is_raised
unfolding state_at
returns-then-is_raised c =
    let m = c.args.m.now in
    let both = sym c.is_raised.ensures ∙ c.if-is_raised.true in
    let s = state_at m in
    status_left m c.requires _ (raised_before s (left_true s.status.spiordy (automatic s.registers) both) (right_true s.status.spiordy (automatic s.registers) both))

pub returns-then-pio_ready : goal.returns-then-pio_ready
unfolding state_at
returns-then-pio_ready c =
    let m = c.args.m.now in
    let rises = sym c.pio_ready.ensures ∙ c.if-pio_ready.true in
    status_as (state_at m) (raised_at m (sym rises) (sym (no_conflict (state_at m) rises)) c.status_of.ensures) c.status_put.ensures

pub returns-then-fifo_conflict : goal.returns-then-fifo_conflict
unfolding state_at
returns-then-fifo_conflict c =
    let m = c.args.m.now in
    status_as (state_at m) (raised_at m (sym c.if-pio_ready.false ∙ c.pio_ready.ensures) (sym c.if-fifo_conflict.true ∙ c.fifo_conflict.ensures) c.status_of-then-fifo_conflict.ensures) c.status_put-then-fifo_conflict.ensures

pub returns-else-fifo_conflict : goal.returns-else-fifo_conflict
unfolding state_at
returns-else-fifo_conflict c =
    let m = c.args.m.now in
    status_left m c.requires _ (status_at m ∙ raised_at m (sym c.if-pio_ready.false ∙ c.pio_ready.ensures) (sym c.if-fifo_conflict.false ∙ c.fifo_conflict.ensures) refl)
