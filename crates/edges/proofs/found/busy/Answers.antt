use Rattle.image.specs.Image.{state_at}
use Rattle.edges.proofs.Laws.{busy_reset, busy_unreset}
use Rattle.edges.proofs.found.busy.Goals as goal

pub returns-then-reset : goal.returns-then-reset
returns-then-reset c =
    let m = c.args.m.now in
    rw (c.if-reset.true, c.drives_sel.ensures, c.sel_of_others.ensures, c.drives_bsy.ensures, c.bsy_of_others.ensures, c.phase-p.ensures)
    (busy_reset (state_at m))

pub returns-else-reset : goal.returns-else-reset
returns-else-reset c =
    rw (c.if-reset.false, c.sel_seen.ensures, c.bsy_seen.ensures) (busy_unreset (state_at c.args.m.now))
