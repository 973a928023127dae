use mathlib.Core.Bool.{Bool}
use mathlib.Core.Path.{sym, ap, ◌∙◌}
use Rattle.settling.specs.Blocks.{carried}
use Rattle.settling.proofs.Runs.{run_out, run_in}
use Rattle.rules.specs.Changed.{with_transfer}
use Rattle.image.specs.Image.{image_of, state_at}
use Rattle.settling.proofs.moves.carried_run.Goals as goal

pub carried_out-requires : goal.carried_out-requires
carried_out-requires c =
    let r = run_out c.args.c (state_at c.args.m.now).transfer c.args.k c.requires.k_bound c.requires.image.range.transfer.scsi c.if-c.true in
    record { image = c.requires.image; k_in_bounds = r.0; k_len_bound = r.1 }

pub carried_in-requires : goal.carried_in-requires
carried_in-requires c =
    let r = run_in c.args.c (state_at c.args.m.now).transfer c.args.k c.requires.k_bound c.requires.image.range.transfer.scsi c.if-c.false c.requires.image.range.transfer.host in
    record { image = c.requires.image; k_in_bounds = r.0; k_len_bound = r.1 }

pub returns-then-c : goal.returns-then-c
returns-then-c c =
    let a = c.args in
    c.carried_out.ensures ∙ ap (λ (o : Bool). image_of (with_transfer (carried o a.k (state_at a.m.now).transfer) (state_at a.m.now))) (sym c.if-c.true)

pub returns-else-c : goal.returns-else-c
returns-else-c c =
    let a = c.args in
    c.carried_in.ensures ∙ ap (λ (o : Bool). image_of (with_transfer (carried o a.k (state_at a.m.now).transfer) (state_at a.m.now))) (sym c.if-c.false)
