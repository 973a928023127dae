use mathlib.Core.Path.{◌∙◌}
use borrow.Author.Rules.{rules}
use native.Mathlib.Omega.{arith}
use Rattle.fifos.proofs.Laws.{popped_all, popped_form}
use Rattle.fifos.proofs.Copied.{moved_padded}
use Rattle.fifos.proofs.popped.Goals as goal

pub returns-then-n-k : goal.returns-then-n-k
returns-then-n-k g c = c.empty.ensures ∙ popped_all c.args.f _ _ (search rules) c.min-n.ensures c.if-n-k.true

pub returns : goal.returns
returns g c =
    let k = c.copy_within.ensures in
    popped_form c.args.f _ _ (search rules) c.min-n.ensures
    (moved_padded g.row.N c.args.f.bytes c.args.k c.min-n.result (search rules) c.if-n-k.false (omega (arith, c.min-n.ensures)) k.after k.len (c.fill.ensures.after (λ y e. e)))
    c.if-n-k.false
