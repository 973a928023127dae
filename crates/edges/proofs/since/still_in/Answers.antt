use mathlib.Core.Path.{sym, ◌∙◌}
use Rattle.edges.proofs.Still.{seen_quieted, seen_unchanged}
use Rattle.edges.proofs.since.still_in.Goals as goal

pub returns-then-busy : goal.returns-then-busy
returns-then-busy c =
    seen_quieted c.args.m.now c.requires (sym c.busy.ensures ∙ c.if-busy.true)

pub returns-else-busy : goal.returns-else-busy
returns-else-busy c =
    seen_unchanged c.args.m.now c.requires (sym c.busy.ensures ∙ c.if-busy.false)
