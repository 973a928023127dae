use native.Mathlib.Nat.{min_comm}
use borrow.Author.Rules.{rules}
use Rattle.rules.specs.Chips.{path_of, path_view}
use Rattle.step.proofs.Tidied.{path_fits}
use Rattle.step.proofs.reset.path_tidied.Goals as goal

pub returns : goal.returns
unfolding path_of path_view
returns c = record { packed = rw (c.min.ensures, min_comm c.args.p.offset 8, c.tidied-2.ensures, c.tidied.ensures); range = path_fits c.args.p (search rules) (search rules) }
