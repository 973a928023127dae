use mathlib.Core.Path.{refl}
use borrow.Author.Rules.{rules}
use Rattle.rules.specs.Chips.{stack_view}
use Rattle.step.proofs.Tidied.{stack_fits}
use Rattle.step.proofs.reset.stack_tidied.Goals as goal

pub returns : goal.returns
unfolding stack_view
returns c = record { packed = refl; range = stack_fits c.args.k (search rules) }
