use borrow.Author.Rules.{rules}
use Rattle.rules.specs.Seen.{phase_number}
use Rattle.rules.proofs.chip.U8FromPhase.from.Goals as goal

pub returns : goal.returns
unfolding phase_number
returns c = search rules
