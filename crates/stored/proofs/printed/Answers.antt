-- Room for one line, and one answer.
use Rattle.std.proofs.Common.{arith}
use Rattle.stored.proofs.Events.{line_of_lem}
use Rattle.stored.proofs.printed.Goals as goal

pub returns : goal.returns
returns c = line_of_lem c.args.answer.now (omega arith) _ _ c.print.ensures
