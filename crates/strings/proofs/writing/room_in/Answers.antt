use mathlib.Core.Path.{◌≡◌, ◌∙◌}
use native.Mathlib.Omega.{arith}
use lib.ListN.{length}
use Rattle.image.specs.Image.{state_at}
use Rattle.settling.proofs.Carries.{host_held}
use Rattle.strings.proofs.writing.room_in.Goals as goal
use Rattle.strings.proofs.writing.room_in.Goals.{After-from}

counted : (c : After-from) → c.from.result ≡ length (state_at c.args.m.now).transfer.host
counted c = c.from.ensures ∙ host_held c.args.m.now c.requires

pub overflow_sub-result : goal.overflow_sub-result
overflow_sub-result c = omega (arith, counted (goal.at.overflow_sub-result c).After-from, c.requires.range.transfer.host)

pub returns : goal.returns
returns c = rw (counted (goal.at.returns c).After-from)
