use Rattle.fifos.proofs.Laws.{empty_form}
use Rattle.fifos.proofs.empty.Goals as goal

pub returns : goal.returns
returns g c = empty_form
