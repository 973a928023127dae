use Rattle.fifos.proofs.Laws.{pushed}
use Rattle.fifos.proofs.one_more.Goals as goal

pub returns : goal.returns
returns g c = pushed c.args.f c.requires.tidy c.args.b c.requires.count_bound
