use Rattle.fifos.proofs.Laws.{joined_form}
use Rattle.fifos.proofs.joined.Goals as goal

pub returns : goal.returns
returns g c =
    let r = c.requires in
    joined_form c.args.a c.args.b r.tidy r.tidy_2 r.count_bound c.copy_from_slice.ensures.after
