use mathlib.Core.Path.{refl}
use Rattle.strings.proofs.Codes.{refused, accepted}
use Rattle.strings.proofs.First.{word_refused}
use Rattle.strings.proofs.Fetching.{word_read_lem, first_read}
use Rattle.strings.proofs.reading.first_fetched.Goals as goal

pub returns-then-ne : goal.returns-then-ne
returns-then-ne c =
    word_refused (word_read_lem _ c.requires.image.range) c.outcome_of-o.ensures (refused c.outcome_of-o.result.code c.ne.result c.ne.ensures c.if-ne.true) c.args.out.now

pub returns : goal.returns
returns c =
    first_read c.requires.image.range c.outcome_of-o.ensures (accepted c.outcome_of-o.result.code c.ne.result c.ne.ensures c.if-ne.false) c.requires.in_bounds refl
