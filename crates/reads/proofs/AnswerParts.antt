-- An answer is made of its parts.
use mathlib.Core.Path.{◌≡◌, refl}
use Rattle.rules.specs.Numbers.{padded}
use Rattle.rules.specs.Answers.{Stepped, answer_of}
use Rattle.reads.specs.Answering.{answer_with}

pub answer_parts : (r : Stepped) → answer_of r ≡ answer_with r.state r.code r.value r.moves r.acks (padded 8 r.sent)
unfolding answer_of answer_with
answer_parts r = refl
