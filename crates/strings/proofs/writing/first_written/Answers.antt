use native.Mathlib.Omega.{arith}
use Rattle.rules.specs.Ranges.{Bytes}
use Rattle.words.proofs.Keeps.{by_elements}
use Rattle.strings.proofs.Codes.{refused, accepted}
use Rattle.strings.proofs.First.{word_refused}
use Rattle.strings.proofs.WordsWritten.{word_written_lem, few_sent, first_stored}
use Rattle.strings.proofs.writing.first_written.Goals as goal
use Rattle.strings.proofs.writing.first_written.Goals.{After-outcome_of-o}

-- where the step has been done
known : (c : After-outcome_of-o) → Bytes c.args.bytes.now
known c = by_elements c.args.bytes.now (λ k. omega (arith, c.shared_slice_known-3-1.given k))

pub returns-then-ne : goal.returns-then-ne
returns-then-ne c =
    record {
      known = known (goal.at.returns-then-ne c).After-outcome_of-o;
      passed = word_refused (word_written_lem _ c.requires.image.range c.args.bytes.now (known (goal.at.returns-then-ne c).After-outcome_of-o)) c.outcome_of-o.ensures (refused c.outcome_of-o.result.code c.ne.result c.ne.ensures c.if-ne.true) c.args.out.now;
    }

pub sent_stored-requires : goal.sent_stored-requires
sent_stored-requires c =
    let few = few_sent c.requires.image.range c.args.bytes.now c.outcome_of-o.ensures in
    record { count_bound = few; count_in_bounds = omega (arith, few, c.requires.in_bounds_2) }

pub returns : goal.returns
returns c =
    record {
      known = known (goal.at.returns c).After-outcome_of-o;
      passed = first_stored c.requires.image.range c.args.bytes.now c.outcome_of-o.ensures (known (goal.at.returns c).After-outcome_of-o) (accepted c.outcome_of-o.result.code c.ne.result c.ne.ensures c.if-ne.false) c.sent_stored.ensures;
    }
