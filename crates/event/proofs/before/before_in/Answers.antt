use mathlib.Core.Path.{ap, ◌∙◌}
use Rattle.rules.specs.Registers.{simode0_of, simode1_of}
use Rattle.image.specs.Image.{state_at}
use Rattle.edges.specs.Since.{rst_of, req_of, mismatched_of}
use Rattle.edges.proofs.Still.{rst_of_lem, req_of_lem, mismatched_of_lem}
use Rattle.event.proofs.before.before_in.Goals as goal

pub returns-clause-recalls : goal.returns-clause-recalls
unfolding state_at
returns-clause-recalls c =
    let m = c.args.m.now in
    record {
      rst = ap rst_of c.seen_in.ensures ∙ rst_of_lem m;
      req = ap req_of c.seen_in.ensures ∙ req_of_lem m;
      mismatched = ap mismatched_of c.seen_in.ensures ∙ mismatched_of_lem m;
      simode0 = ap simode0_of c.enables_in.ensures.simode0_value;
      simode1 = ap simode1_of c.enables_in.ensures.simode1_value;
    }
