use Rattle.std.proofs.Common.{sym, ◌∙◌}
use Rattle.stored.proofs.Places.{cut_before, cut_behind, uncut_before, uncut_behind}
use Rattle.stored.proofs.words.cut.Goals as goal

pub returns-in-Some-clause-before : goal.returns-in-Some-clause-before
returns-in-Some-clause-before c = cut_before c.args.end c.args.text.now c.in-Some.at (sym c.place_of.ensures ∙ c.in-Some.is)

pub returns-in-Some-clause-behind : goal.returns-in-Some-clause-behind
returns-in-Some-clause-behind c = cut_behind c.args.end c.args.text.now c.in-Some.at (sym c.place_of.ensures ∙ c.in-Some.is)

pub returns-in-None-clause-before : goal.returns-in-None-clause-before
returns-in-None-clause-before c = uncut_before c.args.end c.args.text.now (sym c.place_of.ensures ∙ c.in-None.is)

pub returns-in-None-clause-behind : goal.returns-in-None-clause-behind
returns-in-None-clause-behind c = uncut_behind c.args.end c.args.text.now (sym c.place_of.ensures ∙ c.in-None.is)
