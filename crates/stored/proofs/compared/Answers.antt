-- The lines passed are counted, the others are still to count.
use Rattle.std.proofs.Common.{◌≡◌, [], length, sym, ap, ◌∙◌, arith, rules}
use borrow.Author.Tests.{eqb-true}
use Rattle.std.proofs.lemmas.List.{nil_from_length}
use Rattle.stored.specs.declared.Tally.{Tally}
use Rattle.stored.specs.Words.{lines_in}
use Rattle.stored.specs.Tallies.{tallied}
use Rattle.stored.proofs.Lines.{turn, shorter}
use Rattle.stored.proofs.compared.Goals as goal

pub loop-rest-init : goal.loop-rest-init
loop-rest-init c = ap (λ (x : Tally). tallied x (lines_in c.args.text.now)) c.nothing_yet-t.ensures

pub loop-rest-smaller : goal.loop-rest-smaller
loop-rest-smaller c =
    let l = c.loop-rest in
    shorter l.t c.next_line.new.t c.line.new.t l.rest.now c.cut.result.0.now c.cut.result.1.now (search rules) c.cut.ensures.behind

pub loop-rest-preserved : goal.loop-rest-preserved
loop-rest-preserved c =
    let l = c.loop-rest in
    turn l.t c.next_line.new.t c.line.new.t l.rest.now c.cut.result.0.now c.cut.result.1.now (search rules) c.next_line.ensures c.cut.ensures.before c.line.ensures c.cut.ensures.behind
    ∙ l.invariant

pub returns : goal.returns
returns c =
    let l = c.loop-rest in
    let none : l.rest.now ≡ [] = nil_from_length l.rest.now (omega (arith, eqb-true (length l.rest.now) 0 (sym c.is_empty.ensures ∙ c.loop-rest-test.false))) in
    rw none at l.invariant
