use mathlib.Core.Path.{sym, ◌∙◌}
use mathlib.Core.Bool.{◌&&◌, false≢true}
use Rattle.rules.specs.Seen.{matched, path, synchronous}
use Rattle.image.specs.Image.{state_at}
use Rattle.edges.proofs.Laws.{first_left, second_fails, third_fails}
use Rattle.edges.proofs.found.synchronous_req.Goals as goal
use Rattle.edges.proofs.found.synchronous_req.Goals.{then-rises, else-rises, then-synchronous, else-synchronous}

pub returns-then-path : goal.returns-then-path
unfolding state_at
returns-then-path c =
    let s = state_at c.args.m.now in
    elim c.if-synchronous.branch [
      | then-synchronous v ↦ elim c.if-rises.branch [
        | then-rises w ↦ rw w.if-rises.true
            (first_left (matched s) (path s.registers) (synchronous s) c.matched.ensures (sym v.path.ensures ∙ sym v.value-is ∙ c.if-path.true) (sym w.synchronous.ensures ∙ sym w.value-is ∙ v.if-synchronous.true))
        | else-rises w ↦ absurd (false≢true (sym w.if-rises.false ∙ sym w.value-is ∙ v.if-synchronous.true))
      ]
      | else-synchronous v ↦ absurd (false≢true (sym v.if-synchronous.false ∙ sym v.value-is ∙ c.if-path.true))
    ]

pub returns-else-path : goal.returns-else-path
unfolding state_at
returns-else-path c =
    let s = state_at c.args.m.now in
    let called = c.args.rises && matched s in
    c.if-path.false
    ∙ elim c.if-synchronous.branch [
      | then-synchronous v ↦ second_fails called (path s.registers) (synchronous s) (sym v.path.ensures ∙ sym v.value-is ∙ c.if-path.false)
      | else-synchronous v ↦ elim c.if-rises.branch [
        | then-rises w ↦ third_fails called (path s.registers) (synchronous s) (sym w.synchronous.ensures ∙ sym w.value-is ∙ v.if-synchronous.false)
        | else-rises w ↦ rw w.if-rises.false
      ]
    ]
