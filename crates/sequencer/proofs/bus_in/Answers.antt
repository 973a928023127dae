use mathlib.Core.Path.{ap, sym, ◌∙◌}
use mathlib.Core.Bool.{◌&&◌}
use lib.Dec.{eqb}
use borrow.Author.Tests.{eqb-true}
use Rattle.rules.specs.State.{State}
use Rattle.rules.specs.StepB.{after_phase_changes}
use Rattle.rules.proofs.Logic.{left_true, right_true}
use Rattle.image.specs.Image.{image_of, state_at}
use Rattle.edges.specs.Since.{last_of, five_in_order, beyond_since}
use Rattle.edges.specs.declared.last.Seen.{Seen}
use Rattle.edges.proofs.Still.{same_bytes_lem, still_since}
use Rattle.sequencer.specs.Since.{bus_since}
use Rattle.sequencer.proofs.Resting.{rests_four}
use Rattle.sequencer.proofs.bus_in.Goals as goal

pub returns-then-rests-ticks : goal.returns-then-rests-ticks
unfolding bus_since five_in_order
returns-then-rests-ticks c =
    let a = c.args in
    let m = a.m.now in
    let s = state_at m in
    let r = c.is_resting-rests.result in
    let z = eqb a.ticks 0 in
    let both = left_true (r && z) c.is_same.result c.if-rests-ticks.true in
    let seen = same_bytes_lem m a.x (sym c.is_same.ensures ∙ right_true (r && z) c.is_same.result c.if-rests-ticks.true) in
    let none = eqb-true a.ticks 0 (right_true r z both) in
    let rests = sym c.is_resting-rests.ensures ∙ left_true r z both in record {
      value = still_since m ∙ ap (λ (x : Seen). beyond_since x s) seen;
      m_after = c.still_in.ensures ∙ (λ i. image_of (five_in_order (last_of (seen i)) (sym none i) s))
          ∙ ap (λ (n : State). image_of (after_phase_changes (last_of a.x) n)) (sym (rests_four m a.ticks rests (last_of a.x) s.quiet));
    }
