use mathlib.Core.Path.{◌≡◌, refl, ap, sym, ◌∙◌}
use mathlib.Core.Bool.{Bool, true, false, not, and-false}
use Rattle.rules.specs.State.{State}
use Rattle.rules.specs.Seen.{phase_drives, io_seen, byte_driving, driving}
use Rattle.rules.proofs.Logic.{left_true, right_true}
use Rattle.image.specs.Image.{state_at}
use Rattle.reads.proofs.answers.is_driving.Goals as goal

not_true : (b : Bool) → not b ≡ true → b ≡ false
not_true true h = sym h
not_true false h = refl

undriven : (s : State) → io_seen s ≡ true → phase_drives s.sequencer.phase ≡ false → false ≡ driving s
unfolding driving byte_driving
undriven s h k = rw (k, h, and-false)

pub returns-then-io_seen-drives_data : goal.returns-then-io_seen-drives_data
returns-then-io_seen-drives_data c =
    let m = c.args.m.now in
    let both = c.if-io_seen-drives_data.true in
    undriven (state_at m) (sym c.io_seen.ensures ∙ left_true c.io_seen.result _ both)
    (sym (c.drives_data.ensures ∙ ap phase_drives c.phase.ensures) ∙ not_true c.drives_data.result (right_true c.io_seen.result _ both))
