use mathlib.Core.Path.{ap, sym, ◌∙◌}
use Rattle.rules.specs.StepA.{latches_a}
use Rattle.rules.specs.declared.chip.Latches.{Latches}
use Rattle.rules.specs.declared.records.Event.TheVariants.{Write}
use Rattle.image.specs.Image.{state_at}
use Rattle.image.proofs.AtPlaces.{latches_at}
use Rattle.interrupts.proofs.StatusAndLatchBytes.{latches_as}
use Rattle.interrupts.proofs.latches.latches_written_in.Goals as goal

pub returns : goal.returns
returns c =
    let a = c.args in
    let m = a.m.now in
    latches_as (state_at m) (c.latches_written-k.ensures ∙ ap (λ (k : Latches). latches_a k (Write a.offset a.value)) (c.latches_of.ensures ∙ sym (latches_at m))) c.latches_put.ensures
