use mathlib.Core.Path.{sym, ◌∙◌}
use mathlib.Core.Bool.{false}
use Rattle.rules.specs.StepA.{status_a}
use Rattle.rules.specs.declared.records.Event.TheVariants.{Write}
use Rattle.image.specs.Image.{state_at}
use Rattle.image.proofs.AtPlaces.{status_at}
use Rattle.interrupts.proofs.StatusAndLatchBytes.{status_as}
use Rattle.interrupts.proofs.status.status_written_in.Goals as goal

pub returns : goal.returns
returns c =
    let a = c.args in
    let m = a.m.now in
    let status = c.status_of.ensures ∙ sym (status_at m) in
    status_as (state_at m) (c.status_written-t.ensures ∙ (λ i. status_a false false (c.enspchk.ensures i) (c.kept_bad.ensures i) (status i) (Write a.offset a.value))) c.status_put.ensures
