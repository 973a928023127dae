use mathlib.Core.Path.{ap, ◌∙◌}
use mathlib.Core.Bool.{not, ◌&&◌}
use Rattle.rules.specs.Numbers.{bit}
use Rattle.rules.specs.StepA.{with_atn}
use Rattle.rules.specs.declared.registers.Scsisig.{Scsisig}
use Rattle.image.specs.Image.{scsisig_byte}
use Rattle.writes.proofs.storing.atn_cleared.Goals as goal

pub returns : goal.returns
returns c =
    let x = c.args in
    c.scsisig_byte.ensures ∙ ap (λ (g : Scsisig). scsisig_byte (with_atn (not (bit x.value 6) && bit x.sig 4) g)) c.scsisig_of.ensures
