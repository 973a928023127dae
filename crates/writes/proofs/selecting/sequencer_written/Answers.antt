use Rattle.std.specs.Prelude.{Some}
use mathlib.Core.Path.{◌∙◌}
use Rattle.rules.specs.Map.{offset_of}
use Rattle.image.specs.Image.{state_at}
use Rattle.writes.proofs.StoringRegisters.{apart, far_from, unsequenced}
use borrow.Enum.Refused.{opened}
use Rattle.writes.proofs.selecting.sequencer_written.Goals as goal

pub returns-in-SCSISEQ : goal.returns-in-SCSISEQ
returns-in-SCSISEQ c = rw c.in-SCSISEQ.is c.control_written.ensures

pub returns-in-CLRSINT0 : goal.returns-in-CLRSINT0
returns-in-CLRSINT0 c = rw c.in-CLRSINT0.is c.latches_cleared.ensures

pub returns-in-CLRSINT1 : goal.returns-in-CLRSINT1
returns-in-CLRSINT1 c = rw c.in-CLRSINT1.is c.timeout_cleared.ensures

pub returns-in-SIMODE0 : goal.returns-in-SIMODE0
returns-in-SIMODE0 c = rw c.in-SIMODE0.is c.selection_enabled.ensures

pub returns-in-SIMODE1 : goal.returns-in-SIMODE1
returns-in-SIMODE1 c = rw c.in-SIMODE1.is c.timeout_enabled.ensures

pub returns-in_default : goal.returns-in_default
returns-in_default c =
    let x = c.args in
    c.sequencer.ensures
    ∙ unsequenced (offset_of x.register) x.value (Some x.register) c.requires (state_at x.m.now) (far_from apart x.register (opened c.in_default.in_default-own.keys6))
