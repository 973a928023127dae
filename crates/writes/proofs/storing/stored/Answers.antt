use Rattle.std.specs.Prelude.{Some}
use mathlib.Core.Path.{ap, ◌∙◌}
use Rattle.rules.specs.Map.{offset_of}
use Rattle.rules.specs.Registers.{dmacntrl1_byte}
use Rattle.rules.specs.declared.registers.Dmacntrl1.{Dmacntrl1}
use Rattle.rules.specs.declared.records.Event.TheVariants.{Write}
use Rattle.image.specs.Image.{state_at, scsisig_byte}
use Rattle.writes.proofs.StoringRegisters.{plain, far_from, unstored}
use Rattle.writes.proofs.RegisterStores.{put_scsiseq, put_sxfrctl0, put_sxfrctl1, put_scsisigo, put_scsirate, put_scsiid, put_scsidat, put_clrsint1, put_simode0, put_simode1, put_dmacntrl0, put_dmacntrl1, put_brstcntrl, unchanged}
use borrow.Enum.Refused.{opened}
use Rattle.writes.proofs.storing.stored.Goals as goal

pub returns-in-SCSISEQ : goal.returns-in-SCSISEQ
returns-in-SCSISEQ c =
    rw (c.in-SCSISEQ.is, c.kept.ensures) (put_scsiseq c.args.value c.args.m.now c.requires.image)

pub returns-in-SXFRCTL0 : goal.returns-in-SXFRCTL0
returns-in-SXFRCTL0 c =
    rw (c.in-SXFRCTL0.is, c.kept-in-SXFRCTL0.ensures) (put_sxfrctl0 c.args.value c.args.m.now c.requires.image)

pub returns-in-SXFRCTL1 : goal.returns-in-SXFRCTL1
returns-in-SXFRCTL1 c =
    rw (c.in-SXFRCTL1.is, c.kept-in-SXFRCTL1.ensures) (put_sxfrctl1 c.args.value c.args.m.now c.requires.image)

pub returns-in-SCSISIGO : goal.returns-in-SCSISIGO
returns-in-SCSISIGO c =
    rw (c.in-SCSISIGO.is, c.scsisig_byte.ensures ∙ ap scsisig_byte c.scsisig_of.ensures) (put_scsisigo c.args.value c.args.m.now c.requires.image c.atno.ensures)

pub returns-in-SCSIRATE : goal.returns-in-SCSIRATE
returns-in-SCSIRATE c =
    rw c.in-SCSIRATE.is (put_scsirate c.args.value c.args.m.now c.requires.image)

pub returns-in-SCSIID : goal.returns-in-SCSIID
returns-in-SCSIID c =
    rw c.in-SCSIID.is (put_scsiid c.args.value c.args.m.now c.requires.image)

pub returns-in-SCSIDAT : goal.returns-in-SCSIDAT
returns-in-SCSIDAT c =
    rw c.in-SCSIDAT.is (put_scsidat c.args.value c.args.m.now c.requires.image)

pub returns-in-CLRSINT1 : goal.returns-in-CLRSINT1
returns-in-CLRSINT1 c =
    let a = c in
    rw (c.in-CLRSINT1.is, c.atn_cleared.ensures) (put_clrsint1 a.args.value a.args.m.now a.requires.image)

pub returns-in-SIMODE0 : goal.returns-in-SIMODE0
returns-in-SIMODE0 c =
    rw (c.in-SIMODE0.is, c.kept-in-SIMODE0.ensures) (put_simode0 c.args.value c.args.m.now c.requires.image)

pub returns-in-SIMODE1 : goal.returns-in-SIMODE1
returns-in-SIMODE1 c =
    rw (c.in-SIMODE1.is, c.kept-in-SIMODE1.ensures) (put_simode1 c.args.value c.args.m.now c.requires.image)

pub returns-in-DMACNTRL0 : goal.returns-in-DMACNTRL0
returns-in-DMACNTRL0 c =
    rw (c.in-DMACNTRL0.is, c.kept-in-DMACNTRL0.ensures) (put_dmacntrl0 c.args.value c.args.m.now c.requires.image)

pub returns-in-DMACNTRL1 : goal.returns-in-DMACNTRL1
returns-in-DMACNTRL1 c =
    rw (c.in-DMACNTRL1.is, c.dmacntrl1_byte.ensures ∙ ap (λ (r : Dmacntrl1). dmacntrl1_byte r 0) c.dmacntrl1_of.ensures) (put_dmacntrl1 c.args.value c.args.m.now c.requires.image)

pub returns-in-BRSTCNTRL : goal.returns-in-BRSTCNTRL
returns-in-BRSTCNTRL c =
    rw c.in-BRSTCNTRL.is (put_brstcntrl c.args.value c.args.m.now c.requires.image)

pub returns-in_default : goal.returns-in_default
returns-in_default c =
    let x = c.args in
    let s = state_at x.m.now in
    unchanged (Write (offset_of x.register) x.value) x.m.now c.requires.image
    (unstored (offset_of x.register) x.value (Some x.register) c.requires.written s.registers
    (far_from plain x.register (opened c.in_default.in_default-own.keys14)))
