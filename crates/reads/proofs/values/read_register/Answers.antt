-- Each arm gives what the rules read of its register.
use mathlib.Core.Path.{◌∙◌}
use Rattle.rules.specs.Reads.{read_of}
use Rattle.image.specs.Image.{state_at}
use Rattle.image.proofs.AtPlaces.{at_brstcntrl, at_bus, at_counter0, at_counter1, at_counter2, at_dmacntrl0, at_first, at_host, at_scsiseq, at_selid, at_simode0, at_simode1, at_sxfrctl0, at_sxfrctl1}
use Rattle.reads.proofs.Unread.{unread}
use Rattle.reads.proofs.values.read_register.Goals as goal

pub returns-in-SCSISEQ : goal.returns-in-SCSISEQ
unfolding read_of
returns-in-SCSISEQ c = rw c.in-SCSISEQ.is (at_scsiseq c.args.m.now c.requires)

pub returns-in-SXFRCTL0 : goal.returns-in-SXFRCTL0
unfolding read_of
returns-in-SXFRCTL0 c = rw c.in-SXFRCTL0.is (at_sxfrctl0 c.args.m.now c.requires)

pub returns-in-SXFRCTL1 : goal.returns-in-SXFRCTL1
unfolding read_of
returns-in-SXFRCTL1 c = rw c.in-SXFRCTL1.is (at_sxfrctl1 c.args.m.now c.requires)

pub returns-in-SCSISIGI : goal.returns-in-SCSISIGI
unfolding read_of
returns-in-SCSISIGI c = rw c.in-SCSISIGI.is c.scsisigi.ensures

pub returns-in-SELID : goal.returns-in-SELID
unfolding read_of
returns-in-SELID c = rw c.in-SELID.is (at_selid c.args.m.now c.requires)

pub returns-in-SCSIDAT : goal.returns-in-SCSIDAT
unfolding read_of
returns-in-SCSIDAT c = rw c.in-SCSIDAT.is (c.data_seen.ensures ∙ at_bus c.args.m.now c.requires)

pub returns-in-SCSIBUS : goal.returns-in-SCSIBUS
unfolding read_of
returns-in-SCSIBUS c = rw c.in-SCSIBUS.is (c.data_seen-in-SCSIBUS.ensures ∙ at_bus c.args.m.now c.requires)

pub returns-in-STCNT0 : goal.returns-in-STCNT0
unfolding read_of
returns-in-STCNT0 c = rw c.in-STCNT0.is (at_counter0 c.args.m.now c.requires)

pub returns-in-STCNT1 : goal.returns-in-STCNT1
unfolding read_of
returns-in-STCNT1 c = rw c.in-STCNT1.is (at_counter1 c.args.m.now c.requires)

pub returns-in-STCNT2 : goal.returns-in-STCNT2
unfolding read_of
returns-in-STCNT2 c = rw c.in-STCNT2.is (at_counter2 c.args.m.now c.requires)

pub returns-in-SSTAT0 : goal.returns-in-SSTAT0
unfolding read_of
returns-in-SSTAT0 c = rw c.in-SSTAT0.is c.sstat0.ensures

pub returns-in-SSTAT1 : goal.returns-in-SSTAT1
unfolding read_of
returns-in-SSTAT1 c = rw c.in-SSTAT1.is c.sstat1.ensures

pub returns-in-SSTAT2 : goal.returns-in-SSTAT2
unfolding read_of
returns-in-SSTAT2 c = rw c.in-SSTAT2.is c.sstat2.ensures

pub returns-in-SSTAT3 : goal.returns-in-SSTAT3
unfolding read_of
returns-in-SSTAT3 c = rw c.in-SSTAT3.is c.sstat3.ensures

pub returns-in-SSTAT4 : goal.returns-in-SSTAT4
unfolding read_of
returns-in-SSTAT4 c = rw c.in-SSTAT4.is c.sstat4.ensures

pub returns-in-SIMODE0 : goal.returns-in-SIMODE0
unfolding read_of
returns-in-SIMODE0 c = rw c.in-SIMODE0.is (at_simode0 c.args.m.now c.requires)

pub returns-in-SIMODE1 : goal.returns-in-SIMODE1
unfolding read_of
returns-in-SIMODE1 c = rw c.in-SIMODE1.is (at_simode1 c.args.m.now c.requires)

pub returns-in-DMACNTRL0 : goal.returns-in-DMACNTRL0
unfolding read_of
returns-in-DMACNTRL0 c = rw c.in-DMACNTRL0.is (at_dmacntrl0 c.args.m.now c.requires)

pub returns-in-DMACNTRL1 : goal.returns-in-DMACNTRL1
unfolding read_of
returns-in-DMACNTRL1 c = rw c.in-DMACNTRL1.is c.dmacntrl1.ensures

pub returns-in-DMASTAT : goal.returns-in-DMASTAT
unfolding read_of
returns-in-DMASTAT c = rw c.in-DMASTAT.is c.dmastat.ensures

pub returns-in-FIFOSTAT : goal.returns-in-FIFOSTAT
unfolding read_of
returns-in-FIFOSTAT c = rw c.in-FIFOSTAT.is (at_host c.args.m.now c.requires)

pub returns-in-DMADATA : goal.returns-in-DMADATA
unfolding read_of
returns-in-DMADATA c = rw c.in-DMADATA.is (at_first c.args.m.now c.requires)

pub returns-in-BRSTCNTRL : goal.returns-in-BRSTCNTRL
unfolding read_of
returns-in-BRSTCNTRL c = rw c.in-BRSTCNTRL.is (at_brstcntrl c.args.m.now c.requires)

pub returns-in-REV : goal.returns-in-REV
unfolding read_of
returns-in-REV c = rw c.in-REV.is

pub returns-in-STACK : goal.returns-in-STACK
unfolding read_of
returns-in-STACK c = rw c.in-STACK.is c.stack_byte.ensures

pub returns-in-ID : goal.returns-in-ID
unfolding read_of
returns-in-ID c = rw c.in-ID.is c.id_byte.ensures

pub returns-in_default : goal.returns-in_default
unfolding read_of
returns-in_default c = unread (state_at c.args.m.now) c.args.register c.in_default.in_default-own.keys27
