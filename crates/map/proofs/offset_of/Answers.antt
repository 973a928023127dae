-- Each arm computes the offset of its register.
use Rattle.map.proofs.offset_of.Goals as goal

pub returns-in-SCSISEQ : goal.returns-in-SCSISEQ
returns-in-SCSISEQ c = rw c.in-SCSISEQ.is

pub returns-in-SXFRCTL0 : goal.returns-in-SXFRCTL0
returns-in-SXFRCTL0 c = rw c.in-SXFRCTL0.is

pub returns-in-SXFRCTL1 : goal.returns-in-SXFRCTL1
returns-in-SXFRCTL1 c = rw c.in-SXFRCTL1.is

pub returns-in-SCSISIGI : goal.returns-in-SCSISIGI
returns-in-SCSISIGI c = rw c.in-SCSISIGI.is

pub returns-in-SCSISIGO : goal.returns-in-SCSISIGO
returns-in-SCSISIGO c = rw c.in-SCSISIGO.is

pub returns-in-SCSIRATE : goal.returns-in-SCSIRATE
returns-in-SCSIRATE c = rw c.in-SCSIRATE.is

pub returns-in-SELID : goal.returns-in-SELID
returns-in-SELID c = rw c.in-SELID.is

pub returns-in-SCSIID : goal.returns-in-SCSIID
returns-in-SCSIID c = rw c.in-SCSIID.is

pub returns-in-SCSIDAT : goal.returns-in-SCSIDAT
returns-in-SCSIDAT c = rw c.in-SCSIDAT.is

pub returns-in-SCSIBUS : goal.returns-in-SCSIBUS
returns-in-SCSIBUS c = rw c.in-SCSIBUS.is

pub returns-in-STCNT0 : goal.returns-in-STCNT0
returns-in-STCNT0 c = rw c.in-STCNT0.is

pub returns-in-STCNT1 : goal.returns-in-STCNT1
returns-in-STCNT1 c = rw c.in-STCNT1.is

pub returns-in-STCNT2 : goal.returns-in-STCNT2
returns-in-STCNT2 c = rw c.in-STCNT2.is

pub returns-in-SSTAT0 : goal.returns-in-SSTAT0
returns-in-SSTAT0 c = rw c.in-SSTAT0.is

pub returns-in-CLRSINT0 : goal.returns-in-CLRSINT0
returns-in-CLRSINT0 c = rw c.in-CLRSINT0.is

pub returns-in-SSTAT1 : goal.returns-in-SSTAT1
returns-in-SSTAT1 c = rw c.in-SSTAT1.is

pub returns-in-CLRSINT1 : goal.returns-in-CLRSINT1
returns-in-CLRSINT1 c = rw c.in-CLRSINT1.is

pub returns-in-SSTAT2 : goal.returns-in-SSTAT2
returns-in-SSTAT2 c = rw c.in-SSTAT2.is

pub returns-in-SSTAT3 : goal.returns-in-SSTAT3
returns-in-SSTAT3 c = rw c.in-SSTAT3.is

pub returns-in-SCSITEST : goal.returns-in-SCSITEST
returns-in-SCSITEST c = rw c.in-SCSITEST.is

pub returns-in-SSTAT4 : goal.returns-in-SSTAT4
returns-in-SSTAT4 c = rw c.in-SSTAT4.is

pub returns-in-CLRSERR : goal.returns-in-CLRSERR
returns-in-CLRSERR c = rw c.in-CLRSERR.is

pub returns-in-SIMODE0 : goal.returns-in-SIMODE0
returns-in-SIMODE0 c = rw c.in-SIMODE0.is

pub returns-in-SIMODE1 : goal.returns-in-SIMODE1
returns-in-SIMODE1 c = rw c.in-SIMODE1.is

pub returns-in-DMACNTRL0 : goal.returns-in-DMACNTRL0
returns-in-DMACNTRL0 c = rw c.in-DMACNTRL0.is

pub returns-in-DMACNTRL1 : goal.returns-in-DMACNTRL1
returns-in-DMACNTRL1 c = rw c.in-DMACNTRL1.is

pub returns-in-DMASTAT : goal.returns-in-DMASTAT
returns-in-DMASTAT c = rw c.in-DMASTAT.is

pub returns-in-FIFOSTAT : goal.returns-in-FIFOSTAT
returns-in-FIFOSTAT c = rw c.in-FIFOSTAT.is

pub returns-in-DMADATA : goal.returns-in-DMADATA
returns-in-DMADATA c = rw c.in-DMADATA.is

pub returns-in-BRSTCNTRL : goal.returns-in-BRSTCNTRL
returns-in-BRSTCNTRL c = rw c.in-BRSTCNTRL.is

pub returns-in-REV : goal.returns-in-REV
returns-in-REV c = rw c.in-REV.is

pub returns-in-STACK : goal.returns-in-STACK
returns-in-STACK c = rw c.in-STACK.is

pub returns-in-TEST : goal.returns-in-TEST
returns-in-TEST c = rw c.in-TEST.is

pub returns-in-ID : goal.returns-in-ID
returns-in-ID c = rw c.in-ID.is
