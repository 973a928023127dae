-- The stored registers, each from the byte written and to the byte read back.
-- Document 01, "Registers": "Names and bits as document 001. Reserved bits (341h 2 and 0, 342h 0, 350h 7, 353h 5) are not
-- stored and read 0."
use Rattle.std.specs.Prelude.{ℕ, ◌+◌, ◌*◌, Bool, false, ◌||◌}
use Rattle.rules.specs.Numbers.{bit, field, one, byte_of}
use Rattle.rules.specs.declared.registers.Scsiseq.{Scsiseq}
use Rattle.rules.specs.declared.registers.Sxfrctl0.{Sxfrctl0}
use Rattle.rules.specs.declared.registers.Sxfrctl1.{Sxfrctl1}
use Rattle.rules.specs.declared.registers.Scsisig.{Scsisig}
use Rattle.rules.specs.declared.registers.Scsirate.{Scsirate}
use Rattle.rules.specs.declared.registers.Scsiid.{Scsiid}
use Rattle.rules.specs.declared.registers.Simode0.{Simode0}
use Rattle.rules.specs.declared.registers.Simode1.{Simode1}
use Rattle.rules.specs.declared.registers.Dmacntrl0.{Dmacntrl0}
use Rattle.rules.specs.declared.registers.Dmacntrl1.{Dmacntrl1}

-- 340h SCSISEQ
abbrev pub scsiseq_of : ℕ → Scsiseq
scsiseq_of v =
    record {
      temodeo = bit v 7;
      enselo = bit v 6;
      enseli = bit v 5;
      enrseli = bit v 4;
      enautoatno = bit v 3;
      enautoatni = bit v 2;
      enautoatnp = bit v 1;
      scsirsto = bit v 0;
    }

abbrev pub scsiseq_byte : Scsiseq → ℕ
scsiseq_byte r =
    byte_of r.temodeo r.enselo r.enseli r.enrseli r.enautoatno r.enautoatni r.enautoatnp r.scsirsto

-- 341h SXFRCTL0. "CLRSTCNT, CLRCH and RSTFIFO act once and read 0." CLRSTCNT is bit 4, CLRCH bit 1.
abbrev pub sxfrctl0_of : ℕ → Sxfrctl0
sxfrctl0_of v = record { scsien = bit v 7; dmaen = bit v 6; chen = bit v 5; spioen = bit v 3 }

abbrev pub sxfrctl0_byte : Sxfrctl0 → ℕ
sxfrctl0_byte r = byte_of r.scsien r.dmaen r.chen false r.spioen false false false

-- 342h SXFRCTL1
abbrev pub sxfrctl1_of : ℕ → Sxfrctl1
sxfrctl1_of v =
    record {
      bitbucket = bit v 7;
      swrapen = bit v 6;
      enspchk = bit v 5;
      stimesel1 = bit v 4;
      stimesel0 = bit v 3;
      enstimer = bit v 2;
      bytealign = bit v 1;
    }

abbrev pub sxfrctl1_byte : Sxfrctl1 → ℕ
sxfrctl1_byte r =
    byte_of r.bitbucket r.swrapen r.enspchk r.stimesel1 r.stimesel0 r.enstimer r.bytealign false

-- 343h SCSISIG, written over what stands there: bit 4 set sets ATN, bit 4 clear leaves it (docs/DECISIONS.md).
-- It reads as the lines seen (specs/Reads.antt).
abbrev pub scsisig_of : Bool → ℕ → Scsisig
scsisig_of atn v =
    record {
      cdexp = bit v 7;
      ioexp = bit v 6;
      msgexp = bit v 5;
      atno = bit v 4 || atn;
      selo = bit v 3;
      bsyo = bit v 2;
      reqo = bit v 1;
      acko = bit v 0;
    }

-- 344h SCSIRATE. "344h is write-only: SOFS 3-0."
abbrev pub scsirate_of : ℕ → Scsirate
scsirate_of v = record { sxfr = field v 4 3; sofs = field v 0 4 }

-- 345h SCSIID, as written; what it reads is another byte (R-1, specs/Reads.antt)
abbrev pub scsiid_of : ℕ → Scsiid
scsiid_of v = record { oid = field v 4 3; tid = field v 0 3 }

-- 350h SIMODE0
abbrev pub simode0_of : ℕ → Simode0
simode0_of v =
    record {
      enseldo = bit v 6;
      enseldi = bit v 5;
      enselingo = bit v 4;
      enswrap = bit v 3;
      ensdone = bit v 2;
      enspiordy = bit v 1;
      endmadone = bit v 0;
    }

abbrev pub simode0_byte : Simode0 → ℕ
simode0_byte r =
    byte_of false r.enseldo r.enseldi r.enselingo r.enswrap r.ensdone r.enspiordy r.endmadone

-- 351h SIMODE1
abbrev pub simode1_of : ℕ → Simode1
simode1_of v =
    record {
      enseltimo = bit v 7;
      enatntarg = bit v 6;
      enscsirst = bit v 5;
      enphasemis = bit v 4;
      enbusfree = bit v 3;
      enscsiperr = bit v 2;
      enphasechg = bit v 1;
      enreqinit = bit v 0;
    }

abbrev pub simode1_byte : Simode1 → ℕ
simode1_byte r =
    byte_of r.enseltimo r.enatntarg r.enscsirst r.enphasemis r.enbusfree r.enscsiperr r.enphasechg r.enreqinit

-- 352h DMACNTRL0. "ENDMA 7, 8BIT 6, DMA/PIO 5 (1 is DMA), DWORDPIO 4, WRITE 3 (1 is host to SCSI), INTEN 2, RSTFIFO 1, SWINT 0."
abbrev pub dmacntrl0_of : ℕ → Dmacntrl0
dmacntrl0_of v =
    record {
      endma = bit v 7;
      eightbit = bit v 6;
      dma = bit v 5;
      dwordpio = bit v 4;
      write = bit v 3;
      inten = bit v 2;
      swint = bit v 0;
    }

abbrev pub dmacntrl0_byte : Dmacntrl0 → ℕ
dmacntrl0_byte r = byte_of r.endma r.eightbit r.dma r.dwordpio r.write r.inten false r.swint

-- 353h DMACNTRL1. "PWRDWN 7, ENSTK32 6, pointer 4-0." The pointer stands with the stack.
abbrev pub dmacntrl1_of : ℕ → Dmacntrl1
dmacntrl1_of v = record { pwrdwn = bit v 7; enstk32 = bit v 6 }

abbrev pub dmacntrl1_byte : Dmacntrl1 → ℕ → ℕ
dmacntrl1_byte r pointer = one r.pwrdwn * 128 + one r.enstk32 * 64 + pointer
