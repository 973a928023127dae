-- The register map, by offset from 340h and direction: document 001, Table 4-2, narrowed by document 01:
-- "344h is write-only", "357h, 359h, 35Ah, 35Bh are absent", "347h, 34Dh, 354h, 355h, 35Ch, 35Fh cannot be written;
-- 35Eh cannot be read."
use Rattle.std.specs.Prelude.{Option, Some, None}
use Rattle.std.specs.Prelude.{ℕ, List, [], ◌∷◌, get_or}
use Rattle.rules.specs.declared.map.Register.{Register}
use Rattle.rules.specs.declared.map.Register.TheVariants.{SCSISEQ, SXFRCTL0, SXFRCTL1, SCSISIGI, SCSISIGO, SCSIRATE, SELID, SCSIID, SCSIDAT, SCSIBUS, STCNT0, STCNT1, STCNT2, SSTAT0, CLRSINT0, SSTAT1, CLRSINT1, SSTAT2, SSTAT3, SCSITEST, SSTAT4, CLRSERR, SIMODE0, SIMODE1, DMACNTRL0, DMACNTRL1, DMASTAT, FIFOSTAT, DMADATA, BRSTCNTRL, REV, STACK, TEST, ID}

-- what a read and a write find at one offset
pub record Row : Type 0 where
  pub read : Option Register
  pub written : Option Register

abbrev pub row : Option Register → Option Register → Row
row a b = record { read = a; written = b }

abbrev pub both : Register → Row
both r = row (Some r) (Some r)

abbrev pub nothing : Row
nothing = row None None

unfoldable pub table : List Row
table =
    both SCSISEQ  -- 340h
    ∷ both SXFRCTL0  -- 341h
    ∷ both SXFRCTL1  -- 342h
    ∷ row (Some SCSISIGI) (Some SCSISIGO)  -- 343h
    ∷ row None (Some SCSIRATE)  -- 344h
    ∷ row (Some SELID) (Some SCSIID)  -- 345h
    ∷ both SCSIDAT  -- 346h
    ∷ row (Some SCSIBUS) None  -- 347h
    ∷ both STCNT0  -- 348h
    ∷ both STCNT1  -- 349h
    ∷ both STCNT2  -- 34Ah
    ∷ row (Some SSTAT0) (Some CLRSINT0)  -- 34Bh
    ∷ row (Some SSTAT1) (Some CLRSINT1)  -- 34Ch
    ∷ row (Some SSTAT2) None  -- 34Dh
    ∷ row (Some SSTAT3) (Some SCSITEST)  -- 34Eh
    ∷ row (Some SSTAT4) (Some CLRSERR)  -- 34Fh
    ∷ both SIMODE0  -- 350h
    ∷ both SIMODE1  -- 351h
    ∷ both DMACNTRL0  -- 352h
    ∷ both DMACNTRL1  -- 353h
    ∷ row (Some DMASTAT) None  -- 354h
    ∷ row (Some FIFOSTAT) None  -- 355h
    ∷ both DMADATA  -- 356h
    ∷ nothing  -- 357h
    ∷ both BRSTCNTRL  -- 358h
    ∷ nothing  -- 359h
    ∷ nothing  -- 35Ah
    ∷ nothing  -- 35Bh
    ∷ row (Some REV) None  -- 35Ch
    ∷ both STACK  -- 35Dh
    ∷ row None (Some TEST)  -- 35Eh
    ∷ row (Some ID) None  -- 35Fh
    ∷ []

unfoldable pub read_at : ℕ → Option Register
unfolding table
read_at offset = (get_or table offset nothing).read

unfoldable pub written_at : ℕ → Option Register
unfolding table
written_at offset = (get_or table offset nothing).written

-- the offset of each register
abbrev pub offset_of : Register → ℕ
offset_of SCSISEQ = 0x00
offset_of SXFRCTL0 = 0x01
offset_of SXFRCTL1 = 0x02
offset_of SCSISIGI = 0x03
offset_of SCSISIGO = 0x03
offset_of SCSIRATE = 0x04
offset_of SELID = 0x05
offset_of SCSIID = 0x05
offset_of SCSIDAT = 0x06
offset_of SCSIBUS = 0x07
offset_of STCNT0 = 0x08
offset_of STCNT1 = 0x09
offset_of STCNT2 = 0x0A
offset_of SSTAT0 = 0x0B
offset_of CLRSINT0 = 0x0B
offset_of SSTAT1 = 0x0C
offset_of CLRSINT1 = 0x0C
offset_of SSTAT2 = 0x0D
offset_of SSTAT3 = 0x0E
offset_of SCSITEST = 0x0E
offset_of SSTAT4 = 0x0F
offset_of CLRSERR = 0x0F
offset_of SIMODE0 = 0x10
offset_of SIMODE1 = 0x11
offset_of DMACNTRL0 = 0x12
offset_of DMACNTRL1 = 0x13
offset_of DMASTAT = 0x14
offset_of FIFOSTAT = 0x15
offset_of DMADATA = 0x16
offset_of BRSTCNTRL = 0x18
offset_of REV = 0x1C
offset_of STACK = 0x1D
offset_of TEST = 0x1E
offset_of ID = 0x1F
