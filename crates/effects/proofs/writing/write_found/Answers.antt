use Rattle.effects.proofs.Effects.{scsiseq, sxfrctl1, scsisigo, scsirate, scsiid, simode0, simode1, brstcntrl}
use Rattle.effects.proofs.Unwritable.{never_written}
use Rattle.effects.proofs.writing.write_found.Goals as goal

pub selection_written-requires : goal.selection_written-requires
selection_written-requires c = record { image = c.requires.image; selects = scsiseq }

pub plain_written-requires : goal.plain_written-requires
plain_written-requires c = record { image = c.requires.image; plain = sxfrctl1 }

pub plain_written-requires-in-SCSISIGO : goal.plain_written-requires-in-SCSISIGO
plain_written-requires-in-SCSISIGO c = record { image = c.requires.image; plain = scsisigo }

pub plain_written-requires-in-SCSIRATE : goal.plain_written-requires-in-SCSIRATE
plain_written-requires-in-SCSIRATE c = record { image = c.requires.image; plain = scsirate }

pub plain_written-requires-in-SCSIID : goal.plain_written-requires-in-SCSIID
plain_written-requires-in-SCSIID c = record { image = c.requires.image; plain = scsiid }

pub selection_written-requires-in-SIMODE0 : goal.selection_written-requires-in-SIMODE0
selection_written-requires-in-SIMODE0 c = record { image = c.requires.image; selects = simode0 }

pub selection_written-requires-in-SIMODE1 : goal.selection_written-requires-in-SIMODE1
selection_written-requires-in-SIMODE1 c = record { image = c.requires.image; selects = simode1 }

pub plain_written-requires-in-BRSTCNTRL : goal.plain_written-requires-in-BRSTCNTRL
plain_written-requires-in-BRSTCNTRL c = record { image = c.requires.image; plain = brstcntrl }

pub unreachable-requires : goal.unreachable-requires
unreachable-requires c = never_written _ c.requires.written c.in_default.in_default-own.keys23
