-- Chips that records reach and that meet what the laws of accesses ask for.
use mathlib.Core.Path.{◌≡◌, refl, ap}
use mathlib.Core.Bool.{true, false}
use mathlib.Core.List.{List, [], ◌∷◌}
use Prim.Native.Nat.{ℕ}
use native.Mathlib.Omega.{arith}
use Rattle.rules.specs.State.{State, power_reset}
use Rattle.rules.specs.Examples.{bytes_of}
use Rattle.rules.specs.Map.{offset_of}
use Rattle.rules.specs.Answers.{Stepped}
use Rattle.rules.specs.Step.{after, access, ended}
use Rattle.rules.specs.declared.chip.Phase.TheVariants.{Idle, Waiting}
use Rattle.rules.specs.declared.map.Register.TheVariants.{SCSISEQ, SCSISIGO, SCSIRATE, SCSIID, SCSIDAT, CLRSERR, SIMODE1, DMACNTRL0, ID}
use Rattle.rules.specs.declared.codes.Code.TheVariants.{Done, Absent}
use Rattle.rules.specs.declared.records.Event.TheVariants.{Write, Read, WordWrite, WordRead}
use Rattle.rules.proofs.Computes.{computes}
use Rattle.rules.proofs.Still.{always_at_rest}
use Rattle.rules.proofs.Ranges.{always_in_range}
use Rattle.quick.specs.Facts.{opens_out, opens_in}
use Rattle.quick.proofs.PlainWrites.{refusal_stands, stores_stands, scsiid_stores, scsidat_stores, identity_steps}
use Rattle.quick.proofs.PlainReads.{fifostat_read}
use Rattle.quick.proofs.Clearing.{clears_stands, clrsint1_clears}
use Rattle.quick.proofs.Enabling.{clrserr_stands, simode1_stands}
use Rattle.quick.proofs.ModeWrites.{scsirate_stands, dmacntrl0_stands, scsisig_stands}
use Rattle.quick.proofs.SelectionWrites.{scsiseq_stands}
use Rattle.quick.proofs.Port.{handshake_waits, word_kept, word_queued, word_passed, word_taken, word_drawn}

-- AFTER POWER RESET: no mode, not connected, idle
abbrev none : List (List ℕ)
none = []

abbrev s : State
s = power_reset

refusal_met : access s (Read 0x04) ≡ ended s Absent 0xFF
unfolding computes
refusal_met = refusal_stands s (Read 0x04) refl

scsiid_met : (access s (Write (offset_of SCSIID) 0x72)).state.registers.scsiid.oid ≡ 7
unfolding computes
scsiid_met =
    ap (λ (x : Stepped). x.state.registers.scsiid.oid)
    (stores_stands s (Write (offset_of SCSIID) 0x72) (always_at_rest none) (always_in_range none) (scsiid_stores s 0x72 (always_in_range none) refl))

scsidat_met : (access s (Write (offset_of SCSIDAT) 0x41)).state.registers.scsidat ≡ 0x41
unfolding computes
scsidat_met =
    ap (λ (x : Stepped). x.state.registers.scsidat)
    (stores_stands s (Write (offset_of SCSIDAT) 0x41) (always_at_rest none) (always_in_range none) (scsidat_stores s 0x41 (always_in_range none) refl))

identity_met : (access s (Read (offset_of ID))).state.identity ≡ 1
unfolding computes
identity_met =
    ap (λ (x : Stepped). x.state.identity)
    (stores_stands s (Read (offset_of ID)) (always_at_rest none) (always_in_range none) (identity_steps s (always_in_range none)))

scsirate_met : (access s (Write (offset_of SCSIRATE) 0x08)).state.registers.scsirate.sofs ≡ 8
unfolding computes
scsirate_met =
    ap (λ (x : Stepped). x.state.registers.scsirate.sofs) (scsirate_stands s 0x08 (always_at_rest none) (always_in_range none) refl)

dmacntrl0_met : (access s (Write (offset_of DMACNTRL0) 0x88)).state.registers.dmacntrl0.write ≡ true
unfolding computes
dmacntrl0_met =
    ap (λ (x : Stepped). x.state.registers.dmacntrl0.write)
    (dmacntrl0_stands s 0x88 (always_at_rest none) (always_in_range none) refl refl)

scsisig_met : (access s (Write (offset_of SCSISIGO) 0x50)).state.registers.scsisig.atno ≡ true
unfolding computes
scsisig_met =
    ap (λ (x : Stepped). x.state.registers.scsisig.atno)
    (scsisig_stands s 0x50 refl refl refl refl refl (always_at_rest none) (always_in_range none))

-- 340h: ENSELO, and the sequencer waits
scsiseq_met : (access s (Write (offset_of SCSISEQ) 0x40)).state.sequencer.phase ≡ Waiting
unfolding computes
scsiseq_met =
    ap (λ (x : Stepped). x.state.sequencer.phase)
    (scsiseq_stands s 0x40 refl refl refl refl (always_at_rest none) (always_in_range none))

-- and it is idle again where ENSELO goes before the bus is free
abbrev asked : List (List ℕ)
asked = bytes_of 4 0x20000040 ∷ []

withdraws_met : (access (after power_reset asked) (Write (offset_of SCSISEQ) 0)).state.sequencer.phase ≡ Idle
unfolding computes
withdraws_met =
    ap (λ (x : Stepped). x.state.sequencer.phase)
    (scsiseq_stands (after power_reset asked) 0 refl refl refl refl (always_at_rest asked) (always_in_range asked))

-- 341h DMAEN, SCSIEN, WRITE and IOEXP alike: FWERR, which 34Fh does not clear while its cause holds
abbrev conflict : List (List ℕ)
conflict = bytes_of 4 0x210000C0 ∷ []

clrserr_met : (access (after power_reset conflict) (Write (offset_of CLRSERR) 0x02)).state.status.fwerr ≡ true
unfolding computes
clrserr_met =
    ap (λ (x : Stepped). x.state.status.fwerr)
    (clrserr_stands (after power_reset conflict) 0x02 (always_at_rest conflict) (always_in_range conflict))

-- the bus free for 8 ticks: BUSFREE, latched where 351h comes to enable it
abbrev quieted : List (List ℕ)
quieted = bytes_of 4 0xC0000008 ∷ []

simode1_met : (access (after power_reset quieted) (Write (offset_of SIMODE1) 0x08)).state.latches.busfree ≡ true
unfolding computes
simode1_met =
    ap (λ (x : Stepped). x.state.latches.busfree)
    (simode1_stands (after power_reset quieted) 0x08 (always_at_rest quieted) (always_in_range quieted))

clears_met : (access (after power_reset quieted) (Write 0x0C 0x08)).state.status.busfree ≡ false
unfolding computes
clears_met =
    ap (λ (x : Stepped). x.state.status.busfree)
    (clears_stands (after power_reset quieted) (Write 0x0C 0x08) (always_at_rest quieted) (always_in_range quieted) (clrsint1_clears (after power_reset quieted) 0x08 (always_at_rest quieted) (always_in_range quieted)))

-- A WORD OUT, KEPT: 352h ENDMA, WRITE; no path
abbrev opened : List (List ℕ)
opened = bytes_of 4 0x32000088 ∷ []

kept_met : (access (after power_reset opened) (WordWrite 0x4241)).state.transfer.host ≡ 0x41 ∷ 0x42 ∷ []
unfolding computes opens_out
kept_met =
    ap (λ (x : Stepped). x.state.transfer.host)
    (word_kept (after power_reset opened) 0x4241 refl (omega arith) (always_at_rest opened) (always_in_range opened) refl)

-- PASSED ON: 341h SCSIEN, DMAEN too, not connected
abbrev joined : List (List ℕ)
joined = bytes_of 4 0x32000088 ∷ bytes_of 4 0x210000C0 ∷ []

passed_met : ((access (after power_reset joined) (WordWrite 0x4241)).moves ≡ 2) × ((access (after power_reset joined) (WordWrite 0x4241)).state.transfer.scsi ≡ 0x41 ∷ 0x42 ∷ [])
unfolding computes opens_out handshake_waits
passed_met =
    let e =
    word_passed (after power_reset joined) 0x4241 refl (omega arith) (always_at_rest joined) (always_in_range joined) refl (omega arith) refl
    in
    (ap (λ (x : Stepped). x.moves) e, ap (λ (x : Stepped). x.state.transfer.scsi) e)

-- QUEUED: four words fill the SCSI FIFO
abbrev filled : List (List ℕ)
filled =
    bytes_of 4 0x32000088 ∷ bytes_of 4 0x210000C0 ∷ bytes_of 4 0x60004241 ∷ bytes_of 4 0x60004443 ∷ bytes_of 4 0x60004645 ∷ bytes_of 4 0x60004847 ∷ []

queued_met : (access (after power_reset filled) (WordWrite 0x4A49)).state.transfer.host ≡ 0x49 ∷ 0x4A ∷ []
unfolding computes opens_out
queued_met =
    ap (λ (x : Stepped). x.state.transfer.host)
    (word_queued (after power_reset filled) 0x4A49 refl (omega arith) (always_at_rest filled) (always_in_range filled) refl)

-- A WORD IN: written out, then 352h without WRITE; no path, and with one where 343h has IOEXP
abbrev turned : List (List ℕ)
turned = bytes_of 4 0x32000088 ∷ bytes_of 4 0x60004241 ∷ bytes_of 4 0x32000080 ∷ []

taken_met : (access (after power_reset turned) WordRead).value ≡ 0x4241
unfolding computes opens_in
taken_met =
    ap (λ (x : Stepped). x.value)
    (word_taken (after power_reset turned) refl (omega arith) (always_at_rest turned) (always_in_range turned) refl)

abbrev inward : List (List ℕ)
inward =
    bytes_of 4 0x32000088 ∷ bytes_of 4 0x60004241 ∷ bytes_of 4 0x32000080 ∷ bytes_of 4 0x23000040 ∷ bytes_of 4 0x210000C0 ∷ []

drawn_met : (access (after power_reset inward) WordRead).value ≡ 0x4241
unfolding computes opens_in
drawn_met =
    ap (λ (x : Stepped). x.value)
    (word_drawn (after power_reset inward) refl (omega arith) (always_at_rest inward) (always_in_range inward) refl)

-- A READ: 355h
fifostat_met : access (after power_reset turned) (Read 0x15) ≡ ended (after power_reset turned) Done 2
unfolding computes
fifostat_met = fifostat_read (after power_reset turned) (always_at_rest turned) (always_in_range turned)
