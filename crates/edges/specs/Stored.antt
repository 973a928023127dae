-- What B stores in an array, whatever stands there.
use Rattle.std.specs.Prelude.{ℕ, ◌+◌, Bool, false, not, ◌&&◌, ◌||◌, cond, List, eqb, get_or, set}
use Rattle.rules.specs.Numbers.{one}
use Rattle.rules.specs.Registers.{scsiseq_of, scsiseq_byte, sxfrctl0_of, sxfrctl0_byte, scsisig_of}
use Rattle.rules.specs.Sequencer.{selection_freed}
use Rattle.rules.specs.declared.chip.Status.{Status}
use Rattle.edges.specs.Components.{scsiseq_b, sxfrctl0_b, scsisig_b}
use Rattle.edges.specs.ParityKept.{error_or}
use Rattle.image.specs.Image.{state_at, scsisig_byte, sequencer_byte, status_of, status_byte, latches_of, latches_byte}
use Rattle.image.specs.Layout.{ack_place, latches_place, offset_place, scsiseq_place, scsisig_place, sequencer_place, status_place, sxfrctl0_place}

-- 340h, 341h and 343h
abbrev pub registers_stored : Bool → Bool → Bool → List ℕ → List ℕ
registers_stored reset bad free m =
    let q = scsiseq_of (get_or m scsiseq_place 0) in
    let x = sxfrctl0_of (get_or m sxfrctl0_place 0) in
    let g = scsisig_of false (get_or m scsisig_place 0) in
    set (set (set m scsiseq_place (scsiseq_byte (scsiseq_b reset q))) sxfrctl0_place (sxfrctl0_byte (sxfrctl0_b reset x))) scsisig_place
    (scsisig_byte (scsisig_b (reset || free) (bad && q.enautoatnp) g))

-- the offset and the automatic ACK
abbrev pub offset_stored : Bool → Bool → Bool → List ℕ → List ℕ
offset_stored zeroed within released m =
    set (set m offset_place (cond zeroed 0 (cond within (get_or m offset_place 0 + 1) (get_or m offset_place 0)))) ack_place
    (one (not released && eqb (get_or m ack_place 0) 1))

-- the status, changed by a part of B
abbrev pub status_stored : (Status → Status) → List ℕ → List ℕ
status_stored part m = set m status_place (status_byte (part (status_of (get_or m status_place 0))))

-- the latch of SCSIPERR
abbrev pub latches_stored : Bool → List ℕ → List ℕ
latches_stored error m = set m latches_place (latches_byte (error_or error (latches_of (get_or m latches_place 0))))

-- the sequencer's byte at bus free
abbrev pub freed_stored : Bool → List ℕ → List ℕ
freed_stored free m = cond free (set m sequencer_place (sequencer_byte (selection_freed (state_at m).sequencer))) m
