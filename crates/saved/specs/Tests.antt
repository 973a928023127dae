-- WHAT THE CODE ASKS OF AN IMAGE, part by part; proofs/ shows that it is `accepted`.
use Rattle.std.specs.Prelude.{ℕ, ◌+◌, ◌-◌, ◌≤◌, Bool, true, not, ◌&&◌, ◌||◌, cond, List, [], ◌∷◌, eqb, leb, ltb, take, drop, get_or}
use Rattle.rules.specs.Registers.{sxfrctl0_of, sxfrctl0_byte, sxfrctl1_of, sxfrctl1_byte, scsirate_of, scsiid_of, simode0_of, simode0_byte, dmacntrl0_of, dmacntrl0_byte, dmacntrl1_of, dmacntrl1_byte}
use Rattle.rules.specs.State.{State}
use Rattle.rules.specs.Seen.{is_phase, rst_seen, bsy_seen, sel_seen, ack_seen}
use Rattle.rules.specs.Sequencer.{selection_asked, called}
use Rattle.rules.specs.StepC.{conditions, can_move, can_handshake}
use Rattle.rules.specs.StepD.{fifo_conflict, pio_ready}
use Rattle.rules.specs.declared.chip.Phase.{Phase}
use Rattle.rules.specs.declared.chip.Phase.TheVariants.{Idle, Waiting, Arbitrating, Clearing, Selecting, Holding, Answering, Answered}
use Rattle.image.specs.Image.{scsirate_byte, scsiid_byte, latches_of, latches_byte, state_at}
use Rattle.image.specs.Layout.{ack_place, dmacntrl0_place, dmacntrl1_place, host_bytes_place, host_count_place, identity_place, image_size, kept_place, latches_place, offset_place, pointer_place, quiet_place, scsi_bytes_place, scsi_count_place, scsiid_place, scsirate_place, selection_latches_place, simode0_place, stack_bytes_place, sxfrctl0_place, sxfrctl1_place, upper_place}
use Rattle.saved.specs.Accepted.{counts_fit}

-- all of some tests
abbrev pub all : List Bool → Bool
all [] = true
all (b ∷ []) = b
all (b ∷ c ∷ l) = b && all (c ∷ l)

-- the counts and the numbers, as numbers
pub record Fitting (m : List ℕ) : Type 0 where
  pub host : get_or m host_count_place 0 ≤ 128
  pub scsi : get_or m scsi_count_place 0 ≤ 8
  pub offset : get_or m offset_place 0 ≤ 8
  pub quiet : get_or m quiet_place 0 ≤ 8

-- the registers that have unused bits: each is the byte that what it stands for has again
abbrev pub registers_tests : List ℕ → List Bool
registers_tests m =
    eqb (sxfrctl0_byte (sxfrctl0_of (get_or m sxfrctl0_place 0))) (get_or m sxfrctl0_place 0)
    ∷ eqb (sxfrctl1_byte (sxfrctl1_of (get_or m sxfrctl1_place 0))) (get_or m sxfrctl1_place 0)
    ∷ eqb (scsirate_byte (scsirate_of (get_or m scsirate_place 0))) (get_or m scsirate_place 0)
    ∷ eqb (scsiid_byte (scsiid_of (get_or m scsiid_place 0))) (get_or m scsiid_place 0)
    ∷ eqb (simode0_byte (simode0_of (get_or m simode0_place 0))) (get_or m simode0_place 0)
    ∷ eqb (dmacntrl0_byte (dmacntrl0_of (get_or m dmacntrl0_place 0))) (get_or m dmacntrl0_place 0)
    ∷ eqb (dmacntrl1_byte (dmacntrl1_of (get_or m dmacntrl1_place 0)) 0) (get_or m dmacntrl1_place 0)
    ∷ []

unfoldable pub registers_clear : List ℕ → Bool
registers_clear m = all (registers_tests m)

-- the other bytes of the head that have unused bits: latches, and what takes the lowest four, two, one or five bits
abbrev pub others_tests : List ℕ → List Bool
others_tests m =
    eqb (latches_byte (latches_of (get_or m latches_place 0))) (get_or m latches_place 0)
    ∷ ltb (get_or m selection_latches_place 0) 16
    ∷ ltb (get_or m upper_place 0) 4
    ∷ ltb (get_or m ack_place 0) 2
    ∷ ltb (get_or m kept_place 0) 2
    ∷ ltb (get_or m identity_place 0) 32
    ∷ ltb (get_or m pointer_place 0) 32
    ∷ []

unfoldable pub others_clear : List ℕ → Bool
others_clear m = all (others_tests m)

unfoldable pub all_zero : List ℕ → Bool
all_zero [] = true
all_zero (b ∷ l) = eqb b 0 && all_zero l

-- the bytes from one place up to another
abbrev pub zero_between : List ℕ → ℕ → ℕ → Bool
zero_between m from to = all_zero (take (to - from) (drop from m))

-- the bytes past the counts
unfoldable pub past_clear : List ℕ → Bool
past_clear m =
    zero_between m (scsi_bytes_place + get_or m scsi_count_place 0) stack_bytes_place
    && zero_between m (host_bytes_place + get_or m host_count_place 0) image_size

-- the sequencer has nothing to do without a tick: by its phase
unfoldable pub calm_in : Phase → State → Bool
calm_in Idle s = not (selection_asked s.registers) && not (called s)
calm_in Waiting s = (selection_asked s.registers || leb 8 s.quiet) && not (called s)
calm_in Arbitrating s = not s.lines.sel
calm_in Clearing s = true
calm_in Selecting s = not s.lines.bsy
calm_in Holding s = not s.lines.bsy
calm_in Answering s = called s
calm_in Answered s = s.lines.sel

-- "RST seen: idle, SELINGO 0, and nothing below."
unfoldable pub calm : State → Bool
calm s =
    cond (rst_seen s) (is_phase Idle s.sequencer.phase && not s.sequencer.status.selingo)
    (calm_in s.sequencer.phase s)

-- neither a move nor a handshake is possible
unfoldable pub settled : State → Bool
settled s = not (can_move (conditions s) s.transfer) && not (can_handshake (conditions s) s.transfer)

-- FWERR and SPIORDY are set where their causes hold, REQINIT is clear where ACK is seen, SCSIPERR where ENSPCHK is 0
unfoldable pub status_shown : State → Bool
status_shown s =
    all
    ((s.registers.sxfrctl1.enspchk || not s.status.scsiperr)
    ∷ (not s.status.reqinit || not (ack_seen s))
    ∷ (s.status.fwerr || not (fifo_conflict s.registers))
    ∷ (s.status.spiordy || not (pio_ready s))
    ∷ [])

-- no quiet ticks stand where BSY or SEL is seen
unfoldable pub quiet_fits : State → Bool
quiet_fits s = eqb s.quiet 0 || not (bsy_seen s || sel_seen s)

-- a chip at rest
unfoldable pub resting : State → Bool
resting s = all (quiet_fits s ∷ status_shown s ∷ calm s ∷ settled s ∷ [])

-- ALL OF THEM, the cheap ones first
abbrev pub accepted_tests : List ℕ → List Bool
accepted_tests m = counts_fit m ∷ registers_clear m ∷ others_clear m ∷ past_clear m ∷ resting (state_at m) ∷ []
