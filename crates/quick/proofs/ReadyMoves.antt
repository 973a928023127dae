-- How a line event, a byte and a word move the answer: each count, IRQ and ACK is a field that does not carry.
use mathlib.Core.Path.{◌≡◌, refl, sym, ◌∙◌, ap}
use mathlib.Core.Bool.{Bool, true, false, not, ◌&&◌, ◌||◌, cond, and-false}
use Prim.Native.Nat.{ℕ, ◌+◌, ◌*◌, ◌%◌}
use native.Mathlib.Omega.{arith}
use lib.ListN.{length}
use Rattle.rules.specs.Numbers.{one, ones, even}
use Rattle.rules.specs.State.{State, Transfer}
use Rattle.rules.specs.Changed.{with_transfer, with_status, with_kept}
use Rattle.rules.specs.Seen.{phase_sel, phase_drives, phase_number, is_phase, phase_data, ack_driven, automatic, bsy_seen, byte_driven, byte_driving, connected, data_driven, driving, io_seen, manual, matched, mismatched, normal, parity_driven, rst_seen, sel_seen}
use Rattle.rules.specs.Interrupts.{instat, irq, phasemis}
use Rattle.rules.specs.Answers.{control_driven, answer_of, answer_bytes}
use Rattle.rules.specs.Step.{ended}
use Rattle.rules.specs.Ranges.{TransferFits}
use Rattle.rules.specs.declared.chip.Phase.{Phase}
use Rattle.rules.specs.declared.chip.Phase.TheVariants.{Idle, Waiting, Arbitrating, Clearing, Selecting, Holding, Answering, Answered}
use Rattle.rules.specs.declared.chip.Status.{Status}
use Rattle.rules.specs.declared.records.Lines.{Lines}
use Rattle.rules.proofs.Logic.{never, left_true, right_true}
use Rattle.quick.specs.Ready.{number_low, ready_of, irq_place, parity_place, driving_place, ack_place, data_place, scsi_place, offset_place, host_place}
use Rattle.quick.specs.Facts.{releases_data}
use Rattle.quick.proofs.FewLines.{driven}

-- the counts and IRQ, as the answer has them
abbrev pub counts_of : State → ℕ
counts_of s =
    one (irq s) * irq_place + length s.transfer.scsi * scsi_place + s.transfer.offset * offset_place + length s.transfer.host * host_place

-- all else: the lines and the data that the chip drives
abbrev pub driven_of : State → ℕ
driven_of s =
    one (driving s) * driving_place + one s.registers.scsiseq.scsirsto * 0x200 + one (parity_driven s) * parity_place + control_driven s * ack_place
    + data_driven s * data_place

pub ready_sum : (s : State) → TransferFits s.transfer → ready_of s ≡ driven_of s + counts_of s
unfolding ready_of number_low answer_of answer_bytes ended
ready_sum s f =
    let scsi : length s.transfer.scsi % 16 ≡ length s.transfer.scsi = omega (arith, f.scsi) in
    let offset : s.transfer.offset % 16 ≡ s.transfer.offset = omega (arith, f.offset) in
    rw (scsi, offset) (omega arith)

-- WHERE THE SAME IS DRIVEN, ONLY THE COUNTS AND IRQ MOVE
pub ready_counts : (s n : State) → TransferFits s.transfer → TransferFits n.transfer → driven_of n ≡ driven_of s
    → ready_of n + counts_of s ≡ ready_of s + counts_of n
ready_counts s n f g e = rw (ready_sum s f, ready_sum n g, e) (omega arith)

-- what a line event without a change of phase, a byte and a word leave: other data, parity, ATN, REQ and ACK of others, another data
-- path, other statuses, another parity kept
abbrev pub line_left : Lines → Transfer → Status → Bool → State → State
line_left l t u kept s = with_status u (with_kept kept (with_transfer t (driven l s)))

-- what is driven in each mode, with automatic ACK or without: SPIOEN, DMAEN
abbrev mode_drives : Bool → Bool → Bool → Bool
mode_drives a b ack = ((not a && not b) || (a && not b)) || ((not a && b) && ack)

last_unseen : (p a b ack : Bool) (v w d : ℕ) → (ack ≡ true → v ≡ w)
    → cond (p && mode_drives a b ack) (cond (not a && b) v d) 0 ≡ cond (p && mode_drives a b ack) (cond (not a && b) w d) 0
last_unseen false a b ack v w d h = refl
last_unseen true true b ack v w d h = refl
last_unseen true false true true v w d h = h refl
last_unseen true false true false v w d h = refl
last_unseen true false false ack v w d h = refl

module _ (l : Lines) (t : Transfer) (u : Status) (kept : Bool) (s : State) where
  abbrev n : State
  n = line_left l t u kept s

  -- IRQ is as before, unless PHASEMIS counts
  pub irq_same : (s.registers.simode1.enphasemis && mismatched s) ≡ false → irq n ≡ irq s
  unfolding irq instat phasemis mismatched matched connected rst_seen sel_seen bsy_seen
  irq_same h =
      ap
      (λ (b : Bool).
      ((s.latches.spiordy || s.latches.scsirsti || s.latches.busfree || s.latches.scsiperr || s.latches.phasechg || s.latches.reqinit
      || (s.sequencer.latches.seldo || s.sequencer.latches.seldi || s.sequencer.latches.selingo || s.sequencer.latches.selto))
      || b || s.registers.dmacntrl0.swint)
      && s.registers.dmacntrl0.inten)
      (uncounted s.registers.simode1.enphasemis (mismatched s) u.reqinit s.status.reqinit h)
    where
      uncounted : (e m x y : Bool) → (e && m) ≡ false → ((m && x) && e) ≡ ((m && y) && e)
      uncounted true true x y k = absurd (never (sym k))
      uncounted true false x y k = refl
      uncounted false m x y k = and-false (m && x) ∙ sym (and-false (m && y))

  -- THE SAME IS DRIVEN: automatic ACK as before, and the byte last sent too where it is on
  module _ (ack : t.ack ≡ s.transfer.ack) (last : s.transfer.ack ≡ true → t.last ≡ s.transfer.last) where
    same_byte : byte_driven n ≡ byte_driven s
    unfolding byte_driven byte_driving connected rst_seen sel_seen bsy_seen manual automatic normal
    same_byte =
        rw ack
        (last_unseen (connected s && not (io_seen s)) s.registers.sxfrctl0.spioen s.registers.sxfrctl0.dmaen s.transfer.ack t.last
        s.transfer.last s.registers.scsidat last)

    same_driving : driving n ≡ driving s
    unfolding driving byte_driving connected rst_seen sel_seen bsy_seen
    same_driving = rw ack

    same_control : control_driven n ≡ control_driven s
    unfolding control_driven ack_driven
    same_control = rw ack

    same_data : data_driven n ≡ data_driven s
    unfolding data_driven
    same_data =
        ap (cond (phase_drives s.sequencer.phase) (phase_data s.sequencer.phase s.registers.scsiid)) same_byte

    same_parity : parity_driven n ≡ parity_driven s
    unfolding parity_driven
    same_parity = rw (same_driving, same_data)

    same_driven : driven_of n ≡ driven_of s
    same_driven = rw (same_driving, same_parity, same_control, same_data)

    -- THE COUNTS ALONE MOVE
    pub ready_lines : TransferFits s.transfer → TransferFits t → ready_of n + counts_of s ≡ ready_of s + counts_of n
    ready_lines f g = ready_counts s n f g same_driven

-- what automatic ACK shows beside itself: in Normal mode, connected, IO not seen, the byte last sent
unfoldable pub shown_with : Bool → ℕ → ℕ
shown_with releases last = cond releases (driving_place + one (even (ones last)) * parity_place + last * data_place) 0

-- connected, IO seen, SPIOEN, DMAEN
abbrev mode_releases : Bool → Bool → Bool → Bool → Bool
mode_releases c o a b = ((not a && b) && c) && not o

silent_before : (c o a b : Bool) → mode_releases c o a b ≡ true → ((c && not o) && mode_drives a b false) ≡ false
silent_before c o true b e = absurd (never e)
silent_before c o false false e = absurd (never e)
silent_before false o false true e = absurd (never e)
silent_before true true false true e = absurd (never e)
silent_before true false false true e = refl

heard_after : (c o a b : Bool) → mode_releases c o a b ≡ true → ((c && not o) && mode_drives a b true) ≡ true
heard_after c o true b e = absurd (never e)
heard_after c o false false e = absurd (never e)
heard_after false o false true e = absurd (never e)
heard_after true true false true e = absurd (never e)
heard_after true false false true e = refl

drives_alike : (c o a b : Bool) → mode_releases c o a b ≡ false → ((c && not o) && mode_drives a b true)
    ≡ ((c && not o) && mode_drives a b false)
drives_alike false o a b e = refl
drives_alike true true a b e = refl
drives_alike true false true b e = refl
drives_alike true false false true e = absurd (never (sym e))
drives_alike true false false false e = refl

gives_alike : (c o a b : Bool) (v w d : ℕ) → mode_releases c o a b ≡ false
    → cond ((c && not o) && mode_drives a b true) (cond (not a && b) v d) 0 ≡ cond ((c && not o) && mode_drives a b false) (cond (not a && b) w d) 0
gives_alike false o a b v w d e = refl
gives_alike true true a b v w d e = refl
gives_alike true false true b v w d e = refl
gives_alike true false false true v w d e = absurd (never (sym e))
gives_alike true false false false v w d e = refl

-- a chip that is connected drives no data of the sequencer's own
sel_shut : (w : Bool) → not (w || true) ≡ true → ⊥
sel_shut true e = never e
sel_shut false e = never e

module _ (b w r : Bool) where
  unselecting : ((b && not (w || true)) && not r) ≡ true → ⊥
  unselecting e = sel_shut w (right_true b (not (w || true)) (left_true (b && not (w || true)) (not r) e))

  sequencer_silent : (p : Phase) → (((b && not (w || phase_sel p)) && not r) && not (is_phase Arbitrating p)) ≡ true → phase_drives p ≡ false
  unfolding phase_sel phase_drives is_phase phase_number
  sequencer_silent Idle e = refl
  sequencer_silent Waiting e = refl
  sequencer_silent Arbitrating e = absurd (never (right_true ((b && not (w || false)) && not r) false e))
  sequencer_silent Clearing e = absurd (unselecting (left_true _ true e))
  sequencer_silent Selecting e = absurd (unselecting (left_true _ true e))
  sequencer_silent Holding e = absurd (unselecting (left_true _ true e))
  sequencer_silent Answering e = refl
  sequencer_silent Answered e = refl

pub connected_silent : (s : State) → connected s ≡ true → phase_drives s.sequencer.phase ≡ false
unfolding connected sel_seen
connected_silent s e = sequencer_silent (bsy_seen s) (s.lines.sel || s.registers.scsisig.selo) (rst_seen s) s.sequencer.phase e

module _ (l : Lines) (t : Transfer) (u : Status) (kept : Bool) (s : State) (on : t.ack ≡ true) (off : ack_driven s ≡ false) where
  abbrev m : State
  m = line_left l t u kept s

  abbrev c : Bool
  c = connected s

  abbrev o : Bool
  o = io_seen s

  abbrev a : Bool
  a = s.registers.sxfrctl0.spioen

  abbrev b : Bool
  b = s.registers.sxfrctl0.dmaen

  is_off : s.transfer.ack ≡ false
  unfolding ack_driven
  is_off = first s.transfer.ack (manual s.registers && s.registers.scsisig.acko) off
    where
      first : (x y : Bool) → (x || y) ≡ false → x ≡ false
      first true y e = e
      first false y e = refl

  is_on : ack_driven m ≡ true
  unfolding ack_driven
  is_on = rw on

  control_more : control_driven m ≡ control_driven s + 1
  unfolding control_driven
  control_more = rw (is_on, off) (omega arith)

  -- DATA IS DRIVEN WITH IT
  module _ (rel : releases_data s ≡ true) where
    mode : mode_releases c o a b ≡ true
    unfolding releases_data normal
    mode = rel

    silent : phase_drives s.sequencer.phase ≡ false
    unfolding releases_data
    silent = connected_silent s (right_true (normal s.registers) c (left_true (normal s.registers && c) (not o) rel))

    off_driving : driving s ≡ false
    unfolding driving byte_driving manual automatic normal connected rst_seen sel_seen bsy_seen
    off_driving = rw (silent, is_off) (silent_before c o a b mode)

    on_driving : driving m ≡ true
    unfolding driving byte_driving manual automatic normal connected rst_seen sel_seen bsy_seen
    on_driving = rw (silent, on) (heard_after c o a b mode)

    off_data : data_driven s ≡ 0
    unfolding data_driven byte_driven byte_driving manual automatic normal connected rst_seen sel_seen bsy_seen
    off_data =
        rw (silent, is_off)
        (ap (λ (x : Bool). cond x (cond (not a && b) s.transfer.last s.registers.scsidat) 0) (silent_before c o a b mode))

    in_normal : (c o a b : Bool) → mode_releases c o a b ≡ true → (not a && b) ≡ true
    in_normal c o true b e = absurd (never e)
    in_normal c o false false e = absurd (never e)
    in_normal c o false true e = refl

    on_data : data_driven m ≡ t.last
    unfolding data_driven byte_driven byte_driving manual automatic normal connected rst_seen sel_seen bsy_seen
    on_data = rw (silent, on, heard_after c o a b mode, in_normal c o a b mode)

    off_parity : parity_driven s ≡ false
    unfolding parity_driven
    off_parity = rw off_driving

    on_parity : parity_driven m ≡ even (ones t.last)
    unfolding parity_driven
    on_parity = rw (on_driving, on_data)

    driven_more : driven_of m ≡ driven_of s + ack_place + shown_with true t.last
    unfolding shown_with
    driven_more = rw (on_driving, on_parity, on_data, control_more, off_driving, off_parity, off_data) (omega arith)

  -- ACK ALONE
  module _ (rel : releases_data s ≡ false) where
    keeps : mode_releases c o a b ≡ false
    unfolding releases_data normal
    keeps = rel

    same_drives : driving m ≡ driving s
    unfolding driving byte_driving manual automatic normal connected rst_seen sel_seen bsy_seen
    same_drives = rw (on, is_off) (ap (λ (x : Bool). phase_drives s.sequencer.phase || x) (drives_alike c o a b keeps))

    same_gives : data_driven m ≡ data_driven s
    unfolding data_driven byte_driven byte_driving manual automatic normal connected rst_seen sel_seen bsy_seen
    same_gives =
        rw (on, is_off)
        (ap (cond (phase_drives s.sequencer.phase) (phase_data s.sequencer.phase s.registers.scsiid))
        (gives_alike c o a b t.last s.transfer.last s.registers.scsidat keeps))

    same_level : parity_driven m ≡ parity_driven s
    unfolding parity_driven
    same_level = rw (same_drives, same_gives)

    driven_alone : driven_of m ≡ driven_of s + ack_place + shown_with false t.last
    unfolding shown_with
    driven_alone = rw (same_drives, same_level, same_gives, control_more) (omega arith)

  driven_on : driven_of m ≡ driven_of s + ack_place + shown_with (releases_data s) t.last
  driven_on = go (releases_data s) refl
    where
      go : (x : Bool) → releases_data s ≡ x → driven_of m ≡ driven_of s + ack_place + shown_with x t.last
      go true e = driven_more e
      go false e = driven_alone e

  -- AUTOMATIC ACK GOES ON, or, read from right to left, off
  pub ready_ack : TransferFits s.transfer → TransferFits t
      → ready_of m + counts_of s ≡ ready_of s + counts_of m + ack_place + shown_with (releases_data s) t.last
  ready_ack f g = rw (ready_sum s f, ready_sum m g, driven_on) (omega arith)
