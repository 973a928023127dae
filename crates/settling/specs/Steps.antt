-- What the parts of settling leave of an array, and what they hand back.
use Rattle.std.specs.Prelude.{ℕ, ◌≡◌, cond, List, ◌++◌, take}
use Rattle.rules.specs.State.{Transfer}
use Rattle.rules.specs.StepC.{stored_by}
use Rattle.rules.specs.declared.chip.Conditions.{Conditions}
use Rattle.rules.specs.declared.chip.Fifo.{Fifo}
use Rattle.fifos.specs.Fifos.{sent_view, sent_of}
use Rattle.settling.specs.Blocks.{movable, carried, passed, acknowledged}
use Rattle.rules.specs.Changed.{with_transfer}
use Rattle.image.specs.Image.{image_of, state_at}

-- the longest run of moves
pub record Moves (m : List ℕ) (c : Conditions) (m' : List ℕ) (r : ℕ) : Type 0 where
  pub made : r ≡ movable c (state_at m).transfer
  pub left : m' ≡ image_of (with_transfer (carried c.outbound (movable c (state_at m).transfer) (state_at m).transfer) (state_at m))

-- the bytes sent, with the oldest of the SCSI FIFO where it goes out
abbrev pub sent_with : Conditions → Transfer → Fifo 8 → Fifo 8
sent_with c t v = sent_of (cond c.outbound (sent_view v ++ take 1 t.scsi) (sent_view v))

-- the byte of a handshake, then its ACK
abbrev pub byte_passed : Conditions → Transfer → Transfer
byte_passed c t = passed c.outbound (stored_by c) t

abbrev pub shaken_of : Conditions → Transfer → Transfer
shaken_of c t = acknowledged c.synchronous (byte_passed c t)
