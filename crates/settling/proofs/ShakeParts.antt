-- A handshake by its parts.
use Prim.Native.Nat.{ℕ, ◌+◌}
use mathlib.Core.Bool.{false, cond}
use mathlib.Core.Path.{◌≡◌, refl}
use mathlib.Core.List.{List, [], ◌++◌, append-nil}
use lib.ListN.{take}
use Rattle.rules.specs.Changed.{transfer_with_scsi}
use Rattle.rules.specs.State.{Transfer}
use Rattle.rules.specs.StepC.{Settling, stored_by, handshake}
use Rattle.rules.specs.declared.chip.Conditions.{Conditions}
use Rattle.settling.specs.Blocks.{passed, acknowledged}

-- inbound, where nothing is stored, nothing changes
held_same : {q q' : List ℕ} (t : Transfer) → q ≡ q' → ◌≡◌ {A = Transfer} (transfer_with_scsi q t) (transfer_with_scsi q' t)
held_same t e = cc

pub passed_none : (t : Transfer) → passed false [] t ≡ t
unfolding passed
passed_none t = held_same t (append-nil t.scsi)

-- a handshake is its byte and its ACK
pub shake_parts : (c : Conditions) (s : Settling) → ◌≡◌ {A = Settling} (record { transfer = acknowledged c.synchronous (passed c.outbound (stored_by c) s.transfer); moves = s.moves; acks = s.acks + 1; sent = cond c.outbound (s.sent ++ take 1 s.transfer.scsi) s.sent }) (handshake c s)
unfolding acknowledged passed handshake
shake_parts c s = refl
