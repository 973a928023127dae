-- The edges that B finds leave room for their effects.
use Prim.Native.Nat.{ℕ, ◌<◌}
use mathlib.Core.Path.{◌≡◌, ap, sym, ◌∙◌}
use mathlib.Core.Bool.{Bool, true, false, not, ◌&&◌}
use mathlib.Core.List.{List}
use native.Mathlib.Omega.{arith}
use borrow.Author.Tests.{leb-false}
use lib.Dec.{leb}
use lib.ListN.{length, get_or}
use Rattle.rules.specs.State.{State}
use Rattle.rules.specs.Seen.{io_seen, limit}
use Rattle.rules.specs.StepB.{beyond_limit}
use Rattle.image.specs.Image.{state_at}
use Rattle.image.specs.Layout.{offset_place, scsi_count_place}
use Rattle.rules.proofs.Ranges.{below_limit, stored_room}
use Rattle.edges.specs.From.{synchronous_req_from, edges_from}
use Rattle.edges.specs.Room.{Room}
use Rattle.edges.specs.Tests.{past_limit}

module _ (rst req : Bool) (s : State) (ticks : ℕ) where
  offset_room : (edges_from rst req s ticks).within ≡ true → s.transfer.offset < 8
  unfolding edges_from beyond_limit limit
  offset_room e =
      omega (arith, leb-false (limit s.registers) s.transfer.offset (below_limit (synchronous_req_from req s) (leb (limit s.registers) s.transfer.offset) _ e))

  scsi_room : (edges_from rst req s ticks).stored ≡ true → length s.transfer.scsi < 8
  unfolding edges_from beyond_limit
  scsi_room e =
      leb-false 8 (length s.transfer.scsi) (stored_room (synchronous_req_from req s) (leb (limit s.registers) s.transfer.offset) (io_seen s) (leb 8 (length s.transfer.scsi)) e)

  pub room_from : Room (edges_from rst req s ticks) s.transfer
  room_from = record { within = offset_room; stored = scsi_room }

-- the same, of the bytes of an array
module _ (m : List ℕ) {b : Bool} (e : b ≡ past_limit (get_or m scsi_count_place 0) (state_at m)) (f : b ≡ false) where
  abbrev s : State
  s = state_at m

  pub count_left : get_or m offset_place 0 < 8
  unfolding limit state_at
  count_left =
      omega (arith, leb-false (limit s.registers) s.transfer.offset (below_limit true _ (io_seen s && leb 8 (get_or m scsi_count_place 0)) (ap not (sym e ∙ f))))

  pub place_left : io_seen s ≡ true → get_or m scsi_count_place 0 < 8
  place_left h =
      leb-false 8 (get_or m scsi_count_place 0) (stored_room true (leb (limit s.registers) s.transfer.offset) (io_seen s) (leb 8 (get_or m scsi_count_place 0)) (rw (← e, f) h))
