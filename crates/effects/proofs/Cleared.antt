-- CLRCH, then CLRSTCNT: the image in between is of a state in range.
use Prim.Native.Nat.{ℕ}
use mathlib.Core.Path.{◌≡◌}
use mathlib.Core.Bool.{Bool, true, false, cond}
use mathlib.Core.List.{List, []}
use native.Mathlib.Omega.{arith}
use Rattle.rules.specs.Changed.{transfer_with_scsi, transfer_with_offset}
use Rattle.rules.specs.Numbers.{bit}
use Rattle.rules.specs.State.{State, Transfer}
use Rattle.rules.specs.Ranges.{TransferFits, TransferBytes}
use Rattle.image.specs.Image.{image_of, state_at, IsImage}
use Rattle.effects.specs.Writes.{channel_cleared, counter_cleared}
use Rattle.effects.proofs.ImageOnward.{onward}
use Rattle.effects.proofs.StatesOfA.{Reached, there}

-- the data path, by whether CLRCH was written
abbrev cleared : Bool → Transfer → Transfer
cleared clrch t = transfer_with_scsi (cond clrch [] t.scsi) (transfer_with_offset (cond clrch 0 t.offset) t)

cleared_fits : (clrch : Bool) (t : Transfer) → TransferFits t → TransferFits (cleared clrch t)
cleared_fits true t f = record { host = f.host; scsi = omega arith; counter = f.counter; offset = omega arith }
cleared_fits false t f = record { host = f.host; scsi = f.scsi; counter = f.counter; offset = f.offset }

cleared_bytes : (clrch : Bool) (t : Transfer) → TransferBytes t → TransferBytes (cleared clrch t)
cleared_bytes true t f = record { last = f.last; host = f.host; scsi = tt }
cleared_bytes false t f = record { last = f.last; host = f.host; scsi = f.scsi }

module _ {m n : List ℕ} (v : ℕ) (g : IsImage m) (h : n ≡ image_of (channel_cleared (state_at m) v)) where
  between : Reached n (channel_cleared (state_at m) v)
  between =
      record {
        image = h;
        range = record { registers = g.range.registers; transfer = cleared_fits (bit v 1) (state_at m).transfer g.range.transfer; stack = g.range.stack; quiet = g.range.quiet; identity = g.range.identity; sequencer = g.range.sequencer };
        bytes = record { lines = g.bytes.lines; registers = g.bytes.registers; transfer = cleared_bytes (bit v 1) (state_at m).transfer g.bytes.transfer; stack = g.bytes.stack; selid = g.bytes.selid };
      }

  pub channel_image : IsImage n
  channel_image = there between

  pub both_cleared : {k : List ℕ} → k ≡ image_of (counter_cleared (state_at n) v) → k ≡ image_of (counter_cleared (channel_cleared (state_at m) v) v)
  both_cleared =
      onward (λ (x : State). counter_cleared x v) (channel_cleared (state_at m) v) between.image between.range between.bytes
