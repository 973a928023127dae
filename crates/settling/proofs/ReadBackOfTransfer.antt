-- An image whose data path is changed is an image, and is read back.
use Prim.Native.Nat.{ℕ}
use mathlib.Core.Path.{◌≡◌, refl, sym, ap, ◌∙◌, subst}
use mathlib.Core.List.{List}
use lib.ListN.{length, get_or}
use Rattle.rules.specs.State.{State, Transfer}
use Rattle.rules.specs.Ranges.{TransferFits, TransferBytes, StackFits, InRange, InBytes}
use Rattle.rules.specs.Changed.{with_transfer}
use Rattle.image.specs.Image.{head_of, image_of, state_at, IsImage}
use Rattle.image.specs.Layout.{image_size, offset_place}
use Rattle.image.proofs.ReadBack.{read_back, is_image}
use Rattle.datapath.proofs.Fronts.{image_length, placed_at}
use Rattle.datapath.proofs.Places.{Sized}

pub sized : (s : State) → TransferFits s.transfer → StackFits s.stack → Sized (head_of s) s.transfer.scsi s.stack.bytes s.transfer.host
sized s f k = record { head = refl; scsi = f.scsi; stack = k.size; host = f.host }

-- an image again
pub kept : (m m' : List ℕ) (t : Transfer) → IsImage m → TransferFits t → TransferBytes t → m' ≡ image_of (with_transfer t (state_at m)) → IsImage m' × (state_at m' ≡ with_transfer t (state_at m))
kept m m' t i f b e =
    let s : State = with_transfer t (state_at m) in
    let r : InRange s = record { registers = i.range.registers; transfer = f; stack = i.range.stack; quiet = i.range.quiet; identity = i.range.identity; sequencer = i.range.sequencer } in
    let y : InBytes s = record { lines = i.bytes.lines; registers = i.bytes.registers; transfer = b; stack = i.bytes.stack; selid = i.bytes.selid } in
    (subst IsImage (sym e) (is_image s r y), ap state_at e ∙ read_back s r)

-- the length of an image, and its offset
pub long : (m : List ℕ) → IsImage m → length m ≡ image_size
long m i = image_length (placed_at m i) i.packed

pub offset_at : (s : State) → get_or (image_of s) offset_place 0 ≡ s.transfer.offset
unfolding image_of
offset_at s = refl

pub offset_held : (m : List ℕ) → IsImage m → get_or m offset_place 0 ≡ (state_at m).transfer.offset
offset_held m i = ap (λ (l : List ℕ). get_or l offset_place 0) i.packed ∙ offset_at (state_at m)
