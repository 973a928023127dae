-- The host FIFO's count, and the length of an image.
use Prim.Native.Nat.{ℕ, ◌≤◌}
use mathlib.Core.Path.{◌≡◌, refl, ap, ◌∙◌}
use mathlib.Core.List.{List, []}
use native.Mathlib.Omega.{arith}
use lib.ListN.{length, drop_of_length-le, drop, get_or}
use Rattle.rules.specs.State.{State}
use Rattle.rules.specs.Changed.{with_host}
use Rattle.image.specs.Image.{head_of, image_of, state_at, IsImage}
use Rattle.image.specs.Layout.{host_count_place, image_size}
use Rattle.datapath.specs.Fits.{FitsPlaces}
use Rattle.datapath.proofs.Places.{Sized, image_laid, laid_long}

pub sized_at : (s : State) → FitsPlaces s → Sized (head_of s) s.transfer.scsi s.stack.bytes s.transfer.host
sized_at s p = record { head = refl; scsi = p.scsi; stack = p.stack; host = p.host }

host_count : (s : State) → get_or (image_of s) host_count_place 0 ≡ length s.transfer.host
unfolding image_of
host_count s = refl

-- an array of which it is known which state it is the image of
module _ {m : List ℕ} {s : State} (p : FitsPlaces s) (e : m ≡ image_of s) where
  pub host_counts : get_or m host_count_place 0 ≡ length s.transfer.host
  host_counts = ap (λ (x : List ℕ). get_or x host_count_place 0) e ∙ host_count s

  pub none_left : (n : ℕ) → n ≡ get_or m host_count_place 0 → drop n s.transfer.host ≡ []
  none_left n g =
      let i : length s.transfer.host ≤ n = omega (arith, host_counts) in
      drop_of_length-le s.transfer.host i

  pub image_length : length m ≡ image_size
  image_length = ap length (e ∙ image_laid s) ∙ laid_long (sized_at s p)

-- a host FIFO that fits its places
pub with_host_lem : (s : State) (l : List ℕ) → FitsPlaces s → length l ≤ 128 → FitsPlaces (with_host l s)
with_host_lem s l p h = record { host = h; scsi = p.scsi; stack = p.stack; counter = p.counter }

pub placed_at : (m : List ℕ) → IsImage m → FitsPlaces (state_at m)
placed_at m i = record { host = i.range.transfer.host; scsi = i.range.transfer.scsi; stack = i.range.stack.size; counter = i.range.transfer.counter }
