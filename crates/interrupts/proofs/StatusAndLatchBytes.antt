-- The status byte or the latch byte stored, or left, in an image.
use Prim.Native.Nat.{ℕ}
use mathlib.Core.Path.{◌≡◌, refl, ap, ◌∙◌}
use mathlib.Core.List.{List}
use lib.ListN.{set}
use Rattle.rules.specs.State.{State}
use Rattle.rules.specs.declared.chip.Status.{Status}
use Rattle.rules.specs.declared.chip.Latches.{Latches}
use Rattle.rules.specs.Changed.{with_status, with_latches}
use Rattle.image.specs.Image.{IsImage, image_of, state_at, status_byte, latches_byte}
use Rattle.image.specs.Layout.{latches_place, status_place}
use Rattle.image.proofs.AtPlaces.{of_image}

status_stored_lem : (s : State) (t : Status) → set (image_of s) status_place (status_byte t) ≡ image_of (with_status t s)
unfolding image_of
status_stored_lem s t = refl

latches_stored_lem : (s : State) (k : Latches) → set (image_of s) latches_place (latches_byte k) ≡ image_of (with_latches k s)
unfolding image_of
latches_stored_lem s k = refl

module _ (m : List ℕ) (h : IsImage m) where
  pub status_placed : (t : Status) → set m status_place (status_byte t) ≡ image_of (with_status t (state_at m))
  status_placed t = of_image (λ (x : List ℕ). set x status_place (status_byte t)) (with_status t) (λ (s : State). status_stored_lem s t) m h

  pub latches_placed : (k : Latches) → set m latches_place (latches_byte k) ≡ image_of (with_latches k (state_at m))
  latches_placed k = of_image (λ (x : List ℕ). set x latches_place (latches_byte k)) (with_latches k) (λ (s : State). latches_stored_lem s k) m h

  -- where nothing is stored
  pub status_left : (t : Status) → (state_at m).status ≡ t → m ≡ image_of (with_status t (state_at m))
  status_left t e = h.packed ∙ ap (λ (x : Status). image_of (with_status x (state_at m))) e

  pub latches_left : (k : Latches) → (state_at m).latches ≡ k → m ≡ image_of (with_latches k (state_at m))
  latches_left k e = h.packed ∙ ap (λ (x : Latches). image_of (with_latches x (state_at m))) e

-- stored, and what was stored is what is to stand there
pub status_as : (s : State) {t u : Status} {m : List ℕ} → t ≡ u → m ≡ image_of (with_status t s) → m ≡ image_of (with_status u s)
status_as s e h = h ∙ ap (λ (x : Status). image_of (with_status x s)) e

pub latches_as : (s : State) {k l : Latches} {m : List ℕ} → k ≡ l → m ≡ image_of (with_latches k s) → m ≡ image_of (with_latches l s)
latches_as s e h = h ∙ ap (λ (x : Latches). image_of (with_latches x s)) e
