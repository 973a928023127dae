-- Records leave an image, and one at rest where it was.
use mathlib.Core.Path.{◌≡◌, sym, subst}
use mathlib.Core.List.{List}
use Prim.Native.Nat.{ℕ}
use Rattle.rules.specs.Rest.{AtRest}
use Rattle.rules.specs.State.{State}
use Rattle.rules.specs.Ranges.{InRange, InBytes}
use Rattle.rules.proofs.Ranges.{step_in_range, step_bytes}
use Rattle.image.specs.Image.{IsImage, image_of, state_at}
use Rattle.effects.proofs.ImageOnward.{image_is, state_is}
use Rattle.words.specs.Words.{strung}
use Rattle.words.proofs.Keeps.{strung_keeps}
use Rattle.words.proofs.Words.{Between, between}

-- what every step keeps of a chip
record Sound (s : State) : Type 0 where
  range : InRange s
  bytes : InBytes s

module _ {m : List ℕ} (i : IsImage m) (records : List (List ℕ)) {n : List ℕ} (e : n ≡ image_of (strung (state_at m) records).state) where
  sound : Sound (strung (state_at m) records).state
  sound =
      strung_keeps Sound
      (λ s bytes k. record { range = step_in_range s bytes k.range; bytes = (step_bytes s bytes k.range k.bytes).state })
      (state_at m) records (record { range = i.range; bytes = i.bytes })

  pub image_strung : IsImage n
  image_strung = image_is (strung (state_at m) records).state e sound.range sound.bytes

  pub state_strung : state_at n ≡ (strung (state_at m) records).state
  state_strung = state_is (strung (state_at m) records).state e sound.range sound.bytes

  pub rest_strung : AtRest (state_at m) → AtRest (state_at n)
  rest_strung r =
      subst AtRest (sym state_strung) (strung_keeps Between between (state_at m) records (record { range = i.range; rest = r })).rest
