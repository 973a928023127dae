-- Images that are accepted and images that are not, computed by the definition.
use Prim.Native.Nat.{ℕ}
use mathlib.Core.Path.{◌≡◌, refl}
use mathlib.Core.Bool.{Bool, true, false}
use mathlib.Core.List.{List, [], ◌∷◌, map}
use lib.ListN.{set, replicate}
use Rattle.rules.proofs.Computes.{computes}
use Rattle.image.specs.Image.{image_of, state_at}
use Rattle.image.specs.Layout.{host_bytes_place, host_count_place, image_size, pointer_place, quiet_place, scsiseq_place, sequencer_place, sxfrctl0_place}
use Rattle.saved.specs.Accepted.{same_bytes, counts_fit, unused_clear, ticks_leave, accepted}

-- power reset, and it with one byte changed
unfoldable pub zeros : List ℕ
zeros = replicate image_size 0

-- ENSELO, as an event leaves it: waiting
unfoldable pub asked : List ℕ
asked = set (set zeros scsiseq_place 0x40) sequencer_place 1

unfoldable pub accepts : List Bool
accepts = map accepted (zeros ∷ set zeros host_count_place 128 ∷ set (set zeros host_count_place 1) host_bytes_place 7 ∷ asked ∷ [])

-- a length of 202 and 204, a count of 129, a byte past the count, quiet ticks of 9, bits that are unused, and ENSELO as no event
-- leaves it
unfoldable pub refuses : List Bool
refuses =
    map accepted
    (replicate 202 0
    ∷ replicate 204 0
    ∷ set zeros host_count_place 129
    ∷ set zeros host_bytes_place 7
    ∷ set zeros quiet_place 9
    ∷ set zeros sxfrctl0_place 0x10
    ∷ set zeros pointer_place 32
    ∷ set zeros scsiseq_place 0x40
    ∷ [])

pub accepts_are : accepts ≡ true ∷ true ∷ true ∷ true ∷ []
unfolding computes image_of state_at same_bytes counts_fit unused_clear ticks_leave accepted zeros asked accepts
accepts_are = refl

pub refuses_are : refuses ≡ false ∷ false ∷ false ∷ false ∷ false ∷ false ∷ false ∷ false ∷ []
unfolding computes image_of state_at same_bytes counts_fit unused_clear ticks_leave accepted zeros refuses
refuses_are = refl
