-- The elements of an array of bytes are below 256, which its type says.
use Prim.Native.Nat.{ℕ, ◌≤◌}
use mathlib.Core.Path.{◌≡◌, ◌∙◌}
use mathlib.Core.List.{List, [], ◌∷◌}
use lib.ListN.{length, take}
use lib.Seq.{take_all}
use mir.Syntax.{w8}
use mir.Val.{Val}
use denote.Array.{Array, each}
use denote.Laws.{Is}
use denote.Plain.{UInt}
use denote.Shadow.{shadow}
use Rattle.rules.specs.Ranges.{Bytes}

each_below : (l : List ℕ) (us : List Val) → shadow (each ℕ (UInt w8).own_val l us) → Bytes l
each_below [] [] p = tt
each_below [] (u ∷ us) p = tt
each_below (b ∷ l) [] p = absurd p
each_below (b ∷ l) (u ∷ us) p = (p.0.1, each_below l us p.1)

pub array_bytes : (n : ℕ) (l : List ℕ) (vs : List Val) → Is (Array (UInt w8) n) l vs → Bytes l
array_bytes n l vs p = each_below l p.0 p.1.1

-- as many of an array's first elements as it has are all
pub whole : {j : ℕ} {ys zs : List ℕ} → ys ≡ take j zs → length zs ≤ j → ys ≡ zs
whole {j} {ys} {zs} e h = e ∙ take_all j zs h
