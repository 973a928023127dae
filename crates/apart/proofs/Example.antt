-- A box that runs, computed: calls made as their contracts say show what the chip shows.
use Prim.Native.Nat.{ℕ, ◌+◌}
use mathlib.Core.Path.{◌≡◌, refl, ap, ◌∙◌}
use mathlib.Core.Bool.{cond}
use mathlib.Core.List.{List, [], ◌∷◌, ◌++◌, map}
use lib.Dec.{eqb}
use lib.ListN.{get_or, replicate}
use Rattle.rules.specs.State.{power_reset}
use Rattle.rules.specs.Examples.{bytes_of}
use Rattle.rules.specs.Step.{after, answers}
use Rattle.rules.proofs.Computes.{computes}
use Rattle.stackhost.specs.StackCalls.{StackCall, stack_called}
use Rattle.image.specs.Image.{image_of}
use Rattle.image.specs.Layout.{pointer_place, stack_bytes_place}
use Rattle.host.specs.ImageCalls.{ImageCall, image_called}
use Rattle.apart.specs.Turns.{Kept, Turn, kept_after, Turns, kept_last, kept_from, shown, put_in}
use Rattle.apart.proofs.Apart.{zero_image, reset_calls_apart}

-- a turn, by the two contracts
abbrev turn_on : Kept → List ℕ → Turn
turn_on k bytes =
    let c : StackCall = stack_called k.stack k.control bytes (0xFF ∷ []) in
    let r : ImageCall = image_called k.image (cond (eqb c.code 0) (0xC0 ∷ 0 ∷ 0 ∷ 0 ∷ []) bytes) (replicate 16 0xFF) in
    record {
      bytes = bytes;
      lent = 0xFF;
      before = replicate 16 0xFF;
      stack = c.stack;
      control = c.control;
      value = c.value;
      found = c.code;
      image = r.image;
      buffer = r.buffer;
      code = r.code;
    }

abbrev turns_on : Kept → List (List ℕ) → List Turn
turns_on k [] = []
turns_on k (bytes ∷ more) = turn_on k bytes ∷ turns_on (kept_after (turn_on k bytes)) more

turns_made : (k : Kept) (records : List (List ℕ)) → Turns k (turns_on k records)
turns_made k [] = tt
turns_made k (bytes ∷ more) = (
  record { size = refl; stacked = refl; stepped = record { image = refl; buffer = refl; code = refl } },
  turns_made (kept_after (turn_on k bytes)) more,
)

-- 353h with the pointer 5, ABh to 35Dh, the pointer 5 again; 35Dh reads ABh, and 353h then 6
abbrev touched : List (List ℕ)
touched = map (bytes_of 4) (0x33000005 ∷ 0x3D0000AB ∷ 0x33000005 ∷ 0x5D000000 ∷ 0x53000000 ∷ [])

-- then 352h, two bytes to the port, 8 ticks; power reset; and 353h reads 0
abbrev more : List (List ℕ)
more = touched ++ map (bytes_of 4) (0x32000088 ∷ 0x60004241 ∷ 0xC0000008 ∷ 0x00000000 ∷ 0x53000000 ∷ [])

abbrev expected : List (List ℕ)
expected =
    map (bytes_of 16)
    (0x00000000000000000000000000000000
    ∷ 0x00000000000000000000000000000000
    ∷ 0x00000000000000000000000000000000
    ∷ 0x000000AB000000000000000000000000
    ∷ 0x00000006000000000000000000000000
    ∷ 0x00000000000000000000000000000000
    ∷ 0x00000000000000020000000000000000
    ∷ 0x00000000000000020000000000000000
    ∷ 0x00000000000000000000000000000000
    ∷ 0x00000000000000000000000000000000
    ∷ [])

chip_shows : answers power_reset more ≡ expected
unfolding computes
chip_shows = refl

-- THE BOX SHOWS THEM TOO
pub shown_case : shown (turns_on (kept_from zero_image) more) ≡ expected
shown_case = (reset_calls_apart (turns_on (kept_from zero_image) more) (turns_made (kept_from zero_image) more)).answered ∙ chip_shows

-- what is kept after the first five, put in one, holds ABh in place 5 and the pointer 6
abbrev two_bytes : List ℕ → List ℕ
two_bytes m = get_or m (stack_bytes_place + 5) 0 ∷ get_or m pointer_place 0 ∷ []

pub put_case :
    two_bytes (put_in (kept_last (kept_from zero_image) (turns_on (kept_from zero_image) touched))) ≡ 0xAB ∷ 6 ∷ []
put_case =
    ap two_bytes
    (reset_calls_apart (turns_on (kept_from zero_image) touched) (turns_made (kept_from zero_image) touched)).image
    ∙ held
  where
    held : two_bytes (image_of (after power_reset touched)) ≡ 0xAB ∷ 6 ∷ []
    held = unfold computes image_of in refl
