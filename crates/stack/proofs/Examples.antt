-- A box that holds the stack apart, worked through: what is put at place 15 is found there, the pointer goes on to 16 with ENSTK32 and to 0
-- without it, 353h reads back, another record goes to the step, and power reset zeroes all.
use Prim.Native.Nat.{ℕ}
use mathlib.Core.Path.{◌≡◌, refl}
use mathlib.Core.List.{List, [], ◌∷◌}
use Rattle.rules.proofs.Computes.{computes}
use Rattle.rules.specs.Chips.{stack_view}
use Rattle.stack.specs.Accesses.{stack_accessed}
use Rattle.stack.specs.Box.{doing_event, doing, boxed, box_answer, box_answers, box_reset}

-- the answer of an access in a chip that shows nothing else
abbrev shows : ℕ → List ℕ
shows v = 0 ∷ 0 ∷ 0 ∷ v ∷ 0 ∷ 0 ∷ 0 ∷ 0 ∷ 0 ∷ 0 ∷ 0 ∷ 0 ∷ 0 ∷ 0 ∷ 0 ∷ 0 ∷ []

abbrev record4 : ℕ → ℕ → List ℕ
record4 first byte = first ∷ 0 ∷ 0 ∷ byte ∷ []

pub worked :
    box_answers box_reset
    (record4 0x33 0x4F  -- 353h: ENSTK32, pointer 15
    ∷ record4 0x3D 0xAA  -- 35Dh: AAh to place 15
    ∷ record4 0x53 0  -- 353h reads ENSTK32 and 16
    ∷ record4 0x33 0x0F  -- 353h: no ENSTK32, pointer 15
    ∷ record4 0x5D 0  -- 35Dh: AAh
    ∷ record4 0x53 0  -- 353h reads 0
    ∷ record4 0x5C 0  -- 35Ch: 1, for the step
    ∷ record4 0x00 0  -- power reset
    ∷ record4 0x33 0x0F  -- pointer 15
    ∷ record4 0x5D 0  -- 0
    ∷ [])
    ≡ shows 0 ∷ shows 0 ∷ shows 0x50 ∷ shows 0 ∷ shows 0xAA ∷ shows 0 ∷ shows 1 ∷ shows 0 ∷ shows 0 ∷ shows 0 ∷ []
unfolding computes stack_view stack_accessed doing_event doing boxed box_answer
worked = refl
