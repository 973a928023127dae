-- The last arm of the match on what a write finds: the registers that no write finds.
use Rattle.std.specs.Prelude.{Option, Some, None}
use Prim.Native.Nat.{ℕ}
use mathlib.Core.Path.{◌≡◌, refl, subst}
use mathlib.Core.Bool.{Bool, true, false, not}
use mathlib.Core.List.{List, [], ◌∷◌}
use borrow.Author.Tests.{ltb-true, ltb-false}
use lib.Dec.{T, ltb}
use mir.Val.{has_key}
use types.Run.{OneOf, miss}
use denote.Enum.Declared.{tag_of}
use Rattle.rules.specs.Map.{table, written_at, offset_of}
use Rattle.rules.specs.declared.map.Register.{Register}
use Rattle.rules.specs.contracts.map.Register as register
use Rattle.laws.proofs.Tables.{below, below_at}
use Rattle.map.proofs.Offsets.{past}
use Rattle.writes.specs.WrittenRegister.{Written}

-- the numbers of the registers that are only read
abbrev unwritable : List ℕ
unwritable = 3 ∷ 6 ∷ 9 ∷ 13 ∷ 15 ∷ 17 ∷ 18 ∷ 20 ∷ 26 ∷ 27 ∷ 30 ∷ 33 ∷ []

-- the test that is computed at each offset
abbrev writable : Option Register → Bool
writable (Some r) = not (has_key unwritable (tag_of register.the_type r))
writable None = true

computed : T (below (λ (offset : ℕ). writable (written_at offset)) 32)
unfolding table written_at
computed = tt

everywhere : (offset : ℕ) (b : Bool) → ltb offset 32 ≡ b → T (writable (written_at offset))
everywhere offset true e = below_at (λ (offset : ℕ). writable (written_at offset)) 32 computed offset (ltb-true offset 32 e)
everywhere offset false e = rw (past true offset (ltb-false offset 32 e)) tt

pub never_written : (r : Register) → Written r → OneOf unwritable (tag_of register.the_type r) → ⊥
never_written r w h =
    miss unwritable (tag_of register.the_type r) (subst (λ (m : Option Register). T (writable m)) w (everywhere (offset_of r) (ltb (offset_of r) 32) refl)) h
