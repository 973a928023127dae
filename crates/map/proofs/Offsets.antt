-- The table of registers at every offset: what stands at an offset names that offset, and past the table there is nothing.
use Rattle.std.specs.Prelude.{Option, Some, None}
use Prim.Native.Nat.{ℕ, ◌≤◌}
use mathlib.Core.Path.{◌≡◌, refl, subst}
use mathlib.Core.Bool.{Bool, true, false}
use borrow.Author.Tests.{ltb-true, ltb-false}
use lib.Dec.{T, eqb, ltb, eqb→eq}
use lib.ListN.{get_or-eq_default}
use Rattle.rules.specs.Map.{table, nothing, read_at, written_at, offset_of}
use Rattle.rules.specs.declared.map.Register.{Register}
use Rattle.laws.proofs.Tables.{below, below_at}
use Rattle.map.specs.Directions.{mapped_at}

-- past the table
pub past : (write : Bool) (offset : ℕ) → 32 ≤ offset → mapped_at write offset ≡ None
unfolding table read_at written_at
past true offset h = rw (get_or-eq_default table nothing {n = offset} h)
past false offset h = rw (get_or-eq_default table nothing {n = offset} h)

-- the test that is computed at each entry: a register there has that offset
abbrev placed : ℕ → Option Register → Bool
placed offset (Some r) = eqb offset (offset_of r)
placed offset None = true

computed : (write : Bool) → T (below (λ (offset : ℕ). placed offset (mapped_at write offset)) 32)
unfolding table read_at written_at
computed true = tt
computed false = tt

everywhere : (write : Bool) (offset : ℕ) (b : Bool) → ltb offset 32 ≡ b → T (placed offset (mapped_at write offset))
everywhere write offset true e =
    below_at (λ (offset : ℕ). placed offset (mapped_at write offset)) 32 (computed write) offset (ltb-true offset 32 e)
everywhere write offset false e = rw (past write offset (ltb-false offset 32 e)) tt

-- a register that an access finds has the offset of the access
pub mapped_offset : (write : Bool) (offset : ℕ) (r : Register) → mapped_at write offset ≡ Some r → offset ≡ offset_of r
mapped_offset write offset r e =
    eqb→eq offset (offset_of r) (subst (λ (m : Option Register). T (placed offset m)) e (everywhere write offset (ltb offset 32) refl))

pub read_offset : (offset : ℕ) (r : Register) → read_at offset ≡ Some r → offset ≡ offset_of r
read_offset = mapped_offset false

pub written_offset : (offset : ℕ) (r : Register) → written_at offset ≡ Some r → offset ≡ offset_of r
written_offset = mapped_offset true
