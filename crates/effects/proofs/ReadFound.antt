-- A register that a read finds, away from those that a read changes something of.
use Rattle.std.specs.Prelude.{Some}
use Prim.Native.Nat.{ℕ, ◌<◌}
use mathlib.Core.Path.{◌≡◌, refl, ap, sym, ◌∙◌}
use mathlib.Core.Bool.{Bool, true, false, not}
use mathlib.Core.List.{List, [], ◌∷◌}
use lib.Dec.{T, eqb, ltb}
use mir.Val.{has_key}
use types.Run.{OneOf}
use borrow.Author.Tests.{ltb-true, ltb-false, ne_eqb}
use denote.Enum.Declared.{tag_of}
use Rattle.rules.specs.Map.{table, read_at, offset_of}
use Rattle.rules.specs.declared.map.Register.{Register}
use Rattle.rules.specs.declared.map.Register.TheVariants.{SCSIDAT, DMADATA, STACK, ID}
use Rattle.rules.specs.contracts.map.Register as register
use Rattle.map.proofs.Offsets.{past, read_offset}
use Rattle.writes.proofs.Arms.{other}
use Rattle.writes.proofs.StoringRegisters.{same_register, nothing_found}

-- past the table nothing is found
pub found_below : (o : ℕ) (r : Register) → read_at o ≡ Some r → o < 32
found_below o r found = go (ltb o 32) refl
  where
    go : (b : Bool) → ltb o 32 ≡ b → o < 32
    go true e = ltb-true o 32 e
    go false e = absurd (nothing_found r (sym (past false o (ltb-false o 32 e)) ∙ found))

-- what a read finds is found at its own offset
pub found_read : (o : ℕ) (r : Register) → read_at o ≡ Some r → read_at (offset_of r) ≡ Some r
found_read o r e = ap read_at (sym (read_offset o r e)) ∙ e

-- the numbers of the registers that a read leaves as they are
abbrev pub plain : List ℕ
plain = 0 ∷ 1 ∷ 2 ∷ 3 ∷ 4 ∷ 5 ∷ 6 ∷ 7 ∷ 9 ∷ 10 ∷ 11 ∷ 12 ∷ 13 ∷ 14 ∷ 15 ∷ 16 ∷ 17 ∷ 18 ∷ 19 ∷ 20 ∷ 21 ∷ 22 ∷ 23 ∷ 24 ∷ 25 ∷ 26 ∷ 27 ∷ 29 ∷ 30 ∷ 32 ∷ []

module _ (r : Register) (found : read_at (offset_of r) ≡ Some r) (left : OneOf plain (tag_of register.the_type r)) where
  apart : (k : Register) → read_at (offset_of k) ≡ Some k → T (not (has_key plain (tag_of register.the_type k))) → eqb (offset_of r) (offset_of k) ≡ false
  apart k here t = ne_eqb (offset_of r) (offset_of k) (λ (e : offset_of r ≡ offset_of k). other plain r k left t (same_register r k (sym found ∙ ap read_at e ∙ here)))

  pub not_latch : eqb (offset_of r) 0x06 ≡ false
  unfolding read_at table
  not_latch = apart SCSIDAT refl tt

  pub not_port : eqb (offset_of r) 0x16 ≡ false
  unfolding read_at table
  not_port = apart DMADATA refl tt

  pub not_stack : eqb (offset_of r) 0x1D ≡ false
  unfolding read_at table
  not_stack = apart STACK refl tt

  pub not_identity : eqb (offset_of r) 0x1F ≡ false
  unfolding read_at table
  not_identity = apart ID refl tt
