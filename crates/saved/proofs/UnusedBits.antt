-- THE BITS THAT AN IMAGE USES, byte by byte of the head: docs/IMAGE.md has the same table in words.
use Prim.Native.Nat.{ℕ, zero, suc, ◌-◌, ◌^◌, ◌≤◌, ◌<◌}
use mathlib.Core.Path.{◌≡◌, refl}
use mathlib.Core.Bool.{Bool, true, false, not, ◌&&◌, ◌||◌}
use mathlib.Core.List.{List, [], ◌∷◌}
use native.Mathlib.Omega.{arith}
use borrow.Author.Tests.{le-leb, eqb-true}
use lib.Bits.{bit_and, and_zero_r}
use lib.Dec.{T, eqb, leb, ltb}
use lib.ListN.{get_or, set, replicate}
use Rattle.rules.specs.Numbers.{byte_of}
use Rattle.rules.specs.Ranges.{Bytes}
use Rattle.rules.specs.Registers.{sxfrctl0_of, sxfrctl0_byte, sxfrctl1_of, sxfrctl1_byte, scsirate_of, scsiid_of, simode0_of, simode0_byte, dmacntrl0_of, dmacntrl0_byte, dmacntrl1_of, dmacntrl1_byte}
use Rattle.rules.proofs.Computes.{computes}
use Rattle.rules.proofs.Ranges.{bytes_at}
use Rattle.laws.proofs.Tables.{below, below_at, each, in_range}
use Rattle.image.specs.Image.{scsirate_byte, scsiid_byte, latches_of, latches_byte, image_of, state_at, IsImage}
use Rattle.image.specs.Layout.{image_size}
use Rattle.saved.specs.Accepted.{same_bytes, counts_fit, unused_clear, accepted}
use Rattle.saved.specs.Tests.{registers_tests, registers_clear, others_tests, others_clear}
use Rattle.saved.proofs.Truth.{all_at}
use Rattle.saved.proofs.Acceptance.{image_fitting, accepted_acceptable}
use Rattle.saved.proofs.Packing.{image_registers, image_others}

-- THE TABLE: bits 7 to 0 of each byte as a number, a bit 0 where docs/IMAGE.md has a dash, or where the bound of a number leaves it 0
abbrev pub used_bits : List ℕ
used_bits =
    0xFF ∷ 0xE8 ∷ 0xFE ∷ 0xFF ∷ 0x7F ∷ 0x77 ∷ 0xFF ∷ 0x7F ∷ 0xFF ∷ 0xFD ∷ 0xC0 ∷ 0xFF
    ∷ 0xFF ∷ 0x3F ∷ 0xFF ∷ 0x03 ∷ 0xFF
    ∷ 0x0F ∷ 0x01 ∷ 0xFF ∷ 0x0F ∷ 0x1F ∷ 0x1F ∷ 0x01
    ∷ 0xFF ∷ 0x0F ∷ 0xFF ∷ 0xFF ∷ 0xFF ∷ 0xFF
    ∷ 0x0F ∷ 0xFF ∷ 0xFF ∷ 0xFF ∷ 0xFF ∷ []

-- power reset with one bit more, and whether the bytes are then those of a chip
unfoldable pub one_bit : ℕ → ℕ → List ℕ
one_bit place k = set (replicate image_size 0) place (2 ^ k)

unfoldable pub may_be : ℕ → ℕ → Bool
may_be place k = counts_fit (one_bit place k) && unused_clear (one_bit place k)

unfoldable pub may_be_from : ℕ → ℕ → List ℕ
may_be_from zero p = []
may_be_from (suc n) p =
    byte_of (may_be p 7) (may_be p 6) (may_be p 5) (may_be p 4) (may_be p 3) (may_be p 2) (may_be p 1) (may_be p 0) ∷ may_be_from n (suc p)

-- EACH BIT OF THE TABLE MAY BE 1, AND NO OTHER, computed at each byte of the head and each of its bits
pub used_bits_lem : may_be_from 35 0 ≡ used_bits
unfolding computes image_of state_at same_bytes counts_fit unused_clear one_bit may_be may_be_from
used_bits_lem = refl

-- a test that is true only of bytes without the bits of a mask, computed at each byte
both_ways : (a b : Bool) → T (not a || b) → a ≡ true → b ≡ true
both_ways true true t e = refl
both_ways true false t e = absurd t
both_ways false true t e = refl
both_ways false false t e = e

without : (f : ℕ → Bool) (mask : ℕ) → T (below (λ (v : ℕ). not (f v) || eqb (bit_and v mask) 0) 256) → (v : ℕ) → v < 256 → f v ≡ true → bit_and v mask ≡ 0
without f mask t v h e =
    eqb-true (bit_and v mask) 0 (both_ways (f v) (eqb (bit_and v mask) 0) (below_at (λ (n : ℕ). not (f n) || eqb (bit_and n mask) 0) 256 t v h) e)

-- one and the others
infixr 4 ◌⨾◌
abbrev ◌⨾◌ : {A B : Type 0} → A → B → A × B
x ⨾ y = (x, y)

-- A BYTE OF AN ACCEPTED IMAGE HAS NO BIT THAT THE TABLE HAS NOT
module _ (m : List ℕ) (b : Bytes m) (e : accepted m ≡ true) where
  abbrev Clear : ℕ → Type 0
  Clear p = bit_and (get_or m p 0) (255 - get_or used_bits p 0) ≡ 0

  at : (k : ℕ) → get_or m k 0 < 256
  at k = bytes_at m k b

  image : IsImage m
  image = (accepted_acceptable m b e).image

  whole : (p : ℕ) → bit_and (get_or m p 0) 0 ≡ 0
  whole p = and_zero_r (get_or m p 0)

  register : (k : ℕ) → get_or (registers_tests m) k true ≡ true
  unfolding registers_clear
  register k = all_at (registers_tests m) (image_registers m image) k

  other : (k : ℕ) → get_or (others_tests m) k true ≡ true
  unfolding others_clear
  other k = all_at (others_tests m) (image_others m image) k

  few : (p : ℕ) → get_or m p 0 ≤ 8 → bit_and (get_or m p 0) 0xF0 ≡ 0
  few p h = without (λ (v : ℕ). leb v 8) 0xF0 tt (get_or m p 0) (at p) (le-leb _ 8 h)

  every : each Clear 35 0
  every =
      let f = image_fitting image in
      whole 0
      ⨾ without (λ (v : ℕ). eqb (sxfrctl0_byte (sxfrctl0_of v)) v) 0x17 tt _ (at 1) (register 0)
      ⨾ without (λ (v : ℕ). eqb (sxfrctl1_byte (sxfrctl1_of v)) v) 0x01 tt _ (at 2) (register 1)
      ⨾ whole 3
      ⨾ without (λ (v : ℕ). eqb (scsirate_byte (scsirate_of v)) v) 0x80 tt _ (at 4) (register 2)
      ⨾ without (λ (v : ℕ). eqb (scsiid_byte (scsiid_of v)) v) 0x88 tt _ (at 5) (register 3)
      ⨾ whole 6
      ⨾ without (λ (v : ℕ). eqb (simode0_byte (simode0_of v)) v) 0x80 tt _ (at 7) (register 4)
      ⨾ whole 8
      ⨾ without (λ (v : ℕ). eqb (dmacntrl0_byte (dmacntrl0_of v)) v) 0x02 tt _ (at 9) (register 5)
      ⨾ without (λ (v : ℕ). eqb (dmacntrl1_byte (dmacntrl1_of v) 0) v) 0x3F tt _ (at 10) (register 6)
      ⨾ whole 11
      ⨾ whole 12
      ⨾ without (λ (v : ℕ). eqb (latches_byte (latches_of v)) v) 0xC0 tt _ (at 13) (other 0)
      ⨾ whole 14
      ⨾ without (λ (v : ℕ). ltb v 4) 0xFC tt _ (at 15) (other 2)
      ⨾ whole 16
      ⨾ few 17 f.offset
      ⨾ without (λ (v : ℕ). ltb v 2) 0xFE tt _ (at 18) (other 3)
      ⨾ whole 19
      ⨾ few 20 f.quiet
      ⨾ without (λ (v : ℕ). ltb v 32) 0xE0 tt _ (at 21) (other 5)
      ⨾ without (λ (v : ℕ). ltb v 32) 0xE0 tt _ (at 22) (other 6)
      ⨾ without (λ (v : ℕ). ltb v 2) 0xFE tt _ (at 23) (other 4)
      ⨾ whole 24
      ⨾ without (λ (v : ℕ). ltb v 16) 0xF0 tt _ (at 25) (other 1)
      ⨾ whole 26
      ⨾ whole 27
      ⨾ whole 28
      ⨾ whole 29
      ⨾ few 30 f.scsi
      ⨾ whole 31
      ⨾ whole 32
      ⨾ whole 33
      ⨾ whole 34
      ⨾ tt

  pub unused_clear_lem : (p : ℕ) → p < 35 → bit_and (get_or m p 0) (255 - get_or used_bits p 0) ≡ 0
  unused_clear_lem p h = in_range Clear 35 0 every p (omega arith) h
