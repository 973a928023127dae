-- The code of a write, by its offset and, at the test registers, its value.
use Rattle.std.specs.Prelude.{None}
use Prim.Native.Nat.{ℕ, ◌+◌, ◌<◌, ◌≤◌}
use mathlib.Core.Path.{◌≡◌, refl, sym, ◌∙◌}
use mathlib.Core.Bool.{true, false, not, ◌&&◌, ◌||◌}
use mathlib.Core.List.{List}
use native.Mathlib.Omega.{arith}
use borrow.Author.Tests.{eq-eqb, ne_eqb}
use lib.Dec.{eqb, ltb}
use lib.ListN.{length}
use Rattle.rules.specs.Map.{written_at}
use Rattle.rules.specs.State.{State}
use Rattle.rules.specs.Codes.{access_code, is_refusal, mapped_code}
use Rattle.rules.specs.declared.codes.Code.TheVariants.{Done, TestValue}
use Rattle.rules.specs.declared.records.Event.TheVariants.{Write}
use Rattle.image.specs.Image.{state_at, IsImage}
use Rattle.effects.specs.CodeBy.{shut_to, first_of}
use Rattle.effects.specs.Writes.{Leaving, kept}
use Rattle.effects.proofs.Accesses as accesses
use Rattle.effects.proofs.Coding.{code_is}

pub write_code : (s : State) (o v : ℕ) → length s.transfer.host ≤ 128 → access_code s (Write o v) ≡ first_of (is_refusal (mapped_code (written_at o))) ((eqb o 0x0E || eqb o 0x1E) && not (eqb v 0)) (eqb o 0x16 && shut_to s.registers.dmacntrl0 false false) (eqb o 0x16 && ltb 128 (length s.transfer.host + 1)) false
write_code s o v h = sym (code_is s (Write o v)) ∙ sym (accesses.written s.registers.dmacntrl0 (length s.transfer.host) h o v)

-- the two test registers, which store nothing
pub record Test (o : ℕ) : Type 0 where
  pub found : is_refusal (mapped_code (written_at o)) ≡ false
  pub named : (eqb o 0x0E || eqb o 0x1E) ≡ true
  pub apart : eqb o 0x16 ≡ false
  pub fits : o < 32
  pub after : Leaving o (λ (s : State) (v : ℕ). kept s)

pub scsitest : Test 0x0E
unfolding Leaving
scsitest = record { found = refl; named = refl; apart = refl; fits = omega arith; after = λ s v. refl }

pub test : Test 0x1E
unfolding Leaving
test = record { found = refl; named = refl; apart = refl; fits = omega arith; after = λ s v. refl }

module _ {m : List ℕ} (g : IsImage m) (v : ℕ) where
  abbrev s : State
  s = state_at m

  pub absent : (o : ℕ) → written_at o ≡ None → access_code s (Write o v) ≡ mapped_code None
  absent o h = write_code s o v g.range.transfer.host ∙ rw h

  module _ {o : ℕ} (t : Test o) where
    pub test_refused : (v ≡ 0 → ⊥) → access_code s (Write o v) ≡ TestValue
    test_refused h = write_code s o v g.range.transfer.host ∙ rw (t.found, t.named, ne_eqb v 0 h)

    pub test_done : v ≡ 0 → access_code s (Write o v) ≡ Done
    test_done h = write_code s o v g.range.transfer.host ∙ rw (t.found, t.named, t.apart, eq-eqb v 0 h)
