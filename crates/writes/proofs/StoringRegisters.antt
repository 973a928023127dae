-- A write that finds none of the storing registers stores nothing, and none of five leaves the sequencer.
use Rattle.std.specs.Prelude.{Option, Some, None}
use Prim.Native.Nat.{ℕ}
use mathlib.Core.Path.{◌≡◌, refl, ap, sym, ◌∙◌}
use mathlib.Core.Bool.{false, not}
use mathlib.Core.List.{List, [], ◌∷◌}
use native.Mathlib.Omega.{arith}
use lib.Dec.{T, eqb}
use mir.Val.{has_key}
use borrow.Author.Tests.{ne_eqb}
use types.Run.{OneOf}
use denote.Enum.Declared.{tag_of}
use Rattle.rules.specs.Map.{table, written_at, offset_of}
use Rattle.rules.specs.Events.{writes, value_of}
use Rattle.rules.specs.State.{State}
use Rattle.rules.specs.StepA.{registers_a, clears, clears_latch, gives_up, selection_a, noted_a, selection_latches_a, sequencer_a}
use Rattle.rules.specs.declared.registers.Registers.{Registers}
use Rattle.rules.specs.declared.map.Register.{Register}
use Rattle.rules.specs.declared.map.Register.TheVariants.{SCSISEQ, SXFRCTL0, SXFRCTL1, SCSISIGO, SCSIRATE, SCSIID, SCSIDAT, CLRSINT0, CLRSINT1, SIMODE0, SIMODE1, DMACNTRL0, DMACNTRL1, BRSTCNTRL}
use Rattle.rules.specs.declared.records.Event.TheVariants.{Write}
use Rattle.rules.specs.contracts.map.Register as register
use Rattle.map.proofs.Offsets.{written_offset}
use Rattle.writes.specs.WrittenRegister.{Written}
use Rattle.writes.proofs.Arms.{other}

-- the numbers of the registers that store nothing
abbrev pub plain : List ℕ
plain = 3 ∷ 6 ∷ 9 ∷ 10 ∷ 11 ∷ 12 ∷ 13 ∷ 14 ∷ 15 ∷ 17 ∷ 18 ∷ 19 ∷ 20 ∷ 21 ∷ 26 ∷ 27 ∷ 28 ∷ 30 ∷ 31 ∷ 32 ∷ 33 ∷ []

-- the numbers of those that leave the sequencer
abbrev pub apart : List ℕ
apart = 1 ∷ 2 ∷ 3 ∷ 4 ∷ 5 ∷ 6 ∷ 7 ∷ 8 ∷ 9 ∷ 10 ∷ 11 ∷ 12 ∷ 13 ∷ 15 ∷ 17 ∷ 18 ∷ 19 ∷ 20 ∷ 21 ∷ 24 ∷ 25 ∷ 26 ∷ 27 ∷ 28 ∷ 29 ∷ 30 ∷ 31 ∷ 32 ∷ 33 ∷ []

-- a register with none of the numbers
abbrev pub Outside : List ℕ → Register → Type 0
Outside ks k = T (not (has_key ks (tag_of register.the_type k)))

-- what is found has one of them
abbrev pub Far : List ℕ → Option Register → Type 0
Far ks m = (k : Register) → Outside ks k → m ≡ Some k → ⊥

pub same_register : (r k : Register) → Some r ≡ Some k → r ≡ k
same_register r k e = cc

pub nothing_found : (k : Register) → None ≡ Some k → ⊥
nothing_found k e =
    let z : ◌≡◌ {A = ℕ} 0 1 = cc in
    omega arith

pub far_from : (ks : List ℕ) (r : Register) → OneOf ks (tag_of register.the_type r) → Far ks (Some r)
far_from ks r h k t e = other ks r k h t (same_register r k e)

-- what a write finds is found at its own offset
pub found_written : (o : ℕ) (r : Register) → written_at o ≡ Some r → Written r
found_written o r e = ap written_at (sym (written_offset o r e)) ∙ e

module _ (o v : ℕ) (m : Option Register) (found : written_at o ≡ m) where
  away : (ks : List ℕ) → Far ks m → (k : Register) → Written k → Outside ks k → eqb o (offset_of k) ≡ false
  away ks far k w t = ne_eqb o (offset_of k) (λ (e : o ≡ offset_of k). far k t (sym found ∙ ap written_at e ∙ w))

  pub unstored : (r : Registers) → Far plain m → r ≡ registers_a r (Write o v)
  unfolding registers_a clears writes value_of written_at table
  unstored r far =
      let a = away plain far in
      rw (a SCSISEQ refl tt, a SXFRCTL0 refl tt, a SXFRCTL1 refl tt, a SCSISIGO refl tt, a SCSIRATE refl tt, a SCSIID refl tt, a SCSIDAT refl tt, a CLRSINT1 refl tt, a SIMODE0 refl tt, a SIMODE1 refl tt, a DMACNTRL0 refl tt, a DMACNTRL1 refl tt, a BRSTCNTRL refl tt)

  pub unsequenced : (s : State) → Far apart m → s.sequencer ≡ sequencer_a s.registers s.quiet s.sequencer (Write o v)
  unfolding sequencer_a gives_up selection_a noted_a selection_latches_a clears clears_latch writes value_of written_at table
  unsequenced s far =
      let a = away apart far in
      rw (a SCSISEQ refl tt, a CLRSINT0 refl tt, a CLRSINT1 refl tt, a SIMODE0 refl tt, a SIMODE1 refl tt)
