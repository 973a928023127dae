-- A register that is only written reads 0.
use Prim.Native.Nat.{ℕ}
use mathlib.Core.Path.{◌≡◌, refl}
use mathlib.Core.List.{[], ◌∷◌}
use mathlib.Core.Logic.{⊎_elim}
use types.Run.{OneOf}
use denote.Enum.Declared.{tag_of}
use borrow.Enum.Known.{ValuesAt, at, lives_at}
use Rattle.rules.specs.State.{State}
use Rattle.rules.specs.Reads.{read_of}
use Rattle.rules.specs.declared.map.Register.{Register}
use Rattle.rules.specs.contracts.map.Register as register

module _ (s : State) (r : Register) where
  named : (k : ℕ) → ((v : ValuesAt register.the_parts k) → 0 ≡ read_of s (at register.enum k v)) → tag_of register.the_type r ≡ k → 0 ≡ read_of s r
  named k z e =
      let l = lives_at register.enum r k e in
      rw l.1 (z l.0)

  -- SCSISIGO, SCSIRATE, SCSIID, CLRSINT0, CLRSINT1, SCSITEST, CLRSERR, TEST by their places among the registers
  pub unread : OneOf (4 ∷ 5 ∷ 7 ∷ 14 ∷ 16 ∷ 19 ∷ 21 ∷ 32 ∷ []) (tag_of register.the_type r) → 0 ≡ read_of s r
  unfolding read_of
  unread = ⊎_elim (named 4 (λ v. refl)) (⊎_elim (named 5 (λ v. refl)) (⊎_elim (named 7 (λ v. refl)) (⊎_elim (named 14 (λ v. refl)) (⊎_elim (named 16 (λ v. refl)) (⊎_elim (named 19 (λ v. refl)) (⊎_elim (named 21 (λ v. refl)) (named 32 (λ v. refl))))))))
