-- The last arm of a match on a register knows only the numbers of the registers that are left.
use Prim.Native.Nat.{ℕ}
use mathlib.Core.Path.{◌≡◌, subst}
use mathlib.Core.Bool.{not}
use mathlib.Core.List.{List}
use lib.Dec.{T}
use mir.Val.{has_key}
use types.Run.{OneOf, miss}
use denote.Enum.Declared.{tag_of}
use Rattle.rules.specs.declared.map.Register.{Register}
use Rattle.rules.specs.contracts.map.Register as register

-- a register that is left is none of the others
pub other : (ks : List ℕ) (r k : Register) → OneOf ks (tag_of register.the_type r) → T (not (has_key ks (tag_of register.the_type k))) → r ≡ k → ⊥
other ks r k h t e = miss ks (tag_of register.the_type k) t (subst (λ (x : Register). OneOf ks (tag_of register.the_type x)) e h)
