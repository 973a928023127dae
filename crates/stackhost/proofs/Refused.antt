-- The two ways in which a call is refused, and the one in which it is done, over the test of the lengths and what the record asks.
use Rattle.std.specs.Prelude.{Option, Some, None}
use Prim.Native.Nat.{ℕ}
use mathlib.Core.Path.{◌≡◌, refl, ap, sym, ◌∙◌}
use mathlib.Core.Bool.{Bool, true, false, not, ◌&&◌, cond}
use mathlib.Core.List.{List}
use borrow.Author.Tests.{eqb-true}
use lib.Dec.{eqb}
use lib.ListN.{length}
use Rattle.rules.specs.Records.{decode}
use Rattle.rules.proofs.Logic.{never}
use Rattle.stack.specs.Box.{doing}
use Rattle.stack.specs.declared.lent.Access.{Access}
use Rattle.stackhost.specs.StackCalls.{StackCall, found_in, call_refused, call_done, call_of, stack_called}

module _ (stack control event value : List ℕ) where
  -- the three lengths
  abbrev pub fits : Bool
  fits = (eqb (length stack) 33 && eqb (length control) 1) && eqb (length value) 1

  unfit : (b : Bool) (x y : StackCall) → not b ≡ true → y ≡ cond b x y
  unfit true x y e = absurd (never e)
  unfit false x y e = refl

  fit : (b : Bool) (x y : StackCall) → not b ≡ false → x ≡ cond b x y
  fit true x y e = refl
  fit false x y e = absurd (never (sym e))

  pub wrong_length : not fits ≡ true → call_refused stack control value ≡ stack_called stack control event value
  unfolding stack_called
  wrong_length e = unfit fits (call_of (found_in (doing (decode event))) stack control value) _ e

  asks : (f : Option Access) → f ≡ found_in (doing (decode event)) → not fits ≡ false → call_of f stack control value ≡ stack_called stack control event value
  unfolding stack_called
  asks f a e = ap (λ (x : Option Access). call_of x stack control value) a ∙ fit fits _ (call_refused stack control value) e

  pub for_the_step : (f : Option Access) → f ≡ None → f ≡ found_in (doing (decode event)) → not fits ≡ false → call_refused stack control value ≡ stack_called stack control event value
  for_the_step f h a e = ap (λ (x : Option Access). call_of x stack control value) (sym h) ∙ asks f a e

  pub for_the_stack : (f : Option Access) (a : Access) → f ≡ Some a → f ≡ found_in (doing (decode event)) → not fits ≡ false → call_done a stack control ≡ stack_called stack control event value
  for_the_stack f a h g e = ap (λ (x : Option Access). call_of x stack control value) (sym h) ∙ asks f g e

  -- what the test tells
  split : (a b c : Bool) → not ((a && b) && c) ≡ false → (a ≡ true) × (b ≡ true) × (c ≡ true)
  split true true true e = (refl, refl, refl)
  split false b c e = absurd (never (sym e))
  split true false c e = absurd (never (sym e))
  split true true false e = absurd (never (sym e))

  pub lengths : not fits ≡ false → (length stack ≡ 33) × (length control ≡ 1) × (length value ≡ 1)
  lengths e =
      let t = split (eqb (length stack) 33) (eqb (length control) 1) (eqb (length value) 1) e in
      (eqb-true (length stack) 33 t.0, eqb-true (length control) 1 t.1, eqb-true (length value) 1 t.2)
