-- What settling keeps: a property that a move and a handshake keep.
use mathlib.Core.Path.{◌≡◌, refl}
use mathlib.Core.Bool.{Bool, true, false, cond}
use Prim.Native.Nat.{ℕ, zero, suc}
use Rattle.rules.specs.StepC.{Settling, can_move, move, can_handshake, handshake, turn, settle}
use Rattle.rules.specs.declared.chip.Conditions.{Conditions}

module _ (P : Settling → Type 0) (c : Conditions) where
  turn_keeps : (s : Settling) → (can_move c s.transfer ≡ true → P s → P (move c s)) → (can_handshake c s.transfer ≡ true → P s → P (handshake c s)) → P s → P (turn c s)
  unfolding turn
  turn_keeps s a b p = go (can_move c s.transfer) (can_handshake c s.transfer) refl refl
    where
      go : (t u : Bool) → can_move c s.transfer ≡ t → can_handshake c s.transfer ≡ u → P (cond t (move c s) (cond u (handshake c s) s))
      go true u q e = a q p
      go false true q e = b e p
      go false false q e = p

  -- the one law that carries a property through settling
  pub settle_keeps : ((s : Settling) → can_move c s.transfer ≡ true → P s → P (move c s)) → ((s : Settling) → can_handshake c s.transfer ≡ true → P s → P (handshake c s)) → (n : ℕ) (s : Settling) → P s → P (settle c n s)
  unfolding settle
  settle_keeps a b zero s p = p
  settle_keeps a b (suc n) s p = settle_keeps a b n (turn c s) (turn_keeps s (a s) (b s) p)
