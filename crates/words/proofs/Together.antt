-- Two laws of settling: it adds to what was counted before it, and turns that are the same settle the same.
use mathlib.Core.Path.{◌≡◌, refl}
use mathlib.Core.Bool.{Bool, true, false, cond}
use mathlib.Core.List.{append_assoc}
use Prim.Native.Nat.{ℕ, zero, suc}
use native.Mathlib.Nat.{add_assoc}
use Rattle.rules.specs.StepC.{Settling, can_move, move, can_handshake, handshake, turn, settle}
use Rattle.rules.specs.declared.chip.Conditions.{Conditions}
use Rattle.words.specs.Blocks.{together}

-- settling adds to what was counted before it: it looks at the data path alone
module _ (c : Conditions) (a : Settling) where
  together_move : (s : Settling) → move c (together a s) ≡ together a (move c s)
  unfolding move
  together_move s = rw add_assoc

  together_handshake : (s : Settling) → handshake c (together a s) ≡ together a (handshake c s)
  unfolding handshake
  together_handshake s = go c.outbound refl
    where
      go : (o : Bool) → c.outbound ≡ o → handshake c (together a s) ≡ together a (handshake c s)
      go true o = rw (o, add_assoc, append_assoc)
      go false o = rw (o, add_assoc)

  together_turn : (s : Settling) → turn c (together a s) ≡ together a (turn c s)
  unfolding turn
  together_turn s = go (can_move c s.transfer) (can_handshake c s.transfer)
    where
      go : (m h : Bool) → cond m (move c (together a s)) (cond h (handshake c (together a s)) (together a s))
          ≡ together a (cond m (move c s) (cond h (handshake c s) s))
      go true h = together_move s
      go false true = together_handshake s
      go false false = refl

  pub together_settle : (n : ℕ) (s : Settling) → settle c n (together a s) ≡ together a (settle c n s)
  unfolding settle
  together_settle zero s = refl
  together_settle (suc n) s = rw (together_turn s) (together_settle n (turn c s))

-- conditions under which each turn is the same
pub settle_same : (c d : Conditions) → ((s : Settling) → turn d s ≡ turn c s) → (n : ℕ) (s : Settling) → settle d n s ≡ settle c n s
unfolding settle
settle_same c d e zero s = refl
settle_same c d e (suc n) s = rw (e s) (settle_same c d e n (turn c s))
