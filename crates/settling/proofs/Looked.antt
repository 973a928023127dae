-- Settling with the byte of the lines is settling with the byte seen.
use Prim.Native.Nat.{ℕ, zero, suc}
use mathlib.Core.Path.{◌≡◌, refl, sym, ap, ◌∙◌}
use mathlib.Core.Bool.{Bool, true, false, not, ◌&&◌, cond, beq}
use Rattle.rules.specs.State.{State}
use Rattle.rules.specs.Seen.{normal, connected, matched, path}
use Rattle.rules.specs.StepC.{Settling, conditions, can_move, move, can_synchronous, can_asynchronous, can_handshake, handshake, turn, settle}
use Rattle.rules.specs.declared.chip.Conditions.{Conditions}
use Rattle.rules.proofs.Driving.{inbound_data}
use Rattle.rules.proofs.Logic.{never, left_true, right_true}
use Rattle.settling.specs.Looks.{with_byte, looked_at}

chosen : (a h : Bool) (p q r s : Settling) → (h ≡ true → q ≡ r) → cond a p (cond h q s) ≡ cond a p (cond h r s)
chosen true h p q r s e = refl
chosen false true p q r s e = e refl
chosen false false p q r s e = refl

-- another byte, that matters only where a handshake stores it
module _ (b : ℕ) (c : Conditions) (k : c.enabled ≡ true → c.outbound ≡ false → b ≡ c.byte) where
  shake_same : (x : Settling) → can_handshake c x.transfer ≡ true → handshake (with_byte b c) x ≡ handshake c x
  unfolding handshake can_handshake
  shake_same x h = go c.outbound refl
    where
      go : (o : Bool) → c.outbound ≡ o → handshake (with_byte b c) x ≡ handshake c x
      go true o = rw o
      go false o = ap (λ (n : ℕ). handshake (with_byte n c) x) (k (left_true c.enabled _ h) o)

  turn_same : (x : Settling) → turn (with_byte b c) x ≡ turn c x
  unfolding turn can_move can_handshake can_synchronous can_asynchronous move
  turn_same x =
      chosen (can_move c x.transfer) (can_handshake c x.transfer) (move c x) (handshake (with_byte b c) x) (handshake c x) x (shake_same x)

  settle_same : (n : ℕ) (x : Settling) → settle (with_byte b c) n x ≡ settle c n x
  unfolding settle
  settle_same zero x = refl
  settle_same (suc n) x = ap (settle (with_byte b c) n) (turn_same x) ∙ settle_same n (turn c x)

differ : (w i : Bool) → w ≡ false → not (beq w i) ≡ true → i ≡ true
differ w true e h = refl
differ true false e h = absurd (never (sym e))
differ false false e h = h

agree : (a b : Bool) → b ≡ true → beq a b ≡ true → a ≡ true
agree true b e h = refl
agree false true e h = h
agree false false e h = e

-- inbound in the phase expected the chip is connected and IO is seen
module _ (s : State) where
  io_seen_lem : path s.registers ≡ true → matched s ≡ true → s.registers.dmacntrl0.write ≡ false → s.lines.io ≡ true
  unfolding path matched
  io_seen_lem p m w =
      let g = s.registers.scsisig in
      agree s.lines.io g.ioexp (differ s.registers.dmacntrl0.write g.ioexp w (right_true (normal s.registers) _ p))
      (right_true (connected s && beq s.lines.cd g.cdexp) _ (left_true _ (beq s.lines.msg g.msgexp) m))

  joined : matched s ≡ true → connected s ≡ true
  unfolding matched
  joined m =
      left_true (connected s) _ (left_true (connected s && beq s.lines.cd s.registers.scsisig.cdexp) _ (left_true _ (beq s.lines.msg s.registers.scsisig.msgexp) m))

pub looked_ends : (s : State) (n : ℕ) (x : Settling) → settle (looked_at s) n x ≡ settle (conditions s) n x
unfolding looked_at conditions
looked_ends s n x =
    settle_same s.lines.byte (conditions s)
    (λ e o.
    sym (inbound_data s (joined s (right_true (s.registers.sxfrctl0.scsien && path s.registers) (matched s) e))
    (io_seen_lem s (right_true s.registers.sxfrctl0.scsien _ (left_true _ (matched s) e))
    (right_true (s.registers.sxfrctl0.scsien && path s.registers) (matched s) e) o)))
    n x
