-- The tests for a move and a handshake, as the code has them.
use Prim.Native.Nat.{ℕ}
use mathlib.Core.Path.{◌≡◌, refl, sym, ap, ◌∙◌}
use mathlib.Core.Bool.{Bool, true, false, not, ◌&&◌, cond}
use lib.Dec.{ltb}
use lib.ListN.{length}
use Rattle.rules.specs.State.{State, Transfer}
use Rattle.rules.specs.Seen.{matched, path}
use Rattle.rules.specs.StepC.{conditions, can_move, can_synchronous, can_asynchronous, can_handshake}
use Rattle.rules.specs.declared.chip.Conditions.{Conditions}
use Rattle.rules.proofs.Logic.{never}
use Rattle.settling.specs.Looks.{looked_at}
use Rattle.saved.specs.Tests.{settled}

module _ (c : Conditions) (t : Transfer) {host scsi : ℕ} (h : host ≡ length t.host) (s : scsi ≡ length t.scsi) where
  pub move_out : c.outbound ≡ true → (c.path && (ltb 0 host && ltb scsi 8)) ≡ can_move c t
  unfolding can_move
  move_out e = λ i. c.path && cond (sym e i) (ltb 0 (h i) && ltb (s i) 8) (ltb 0 (s i) && ltb (h i) 128)

  pub move_in : c.outbound ≡ false → (c.path && (ltb 0 scsi && ltb host 128)) ≡ can_move c t
  unfolding can_move
  move_in e = λ i. c.path && cond (sym e i) (ltb 0 (h i) && ltb (s i) 8) (ltb 0 (s i) && ltb (h i) 128)

-- the byte that a handshake stores does not tell whether it is possible
same_tests : (s : State) → (not (can_move (looked_at s) s.transfer) && not (can_handshake (looked_at s) s.transfer)) ≡ settled s
unfolding settled looked_at can_move can_handshake can_synchronous can_asynchronous
same_tests s = refl

pub looked_settled : (s : State) {c : Conditions} {x y : Bool} → c ≡ looked_at s → x ≡ can_move c s.transfer → y ≡ can_handshake c s.transfer → (not x && not y) ≡ settled s
looked_settled s e f g =
    (λ i. not (f i) && not (g i)) ∙ ap (λ (c : Conditions). not (can_move c s.transfer) && not (can_handshake c s.transfer)) e ∙ same_tests s

-- without a path neither is possible
neither : (p b k x y : Bool) → p ≡ false → true ≡ (not (p && x) && not ((b && p && k) && y))
neither true b k x y e = absurd (never (sym e))
neither false true k x y e = refl
neither false false k x y e = refl

pub pathless_settled : (s : State) → path s.registers ≡ false → true ≡ settled s
unfolding settled conditions can_move can_handshake
pathless_settled s e = neither (path s.registers) s.registers.sxfrctl0.scsien (matched s) _ _ e
