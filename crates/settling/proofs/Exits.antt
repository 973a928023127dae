-- The ways out of settling: without a path, after the moves, and after the handshakes.
use Prim.Native.Nat.{ℕ, zero, suc, ◌+◌, ◌-◌, ◌<◌, ◌≤◌}
use mathlib.Core.Path.{◌≡◌, refl, sym, ap, ◌∙◌, subst}
use mathlib.Core.Bool.{Bool, true, false, not, ◌&&◌, cond}
use mathlib.Core.List.{List, []}
use native.Mathlib.Omega.{arith}
use native.Mathlib.Nat.{add-zero, add_assoc}
use lib.Dec.{ltb}
use lib.ListN.{length}
use Rattle.rules.specs.State.{State, Transfer}
use Rattle.rules.specs.Seen.{path, synchronous}
use Rattle.rules.specs.StepC.{Settling, conditions, can_move, move, can_synchronous, can_asynchronous, can_handshake, handshake, turn, settle, turns, started}
use Rattle.rules.specs.declared.chip.Conditions.{Conditions}
use Rattle.rules.proofs.Logic.{never}
use Rattle.rules.proofs.Rest.{settling_reports}
use Rattle.fifos.specs.Fifos.{sent_of}
use Rattle.settling.specs.Blocks.{start_of, movable, carried}
use Rattle.rules.specs.Changed.{with_transfer}
use Rattle.image.specs.Image.{image_of, state_at, IsImage}
use Rattle.settling.specs.declared.Told.{Told}
use Rattle.settling.specs.Looks.{looked_at, may_shake}
use Rattle.settling.specs.Steps.{Moves}
use Rattle.settling.specs.Settles.{Settles, end_of}
use Rattle.settling.proofs.Looked.{looked_ends}
use Rattle.settling.proofs.BetweenTurns as going

middle_false : (a b d : Bool) → b ≡ false → (a && b && d) ≡ false
middle_false true true d e = absurd (never (sym e))
middle_false true false d e = refl
middle_false false b d e = refl

none_can : (e y o a r k b : Bool) → cond y o (cond r k false) ≡ false → (e && cond y (o && a) (r && k && b)) ≡ false
none_can false y o a r k b h = refl
none_can true true true a r k b h = absurd (never (sym h))
none_can true true false a r k b h = refl
none_can true false o a true true b h = absurd (never (sym h))
none_can true false o a true false b h = refl
none_can true false o a false k b h = refl

module _ (s : State) where
  still_without : (t : Transfer) → path s.registers ≡ false → can_move (conditions s) t ≡ false
  unfolding can_move conditions
  still_without t p = rw p

  quiet_without : (t : Transfer) → path s.registers ≡ false → can_handshake (conditions s) t ≡ false
  unfolding can_handshake conditions
  quiet_without t p = rw (middle_false s.registers.sxfrctl0.scsien (path s.registers) _ p)

  quiet_after_lem : (t : Transfer) → may_shake (with_transfer t s) ≡ false → can_handshake (looked_at s) t ≡ false
  unfolding may_shake synchronous looked_at conditions can_handshake can_synchronous can_asynchronous
  quiet_after_lem t h =
      let c : Conditions = conditions s in
      none_can c.enabled c.synchronous (ltb 0 t.offset) (cond c.outbound (ltb 0 (length t.scsi)) (ltb (length t.scsi) t.offset))
      c.req (not t.ack) (cond c.outbound (ltb 0 (length t.scsi)) (ltb (length t.scsi) 8)) h

-- moves leave what a handshake waits for
moves_leave : (s : State) (o : Bool) (k : ℕ) → may_shake (state_at (image_of (with_transfer (carried o k s.transfer) s))) ≡ may_shake (state_at (image_of s))
unfolding may_shake synchronous state_at image_of carried
moves_leave s o k = refl

-- a moves more
abbrev after : ℕ → Settling → Settling
after a z = record { transfer = z.transfer; moves = a + z.moves; acks = z.acks; sent = z.sent }

after_cond : (b : Bool) (a : ℕ) (y z : Settling) → cond b (after a y) (after a z) ≡ after a (cond b y z)
after_cond true a y z = refl
after_cond false a y z = refl

after_turn : (c : Conditions) (a : ℕ) (z : Settling) → turn c (after a z) ≡ after a (turn c z)
unfolding turn move handshake
after_turn c a z =
    ap (λ (n : ℕ). cond (can_move c z.transfer) (record { transfer = (move c z).transfer; moves = n; acks = z.acks; sent = z.sent }) (cond (can_handshake c z.transfer) (after a (handshake c z)) (after a z))) (add_assoc a z.moves 1)
    ∙ ap (cond (can_move c z.transfer) (after a (move c z))) (after_cond (can_handshake c z.transfer) a (handshake c z) z)
    ∙ after_cond (can_move c z.transfer) a (move c z) (cond (can_handshake c z.transfer) (handshake c z) z)

after_settle : (c : Conditions) (a n : ℕ) (z : Settling) → settle c n (after a z) ≡ after a (settle c n z)
unfolding settle
after_settle c a zero z = refl
after_settle c a (suc n) z = ap (settle c n) (after_turn c a z) ∙ after_settle c a n (turn c z)

-- the same end by other conditions
same_end : (x : List ℕ) (c d : Conditions) (m : List ℕ) (r : Told) → end_of x c ≡ end_of x d → Settles x c m r → Settles x d m r
same_end x c d m r e w =
    record {
      exact = w.exact ∙ ap (λ (z : Settling). image_of (with_transfer z.transfer (state_at x))) e;
      sent = w.sent ∙ ap (λ (z : Settling). sent_of z.sent) e;
      moves = w.moves ∙ ap (λ (z : Settling). z.moves) e;
      acks = w.acks ∙ ap (λ (z : Settling). z.acks) e;
      few_moves = w.few_moves;
      few_acks = w.few_acks;
    }

module _ (x : List ℕ) (i : IsImage x) where
  pub none_settles : path (state_at x).registers ≡ false → Settles x (conditions (state_at x)) x (record { sent = sent_of []; moves = 0; acks = 0 })
  none_settles p =
      let c : Conditions = conditions (state_at x) in
      let t : Transfer = (state_at x).transfer in
      going.settles c x x 0 0 (sent_of []) (record { between = going.started c x (sent_of []) i refl; still = still_without (state_at x) t p }) (quiet_without (state_at x) t p)

  module _ (c : Conditions) (e : c ≡ looked_at (state_at x)) (m : List ℕ) (a : ℕ) (w : Moves x c m a) where
    byte : c.byte < 256
    unfolding looked_at
    byte = subst (λ (d : Conditions). d.byte < 256) (sym e) i.bytes.lines

    pub begun : going.Going c x m a 0 (sent_of [])
    begun = going.begun c byte x m a (sent_of []) i refl w

    pub few : a ≤ 16
    few = going.moves_fit c x m a 0 (sent_of []) begun

    looked : (m' : List ℕ) (r : Told) → Settles x c m' r → Settles x (conditions (state_at x)) m' r
    looked m' r = same_end x c (conditions (state_at x)) m' r (ap (end_of x) e ∙ looked_ends (state_at x) turns (start_of (state_at x).transfer))

    as_before : may_shake (state_at m) ≡ may_shake (state_at x)
    as_before =
        let f : List ℕ → Bool = λ l. may_shake (state_at l) in
        ap f w.left ∙ moves_leave (state_at x) c.outbound (movable c (state_at x).transfer) ∙ sym (ap f i.packed)

    pub moves_settle : may_shake (state_at x) ≡ false → Settles x (conditions (state_at x)) m (record { sent = sent_of []; moves = a; acks = 0 })
    moves_settle h =
        let t : Transfer = (state_at m).transfer in
        let q : can_handshake c t ≡ false = ap (λ (d : Conditions). can_handshake d t) e ∙ quiet_after_lem (state_at x) t (sym (ap may_shake begun.between.rest) ∙ as_before ∙ h) in
        looked m _ (going.settles c x m a 0 (sent_of []) begun q)

    module _ (m' : List ℕ) (r : Told) (l : a ≤ r.moves) (v : Settles m c m' (record { sent = r.sent; moves = r.moves - a; acks = r.acks })) where
      whole : end_of x c ≡ after a (end_of m c)
      unfolding start_of
      whole =
          sym begun.between.under.same
          ∙ ap (λ (n : ℕ). settle c turns (record { transfer = (state_at m).transfer; moves = n; acks = 0; sent = [] })) (sym (add-zero a))
          ∙ after_settle c a turns (start_of (state_at m).transfer)

      all_moves : r.moves ≡ (end_of x c).moves
      all_moves =
          let p : r.moves ≡ a + (end_of m c).moves = omega (arith, v.moves) in
          p ∙ ap (λ (z : Settling). z.moves) (sym whole)

      pub shakes_settle : Settles x (conditions (state_at x)) m' r
      unfolding started start_of
      shakes_settle =
          let f = i.range.transfer in
          looked m' r (record {
            exact = v.exact ∙ ap (λ (z : State). image_of (with_transfer (end_of m c).transfer z)) begun.between.rest ∙ ap (λ (z : Settling). image_of (with_transfer z.transfer (state_at x))) (sym whole);
            sent = v.sent ∙ ap (λ (z : Settling). sent_of z.sent) (sym whole);
            moves = all_moves;
            acks = v.acks ∙ ap (λ (z : Settling). z.acks) (sym whole);
            few_moves = subst (λ (n : ℕ). n ≤ 16) (sym all_moves) (settling_reports c turns (state_at x) f.scsi f.offset).moves;
            few_acks = v.few_acks;
          })
