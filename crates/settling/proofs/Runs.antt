-- A run of moves: k moves one after the other are one block, and the longest run leaves no move possible.
use Prim.Native.Nat.{ℕ, zero, suc, ◌+◌, ◌-◌, ◌<◌, ◌≤◌, min}
use mathlib.Core.Path.{◌≡◌, refl, sym, ap, ◌∙◌, subst}
use mathlib.Core.Bool.{Bool, true, false, ◌&&◌, and-false}
use mathlib.Core.List.{List, ◌++◌, append_assoc, append-nil}
use native.Mathlib.Omega.{arith}
use native.Mathlib.Numerals.{add-one}
use native.Mathlib.Decide.{dec_le}
use lib.Dec.{ltb}
use lib.ListN.{length, take, drop, length-append, length-take, length-drop}
use lib.Seq.{take-add, drop-drop}
use borrow.Author.Tests.{lt-ltb, le-ltb}
use Rattle.rules.specs.Changed.{transfer_with_host, transfer_with_scsi}
use Rattle.rules.specs.State.{Transfer}
use Rattle.rules.specs.StepC.{Settling, can_move, move}
use Rattle.rules.specs.declared.chip.Conditions.{Conditions}
use Rattle.settling.specs.Blocks.{movable, carried, moved_by}

carried_none : (o : Bool) (t : Transfer) → carried o 0 t ≡ t
unfolding carried
carried_none true t = same t.host (append-nil t.scsi)
  where
    same : (h : List ℕ) {q q' : List ℕ} → q ≡ q' → ◌≡◌ {A = Transfer} (transfer_with_host h (transfer_with_scsi q t)) (transfer_with_host h (transfer_with_scsi q' t))
    same h e = cc
carried_none false t = same t.scsi (append-nil t.host)
  where
    same : (q : List ℕ) {h h' : List ℕ} → h ≡ h' → ◌≡◌ {A = Transfer} (transfer_with_host h (transfer_with_scsi q t)) (transfer_with_host h' (transfer_with_scsi q t))
    same q e = cc

-- j more behind k
behind : (j k : ℕ) (a b : List ℕ) → (a ++ take k b) ++ take j (drop k b) ≡ a ++ take (k + j) b
behind j k a b = rw (append_assoc, take-add k j b)

carried_add : (o : Bool) (j k : ℕ) (t : Transfer) → carried o j (carried o k t) ≡ carried o (k + j) t
unfolding carried
carried_add true j k t = rw (behind j k t.scsi t.host, drop-drop j k t.host)
carried_add false j k t = rw (behind j k t.host t.scsi, drop-drop j k t.scsi)

-- a byte and room, in numbers
both_hold : (a b n : ℕ) → 0 < a → b < n → (ltb 0 a && ltb b n) ≡ true
both_hold a b n x y = rw (lt-ltb 0 a x, lt-ltb b n y)

-- no byte, or no room
one_fails : (a b k n : ℕ) (x y : ℕ) → k ≡ min a (n - b) → x ≡ a - k → y ≡ b + k → (ltb 0 x && ltb y n) ≡ false
one_fails a b k n x y e u v = go (dec_le a (n - b))
  where
    go : Dec (a ≤ n - b) → (ltb 0 x && ltb y n) ≡ false
    go (yes h) = rw (le-ltb 0 x (omega arith))
    go (no h) = rw (le-ltb y n (omega arith), and-false)

held_after : (k : ℕ) (a b : List ℕ) → k ≤ length b → length (a ++ take k b) ≡ length a + k
held_after k a b h = simp (length-append, length-take) (omega arith)

-- while fewer than the longest run are made, one more is possible
run_goes_on : (c : Conditions) (t : Transfer) (k : ℕ) → k < movable c t → can_move c (carried c.outbound k t) ≡ true
unfolding movable can_move carried
run_goes_on c t k h = go c.path c.outbound refl refl
  where
    go : (p o : Bool) → c.path ≡ p → c.outbound ≡ o → can_move c (carried c.outbound k t) ≡ true
    go false o p q =
        let g : k < 0 = rw p at h in
        absurd (omega arith)
    go true true p q =
        let g : k < min (length t.host) (8 - length t.scsi) = rw (p, q) at h in
        rw (p, q) (both_hold (length (drop k t.host)) (length (t.scsi ++ take k t.host)) 8 (simp length-drop (omega arith)) (simp (length-append, length-take) (omega arith)))
    go true false p q =
        let g : k < min (length t.scsi) (128 - length t.host) = rw (p, q) at h in
        rw (p, q) (both_hold (length (drop k t.scsi)) (length (t.host ++ take k t.scsi)) 128 (simp length-drop (omega arith)) (simp (length-append, length-take) (omega arith)))

-- after the longest run no move is possible
pub run_ends : (c : Conditions) (t : Transfer) → can_move c (carried c.outbound (movable c t) t) ≡ false
unfolding movable can_move carried
run_ends c t = go c.path c.outbound refl refl
  where
    go : (p o : Bool) → c.path ≡ p → c.outbound ≡ o → can_move c (carried c.outbound (movable c t) t) ≡ false
    go false o p q = rw p
    go true true p q =
        let k = min (length t.host) (8 - length t.scsi) in
        rw (p, q) (one_fails (length t.host) (length t.scsi) k 8 _ _ refl (length-drop k t.host) (held_after k t.scsi t.host (omega arith)))
    go true false p q =
        let k = min (length t.scsi) (128 - length t.host) in
        rw (p, q) (one_fails (length t.scsi) (length t.host) k 128 _ _ refl (length-drop k t.scsi) (held_after k t.host t.scsi (omega arith)))

-- the bytes and the room that a run has
module _ (c : Conditions) (t : Transfer) (k : ℕ) (h : k ≤ movable c t) (f : length t.scsi ≤ 8) where
  pub run_small : k ≤ 8
  unfolding movable
  run_small = go c.path c.outbound refl refl
    where
      go : (p o : Bool) → c.path ≡ p → c.outbound ≡ o → k ≤ 8
      go false o p q =
          let g : k ≤ 0 = rw p at h in
          omega arith
      go true true p q =
          let g : k ≤ min (length t.host) (8 - length t.scsi) = rw (p, q) at h in
          omega arith
      go true false p q =
          let g : k ≤ min (length t.scsi) (128 - length t.host) = rw (p, q) at h in
          omega arith

  pub run_out : c.outbound ≡ true → (k ≤ length t.host) × (length t.scsi + k ≤ 8)
  unfolding movable
  run_out q = go c.path refl
    where
      go : (p : Bool) → c.path ≡ p → (k ≤ length t.host) × (length t.scsi + k ≤ 8)
      go false p =
          let g : k ≤ 0 = rw p at h in
          (omega arith, omega arith)
      go true p =
          let g : k ≤ min (length t.host) (8 - length t.scsi) = rw (p, q) at h in
          (omega arith, omega arith)

  pub run_in : c.outbound ≡ false → length t.host ≤ 128 → (k ≤ length t.scsi) × (length t.host + k ≤ 128)
  unfolding movable
  run_in q m = go c.path refl
    where
      go : (p : Bool) → c.path ≡ p → (k ≤ length t.scsi) × (length t.host + k ≤ 128)
      go false p =
          let g : k ≤ 0 = rw p at h in
          (omega arith, omega arith)
      go true p =
          let g : k ≤ min (length t.scsi) (128 - length t.host) = rw (p, q) at h in
          (omega arith, omega arith)

-- what a settling is known by
known : {t t' : Transfer} {m m' : ℕ} (a : ℕ) (l : List ℕ) → t ≡ t' → m ≡ m' → ◌≡◌ {A = Settling} (record { transfer = t; moves = m; acks = a; sent = l }) (record { transfer = t'; moves = m'; acks = a; sent = l })
known a l p q = cc

module _ (c : Conditions) where
  pub run_none : (s : Settling) → moved_by c 0 s ≡ s
  unfolding moved_by
  run_none s = known s.acks s.sent (carried_none c.outbound s.transfer) (omega arith)

  move_carries : (s : Settling) → move c s ≡ moved_by c 1 s
  unfolding moved_by move carried
  move_carries s = refl

  run_more : (k : ℕ) (s : Settling) → move c (moved_by c k s) ≡ moved_by c (suc k) s
  unfolding moved_by
  run_more k s =
      move_carries (moved_by c k s)
      ∙ known s.acks s.sent (carried_add c.outbound 1 k s.transfer ∙ ap (λ (n : ℕ). carried c.outbound n s.transfer) (add-one k)) (omega arith)

-- what a move keeps, a run keeps
pub run_keeps : (P : Settling → Type 0) (c : Conditions) → ((s : Settling) → can_move c s.transfer ≡ true → P s → P (move c s)) → (k : ℕ) (s : Settling) → k ≤ movable c s.transfer → P s → P (moved_by c k s)
unfolding moved_by
run_keeps P c f zero s h p = subst P (sym (run_none c s)) p
run_keeps P c f (suc k) s h p = subst P (run_more c k s) (f (moved_by c k s) (run_goes_on c s.transfer k h) (run_keeps P c f k s (omega arith) p))
