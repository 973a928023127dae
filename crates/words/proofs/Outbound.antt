-- Outbound, bytes that come to the host FIFO in two parts, settled after each, settle as if they had come at once: a handshake may
-- come before a move as well as after it, so bytes that come later find nothing done that they would have changed.
use mathlib.Core.Path.{◌≡◌, refl, sym, ◌∙◌, ap}
use mathlib.Core.Bool.{Bool, true, false}
use mathlib.Core.List.{List, [], ◌∷◌, ◌++◌, append_assoc, append-nil}
use Prim.Native.Nat.{ℕ, zero, suc, ◌+◌, ◌<◌, ◌≤◌}
use native.Mathlib.Omega.{arith}
use native.Mathlib.Nat.{add-zero}
use lib.ListN.{length, take, drop, get_or, length-append, length-take, length-drop}
use borrow.Author.Tests.{lt-ltb}
use Rattle.rules.specs.State.{Transfer}
use Rattle.rules.specs.Changed.{transfer_with_host}
use Rattle.rules.specs.StepC.{Settling, can_move, move, can_asynchronous, can_synchronous, can_handshake, handshake, turn, settle, turns}
use Rattle.rules.specs.declared.chip.Conditions.{Conditions}
use Rattle.rules.proofs.Logic.{left_true}
use Rattle.rules.proofs.Settling.{settle_keeps}
use Rattle.rules.proofs.Rest.{measure, move_outbound, handshake_outbound, move_lowers, handshake_lowers, turn_moves, turn_handshakes, settle_enough, measure_small}
use Rattle.words.specs.Blocks.{settled_with, together, seeing}
use Rattle.words.proofs.Together.{together_settle, settle_same}

-- what is first in a list stays first with more behind it
drop_more : (l m : List ℕ) → 0 < length l → drop 1 (l ++ m) ≡ drop 1 l ++ m
drop_more [] m h = absurd (omega arith)
drop_more (x ∷ l) m h = refl

take_more : (l m : List ℕ) → 0 < length l → take 1 (l ++ m) ≡ take 1 l
take_more [] m h = absurd (omega arith)
take_more (x ∷ l) m h = refl

first_more : (l m : List ℕ) → 0 < length l → get_or (l ++ m) 0 0 ≡ get_or l 0 0
first_more [] m h = absurd (omega arith)
first_more (x ∷ l) m h = refl

-- where a data path begins to settle, its host FIFO being h
abbrev begun : List ℕ → Transfer → Settling
begun h t = record { transfer = transfer_with_host h t; moves = 0; acks = 0; sent = [] }

-- bytes h more behind those in the host FIFO
abbrev fed : List ℕ → Settling → Settling
fed h s =
    record { transfer = transfer_with_host (s.transfer.host ++ h) s.transfer; moves = s.moves; acks = s.acks; sent = s.sent }

-- going on with bytes h more is the settling with these bytes behind
together_begun : (a : Settling) (h : List ℕ) → together a (begun (a.transfer.host ++ h) a.transfer) ≡ fed h a
together_begun a h = simp (add-zero, append-nil)

-- a move and a handshake outbound, in either order
module _ (c : Conditions) (o : c.outbound ≡ true) where
  -- a byte in the host FIFO and room in the SCSI FIFO suffice for a move
  pub can_move_lem : (t : Transfer) → c.path ≡ true → 0 < length t.host → length t.scsi < 8 → can_move c t ≡ true
  unfolding can_move
  can_move_lem t p h k = rw (p, o, lt-ltb 0 (length t.host) h, lt-ltb (length t.scsi) 8 k)

  move_path : (t : Transfer) → can_move c t ≡ true → c.path ≡ true
  unfolding can_move
  move_path t h = left_true c.path _ h

  -- a move brings one byte to the SCSI FIFO
  move_brings : (s : Settling) → can_move c s.transfer ≡ true → length (move c s).transfer.scsi ≡ suc (length s.transfer.scsi)
  unfolding move
  move_brings s h = rw o (simp (length-append, length-take) (omega (arith, move_outbound c s.transfer o h)))

  -- neither ends that the other is possible
  move_still : (s : Settling) → can_move c s.transfer ≡ true → can_move c (handshake c s).transfer ≡ true
  unfolding handshake
  move_still s h =
      let e = move_outbound c s.transfer o h in
      can_move_lem (handshake c s).transfer (move_path s.transfer h) e.0 (rw o (simp length-drop (omega arith)))

  handshake_still : (s : Settling) → can_handshake c s.transfer ≡ true → can_handshake c (move c s).transfer ≡ true
  unfolding can_handshake can_synchronous can_asynchronous move
  handshake_still s h =
      let l = s.transfer.scsi in
      let m = take 1 s.transfer.host in
      let k : 0 < length l = handshake_outbound c s.transfer o h in
      rw (o, lt-ltb 0 (length (l ++ m)) (simp length-append (omega arith))) (rw (o, lt-ltb 0 (length l) k) at h)

  handshake_move : (s : Settling) → 0 < length s.transfer.scsi → handshake c (move c s) ≡ move c (handshake c s)
  unfolding move handshake
  handshake_move s k =
      let l = s.transfer.scsi in
      let m = take 1 s.transfer.host in
      rw (o, drop_more l m k, take_more l m k, first_more l m k)

  -- with turns enough, a move less to come makes no difference
  pub settle_moves : (n : ℕ) (s : Settling) → measure c s.transfer ≤ n → can_move c s.transfer ≡ true → settle c n s ≡ settle c n (move c s)
  settle_moves n s e p = settle_enough c n s e ∙ ap (λ x. settle c n x) (turn_moves c s p)

  settle_waits : (n : ℕ) (s : Settling) → measure c s.transfer ≤ n → can_move c s.transfer ≡ false → can_handshake c s.transfer ≡ true → settle c n s ≡ settle c n (handshake c s)
  settle_waits n s e p h = settle_enough c n s e ∙ ap (λ x. settle c n x) (turn_handshakes c s p h)

  -- nor does a handshake less, though at most r moves come before it
  pub settle_handshakes : (n r : ℕ) (s : Settling) → measure c s.transfer ≤ n → 8 ≤ r + length s.transfer.scsi → can_handshake c s.transfer ≡ true → settle c n s ≡ settle c n (handshake c s)
  settle_handshakes n zero s e k h = go (can_move c s.transfer) refl
    where
      go : (b : Bool) → can_move c s.transfer ≡ b → settle c n s ≡ settle c n (handshake c s)
      go true p = absurd (omega (arith, move_outbound c s.transfer o p))
      go false p = settle_waits n s e p h
  settle_handshakes n (suc r) s e k h = go (can_move c s.transfer) refl (settle_handshakes n r (move c s))
    where
      go : (b : Bool) → can_move c s.transfer ≡ b → (measure c (move c s).transfer ≤ n → 8 ≤ r + length (move c s).transfer.scsi → can_handshake c (move c s).transfer ≡ true → settle c n (move c s) ≡ settle c n (handshake c (move c s))) → settle c n s ≡ settle c n (handshake c s)
      go true p next =
          settle_moves n s e p
          ∙ next (omega (arith, move_lowers c s p)) (omega (arith, move_brings s p)) (handshake_still s h)
          ∙ ap (λ x. settle c n x) (handshake_move s (handshake_outbound c s.transfer o h))
          ∙ sym (settle_moves n (handshake c s) (omega (arith, handshake_lowers c s h)) (move_still s p))
      go false p next = settle_waits n s e p h

  -- what is possible stays so with more bytes behind, and does the same
  fed_can_move : (h : List ℕ) (s : Settling) → can_move c s.transfer ≡ true → can_move c (fed h s).transfer ≡ true
  fed_can_move h s p =
      let e = move_outbound c s.transfer o p in
      can_move_lem (fed h s).transfer (move_path s.transfer p) (simp length-append (omega arith)) e.1

  fed_move : (h : List ℕ) (s : Settling) → 0 < length s.transfer.host → fed h (move c s) ≡ move c (fed h s)
  unfolding move
  fed_move h s k = rw (o, drop_more s.transfer.host h k, take_more s.transfer.host h k)

  fed_can_handshake : (h : List ℕ) (s : Settling) → can_handshake c (fed h s).transfer ≡ can_handshake c s.transfer
  unfolding can_handshake can_synchronous can_asynchronous
  fed_can_handshake h s = refl

  fed_handshake : (h : List ℕ) (s : Settling) → fed h (handshake c s) ≡ handshake c (fed h s)
  unfolding handshake
  fed_handshake h s = refl

-- what settling outbound keeps: with the bytes h behind, n turns settle it to x
record Joins (c : Conditions) (n : ℕ) (h : List ℕ) (x s : Settling) : Type 0 where
  enough : measure c s.transfer ≤ n
  same : settle c n (fed h s) ≡ x

module _ (c : Conditions) (o : c.outbound ≡ true) (n : ℕ) (h : List ℕ) (x : Settling) where
  joins_move : (s : Settling) → can_move c s.transfer ≡ true → Joins c n h x s → Joins c n h x (move c s)
  joins_move s p i =
      let e = move_outbound c s.transfer o p in
      record {
        enough = omega (arith, move_lowers c s p, i.enough);
        same =
            ap (λ y. settle c n y) (fed_move c o h s e.0)
            ∙ sym (settle_moves c o n (fed h s) i.enough (fed_can_move c o h s p))
            ∙ i.same;
      }

  joins_handshake : (s : Settling) → can_handshake c s.transfer ≡ true → Joins c n h x s → Joins c n h x (handshake c s)
  joins_handshake s p i =
      record {
        enough = omega (arith, handshake_lowers c s p, i.enough);
        same =
            ap (λ y. settle c n y) (fed_handshake c o h s)
            ∙ sym (settle_handshakes c o n 8 (fed h s) i.enough (omega arith) (fed_can_handshake c o h s ∙ p))
            ∙ i.same;
      }

  joins_settles : (k : ℕ) (s : Settling) → Joins c n h x s → Joins c n h x (settle c k s)
  joins_settles = settle_keeps (Joins c n h x) c joins_move joins_handshake

-- BYTES IN TWO PARTS SETTLE AS ALL AT ONCE
pub outbound_joins : (c : Conditions) (t : Transfer) (first second : List ℕ) → c.outbound ≡ true → length t.scsi ≤ 8 → t.offset ≤ 8 → together (settled_with c (t.host ++ first) t) (settled_with c ((settled_with c (t.host ++ first) t).transfer.host ++ second) (settled_with c (t.host ++ first) t).transfer) ≡ settled_with c (t.host ++ (first ++ second)) t
unfolding settled_with
outbound_joins c t first second o k l =
    let s = begun (t.host ++ first) t in
    let a = settle c turns s in
    let i : Joins c turns second (settle c turns (fed second s)) s = record { enough = measure_small c t k l; same = refl } in
    sym (together_settle c a turns (begun (a.transfer.host ++ second) a.transfer))
    ∙ ap (λ x. settle c turns x) (together_begun a second)
    ∙ (joins_settles c o turns second (settle c turns (fed second s)) turns s i).same
    ∙ ap (λ h. settle c turns (begun h t)) (append_assoc t.host first second)

byte_turn : (b : ℕ) (c : Conditions) (s : Settling) → c.outbound ≡ true → turn (seeing b c) s ≡ turn c s
unfolding turn can_move can_handshake can_synchronous can_asynchronous move handshake
byte_turn b c s o = rw o

-- OUTBOUND THE BYTE ON THE DATA LINES IS NOT LOOKED AT
pub outbound_byte : (b : ℕ) (c : Conditions) (n : ℕ) (s : Settling) → c.outbound ≡ true → settle (seeing b c) n s ≡ settle c n s
outbound_byte b c n s o = settle_same c (seeing b c) (λ x. byte_turn b c x o) n s
