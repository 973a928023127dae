-- Inbound, bytes taken off the host FIFO's front in two parts, settled after each, leave and report what they do when taken at once;
-- settling adds behind what the host FIFO holds; and without handshakes the byte on the data lines is nothing to it.
use mathlib.Core.Path.{◌≡◌, refl, sym, ◌∙◌, ap}
use mathlib.Core.Bool.{Bool, true, false, not, ◌&&◌, cond}
use mathlib.Core.List.{List, [], append-nil}
use Prim.Native.Nat.{ℕ, zero, suc, ◌+◌, ◌<◌, ◌≤◌}
use native.Mathlib.Omega.{arith}
use native.Mathlib.Nat.{add-zero}
use lib.Dec.{ltb}
use lib.ListN.{length, take, drop, length-append, length-take, length-drop}
use lib.Seq.{take-append-le, drop-append-le, take-length, drop-drop}
use borrow.Author.Tests.{ltb-true, lt-ltb}
use Rattle.rules.specs.State.{Transfer}
use Rattle.rules.specs.Changed.{transfer_with_host}
use Rattle.rules.specs.StepC.{Settling, can_move, move, can_asynchronous, can_synchronous, can_handshake, handshake, turn, settle, turns}
use Rattle.rules.specs.declared.chip.Conditions.{Conditions}
use Rattle.rules.proofs.Logic.{left_true}
use Rattle.rules.proofs.Settling.{settle_keeps}
use Rattle.rules.proofs.Rest.{measure, measure_small, move_inbound, move_lowers, handshake_lowers, turn_moves, turn_handshakes, turn_rests, settle_enough}
use Rattle.words.specs.Blocks.{settled_with, together, seeing}
use Rattle.words.proofs.Together.{together_settle, settle_same}

-- a choice of tests that holds does where each of its last tests gives way to one that follows from it
weaker : (e y p q a b q' b' : Bool) → (q ≡ true → q' ≡ true) → (b ≡ true → b' ≡ true)
    → (e && cond y (p && q) (a && b)) ≡ true → (e && cond y (p && q') (a && b')) ≡ true
weaker false y p q a b q' b' f g h = h
weaker true true false q a b q' b' f g h = h
weaker true true true q a b q' b' f g h = f h
weaker true false p q false b q' b' f g h = h
weaker true false p q true b q' b' f g h = g h

below : (a b n : ℕ) → b ≤ a → ltb a n ≡ true → ltb b n ≡ true
below a b n h e = lt-ltb b n (omega (arith, ltb-true a n e))

-- a handshake that is possible may come before the moves that are
module _ (c : Conditions) (o : c.outbound ≡ false) where
  -- a move is possible where another was with as many bytes to move and as much room
  still_moves : (t u : Transfer) → length t.scsi ≤ length u.scsi → length u.host ≤ length t.host
      → can_move c t ≡ true → can_move c u ≡ true
  unfolding can_move
  still_moves t u x y h =
      let m = move_inbound c t o h in
      rw (o, left_true c.path _ h, lt-ltb 0 (length u.scsi) (omega arith), lt-ltb (length u.host) 128 (omega arith))

  handshake_keeps_move : (s : Settling) → can_move c s.transfer ≡ true → can_move c (handshake c s).transfer ≡ true
  unfolding handshake
  handshake_keeps_move s h =
      still_moves s.transfer (handshake c s).transfer (rw o (simp length-append (omega arith))) (omega arith) h

  move_keeps_handshake : (s : Settling) → can_handshake c s.transfer ≡ true → can_handshake c (move c s).transfer ≡ true
  unfolding move can_handshake can_synchronous can_asynchronous
  move_keeps_handshake s h =
      let t = s.transfer in
      let n = length t.scsi in
      let m = length (drop 1 t.scsi) in
      let l : m ≤ n = simp length-drop (omega arith) in
      rw o
      (weaker c.enabled c.synchronous (ltb 0 t.offset) (ltb n t.offset) (c.req && not t.ack) (ltb n 8)
      (ltb m t.offset) (ltb m 8) (below n m t.offset l) (below n m 8 l) (rw o at h))

  -- the byte that moves is not the one that the handshake stores
  swapped : (s : Settling) → 0 < length s.transfer.scsi → move c (handshake c s) ≡ handshake c (move c s)
  unfolding move handshake
  swapped s h = rw (o, take-append-le 1 s.transfer.scsi, drop-append-le 1 s.transfer.scsi)

  abbrev First : ℕ → Settling → Type 0
  First m s =
      measure c s.transfer ≤ m → m ≤ turns → can_handshake c s.transfer ≡ true → settle c turns (handshake c s) ≡ settle c turns s

  handshake_first : (m : ℕ) (s : Settling) → First m s
  handshake_first zero s x y h = absurd (omega (arith, handshake_lowers c s h))
  handshake_first (suc m) s x y h = go (can_move c s.transfer) refl (handshake_first m (move c s))
    where
      go : (b : Bool) → can_move c s.transfer ≡ b → First m (move c s) → settle c turns (handshake c s) ≡ settle c turns s
      go true b next =
          settle_enough c turns (handshake c s) (omega (arith, handshake_lowers c s h))
          ∙ ap (settle c turns)
          (turn_moves c (handshake c s) (handshake_keeps_move s b) ∙ swapped s (move_inbound c s.transfer o b).0)
          ∙ next (omega (arith, move_lowers c s b)) (omega arith) (move_keeps_handshake s h)
          ∙ sym (settle_enough c turns s (omega arith) ∙ ap (settle c turns) (turn_moves c s b))
      go false b next = sym (settle_enough c turns s (omega arith) ∙ ap (settle c turns) (turn_handshakes c s b h))

-- k bytes taken off the front of the host FIFO
abbrev cut : ℕ → Settling → Settling
cut k s =
    record { transfer = transfer_with_host (drop k s.transfer.host) s.transfer; moves = s.moves; acks = s.acks; sent = s.sent }

-- there are k bytes to take off, and turns enough to settle
record Cuttable (c : Conditions) (k : ℕ) (s : Settling) : Type 0 where
  few : measure c s.transfer ≤ turns
  held : k ≤ length s.transfer.host

-- what is taken off may be taken off before any turn
module _ (c : Conditions) (o : c.outbound ≡ false) (k : ℕ) where
  cuttable_move : (s : Settling) → can_move c s.transfer ≡ true → Cuttable c k s → Cuttable c k (move c s)
  unfolding move
  cuttable_move s h i =
      record { few = omega (arith, move_lowers c s h); held = rw o (simp length-append (omega arith)) }

  cuttable_handshake : (s : Settling) → can_handshake c s.transfer ≡ true → Cuttable c k s → Cuttable c k (handshake c s)
  unfolding handshake
  cuttable_handshake s h i = record { few = omega (arith, handshake_lowers c s h); held = i.held }

  cuttable_turn : (s : Settling) → Cuttable c k s → Cuttable c k (turn c s)
  unfolding settle
  cuttable_turn = settle_keeps (Cuttable c k) c cuttable_move cuttable_handshake 1

  cut_move : (s : Settling) → Cuttable c k s → cut k (move c s) ≡ move c (cut k s)
  unfolding move
  cut_move s i = rw (o, drop-append-le k s.transfer.host (take 1 s.transfer.scsi) i.held)

  cut_handshake : (s : Settling) → cut k (handshake c s) ≡ handshake c (cut k s)
  unfolding handshake
  cut_handshake s = refl

  cut_can_move : (s : Settling) → can_move c s.transfer ≡ true → can_move c (cut k s).transfer ≡ true
  cut_can_move s h = still_moves c o s.transfer (cut k s).transfer (omega arith) (simp length-drop (omega arith)) h

  cut_can_handshake : (s : Settling) → can_handshake c s.transfer ≡ true → can_handshake c (cut k s).transfer ≡ true
  unfolding can_handshake can_synchronous can_asynchronous
  cut_can_handshake s h = h

  cut_turn : (s : Settling) → Cuttable c k s → settle c turns (cut k (turn c s)) ≡ settle c turns (cut k s)
  cut_turn s i = go (can_move c s.transfer) (can_handshake c s.transfer) refl refl
    where
      same : {a b : Settling} → a ≡ b → settle c turns (cut k a) ≡ settle c turns (cut k b)
      same = ap (λ (x : Settling). settle c turns (cut k x))

      go : (m h : Bool) → can_move c s.transfer ≡ m → can_handshake c s.transfer ≡ h
          → settle c turns (cut k (turn c s)) ≡ settle c turns (cut k s)
      go true h p q =
          same (turn_moves c s p)
          ∙ ap (settle c turns) (cut_move s i ∙ sym (turn_moves c (cut k s) (cut_can_move s p)))
          ∙ sym (settle_enough c turns (cut k s) i.few)
      go false true p q =
          same (turn_handshakes c s p q)
          ∙ ap (settle c turns) (cut_handshake s)
          ∙ handshake_first c o turns (cut k s) i.few (omega arith) (cut_can_handshake s q)
      go false false p q = same (turn_rests c s (record { no_move = p; no_handshake = q }))

  cut_settle : (n : ℕ) (s : Settling) → Cuttable c k s → settle c turns (cut k (settle c n s)) ≡ settle c turns (cut k s)
  unfolding settle
  cut_settle zero s i = refl
  cut_settle (suc n) s i = cut_settle n (turn c s) (cuttable_turn s i) ∙ cut_turn s i

-- nothing counted yet
abbrev fresh : Transfer → Settling
fresh t = record { transfer = t; moves = 0; acks = 0; sent = [] }

-- what is settled, and again once it is cut
cut_joins : (c : Conditions) (k : ℕ) (a : Settling)
    → together a (settled_with c (drop k a.transfer.host) a.transfer) ≡ settle c turns (cut k a)
unfolding settled_with
cut_joins c k a = sym (together_settle c a turns (fresh (cut k a).transfer)) ∙ ap (settle c turns) none
  where
    none : together a (fresh (cut k a).transfer) ≡ cut k a
    none = simp (add-zero, append-nil)

-- BYTES TAKEN IN TWO PARTS ARE BYTES TAKEN AT ONCE: the data path, the moves, the ACKs and the bytes sent
pub inbound_joins : (c : Conditions) (t : Transfer) (j k : ℕ)
    → c.outbound ≡ false → length t.scsi ≤ 8 → t.offset ≤ 8 → j + k ≤ length t.host
    → together (settled_with c (drop j t.host) t)
    (settled_with c (drop k (settled_with c (drop j t.host) t).transfer.host) (settled_with c (drop j t.host) t).transfer)
    ≡ settled_with c (drop (j + k) t.host) t
unfolding settled_with
inbound_joins c t j k o x y h =
    let s = fresh (transfer_with_host (drop j t.host) t) in
    cut_joins c k (settle c turns s)
    ∙ cut_settle c o k turns s (record { few = measure_small c t x y; held = simp length-drop (omega arith) })
    ∙ ap (λ (l : List ℕ). settle c turns (fresh (transfer_with_host l t))) (drop-drop k j t.host)

-- the host FIFO begins with h
abbrev Begins : List ℕ → Settling → Type 0
Begins h s = take (length h) s.transfer.host ≡ h

module _ (c : Conditions) (o : c.outbound ≡ false) (h : List ℕ) where
  begins_move : (s : Settling) → Begins h s → Begins h (move c s)
  unfolding move
  begins_move s b =
      let l : length h ≤ length s.transfer.host = omega (arith, simp length-take at (ap length b)) in
      rw (o, take-append-le (length h) s.transfer.host) b

  begins_handshake : (s : Settling) → Begins h s → Begins h (handshake c s)
  unfolding handshake
  begins_handshake s b = b

  begins_settle : (n : ℕ) (s : Settling) → Begins h s → Begins h (settle c n s)
  begins_settle = settle_keeps (Begins h) c (λ s q. begins_move s) (λ s q. begins_handshake s)

-- SETTLING ADDS BEHIND what the host FIFO holds
pub inbound_appends : (c : Conditions) (h : List ℕ) (t : Transfer) → c.outbound ≡ false
    → take (length h) (settled_with c h t).transfer.host ≡ h
unfolding settled_with
inbound_appends c h t o = begins_settle c o h turns (fresh (transfer_with_host h t)) (take-length h)

-- only a handshake looks at the byte
byte_turn : (b : ℕ) (c : Conditions) (s : Settling) → c.enabled ≡ false → turn (seeing b c) s ≡ turn c s
unfolding turn can_move move can_handshake
byte_turn b c s e = rw e

-- WITHOUT HANDSHAKES THE BYTE ON THE DATA LINES IS NOTHING TO SETTLING
pub inbound_byte : (b : ℕ) (c : Conditions) (n : ℕ) (s : Settling) → c.enabled ≡ false → settle (seeing b c) n s ≡ settle c n s
inbound_byte b c n s e = settle_same c (seeing b c) (λ x. byte_turn b c x e) n s
