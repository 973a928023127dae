-- Settling reaches rest: within 24 turns neither a move nor a handshake is possible, with at most 16 moves and 8 ACKs.
use mathlib.Core.Path.{◌≡◌, refl, sym, ◌∙◌}
use mathlib.Core.Bool.{Bool, true, false, not, ◌&&◌, ◌||◌, cond}
use mathlib.Core.List.{List, []}
use Prim.Native.Nat.{ℕ, zero, suc, ◌+◌, ◌*◌, ◌-◌, ◌<◌, ◌≤◌}
use native.Mathlib.Omega.{arith}
use native.Mathlib.Nat.{zero-add}
use lib.Dec.{ltb}
use lib.ListN.{length, length-append, length-take, length-drop}
use borrow.Author.Tests.{ltb-true, not-true}
use Rattle.rules.specs.Rest.{Resting}
use Rattle.rules.specs.Numbers.{one}
use Rattle.rules.specs.State.{State, Transfer}
use Rattle.rules.specs.StepC.{Settling, can_move, move, can_asynchronous, can_synchronous, can_handshake, handshake, turn, settle, turns, started}
use Rattle.rules.specs.declared.chip.Conditions.{Conditions}
use Rattle.rules.proofs.Logic.{never, left_true, right_true}
use Rattle.rules.proofs.Settling.{settle_keeps}

-- a move or a handshake is possible
abbrev pub busy : Conditions → Transfer → Bool
busy c t = can_move c t || can_handshake c t

-- the handshakes that can still come: one for each REQ open, or one while automatic ACK is off
abbrev pub acks_left : Conditions → Transfer → ℕ
acks_left c t = cond c.synchronous t.offset (one (not t.ack))

-- the turns that can still come
abbrev pub measure : Conditions → Transfer → ℕ
measure c t = cond c.outbound (8 - length t.scsi) (length t.scsi) + 2 * acks_left c t

-- a choice that holds: the side that its test picks holds
picked_true : (t a b : Bool) → t ≡ true → cond t a b ≡ true → a ≡ true
picked_true true a b e h = h
picked_true false a b e h = absurd (never e)

picked_false : (t a b : Bool) → t ≡ false → cond t a b ≡ true → b ≡ true
picked_false true a b e h = absurd (never (sym e))
picked_false false a b e h = h

-- what a move and a handshake need
module _ (c : Conditions) (t : Transfer) where
  -- a move outbound has a byte in the host FIFO and room in the SCSI FIFO
  pub move_outbound : c.outbound ≡ true → can_move c t ≡ true → (0 < length t.host) × (length t.scsi < 8)
  unfolding can_move
  move_outbound o h =
      let e = right_true c.path (ltb 0 (length t.host) && ltb (length t.scsi) 8) (rw o at h) in (
        ltb-true 0 (length t.host) (left_true (ltb 0 (length t.host)) (ltb (length t.scsi) 8) e),
        ltb-true (length t.scsi) 8 (right_true (ltb 0 (length t.host)) (ltb (length t.scsi) 8) e),
      )

  -- a move inbound has a byte in the SCSI FIFO and room in the host FIFO
  pub move_inbound : c.outbound ≡ false → can_move c t ≡ true → (0 < length t.scsi) × (length t.host < 128)
  unfolding can_move
  move_inbound o h =
      let e = right_true c.path (ltb 0 (length t.scsi) && ltb (length t.host) 128) (rw o at h) in (
        ltb-true 0 (length t.scsi) (left_true (ltb 0 (length t.scsi)) (ltb (length t.host) 128) e),
        ltb-true (length t.host) 128 (right_true (ltb 0 (length t.scsi)) (ltb (length t.host) 128) e),
      )

  -- a handshake of either kind
  handshake_synchronous : c.synchronous ≡ true → can_handshake c t ≡ true → can_synchronous c t ≡ true
  unfolding can_handshake
  handshake_synchronous y h =
      picked_true c.synchronous (can_synchronous c t) (can_asynchronous c t) y (right_true c.enabled (cond c.synchronous (can_synchronous c t) (can_asynchronous c t)) h)

  handshake_asynchronous : c.synchronous ≡ false → can_handshake c t ≡ true → can_asynchronous c t ≡ true
  unfolding can_handshake
  handshake_asynchronous y h =
      picked_false c.synchronous (can_synchronous c t) (can_asynchronous c t) y (right_true c.enabled (cond c.synchronous (can_synchronous c t) (can_asynchronous c t)) h)

  -- a synchronous handshake has an offset above 0
  pub synchronous_offset : c.synchronous ≡ true → can_handshake c t ≡ true → 0 < t.offset
  unfolding can_synchronous
  synchronous_offset y h =
      ltb-true 0 t.offset (left_true (ltb 0 t.offset) _ (handshake_synchronous y h))

  -- an asynchronous handshake finds automatic ACK off
  pub asynchronous_ack : c.synchronous ≡ false → can_handshake c t ≡ true → t.ack ≡ false
  unfolding can_asynchronous
  asynchronous_ack y h =
      let e = handshake_asynchronous y h in
      not-true t.ack (right_true c.req (not t.ack) (left_true (c.req && not t.ack) _ e))

  -- an outbound handshake has a byte to send
  pub handshake_outbound : c.outbound ≡ true → can_handshake c t ≡ true → 0 < length t.scsi
  unfolding can_synchronous can_asynchronous
  handshake_outbound o h = go c.synchronous refl
    where
      go : (y : Bool) → c.synchronous ≡ y → 0 < length t.scsi
      go true y = ltb-true 0 (length t.scsi) (right_true (ltb 0 t.offset) (ltb 0 (length t.scsi)) (rw o at (handshake_synchronous y h)))
      go false y = ltb-true 0 (length t.scsi) (right_true (c.req && not t.ack) (ltb 0 (length t.scsi)) (rw o at (handshake_asynchronous y h)))

  -- an inbound asynchronous handshake has room for the byte
  pub handshake_inbound : c.outbound ≡ false → c.synchronous ≡ false → can_handshake c t ≡ true → length t.scsi < 8
  unfolding can_asynchronous
  handshake_inbound o y h =
      ltb-true (length t.scsi) 8 (right_true (c.req && not t.ack) (ltb (length t.scsi) 8) (rw o at (handshake_asynchronous y h)))

-- a move leaves one turn less
pub move_lowers : (c : Conditions) (s : Settling) → can_move c s.transfer ≡ true → suc (measure c (move c s).transfer) ≤ measure c s.transfer
unfolding move
move_lowers c s h = go c.outbound refl
  where
    go : (o : Bool) → c.outbound ≡ o → suc (measure c (move c s).transfer) ≤ measure c s.transfer
    go true o =
        let e = move_outbound c s.transfer o h in
        simp (o, length-append, length-take) (omega arith)
    go false o =
        let e = move_inbound c s.transfer o h in
        simp (o, length-drop) (omega arith)

-- a handshake leaves at least one turn less
pub handshake_lowers : (c : Conditions) (s : Settling) → can_handshake c s.transfer ≡ true → suc (measure c (handshake c s).transfer) ≤ measure c s.transfer
unfolding handshake
handshake_lowers c s h = go c.outbound c.synchronous refl refl
  where
    go : (o y : Bool) → c.outbound ≡ o → c.synchronous ≡ y → suc (measure c (handshake c s).transfer) ≤ measure c s.transfer
    go true true o y =
        let e = synchronous_offset c s.transfer y h in
        let k = handshake_outbound c s.transfer o h in
        simp (o, y, length-drop) (omega arith)
    go false true o y =
        let e = synchronous_offset c s.transfer y h in
        simp (o, y, length-append) (omega arith)
    go true false o y =
        let k = handshake_outbound c s.transfer o h in
        simp (o, y, asynchronous_ack c s.transfer y h, length-drop) (omega arith)
    go false false o y = simp (o, y, asynchronous_ack c s.transfer y h, length-append) (omega arith)

-- what a turn is, by what is possible
pub turn_moves : (c : Conditions) (s : Settling) → can_move c s.transfer ≡ true → turn c s ≡ move c s
unfolding turn
turn_moves c s p = rw p

pub turn_handshakes : (c : Conditions) (s : Settling) → can_move c s.transfer ≡ false → can_handshake c s.transfer ≡ true → turn c s ≡ handshake c s
unfolding turn
turn_handshakes c s p q = rw (p, q)

-- at rest a turn changes nothing
pub turn_rests : (c : Conditions) (s : Settling) → Resting c s.transfer → turn c s ≡ s
unfolding turn
turn_rests c s r = rw (r.no_move, r.no_handshake)

-- where nothing is possible, it is at rest
pub idle_rests : (c : Conditions) (t : Transfer) → busy c t ≡ false → Resting c t
idle_rests c t h = go (can_move c t) (can_handshake c t) refl refl h
  where
    go : (a b : Bool) → can_move c t ≡ a → can_handshake c t ≡ b → (a || b) ≡ false → Resting c t
    go true b p q e = absurd (never (sym e))
    go false true p q e = absurd (never (sym e))
    go false false p q e = record { no_move = p; no_handshake = q }

-- at rest nothing is possible
pub rests_idle : (c : Conditions) (t : Transfer) → Resting c t → busy c t ≡ false
rests_idle c t r = rw (r.no_move, r.no_handshake)

-- ANY TURN LOWERS THE MEASURE, while a move or a handshake is possible
pub turn_lowers : (c : Conditions) (s : Settling) → busy c s.transfer ≡ true → suc (measure c (turn c s).transfer) ≤ measure c s.transfer
turn_lowers c s h = go (can_move c s.transfer) (can_handshake c s.transfer) refl refl h
  where
    go : (a b : Bool) → can_move c s.transfer ≡ a → can_handshake c s.transfer ≡ b → (a || b) ≡ true → suc (measure c (turn c s).transfer) ≤ measure c s.transfer
    go true b p q e = rw (turn_moves c s p) (move_lowers c s p)
    go false true p q e = rw (turn_handshakes c s p q) (handshake_lowers c s q)
    go false false p q e = absurd (never e)

-- once at rest, more turns change nothing
pub settle_rests : (c : Conditions) (n : ℕ) (s : Settling) → Resting c s.transfer → settle c n s ≡ s
unfolding settle
settle_rests c zero s r = refl
settle_rests c (suc n) s r = rw (turn_rests c s r) (settle_rests c n s r)

-- as many turns as the measure says bring it to rest
pub settle_reaches : (c : Conditions) (n : ℕ) (s : Settling) → measure c s.transfer ≤ n → Resting c (settle c n s).transfer
unfolding settle
settle_reaches c zero s h = go (busy c s.transfer) refl
  where
    go : (b : Bool) → busy c s.transfer ≡ b → Resting c s.transfer
    go true e = absurd (omega (arith, turn_lowers c s e))
    go false e = idle_rests c s.transfer e
settle_reaches c (suc n) s h = go (busy c s.transfer) refl (settle_reaches c n (turn c s))
  where
    go : (b : Bool) → busy c s.transfer ≡ b → (measure c (turn c s).transfer ≤ n → Resting c (settle c n (turn c s)).transfer) → Resting c (settle c n (turn c s)).transfer
    go true e next = next (omega (arith, turn_lowers c s e))
    go false e next =
        let r = idle_rests c s.transfer e in
        rw (turn_rests c s r, settle_rests c n s r) r

-- a turn less at the start is a turn less at the end
settle_turn : (c : Conditions) (n : ℕ) (s : Settling) → settle c n (turn c s) ≡ turn c (settle c n s)
unfolding settle
settle_turn c zero s = refl
settle_turn c (suc n) s = settle_turn c n (turn c s)

-- with turns enough, one turn more at the start makes no difference: the law of a loop that turns until it is at rest
pub settle_enough : (c : Conditions) (n : ℕ) (s : Settling) → measure c s.transfer ≤ n → settle c n s ≡ settle c n (turn c s)
settle_enough c n s h = sym (settle_turn c n s ∙ turn_rests c (settle c n s) (settle_reaches c n s h))

-- a data path in range has at most 24 turns before it
pub measure_small : (c : Conditions) (t : Transfer) → length t.scsi ≤ 8 → t.offset ≤ 8 → measure c t ≤ turns
measure_small c t a b = go c.outbound c.synchronous t.ack refl refl refl
  where
    go : (o y k : Bool) → c.outbound ≡ o → c.synchronous ≡ y → t.ack ≡ k → measure c t ≤ turns
    go true true k p q r = rw (p, q) (omega arith)
    go false true k p q r = rw (p, q) (omega arith)
    go true false true p q r = rw (p, q, r) (omega arith)
    go true false false p q r = rw (p, q, r) (omega arith)
    go false false true p q r = rw (p, q, r) (omega arith)
    go false false false p q r = rw (p, q, r) (omega arith)

-- SETTLING REACHES REST
pub settling_rests : (c : Conditions) (s : Settling) → length s.transfer.scsi ≤ 8 → s.transfer.offset ≤ 8 → Resting c (settle c turns s).transfer
settling_rests c s a b = settle_reaches c turns s (measure_small c s.transfer a b)

-- the SCSI FIFO holds at most 8 after a move
pub move_full : (c : Conditions) (s : Settling) → can_move c s.transfer ≡ true → length s.transfer.scsi ≤ 8 → length (move c s).transfer.scsi ≤ 8
unfolding move
move_full c s h x = go c.outbound refl
  where
    go : (o : Bool) → c.outbound ≡ o → length (move c s).transfer.scsi ≤ 8
    go true o = rw o (simp (length-append, length-take) (omega (arith, move_outbound c s.transfer o h)))
    go false o = rw o (simp length-drop (omega arith))

-- nor after a handshake
pub handshake_full : (c : Conditions) (s : Settling) → can_handshake c s.transfer ≡ true → length s.transfer.scsi ≤ 8 → length (handshake c s).transfer.scsi ≤ 8
unfolding handshake
handshake_full c s h x = go c.outbound c.synchronous refl refl
  where
    go : (o y : Bool) → c.outbound ≡ o → c.synchronous ≡ y → length (handshake c s).transfer.scsi ≤ 8
    go true y o e = rw o (simp length-drop (omega arith))
    go false true o e = rw (o, e) (simp length-append (omega arith))
    go false false o e = rw (o, e) (simp length-append (omega (arith, handshake_inbound c s.transfer o e h)))

-- the bytes that ACKs have stored: inbound, one for each ACK that is asynchronous; a synchronous one was stored at its REQ
abbrev pub stored_by_acks : Conditions → ℕ → ℕ
stored_by_acks c acks = cond c.synchronous 0 acks

-- what is counted while settling, from h bytes in the host FIFO and n in the SCSI FIFO with a handshakes possible: a move takes
-- one byte over, an ACK outbound sends one, an ACK inbound sends none
pub record Counts (c : Conditions) (h n a : ℕ) (s : Settling) : Type 0 where
  pub full : length s.transfer.scsi ≤ 8
  pub acks : s.acks + acks_left c s.transfer ≡ a
  pub host : cond c.outbound (length s.transfer.host + s.moves ≡ h) (length s.transfer.host ≡ h + s.moves)
  pub scsi : cond c.outbound (length s.transfer.scsi + s.acks ≡ n + s.moves) (length s.transfer.scsi + s.moves ≡ n + stored_by_acks c s.acks)
  pub sent : cond c.outbound (length s.sent ≡ s.acks) (s.sent ≡ [])

module _ (c : Conditions) (h n a : ℕ) (s : Settling) where
  pub counts_move : can_move c s.transfer ≡ true → Counts c h n a s → Counts c h n a (move c s)
  unfolding move
  counts_move can i = go c.outbound refl
    where
      go : (o : Bool) → c.outbound ≡ o → Counts c h n a (move c s)
      go true o =
          let e = move_outbound c s.transfer o can in
          let p : length s.transfer.host + s.moves ≡ h = rw o at i.host in
          let m : length s.transfer.scsi + s.acks ≡ n + s.moves = rw o at i.scsi in
          record {
            full = move_full c s can i.full;
            acks = i.acks;
            host = rw o (simp length-drop (omega arith));
            scsi = rw o (simp (length-append, length-take) (omega arith));
            sent = i.sent;
          }
      go false o =
          let e = move_inbound c s.transfer o can in
          let p : length s.transfer.host ≡ h + s.moves = rw o at i.host in
          let m : length s.transfer.scsi + s.moves ≡ n + stored_by_acks c s.acks = rw o at i.scsi in
          record {
            full = move_full c s can i.full;
            acks = i.acks;
            host = rw o (simp (length-append, length-take) (omega arith));
            scsi = rw o (simp length-drop (omega arith));
            sent = i.sent;
          }

  pub counts_handshake : can_handshake c s.transfer ≡ true → Counts c h n a s → Counts c h n a (handshake c s)
  unfolding handshake
  counts_handshake can i =
      record {
        full = handshake_full c s can i.full;
        acks = acks c.synchronous refl;
        host = i.host;
        scsi = scsi c.outbound c.synchronous refl refl;
        sent = sent c.outbound refl;
      }
    where
      t : Settling
      t = handshake c s

      acks : (y : Bool) → c.synchronous ≡ y → t.acks + acks_left c t.transfer ≡ a
      acks true y =
          let k : s.acks + s.transfer.offset ≡ a = rw y at i.acks in
          rw y (omega (arith, synchronous_offset c s.transfer y can))
      acks false y =
          let k : s.acks + 1 ≡ a = rw (y, asynchronous_ack c s.transfer y can) at i.acks in
          rw y (omega arith)

      scsi : (o y : Bool) → c.outbound ≡ o → c.synchronous ≡ y → cond c.outbound (length t.transfer.scsi + t.acks ≡ n + t.moves) (length t.transfer.scsi + t.moves ≡ n + stored_by_acks c t.acks)
      scsi true y o e =
          let m : length s.transfer.scsi + s.acks ≡ n + s.moves = rw o at i.scsi in
          rw o (simp length-drop (omega (arith, handshake_outbound c s.transfer o can)))
      scsi false true o e =
          let m : length s.transfer.scsi + s.moves ≡ n + 0 = rw (o, e) at i.scsi in
          rw (o, e) (simp length-append (omega arith))
      scsi false false o e =
          let m : length s.transfer.scsi + s.moves ≡ n + s.acks = rw (o, e) at i.scsi in
          rw (o, e) (simp length-append (omega arith))

      sent : (o : Bool) → c.outbound ≡ o → cond c.outbound (length t.sent ≡ t.acks) (t.sent ≡ [])
      sent true o =
          let l : length s.sent ≡ s.acks = rw o at i.sent in
          rw o (simp (length-append, length-take) (omega (arith, handshake_outbound c s.transfer o can)))
      sent false o = rw o (rw o at i.sent)

counts_settle : (c : Conditions) (h n a k : ℕ) (s : Settling) → Counts c h n a s → Counts c h n a (settle c k s)
counts_settle c h n a = settle_keeps (Counts c h n a) c (counts_move c h n a) (counts_handshake c h n a)

-- where nothing is moved, acknowledged or sent yet
pub counts_start : (c : Conditions) (t : Transfer) → length t.scsi ≤ 8 → Counts c (length t.host) (length t.scsi) (acks_left c t) (record { transfer = t; moves = 0; acks = 0; sent = [] })
counts_start c t x =
    record { full = x; acks = zero-add _; host = host c.outbound; scsi = scsi c.outbound c.synchronous; sent = sent c.outbound }
  where
    host : (o : Bool) → cond o (length t.host + 0 ≡ length t.host) (length t.host ≡ length t.host + 0)
    host true = omega arith
    host false = omega arith

    scsi : (o y : Bool) → cond o (length t.scsi + 0 ≡ length t.scsi + 0) (length t.scsi + 0 ≡ length t.scsi + cond y 0 0)
    scsi true y = refl
    scsi false true = refl
    scsi false false = refl

    sent : (o : Bool) → cond o (length {A = ℕ} [] ≡ 0) (◌≡◌ {A = List ℕ} [] [])
    sent true = refl
    sent false = refl

-- SETTLING LOSES AND MAKES NO BYTE: the FIFOs' counts follow from the moves and ACKs reported
pub settling_counts : (c : Conditions) (k : ℕ) (s : State) → length s.transfer.scsi ≤ 8 → Counts c (length s.transfer.host) (length s.transfer.scsi) (acks_left c s.transfer) (settle c k (started s))
unfolding started
settling_counts c k s x =
    counts_settle c (length s.transfer.host) (length s.transfer.scsi) (acks_left c s.transfer) k (started s)
    (counts_start c s.transfer x)

-- what an event reports: "at most 16; ACKs at most 8"; a byte sent for each ACK outbound, and none inbound
pub record Report (c : Conditions) (s : Settling) : Type 0 where
  pub moves : s.moves ≤ 16
  pub acks : s.acks ≤ 8
  pub sent : length s.sent ≤ 8
  pub sent_outbound : c.outbound ≡ true → length s.sent ≡ s.acks
  pub sent_inbound : c.outbound ≡ false → s.sent ≡ []

pub report : (c : Conditions) (h n a : ℕ) (s : Settling) → n ≤ 8 → a ≤ 8 → Counts c h n a s → Report c s
report c h n a s hn ha i = go c.outbound c.synchronous refl refl
  where
    k : s.acks ≤ 8
    k = omega (arith, i.acks)

    go : (o y : Bool) → c.outbound ≡ o → c.synchronous ≡ y → Report c s
    go true y o e =
        let m : length s.transfer.scsi + s.acks ≡ n + s.moves = rw o at i.scsi in
        let l : length s.sent ≡ s.acks = rw o at i.sent in
        record {
          moves = omega (arith, k, i.full);
          acks = k;
          sent = omega (arith, k);
          sent_outbound = λ q. l;
          sent_inbound = λ q. absurd (never (sym q ∙ o));
        }
    go false y o e =
        let l : s.sent ≡ [] = rw o at i.sent in
        record {
          moves = moves y e;
          acks = k;
          sent = rw l (omega arith);
          sent_outbound = λ q. absurd (never (sym o ∙ q));
          sent_inbound = λ q. l;
        }
      where
        moves : (y : Bool) → c.synchronous ≡ y → s.moves ≤ 16
        moves true e =
            let m : length s.transfer.scsi + s.moves ≡ n + 0 = rw (o, e) at i.scsi in
            omega arith
        moves false e =
            let m : length s.transfer.scsi + s.moves ≡ n + s.acks = rw (o, e) at i.scsi in
            omega (arith, k)

pub acks_left_small : (c : Conditions) (t : Transfer) → t.offset ≤ 8 → acks_left c t ≤ 8
acks_left_small c t h = go c.synchronous t.ack
  where
    go : (y k : Bool) → cond y t.offset (one (not k)) ≤ 8
    go true k = h
    go false true = omega arith
    go false false = omega arith

-- SETTLING REPORTS AT MOST 16 MOVES AND 8 ACKS, from a start where none are made
pub settling_reports : (c : Conditions) (k : ℕ) (s : State) → length s.transfer.scsi ≤ 8 → s.transfer.offset ≤ 8 → Report c (settle c k (started s))
settling_reports c k s x y =
    report c (length s.transfer.host) (length s.transfer.scsi) (acks_left c s.transfer) (settle c k (started s)) x (acks_left_small c s.transfer y)
    (settling_counts c k s x)
