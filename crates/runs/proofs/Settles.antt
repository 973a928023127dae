-- What settling keeps: outbound, the bytes in order and the count of those sent; inbound, the bytes in order; idle, the bytes sent.
use mathlib.Core.Path.{◌≡◌, refl, sym, ◌∙◌, ap}
use mathlib.Core.Bool.{Bool, true, false, not, ◌&&◌, cond, and-false}
use mathlib.Core.List.{List, [], ◌∷◌, ◌++◌, append_assoc}
use Prim.Native.Nat.{ℕ, zero, suc, ◌+◌, ◌%◌, ◌<◌, ◌≤◌}
use native.Mathlib.Omega.{arith}
use lib.Dec.{ltb}
use lib.ListN.{length, take, drop, replicate, length-append, length-take, length-drop, take-append-drop, replicate-append-replicate}
use borrow.Author.Tests.{ltb-true}
use Rattle.rules.specs.State.{Transfer}
use Rattle.rules.specs.Counter.{stepped_to, counter_step}
use Rattle.rules.specs.StepC.{Settling, can_move, move, can_asynchronous, can_synchronous, can_handshake, handshake, turn, settle}
use Rattle.rules.specs.declared.chip.Conditions.{Conditions}
use Rattle.rules.proofs.Logic.{never}
use Rattle.rules.proofs.Settling.{settle_keeps}

-- outbound, from k bytes sent before
pub record Outbound (bytes : List ℕ) (k : ℕ) (s : Settling) : Type 0 where
  pub order : s.sent ++ (s.transfer.scsi ++ s.transfer.host) ≡ bytes
  pub count : s.transfer.counter ≡ (k + length s.sent) % 16777216
  pub room : length s.transfer.host ≤ 128

-- a handshake outbound needs a byte held
byte_held : (g s a b c d : Bool) → (g && cond s (a && d) (b && c && d)) ≡ true → d ≡ true
byte_held g s a b c true e = refl
byte_held false s a b c false e = e
byte_held true true true b c false e = e
byte_held true true false b c false e = e
byte_held true false a false c false e = e
byte_held true false a true false false e = e
byte_held true false a true true false e = e

module _ (c : Conditions) (h : c.outbound ≡ true) where
  pub handshake_has_byte : (s : Settling) → can_handshake c s.transfer ≡ true → 0 < length s.transfer.scsi
  unfolding can_handshake can_synchronous can_asynchronous
  handshake_has_byte s e =
      ltb-true 0 (length s.transfer.scsi)
      (byte_held c.enabled c.synchronous (ltb 0 s.transfer.offset) c.req (not s.transfer.ack)
      (ltb 0 (length s.transfer.scsi)) (rw h at e))

module _ (c : Conditions) (h : c.outbound ≡ true) (bytes : List ℕ) (k : ℕ) where
  outbound_move : (s : Settling) → Outbound bytes k s → Outbound bytes k (move c s)
  unfolding move
  outbound_move s o =
      let r = o.room in
      record {
        order = rw h (simp (append_assoc, take-append-drop) o.order);
        count = o.count;
        room = rw h (simp length-drop (omega arith));
      }

  outbound_handshake : (s : Settling) → can_handshake c s.transfer ≡ true → Outbound bytes k s → Outbound bytes k (handshake c s)
  unfolding handshake counter_step stepped_to
  outbound_handshake s e o =
      let p = handshake_has_byte c h s e in
      let n = o.count in
      record {
        order =
            rw h
            (simp append_assoc
            (ap (λ (x : List ℕ). s.sent ++ x)
            (sym (append_assoc (take 1 s.transfer.scsi) (drop 1 s.transfer.scsi) s.transfer.host)
            ∙ ap (λ (x : List ℕ). x ++ s.transfer.host) (take-append-drop 1 s.transfer.scsi))
            ∙ o.order));
        count = rw h (simp (length-append, length-take) (omega arith));
        room = o.room;
      }

  pub outbound_settles : (n : ℕ) (s : Settling) → Outbound bytes k s → Outbound bytes k (settle c n s)
  outbound_settles = settle_keeps (Outbound bytes k) c (λ s q. outbound_move s) outbound_handshake

-- outbound each ACK sends one byte
abbrev pub Paired : Settling → Type 0
Paired s = s.acks ≡ length s.sent

module _ (c : Conditions) (h : c.outbound ≡ true) where
  paired_move : (s : Settling) → Paired s → Paired (move c s)
  unfolding move
  paired_move s o = o

  paired_handshake : (s : Settling) → can_handshake c s.transfer ≡ true → Paired s → Paired (handshake c s)
  unfolding handshake
  paired_handshake s e o = let p = handshake_has_byte c h s e in rw h (simp (length-append, length-take) (omega arith))

  pub paired_settles : (n : ℕ) (s : Settling) → Paired s → Paired (settle c n s)
  paired_settles = settle_keeps Paired c (λ s q. paired_move s) paired_handshake

-- inbound: what each handshake stores, and what n of them store
abbrev pub stored_by : Conditions → ℕ → List ℕ
stored_by c n = cond c.synchronous [] (replicate n c.byte)

stored_one_more : (t : Bool) (b n : ℕ) → cond t [] (replicate n b) ++ cond t [] (b ∷ []) ≡ cond t [] (replicate (n + 1) b)
stored_one_more true b n = refl
stored_one_more false b n = replicate-append-replicate n 1 b

module _ (c : Conditions) (h : c.outbound ≡ false) (bytes : List ℕ) where
  abbrev pub Inbound : Settling → Type 0
  Inbound s = s.transfer.host ++ s.transfer.scsi ≡ bytes ++ stored_by c s.acks

  inbound_move : (s : Settling) → Inbound s → Inbound (move c s)
  unfolding move
  inbound_move s o = rw h (simp (append_assoc, take-append-drop) o)

  inbound_handshake : (s : Settling) → Inbound s → Inbound (handshake c s)
  unfolding handshake
  inbound_handshake s o =
      rw h
      (sym (append_assoc s.transfer.host s.transfer.scsi _)
      ∙ ap (λ (x : List ℕ). x ++ cond c.synchronous [] (c.byte ∷ [])) o
      ∙ append_assoc bytes (stored_by c s.acks) _
      ∙ ap (λ (x : List ℕ). bytes ++ x) (stored_one_more c.synchronous c.byte s.acks))

  pub inbound_settles : (n : ℕ) (s : Settling) → Inbound s → Inbound (settle c n s)
  inbound_settles = settle_keeps Inbound c (λ s q. inbound_move s) (λ s q. inbound_handshake s)

-- the counter counts the ACKs, whichever way
abbrev pub Counted : ℕ → Settling → Type 0
Counted k s = s.transfer.counter ≡ (k + s.acks) % 16777216

module _ (c : Conditions) (k : ℕ) where
  counted_move : (s : Settling) → Counted k s → Counted k (move c s)
  unfolding move
  counted_move s o = o

  counted_handshake : (s : Settling) → Counted k s → Counted k (handshake c s)
  unfolding handshake counter_step stepped_to
  counted_handshake s o = omega arith

  pub counted_settles : (n : ℕ) (s : Settling) → Counted k s → Counted k (settle c n s)
  counted_settles = settle_keeps (Counted k) c (λ s q. counted_move s) (λ s q. counted_handshake s)

-- inbound nothing is sent
abbrev pub Unsent : Settling → Type 0
Unsent s = s.sent ≡ []

module _ (c : Conditions) (h : c.outbound ≡ false) where
  unsent_move : (s : Settling) → Unsent s → Unsent (move c s)
  unfolding move
  unsent_move s o = o

  unsent_handshake : (s : Settling) → Unsent s → Unsent (handshake c s)
  unfolding handshake
  unsent_handshake s o = rw h o

  pub unsent_settles : (n : ℕ) (s : Settling) → Unsent s → Unsent (settle c n s)
  unsent_settles = settle_keeps Unsent c (λ s q. unsent_move s) (λ s q. unsent_handshake s)

-- with no handshake enabled: nothing is sent, no ACK, and the counter and the automatic ACK stay
pub record Idle (n : ℕ) (b : Bool) (s : Settling) : Type 0 where
  pub none : s.sent ≡ []
  pub acks : s.acks ≡ 0
  pub counter : s.transfer.counter ≡ n
  pub ack : s.transfer.ack ≡ b

module _ (c : Conditions) (h : c.enabled ≡ false) (n : ℕ) (b : Bool) where
  idle_move : (s : Settling) → Idle n b s → Idle n b (move c s)
  unfolding move
  idle_move s i = record { none = i.none; acks = i.acks; counter = i.counter; ack = i.ack }

  idle_handshake : (s : Settling) → can_handshake c s.transfer ≡ true → Idle n b s → Idle n b (handshake c s)
  unfolding can_handshake
  idle_handshake s e i = absurd (never (rw h at e))

  pub idle_settles : (m : ℕ) (s : Settling) → Idle n b s → Idle n b (settle c m s)
  idle_settles = settle_keeps (Idle n b) c (λ s q. idle_move s) idle_handshake

-- where neither is possible, settling changes nothing
module _ (c : Conditions) (s : Settling) (m : can_move c s.transfer ≡ false) (h : can_handshake c s.transfer ≡ false) where
  turn_still : turn c s ≡ s
  unfolding turn
  turn_still = rw (m, h)

  pub settle_still : (n : ℕ) → settle c n s ≡ s
  unfolding settle
  settle_still zero = refl
  settle_still (suc n) = rw turn_still (settle_still n)

-- nothing is possible where there is no path, or outbound with both FIFOs empty
pub no_path_no_move : (c : Conditions) (t : Transfer) → c.path ≡ false → can_move c t ≡ false
unfolding can_move
no_path_no_move c t p = rw p

pub disabled_no_handshake : (c : Conditions) (t : Transfer) → c.enabled ≡ false → can_handshake c t ≡ false
unfolding can_handshake
disabled_no_handshake c t h = rw h

pub empty_no_move : (c : Conditions) (t : Transfer) → c.outbound ≡ true → t.host ≡ [] → can_move c t ≡ false
unfolding can_move
empty_no_move c t o e = rw (o, e) (and-false c.path)

pub empty_no_handshake : (c : Conditions) (t : Transfer) → c.outbound ≡ true → t.scsi ≡ [] → can_handshake c t ≡ false
unfolding can_handshake can_synchronous can_asynchronous
empty_no_handshake c t o e = rw (o, e) (go c.enabled c.synchronous (ltb 0 t.offset) c.req (not t.ack))
  where
    go : (g s a b d : Bool) → (g && cond s (a && false) (b && d && false)) ≡ false
    go g s a b d = simp and-false (last g s)
      where
        last : (g s : Bool) → (g && cond s false false) ≡ false
        last true true = refl
        last true false = refl
        last false s = refl
