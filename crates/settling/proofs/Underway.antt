-- What holds of every state between the turns of settling, from the transfer t it began with.
use Prim.Native.Nat.{ℕ, ◌+◌, ◌-◌, ◌<◌, ◌≤◌}
use mathlib.Core.Path.{◌≡◌, refl, sym, ap, ◌∙◌}
use mathlib.Core.Bool.{Bool, true, false, cond}
use native.Mathlib.Omega.{arith}
use lib.ListN.{length, length-append, length-take, length-drop}
use Rattle.rules.specs.State.{Transfer}
use Rattle.rules.specs.Counter.{counter_size}
use Rattle.rules.specs.declared.counts.Direction.TheVariants.{Up}
use Rattle.rules.proofs.Ranges.{counter_fits}
use Rattle.rules.specs.StepC.{Settling, can_move, move, can_handshake, handshake, turn, settle, turns}
use Rattle.rules.specs.declared.chip.Conditions.{Conditions}
use Rattle.rules.proofs.Rest.{Counts, Report, acks_left, measure_small, move_inbound, synchronous_offset, asynchronous_ack, turn_moves, turn_handshakes, settle_enough, settle_rests, counts_start, counts_move, counts_handshake, acks_left_small, report}
use Rattle.settling.specs.Blocks.{start_of}

module _ (c : Conditions) (s : Settling) where
  move_host : can_move c s.transfer ≡ true → length s.transfer.host ≤ 128 → length (move c s).transfer.host ≤ 128
  unfolding move
  move_host h k = go c.outbound refl
    where
      go : (o : Bool) → c.outbound ≡ o → length (move c s).transfer.host ≤ 128
      go true o = rw o (simp length-drop (omega arith))
      go false o =
          let e = move_inbound c s.transfer o h in
          rw o (simp (length-append, length-take) (omega arith))

  pub move_counter : s.transfer.counter < counter_size → (move c s).transfer.counter < counter_size
  unfolding move
  move_counter h = h

  pub move_offset : s.transfer.offset ≤ 8 → (move c s).transfer.offset ≤ 8
  unfolding move
  move_offset h = h

  handshake_host : length s.transfer.host ≤ 128 → length (handshake c s).transfer.host ≤ 128
  unfolding handshake
  handshake_host h = h

  pub handshake_counter : (handshake c s).transfer.counter < counter_size
  unfolding handshake
  handshake_counter = counter_fits Up s.transfer.counter

  pub handshake_offset : s.transfer.offset ≤ 8 → (handshake c s).transfer.offset ≤ 8
  unfolding handshake
  handshake_offset h = go c.synchronous
    where
      go : (y : Bool) → cond y (s.transfer.offset - 1) s.transfer.offset ≤ 8
      go true = omega arith
      go false = h

  -- a handshake that is possible is one of those that were left
  acks_below : (a : ℕ) → can_handshake c s.transfer ≡ true → a ≤ 8 → s.acks + acks_left c s.transfer ≡ a → s.acks < 8
  acks_below a h k e = go c.synchronous refl
    where
      go : (y : Bool) → c.synchronous ≡ y → s.acks < 8
      go true y =
          let f = synchronous_offset c s.transfer y h in
          let g : s.acks + s.transfer.offset ≡ a = rw y at e in
          omega arith
      go false y =
          let g : s.acks + 1 ≡ a = rw (y, asynchronous_ack c s.transfer y h) at e in
          omega arith

  sent_below : Report c s → length s.sent ≤ s.acks
  sent_below r = go c.outbound refl
    where
      go : (o : Bool) → c.outbound ≡ o → length s.sent ≤ s.acks
      go true o = omega (arith, r.sent_outbound o)
      go false o = rw (r.sent_inbound o) (omega arith)

pub record Underway (c : Conditions) (t : Transfer) (s : Settling) : Type 0 where
  pub begun : length t.scsi ≤ 8
  pub few : acks_left c t ≤ 8
  pub counts : Counts c (length t.host) (length t.scsi) (acks_left c t) s
  pub host : length s.transfer.host ≤ 128
  pub counter : s.transfer.counter < counter_size
  pub offset : s.transfer.offset ≤ 8
  pub same : settle c turns s ≡ settle c turns (start_of t)

module _ (c : Conditions) (t : Transfer) where
  -- what an answer can hold
  pub reports : (s : Settling) → Underway c t s → Report c s
  reports s u = report c (length t.host) (length t.scsi) (acks_left c t) s u.begun u.few u.counts

  -- where settling begins
  pub begins : length t.host ≤ 128 → length t.scsi ≤ 8 → t.counter < counter_size → t.offset ≤ 8 → Underway c t (start_of t)
  unfolding start_of
  begins h q n o =
      record {
        begun = q;
        few = acks_left_small c t o;
        counts = counts_start c t q;
        host = h;
        counter = n;
        offset = o;
        same = refl;
      }

  -- a turn leads to the same end
  same_end : (s : Settling) → Underway c t s → (x : Settling) → turn c s ≡ x → settle c turns x ≡ settle c turns (start_of t)
  same_end s u x e =
      ap (settle c turns) (sym e) ∙ sym (settle_enough c turns s (measure_small c s.transfer u.counts.full u.offset))
      ∙ u.same

  pub move_under : (s : Settling) → can_move c s.transfer ≡ true → Underway c t s → Underway c t (move c s)
  move_under s h u =
      record {
        begun = u.begun;
        few = u.few;
        counts = counts_move c (length t.host) (length t.scsi) (acks_left c t) s h u.counts;
        host = move_host c s h u.host;
        counter = move_counter c s u.counter;
        offset = move_offset c s u.offset;
        same = same_end s u (move c s) (turn_moves c s h);
      }

  pub handshake_under : (s : Settling) → can_move c s.transfer ≡ false → can_handshake c s.transfer ≡ true → Underway c t s → Underway c t (handshake c s)
  handshake_under s h k u =
      record {
        begun = u.begun;
        few = u.few;
        counts = counts_handshake c (length t.host) (length t.scsi) (acks_left c t) s k u.counts;
        host = handshake_host c s u.host;
        counter = handshake_counter c s;
        offset = handshake_offset c s u.offset;
        same = same_end s u (handshake c s) (turn_handshakes c s h k);
      }

  -- one ACK more, and a byte sent with it, can be held
  pub room_for_ack : (s : Settling) → can_handshake c s.transfer ≡ true → Underway c t s → (s.acks < 8) × (length s.sent ≤ s.acks)
  room_for_ack s h u = (acks_below c s (acks_left c t) h u.few u.counts.acks, sent_below c s (reports s u))

  -- at rest the end is reached
  pub at_end : (s : Settling) → can_move c s.transfer ≡ false → can_handshake c s.transfer ≡ false → Underway c t s → s ≡ settle c turns (start_of t)
  at_end s h k u = sym (settle_rests c turns s (record { no_move = h; no_handshake = k })) ∙ u.same
