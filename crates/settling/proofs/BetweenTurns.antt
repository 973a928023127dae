-- What holds between the turns of settling, of the array and of what is told.
use Prim.Native.Nat.{ℕ, suc, ◌+◌, ◌<◌, ◌≤◌}
use mathlib.Core.Path.{◌≡◌, refl, sym, ap, ◌∙◌, subst}
use mathlib.Core.Bool.{true, false, cond}
use mathlib.Core.List.{List, [], ◌++◌}
use native.Mathlib.Omega.{arith}
use native.Mathlib.Nat.{le_refl, zero-add}
use lib.ListN.{take}
use Rattle.rules.specs.State.{State, Transfer}
use Rattle.rules.specs.Ranges.{TransferFits, TransferBytes}
use Rattle.rules.specs.StepC.{Settling, can_move, can_handshake, handshake, turn, settle}
use Rattle.rules.specs.declared.chip.Conditions.{Conditions}
use Rattle.rules.proofs.Ranges.{SettlingBytes, fits_settle, bytes_settle}
use Rattle.rules.proofs.Rest.{measure, move_lowers, handshake_lowers, turn_moves, turn_handshakes}
use Rattle.laws.proofs.Lists.{padded_take}
use Rattle.rules.specs.declared.chip.Fifo.{Fifo}
use Rattle.fifos.specs.Fifos.{sent_view, sent_of, SentTidy}
use Rattle.fifos.proofs.Laws.{sent_count}
use Rattle.settling.specs.Blocks.{start_of, movable, carried, moved_by, passed, acknowledged}
use Rattle.settling.proofs.ShakeParts.{shake_parts}
use Rattle.settling.proofs.Runs.{run_none, run_keeps, run_ends}
use Rattle.settling.proofs.Underway.{Underway, reports, begins, move_under, handshake_under, room_for_ack, at_end}
use Rattle.rules.specs.Changed.{with_transfer}
use Rattle.image.specs.Image.{image_of, state_at, IsImage}
use Rattle.settling.specs.Steps.{Moves, sent_with, shaken_of}
use Rattle.settling.specs.Settles.{Settles, end_of}
use Rattle.settling.proofs.ReadBackOfTransfer.{kept}

-- no move leaves the data path as it is
pub carried_none : (c : Conditions) (t : Transfer) → carried c.outbound 0 t ≡ t
unfolding moved_by start_of
carried_none c t = ap (λ (x : Settling). x.transfer) (run_none c (start_of t))

-- the data path after a turn is in range, and of bytes
Sound : Settling → Type 0
Sound x = TransferFits x.transfer × SettlingBytes x

module _ (c : Conditions) (byte : c.byte < 256) where
  sound_turn : (x : Settling) → Sound x → Sound (turn c x)
  unfolding Sound settle
  sound_turn x p = (fits_settle c 1 x p.0, bytes_settle c byte 1 x p.1)

  sound_start : (t : Transfer) → TransferFits t → TransferBytes t → Sound (start_of t)
  unfolding Sound start_of
  sound_start t f b = (f, record { transfer = b; sent = tt })

  sound_run : (t : Transfer) → TransferFits t → TransferBytes t → TransferFits (carried c.outbound (movable c t) t) × TransferBytes (carried c.outbound (movable c t) t)
  unfolding Sound moved_by start_of
  sound_run t f b =
      let p : Sound (moved_by c (movable c t) (start_of t)) = run_keeps Sound c (λ x h k. subst Sound (turn_moves c x h) (sound_turn x k)) (movable c t) (start_of t) (le_refl _) (sound_start t f b) in
      (p.0, p.1.transfer)

  sound_shake : (t : Transfer) → can_move c t ≡ false → can_handshake c t ≡ true → TransferFits t → TransferBytes t → TransferFits (shaken_of c t) × TransferBytes (shaken_of c t)
  unfolding Sound start_of handshake acknowledged passed
  sound_shake t h k f b =
      let p : Sound (handshake c (start_of t)) = subst Sound (turn_handshakes c (start_of t) h k) (sound_turn (start_of t) (sound_start t f b)) in
      (p.0, p.1.transfer)

-- settling as the array and the numbers show it
abbrev pub shown : List ℕ → ℕ → ℕ → Fifo 8 → Settling
shown m a k v = record { transfer = (state_at m).transfer; moves = a; acks = k; sent = sent_view v }

same_shown : {t t' : Transfer} {a a' k k' : ℕ} {l l' : List ℕ} → t ≡ t' → a ≡ a' → k ≡ k' → l ≡ l' → ◌≡◌ {A = Settling} (record { transfer = t; moves = a; acks = k; sent = l }) (record { transfer = t'; moves = a'; acks = k'; sent = l' })
same_shown e f g h = cc

-- from the array x, of which only the data path changed
pub record Between (c : Conditions) (x m : List ℕ) (a k : ℕ) (v : Fifo 8) : Type 0 where
  pub image : IsImage m
  pub rest : state_at m ≡ with_transfer (state_at m).transfer (state_at x)
  pub tidy : SentTidy v
  pub under : Underway c (state_at x).transfer (shown m a k v)

-- and no move is possible
pub record Going (c : Conditions) (x m : List ℕ) (a k : ℕ) (v : Fifo 8) : Type 0 where
  pub between : Between c x m a k v
  pub still : can_move c (state_at m).transfer ≡ false

rest_of : (x m m' : List ℕ) (t : Transfer) → state_at m ≡ with_transfer (state_at m).transfer (state_at x) → state_at m' ≡ with_transfer t (state_at m) → state_at m' ≡ with_transfer (state_at m').transfer (state_at x)
rest_of x m m' t r e =
    let f : (state_at m').transfer ≡ t = ap (λ (y : State). y.transfer) e in
    e ∙ ap (with_transfer t) r ∙ ap (λ (y : Transfer). with_transfer y (state_at x)) (sym f)

pub started : (c : Conditions) (m : List ℕ) (v : Fifo 8) → IsImage m → v ≡ sent_of [] → Between c m m 0 0 v
unfolding start_of
started c m v i e =
    let f = i.range.transfer in
    let w : sent_view v ≡ [] = ap sent_view e ∙ padded_take 8 [] in
    record {
      image = i;
      rest = refl;
      tidy = e ∙ ap sent_of (sym w);
      under = subst (Underway c (state_at m).transfer) (same_shown refl refl refl (sym w)) (begins c (state_at m).transfer f.host f.scsi f.counter f.offset);
    }

module _ (c : Conditions) (byte : c.byte < 256) (x m : List ℕ) (a k : ℕ) (v : Fifo 8) where
  pub moved_on : (m' : List ℕ) (r : ℕ) → Between c x m a k v → Moves m c m' r → Going c x m' (a + r) k v × (measure c (state_at m').transfer ≤ measure c (state_at m).transfer)
  unfolding moved_by
  moved_on m' r b w =
      let t : Transfer = (state_at m).transfer in
      let n : ℕ = movable c t in
      let p = sound_run c byte t b.image.range.transfer b.image.bytes.transfer in
      let y = kept m m' (carried c.outbound n t) b.image p.0 p.1 w.left in
      let f : (state_at m').transfer ≡ carried c.outbound n t = ap (λ (z : State). z.transfer) y.1 in
      let u : Underway c (state_at x).transfer (moved_by c n (shown m a k v)) = run_keeps (Underway c (state_at x).transfer) c (move_under c (state_at x).transfer) n (shown m a k v) (le_refl _) b.under in
      let g : measure c (carried c.outbound n t) ≤ measure c t = run_keeps (λ (z : Settling). measure c z.transfer ≤ measure c t) c (λ z h q. omega (arith, move_lowers c z h)) n (shown m a k v) (le_refl _) (le_refl _) in (
        record {
          between =
              record {
                image = y.0;
                rest = rest_of x m m' (carried c.outbound n t) b.rest y.1;
                tidy = b.tidy;
                under = subst (Underway c (state_at x).transfer) (same_shown (sym f) (ap (λ (j : ℕ). a + j) (sym w.made)) refl refl) u;
              };
          still = ap (can_move c) f ∙ run_ends c t;
        },
        subst (λ (z : Transfer). measure c z ≤ measure c t) (sym f) g,
      )

  pub shaken_on : (m' : List ℕ) (v' : Fifo 8) → Going c x m a k v → can_handshake c (state_at m).transfer ≡ true → v' ≡ sent_with c (state_at m).transfer v → m' ≡ image_of (with_transfer (shaken_of c (state_at m).transfer) (state_at m)) → Between c x m' a (k + 1) v' × (suc (measure c (state_at m').transfer) ≤ measure c (state_at m).transfer)
  shaken_on m' v' q h d e =
      let t : Transfer = (state_at m).transfer in
      let b = q.between in
      let p = sound_shake c byte t q.still h b.image.range.transfer b.image.bytes.transfer in
      let y = kept m m' (shaken_of c t) b.image p.0 p.1 e in
      let f : (state_at m').transfer ≡ shaken_of c t = ap (λ (z : State). z.transfer) y.1 in
      let l : List ℕ = cond c.outbound (sent_view v ++ take 1 t.scsi) (sent_view v) in
      let s : sent_view v' ≡ l = ap sent_view d ∙ padded_take 8 l in
      let u : Underway c (state_at x).transfer (handshake c (shown m a k v)) = handshake_under c (state_at x).transfer (shown m a k v) q.still h b.under in
      let i : handshake c (shown m a k v) ≡ shown m' a (k + 1) v' = sym (shake_parts c (shown m a k v)) ∙ same_shown (sym f) refl refl (sym s) in (
        record {
          image = y.0;
          rest = rest_of x m m' (shaken_of c t) b.rest y.1;
          tidy = d ∙ ap sent_of (sym s);
          under = subst (Underway c (state_at x).transfer) i u;
        },
        subst (λ (z : Settling). suc (measure c z.transfer) ≤ measure c t) i (handshake_lowers c (shown m a k v) h),
      )

module _ (c : Conditions) (x m : List ℕ) (a k : ℕ) (v : Fifo 8) (g : Going c x m a k v) where
  -- what the numbers can hold
  pub moves_fit : a ≤ 16
  moves_fit = (reports c (state_at x).transfer (shown m a k v) g.between.under).moves

  pub room : can_handshake c (state_at m).transfer ≡ true → (k < 8) × (v.count < 8)
  room h =
      let w = room_for_ack c (state_at x).transfer (shown m a k v) h g.between.under in
      (w.0, omega (arith, w.0, w.1, sent_count v (sent_view v) g.between.tidy))

  pub settles : can_handshake c (state_at m).transfer ≡ false → Settles x c m (record { sent = v; moves = a; acks = k })
  settles h =
      let e : shown m a k v ≡ end_of x c = at_end c (state_at x).transfer (shown m a k v) g.still h g.between.under in
      let w = reports c (state_at x).transfer (shown m a k v) g.between.under in
      record {
        exact = g.between.image.packed ∙ ap image_of g.between.rest ∙ ap (λ (z : Settling). image_of (with_transfer z.transfer (state_at x))) e;
        sent = g.between.tidy ∙ ap (λ (z : Settling). sent_of z.sent) e;
        moves = ap (λ (z : Settling). z.moves) e;
        acks = ap (λ (z : Settling). z.acks) e;
        few_moves = w.moves;
        few_acks = w.acks;
      }

-- where the loop begins: after the first run of moves
pub begun : (c : Conditions) → c.byte < 256 → (m m' : List ℕ) (r : ℕ) (v : Fifo 8) → IsImage m → v ≡ sent_of [] → Moves m c m' r → Going c m m' r 0 v
begun c byte m m' r v i e w = subst (λ (n : ℕ). Going c m m' n 0 v) (zero-add r) (moved_on c byte m m 0 0 v m' r (started c m v i e) w).0
