-- A block on an image: what settling leaves of it, and D.
use mathlib.Core.Path.{◌≡◌, refl, ap, subst, ◌∙◌}
use mathlib.Core.List.{List, ◌++◌}
use Prim.Native.Nat.{ℕ, ◌+◌, ◌≤◌}
use native.Mathlib.Omega.{arith}
use lib.ListN.{length, take, drop, length-append, length-take}
use Rattle.rules.specs.State.{State}
use Rattle.rules.specs.Changed.{with_transfer, with_status, with_host}
use Rattle.rules.specs.Seen.{ack_driven, ack_seen}
use Rattle.rules.specs.StepC.{Settling, conditions, turns}
use Rattle.rules.specs.StepD.{status_d}
use Rattle.rules.specs.Ranges.{Bytes, InRange, InBytes, TransferFits, TransferBytes}
use Rattle.rules.specs.declared.chip.Conditions.{Conditions}
use Rattle.rules.proofs.Ranges.{bytes_append, bytes_take, bytes_drop, fits_settle, bytes_settle, conditions_byte}
use Rattle.image.specs.Image.{IsImage, image_of, state_at}
use Rattle.effects.proofs.ImageOnward.{image_is, state_is}
use Rattle.fifos.specs.Fifos.{sent_of}
use Rattle.settling.specs.Blocks.{start_of}
use Rattle.settling.specs.Settles.{end_of, Settles}
use Rattle.settling.specs.declared.Told.{Told}
use Rattle.settling.proofs.ReadBackOfTransfer.{kept}
use Rattle.rules.specs.declared.chip.Fifo.{Fifo}
use Rattle.words.specs.Blocks.{settled_with, block_settled, block_left}
use Rattle.words.proofs.Port.{conditions_same}
use Rattle.strings.specs.Passed.{IsBlock}

-- the host FIFO put in, of a state in range
pub held_range : (s : State) (h : List ℕ) → InRange s → length h ≤ 128 → InRange (with_host h s)
held_range s h i n =
    record {
      registers = i.registers;
      transfer = record { host = n; scsi = i.transfer.scsi; counter = i.transfer.counter; offset = i.transfer.offset };
      stack = i.stack;
      quiet = i.quiet;
      identity = i.identity;
      sequencer = i.sequencer;
    }

pub held_bytes : (s : State) (h : List ℕ) → InBytes s → Bytes h → InBytes (with_host h s)
held_bytes s h j b =
    record {
      lines = j.lines;
      registers = j.registers;
      transfer = record { last = j.transfer.last; host = b; scsi = j.transfer.scsi };
      stack = j.stack;
      selid = j.selid;
    }

-- a block of what the host FIFO already is
pub held_settles : (s : State) (h : List ℕ) → block_settled (with_host h s) h ≡ block_settled s h
unfolding settled_with
held_settles s h = ap (λ (c : Conditions). settled_with c h s.transfer) (conditions_same s h)

pub held_leaves : (s : State) (h : List ℕ) → block_left (with_host h s) h ≡ block_left s h
unfolding block_left ack_seen ack_driven
held_leaves s h =
    ap (λ (x : Settling). with_status (status_d x.acks (ack_seen (with_transfer x.transfer s)) s.status) (with_transfer x.transfer s))
    (held_settles s h)

pub held_block : {s : State} {h m : List ℕ} {r : Fifo 8} → IsBlock (with_host h s) h m r → IsBlock s h m r
held_block {s} {h} b =
    record {
      image = b.image ∙ ap image_of (held_leaves s h);
      sent = b.sent ∙ ap (λ (x : Settling). sent_of x.sent) (held_settles s h);
    }

-- settling, then REQINIT
module _ {m : List ℕ} (i : IsImage m) {n : List ℕ} {t : Told} (w : Settles m (conditions (state_at m)) n t) where
  abbrev s : State
  s = state_at m

  abbrev h : List ℕ
  h = s.transfer.host

  end_is : end_of m (conditions s) ≡ block_settled s h
  unfolding start_of settled_with
  end_is = refl

  settled_fits : TransferFits (block_settled s h).transfer
  unfolding settled_with
  settled_fits = fits_settle (conditions s) turns _ i.range.transfer

  settled_bytes : TransferBytes (block_settled s h).transfer
  unfolding settled_with
  settled_bytes = (bytes_settle (conditions s) (conditions_byte s i.bytes) turns _ (record { transfer = i.bytes.transfer; sent = tt })).transfer

  settled_is : n ≡ image_of (with_transfer (block_settled s h).transfer s)
  settled_is = w.exact ∙ ap (λ (x : Settling). image_of (with_transfer x.transfer s)) end_is

  both : IsImage n × (state_at n ≡ with_transfer (block_settled s h).transfer s)
  both = kept m n (block_settled s h).transfer i settled_fits settled_bytes settled_is

  pub image_settled : IsImage n
  image_settled = both.0

  pub block_done : {l : List ℕ} → l ≡ image_of (with_status (status_d t.acks (ack_seen (state_at n)) (state_at n).status) (state_at n)) → IsBlock s h l t.sent
  unfolding block_left
  block_done e =
      record {
        image =
            e
            ∙ ap (λ (x : State). image_of (with_status (status_d t.acks (ack_seen x) x.status) x)) both.1
            ∙ ap (λ (k : ℕ). image_of (with_status (status_d k (ack_seen (with_transfer (block_settled s h).transfer s)) s.status) (with_transfer (block_settled s h).transfer s)))
            (w.acks ∙ ap (λ (x : Settling). x.acks) end_is);
        sent = w.sent ∙ ap (λ (x : Settling). sent_of x.sent) end_is;
      }

-- an image whose host FIFO has become h, and the block of that
module _ {m : List ℕ} (i : IsImage m) (h : List ℕ) (n : length h ≤ 128) (b : Bytes h) {k : List ℕ} (e : k ≡ image_of (with_host h (state_at m))) where
  held_state : state_at k ≡ with_host h (state_at m)
  held_state = state_is (with_host h (state_at m)) e (held_range (state_at m) h i.range n) (held_bytes (state_at m) h i.bytes b)

  pub image_held : IsImage k
  image_held = image_is (with_host h (state_at m)) e (held_range (state_at m) h i.range n) (held_bytes (state_at m) h i.bytes b)

  pub block_held : {l : List ℕ} {r : Fifo 8} → IsBlock (state_at k) (state_at k).transfer.host l r → IsBlock (state_at m) h l r
  block_held {l} {r} x = held_block (subst (λ (s : State). IsBlock s s.transfer.host l r) held_state x)

-- n bytes of a run put behind
module _ {m : List ℕ} (i : IsImage m) (bytes : List ℕ) (b : Bytes bytes) (from n : ℕ) (room : length (state_at m).transfer.host + n ≤ 128) where
  abbrev filled : List ℕ
  filled = (state_at m).transfer.host ++ take n (drop from bytes)

  filled_fits : length filled ≤ 128
  filled_fits = simp (length-append, length-take) (omega arith)

  filled_bytes : Bytes filled
  filled_bytes =
      bytes_append (state_at m).transfer.host (take n (drop from bytes)) i.bytes.transfer.host (bytes_take n (drop from bytes) (bytes_drop from bytes b))

  pub image_filled : {k : List ℕ} → k ≡ image_of (with_host filled (state_at m)) → IsImage k
  image_filled e = image_held i filled filled_fits filled_bytes e

  pub block_filled : {k : List ℕ} → k ≡ image_of (with_host filled (state_at m)) → {l : List ℕ} {r : Fifo 8}
      → IsBlock (state_at k) (state_at k).transfer.host l r → IsBlock (state_at m) filled l r
  block_filled e x = block_held i filled filled_fits filled_bytes e x
