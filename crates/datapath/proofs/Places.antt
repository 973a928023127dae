-- The FIFOs in their places of the array.
use Prim.Native.Nat.{ℕ, ◌+◌, ◌≤◌}
use mathlib.Core.Path.{◌≡◌, sym, ap, ◌∙◌}
use mathlib.Core.List.{List, [], ◌++◌, append_assoc, append-nil}
use native.Mathlib.Omega.{arith}
use lib.ListN.{length, take, drop, set, length-append}
use lib.Seq.{paste, length-paste, drop_at, take-append-le}
use Rattle.rules.specs.Numbers.{padded}
use Rattle.rules.specs.State.{State}
use Rattle.laws.proofs.Lists.{padded_length}
use Rattle.rules.specs.Changed.{with_host, with_scsi}
use Rattle.image.specs.Image.{head_of, image_of}
use Rattle.image.specs.Layout.{host_bytes_place, image_size, scsi_bytes_place, scsi_count_place, host_count_place}
use Rattle.datapath.specs.Laid.{laid, lowered}
use Rattle.datapath.proofs.Within.{join_at, lower_at}

pub flat : (a b c d : List ℕ) → a ++ b ++ c ++ d ≡ a ++ (b ++ (c ++ (d ++ [])))
flat a b c d = simp (append_assoc, append-nil)

pub image_laid : (s : State) → image_of s ≡ laid (head_of s) s.transfer.scsi s.stack.bytes s.transfer.host
unfolding image_of laid
image_laid s = flat (head_of s) (padded 8 s.transfer.scsi) s.stack.bytes (padded 128 s.transfer.host)

pub pasted_long : (m m₁ : List ℕ) (at : ℕ) (s : List ℕ) (n : ℕ) → m₁ ≡ paste m at s n → length m ≡ image_size → at + n ≤ image_size → n ≤ length s → length m₁ ≡ image_size
pasted_long m m₁ at s n e l h k = ap length e ∙ length-paste m at s n (omega arith) k ∙ l

-- the parts are as long as their places
pub record Sized (a q k h : List ℕ) : Type 0 where
  pub head : length a ≡ scsi_bytes_place
  pub scsi : length q ≤ 8
  pub stack : length k ≡ 32
  pub host : length h ≤ 128

module _ {a q k h : List ℕ} (z : Sized a q k h) where
  before_long : length (a ++ padded 8 q ++ k) ≡ host_bytes_place
  before_long =
      let e : length (padded 8 q) ≡ 8 = padded_length 8 q z.scsi in
      simp length-append (omega (arith, z.head, z.stack))

  laid_host : laid a q k h ≡ (a ++ padded 8 q ++ k) ++ (padded 128 h ++ [])
  unfolding laid
  laid_host = simp append_assoc

  pub laid_long : length (laid a q k h) ≡ image_size
  laid_long =
      let e : length (padded 128 h) ≡ 128 = padded_length 128 h z.host in
      let f : length (padded 8 q) ≡ 8 = padded_length 8 q z.scsi in
      ap length laid_host ∙ simp (length-append, append-nil) (omega (arith, before_long))

  pub scsi_joined : (s : List ℕ) (at n : ℕ) → at ≡ scsi_bytes_place + length q → length q + n ≤ 8 → n ≤ length s → paste (laid a q k h) at s n ≡ laid a (q ++ take n s) k h
  unfolding laid
  scsi_joined s at n e f g = join_at 8 a q (k ++ (padded 128 h ++ [])) s at n (omega (arith, z.head)) f g

  pub host_joined : (s : List ℕ) (at n : ℕ) → at ≡ host_bytes_place + length h → length h + n ≤ 128 → n ≤ length s → paste (laid a q k h) at s n ≡ laid a q k (h ++ take n s)
  unfolding laid
  host_joined s at n e f g =
      ap (λ (x : List ℕ). paste x at s n) laid_host ∙ join_at 128 (a ++ padded 8 q ++ k) h [] s at n (omega (arith, before_long)) f g
      ∙ grouped (padded 128 (h ++ take n s))
    where
      grouped : (y : List ℕ) → (a ++ padded 8 q ++ k) ++ (y ++ []) ≡ a ++ (padded 8 q ++ (k ++ (y ++ [])))
      grouped y = simp append_assoc

  pub scsi_lowered : (n j : ℕ) → n ≡ length q → j ≤ length q → lowered (laid a q k h) scsi_bytes_place n j ≡ laid a (drop j q) k h
  unfolding laid
  scsi_lowered n j e f = lower_at 8 a q (k ++ (padded 128 h ++ [])) scsi_bytes_place n j (sym z.head) e f z.scsi

  pub host_lowered : (n j : ℕ) → n ≡ length h → j ≤ length h → lowered (laid a q k h) host_bytes_place n j ≡ laid a q k (drop j h)
  unfolding laid
  host_lowered n j e f =
      ap (λ (x : List ℕ). lowered x host_bytes_place n j) laid_host ∙ lower_at 128 (a ++ padded 8 q ++ k) h [] host_bytes_place n j (sym before_long) e f z.host
      ∙ grouped (padded 128 (drop j h))
    where
      grouped : (y : List ℕ) → (a ++ padded 8 q ++ k) ++ (y ++ []) ≡ a ++ (padded 8 q ++ (k ++ (y ++ [])))
      grouped y = simp append_assoc

  -- the bytes of the host FIFO from the front
  pub host_from : (n : ℕ) → n ≤ length h → take n (drop host_bytes_place (laid a q k h)) ≡ take n h
  unfolding padded
  host_from n e =
      ap (λ (x : List ℕ). take n (drop host_bytes_place x)) laid_host ∙ ap (take n) (drop_at (a ++ padded 8 q ++ k) (padded 128 h ++ []) host_bytes_place before_long ∙ append-nil (padded 128 h))
      ∙ take-append-le n h _ e

  pub scsi_from : (n : ℕ) → n ≤ length q → take n (drop scsi_bytes_place (laid a q k h)) ≡ take n q
  unfolding laid padded
  scsi_from n e =
      ap (take n) (drop_at a (padded 8 q ++ (k ++ (padded 128 h ++ []))) scsi_bytes_place z.head ∙ append_assoc q _ _)
      ∙ take-append-le n q _ e

-- another list in a FIFO's places, with its count
pub scsi_set : (s : State) (q : List ℕ) → set (laid (head_of s) q s.stack.bytes s.transfer.host) scsi_count_place (length q) ≡ image_of (with_scsi q s)
unfolding laid image_of
scsi_set s q = sym (flat (head_of (with_scsi q s)) (padded 8 q) s.stack.bytes (padded 128 s.transfer.host))

pub host_set : (s : State) (h : List ℕ) → set (laid (head_of s) s.transfer.scsi s.stack.bytes h) host_count_place (length h) ≡ image_of (with_host h s)
unfolding laid image_of
host_set s h = sym (flat (head_of (with_host h s)) (padded 8 s.transfer.scsi) s.stack.bytes (padded 128 h))
