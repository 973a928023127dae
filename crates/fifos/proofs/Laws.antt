-- Bytes with their count, in a FIFO or in what was sent: each law once, over the number of places.
use Prim.Native.Nat.{ℕ, ◌+◌, ◌-◌, ◌<◌, ◌≤◌, min}
use mathlib.Core.Path.{◌≡◌, refl, ap, ◌∙◌}
use mathlib.Core.List.{List, [], ◌∷◌, ◌++◌}
use native.Mathlib.Omega.{arith}
use lib.ListN.{length, take, drop, set, replicate, length-append}
use Rattle.rules.specs.Numbers.{padded}
use Rattle.rules.specs.Chips.{fifo_of, fifo_view}
use Rattle.rules.specs.declared.chip.Fifo.{Fifo}
use Rattle.fifos.specs.Fifos.{sent_of, FifoTidy}
use Rattle.laws.proofs.Lists as lists
use borrow.Rule.Slice.PartMut.{put_mid}
use Rattle.fifos.proofs.Copied.{zeros, joined_padded}

module _ {places : ℕ} where
  abbrev made : List ℕ → ℕ → Fifo places
  made b n = record { bytes = b; count = n }

  -- a value is known by its bytes and its count
  formed : (l : List ℕ) {b : List ℕ} {n : ℕ} → b ≡ padded places l → n ≡ length l → made b n ≡ fifo_of places l
  formed l p q = cc

  pub empty_form : made (replicate places 0) 0 ≡ fifo_of places []
  empty_form = formed [] (zeros places) refl

  pub count_of : (f : Fifo places) (l : List ℕ) → f ≡ fifo_of places l → f.count ≡ length l
  count_of f l e = ap (λ (x : Fifo places). x.count) e

  pub bytes_of : (f : Fifo places) (l : List ℕ) → f ≡ fifo_of places l → f.bytes ≡ padded places l
  bytes_of f l e = ap (λ (x : Fifo places). x.bytes) e

  module _ (f : Fifo places) where
    -- any count, of which m can be there
    module _ (m k : ℕ) (e : length f.bytes ≡ places) (p : m ≡ min f.count places) where
      pub popped_all : m < k → fifo_of places [] ≡ fifo_of places (drop k (fifo_view f))
      popped_all h = ap (fifo_of places) (lists.dropped_all places f.count m f.bytes e p k h)

      pub popped_form : {w : List ℕ} → w ≡ padded places (take (m - k) (drop k f.bytes)) → k ≤ m → made w (m - k) ≡ fifo_of places (drop k (fifo_view f))
      popped_form q h =
          let d : take (m - k) (drop k f.bytes) ≡ drop k (fifo_view f) = lists.dropped places f.count m f.bytes e p k h in
          formed (drop k (fifo_view f)) (q ∙ ap (padded places) d) (lists.length_dropped places f.count m f.bytes e p k)

  -- a value in its one form
  module _ (f : Fifo places) (e : FifoTidy f) where
    pub held : f.count ≡ length (fifo_view f)
    held = count_of f (fifo_view f) e

    pub filled : f.bytes ≡ padded places (fifo_view f)
    filled = bytes_of f (fifo_view f) e

    pub pushed : (b : ℕ) → f.count < places → made (set f.bytes f.count b) (f.count + 1) ≡ fifo_of places (fifo_view f ++ (b ∷ []))
    pushed b h =
        formed (fifo_view f ++ (b ∷ [])) (lists.push_at places f.count f.bytes b filled held h) (simp length-append (omega (arith, held)))

  -- two in their one form, one behind the other
  pub joined_form :
      (a b : Fifo places) → FifoTidy a → FifoTidy b → a.count + b.count ≤ places → {ys : List ℕ} → ys ≡ fifo_view b
      → made (put_mid a.count (a.count + b.count - a.count) a.bytes ys) (a.count + b.count) ≡ fifo_of places (fifo_view a ++ fifo_view b)
  joined_form a b e d h {ys} y =
      let p : a.count ≡ length (fifo_view a) = held a e in
      let q : b.count ≡ length (fifo_view b) = held b d in
      let all : put_mid (length (fifo_view a)) (a.count + b.count - a.count) (padded places (fifo_view a)) (fifo_view b) ≡ padded places (fifo_view a ++ fifo_view b) =
      joined_padded places (a.count + b.count - a.count) (fifo_view a) (fifo_view b) (omega arith) (omega arith) in
      let same : put_mid a.count (a.count + b.count - a.count) a.bytes ys ≡ put_mid (length (fifo_view a)) (a.count + b.count - a.count) (padded places (fifo_view a)) (fifo_view b) =
      λ i. put_mid (p i) (a.count + b.count - a.count) (filled a e i) (y i) in
      formed (fifo_view a ++ fifo_view b) (same ∙ all) (simp length-append (omega arith))

-- at the number of places that another crate counts
pub sent_count : (f : Fifo 8) (l : List ℕ) → f ≡ sent_of l → f.count ≡ length l
sent_count = count_of
