-- The oldest bytes of the host FIFO, where an image has them.
use Prim.Native.Nat.{ℕ, ◌+◌, ◌-◌, ◌≤◌}
use mathlib.Core.Path.{◌≡◌, ap, sym, ◌∙◌}
use mathlib.Core.List.{List, ◌++◌}
use native.Mathlib.Omega.{arith}
use lib.ListN.{length, take, drop, replicate, length-drop}
use lib.Seq.{take_all, length-take-le}
use borrow.Rule.Slice.PartMut.{put_mid}
use Rattle.std.proofs.lemmas.Slice.{put_mid-paste}
use Rattle.std.proofs.lemmas.List.{drop-replicate}
use Rattle.rules.specs.Numbers.{padded}
use Rattle.image.specs.Image.{state_at, IsImage}
use Rattle.image.specs.Layout.{host_bytes_place}
use Rattle.datapath.proofs.Fronts.{placed_at, sized_at}
use Rattle.datapath.proofs.Places.{image_laid, host_from}
use Rattle.settling.proofs.ReadBackOfTransfer.{long}

module _ (m : List ℕ) (i : IsImage m) (n : ℕ) (h : n ≤ length (state_at m).transfer.host) where
  pub oldest_there : n ≤ length (drop host_bytes_place m)
  oldest_there = simp length-drop (omega (arith, long m i, i.range.transfer.host))

  pub oldest : take n (drop host_bytes_place m) ≡ take n (state_at m).transfer.host
  oldest =
      ap (λ (x : List ℕ). take n (drop host_bytes_place x)) (i.packed ∙ image_laid (state_at m))
      ∙ host_from (sized_at (state_at m) (placed_at m i)) n h

  counted : take (host_bytes_place + n - host_bytes_place) (drop host_bytes_place m) ≡ take n (drop host_bytes_place m)
  counted =
      let e : host_bytes_place + n - host_bytes_place ≡ n = omega arith in
      ap (λ (k : ℕ). take k (drop host_bytes_place m)) e

  -- copied into another list
  pub oldest_copied : (o ys : List ℕ) (at : ℕ) → ys ≡ take (host_bytes_place + n - host_bytes_place) (drop host_bytes_place m)
      → put_mid at (at + n - at) o ys ≡ (take at o ++ take n (state_at m).transfer.host) ++ drop (at + n) o
  oldest_copied o ys at e =
      let z : List ℕ = take n (state_at m).transfer.host in
      let l : length z ≡ n = length-take-le n (state_at m).transfer.host h in
      put_mid-paste at (at + n - at) o ys z n (e ∙ counted ∙ oldest) (omega arith) (sym l)
      ∙ ap (λ (x : List ℕ). (take at o ++ x) ++ drop (at + n) o) (take_all n z (omega (arith, l)))

  -- copied to the front of zeros
  pub oldest_padded : (b ys : List ℕ) → ys ≡ take (host_bytes_place + n - host_bytes_place) (drop host_bytes_place m) → n ≤ 8 → b ≡ ys ++ drop n (replicate 8 0) → b ≡ padded 8 (take n (drop host_bytes_place m))
  unfolding padded
  oldest_padded b ys e k f =
      let l : length (take n (drop host_bytes_place m)) ≡ n = length-take-le n (drop host_bytes_place m) oldest_there in
      f ∙ ap (λ (x : List ℕ). x ++ drop n (replicate 8 0)) (e ∙ counted)
      ∙ ap (λ (x : List ℕ). take n (drop host_bytes_place m) ++ x) (drop-replicate n 8 0 ∙ ap (λ (j : ℕ). replicate (8 - j) 0) (sym l))
