use Prim.Native.Nat.{ℕ, ◌+◌, ◌<◌, ◌%◌, ◌/◌}
use mathlib.Core.Path.{◌≡◌, ap, ◌∙◌}
use mathlib.Core.List.{List, [], ◌∷◌, ◌++◌, append_assoc}
use native.Mathlib.Omega.{arith}
use lib.ListN.{length, get_or, set, length-append}
use Rattle.rules.specs.State.{State}
use Rattle.image.specs.Image.{image_of, state_at}
use Rattle.rules.specs.Changed.{with_host}
use Rattle.image.specs.Layout.{host_bytes_place, host_count_place}
use Rattle.datapath.specs.Fits.{FitsPlaces}
use Rattle.datapath.proofs.Fronts.{host_counts, with_host_lem, placed_at}
use Rattle.datapath.proofs.Ends.{host_one_more}
use Rattle.datapath.proofs.host.word_pushed.Goals as goal

-- after the first byte of two
module _ {m : List ℕ} {s : State} (p : FitsPlaces s) (e : m ≡ image_of s) (b : ℕ) (h : get_or m host_count_place 0 < 127) {a : List ℕ} (f : a ≡ set (set m (host_bytes_place + get_or m host_count_place 0) b) host_count_place (get_or m host_count_place 0 + 1)) where
  low_first : a ≡ image_of (with_host (s.transfer.host ++ (b ∷ [])) s)
  low_first = f ∙ host_one_more s e p b (omega arith)

  low_placed : FitsPlaces (with_host (s.transfer.host ++ (b ∷ [])) s)
  low_placed =
      let n : get_or m host_count_place 0 ≡ length s.transfer.host = host_counts p e in
      with_host_lem s (s.transfer.host ++ (b ∷ [])) p (simp length-append (omega arith))

  room_left : get_or a host_count_place 0 < 128
  room_left =
      let n : get_or m host_count_place 0 ≡ length s.transfer.host = host_counts p e in
      let k : get_or a host_count_place 0 ≡ length s.transfer.host + 1 = host_counts low_placed low_first ∙ length-append s.transfer.host (b ∷ []) in
      omega arith

pub returns : goal.returns
returns c =
    let w = c.args.word in
    let s = state_at c.args.m.now in
    let p = placed_at c.args.m.now c.requires.image in
    let e = c.requires.image.packed in
    let h = c.requires.host_count_place_bound in
    let f = rw c.to_le_bytes.ensures at c.byte_put.ensures in
    let g = rw c.to_le_bytes.ensures at c.byte_put-2.ensures in
    let high : w / 256 % 256 ≡ w / 256 = omega (arith, c.ranges.word.fits) in
    g
    ∙ host_one_more (with_host (s.transfer.host ++ (w % 256 ∷ [])) s) (low_first p e (w % 256) h f) (low_placed p e (w % 256) h f) (w / 256 % 256) (room_left p e (w % 256) h f)
    ∙ ap (λ (b : ℕ). image_of (with_host ((s.transfer.host ++ (w % 256 ∷ [])) ++ (b ∷ [])) s)) high
    ∙ ap (λ (l : List ℕ). image_of (with_host l s)) (append_assoc s.transfer.host (w % 256 ∷ []) (w / 256 ∷ []))
