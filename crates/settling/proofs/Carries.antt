-- Blocks carried between the FIFOs of an image.
use Prim.Native.Nat.{ℕ, ◌+◌, ◌≤◌}
use mathlib.Core.Path.{◌≡◌, ap, ◌∙◌}
use mathlib.Core.Bool.{true, false}
use mathlib.Core.List.{List, ◌++◌}
use native.Mathlib.Omega.{arith}
use lib.ListN.{length, take, drop, set, get_or, length-append, length-drop}
use lib.Seq.{paste, length-take-le}
use Rattle.rules.specs.State.{State}
use Rattle.rules.specs.Changed.{with_transfer, with_host, with_scsi}
use Rattle.rules.proofs.Ranges.{bytes_append, bytes_take}
use Rattle.image.specs.Image.{head_of, image_of, state_at, IsImage}
use Rattle.image.specs.Layout.{host_bytes_place, host_count_place, scsi_bytes_place, scsi_count_place}
use Rattle.datapath.proofs.Ends.{scsi_behind, host_behind}
use Rattle.datapath.proofs.Fronts.{host_counts, placed_at, sized_at}
use Rattle.datapath.proofs.Heads.{scsi_counted}
use Rattle.datapath.proofs.Places.{Sized, image_laid, scsi_from, host_from}
use Rattle.settling.specs.Blocks.{carried}
use Rattle.settling.proofs.ReadBackOfTransfer.{long, kept}

-- the counts of an image
pub scsi_held : (m : List ℕ) → IsImage m → get_or m scsi_count_place 0 ≡ length (state_at m).transfer.scsi
scsi_held m i = scsi_counted (state_at m) i.packed (placed_at m i)

pub host_held : (m : List ℕ) → IsImage m → get_or m host_count_place 0 ≡ length (state_at m).transfer.host
host_held m i = host_counts (placed_at m i) i.packed

-- m₁: a block stands behind the one FIFO, and in the other still
module _ (m m₁ : List ℕ) (k n : ℕ) (i : IsImage m) where
  z : Sized (head_of (state_at m)) (state_at m).transfer.scsi (state_at m).stack.bytes (state_at m).transfer.host
  z = sized_at (state_at m) (placed_at m i)

  module _ (u : n ≡ get_or m scsi_count_place 0) (h : k ≤ length (state_at m).transfer.host) (l : length (state_at m).transfer.scsi + k ≤ 8) (e : m₁ ≡ paste m (scsi_bytes_place + n) (drop host_bytes_place m) k) where
    pub behind_scsi : IsImage (set m₁ scsi_count_place (n + k)) × (state_at (set m₁ scsi_count_place (n + k)) ≡ with_scsi ((state_at m).transfer.scsi ++ take k (state_at m).transfer.host) (state_at m))
    behind_scsi =
        let s : State = state_at m in
        let f = i.range.transfer in
        let b = i.bytes.transfer in
        let q : List ℕ = s.transfer.scsi ++ take k s.transfer.host in
        let t : take k (drop host_bytes_place m) ≡ take k s.transfer.host = ap (λ (x : List ℕ). take k (drop host_bytes_place x)) (i.packed ∙ image_laid s) ∙ host_from z k h in
        let v : length (take k s.transfer.host) ≡ k = length-take-le k s.transfer.host h in
        let j : length q ≤ 8 = simp length-append (omega (arith, v)) in
        let d : k ≤ length (drop host_bytes_place m) = simp length-drop (omega (arith, long m i, f.host)) in
        kept m (set m₁ scsi_count_place (n + k)) (with_scsi q s).transfer i
        (record { host = f.host; scsi = j; counter = f.counter; offset = f.offset })
        (record { last = b.last; host = b.host; scsi = bytes_append s.transfer.scsi (take k s.transfer.host) b.scsi (bytes_take k s.transfer.host b.host) })
        (scsi_behind s i.packed (placed_at m i) n k (u ∙ scsi_held m i) (drop host_bytes_place m) l d e ∙ ap (λ (x : List ℕ). image_of (with_scsi (s.transfer.scsi ++ x) s)) t)

    pub host_there : k ≤ get_or (set m₁ scsi_count_place (n + k)) host_count_place 0
    host_there =
        let v = behind_scsi in
        omega (arith, h, host_held (set m₁ scsi_count_place (n + k)) v.0, ap (λ (x : State). length x.transfer.host) v.1)

    pub carried_out : (m₂ : List ℕ) → m₂ ≡ image_of (with_host (drop k (state_at (set m₁ scsi_count_place (n + k))).transfer.host) (state_at (set m₁ scsi_count_place (n + k)))) → m₂ ≡ image_of (with_transfer (carried true k (state_at m).transfer) (state_at m))
    unfolding carried
    carried_out m₂ g = g ∙ ap (λ (x : State). image_of (with_host (drop k x.transfer.host) x)) behind_scsi.1

  module _ (u : n ≡ get_or m host_count_place 0) (h : k ≤ length (state_at m).transfer.scsi) (l : length (state_at m).transfer.host + k ≤ 128) (e : m₁ ≡ paste m (host_bytes_place + n) (drop scsi_bytes_place m) k) where
    pub behind_host : IsImage (set m₁ host_count_place (n + k)) × (state_at (set m₁ host_count_place (n + k)) ≡ with_host ((state_at m).transfer.host ++ take k (state_at m).transfer.scsi) (state_at m))
    behind_host =
        let s : State = state_at m in
        let f = i.range.transfer in
        let b = i.bytes.transfer in
        let q : List ℕ = s.transfer.host ++ take k s.transfer.scsi in
        let t : take k (drop scsi_bytes_place m) ≡ take k s.transfer.scsi = ap (λ (x : List ℕ). take k (drop scsi_bytes_place x)) (i.packed ∙ image_laid s) ∙ scsi_from z k h in
        let v : length (take k s.transfer.scsi) ≡ k = length-take-le k s.transfer.scsi h in
        let j : length q ≤ 128 = simp length-append (omega (arith, v)) in
        let d : k ≤ length (drop scsi_bytes_place m) = simp length-drop (omega (arith, long m i, f.scsi)) in
        kept m (set m₁ host_count_place (n + k)) (with_host q s).transfer i
        (record { host = j; scsi = f.scsi; counter = f.counter; offset = f.offset })
        (record { last = b.last; host = bytes_append s.transfer.host (take k s.transfer.scsi) b.host (bytes_take k s.transfer.scsi b.scsi); scsi = b.scsi })
        (host_behind s i.packed (placed_at m i) n k (u ∙ host_held m i) (drop scsi_bytes_place m) l d e ∙ ap (λ (x : List ℕ). image_of (with_host (s.transfer.host ++ x) s)) t)

    pub scsi_there : k ≤ get_or (set m₁ host_count_place (n + k)) scsi_count_place 0
    scsi_there =
        let v = behind_host in
        omega (arith, h, scsi_held (set m₁ host_count_place (n + k)) v.0, ap (λ (x : State). length x.transfer.scsi) v.1)

    pub carried_in : (m₂ : List ℕ) → m₂ ≡ image_of (with_scsi (drop k (state_at (set m₁ host_count_place (n + k))).transfer.scsi) (state_at (set m₁ host_count_place (n + k)))) → m₂ ≡ image_of (with_transfer (carried false k (state_at m).transfer) (state_at m))
    unfolding carried
    carried_in m₂ g = g ∙ ap (λ (x : State). image_of (with_scsi (drop k x.transfer.scsi) x)) behind_host.1
