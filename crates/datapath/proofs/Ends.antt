-- Bytes put behind a FIFO of an image, and taken off its front, with its count.
use Prim.Native.Nat.{ℕ, suc, ◌+◌, ◌-◌, ◌<◌, ◌≤◌}
use mathlib.Core.Path.{◌≡◌, sym, ap, ◌∙◌}
use mathlib.Core.List.{List, [], ◌∷◌, ◌++◌}
use native.Mathlib.Omega.{arith}
use native.Mathlib.Numerals.{add-one}
use lib.ListN.{length, take, drop, set, get_or, length-append, length-drop}
use lib.Seq.{paste, set_split, append_snoc, length-take-le}
use Rattle.rules.specs.State.{State}
use Rattle.rules.specs.Changed.{with_host, with_scsi}
use Rattle.image.specs.Image.{head_of, image_of}
use Rattle.image.specs.Layout.{host_bytes_place, host_count_place, scsi_bytes_place, scsi_count_place}
use Rattle.datapath.specs.Laid.{laid, lowered}
use Rattle.datapath.specs.Fits.{FitsPlaces}
use Rattle.datapath.proofs.Fronts.{sized_at, host_counts, image_length}
use Rattle.datapath.proofs.Places.{Sized, image_laid, scsi_joined, host_joined, scsi_lowered, host_lowered, scsi_set, host_set}

-- a store is a byte put in a place
set_paste : (m : List ℕ) (i b : ℕ) → i < length m → set m i b ≡ paste m i (b ∷ []) 1
set_paste m i b h = set_split m i b h ∙ sym (append_snoc (take i m) b (drop (suc i) m)) ∙ ap (λ (n : ℕ). take i m ++ (b ∷ []) ++ drop n m) (sym (add-one i))

more_long : (l r : List ℕ) (k : ℕ) → k ≤ length r → length l + k ≡ length (l ++ take k r)
more_long l r k h = ap (λ (j : ℕ). length l + j) (sym (length-take-le k r h)) ∙ sym (length-append l (take k r))

-- an array of which it is known which state it is the image of
module _ {m : List ℕ} (s : State) (e : m ≡ image_of s) (p : FitsPlaces s) where
  z : Sized (head_of s) s.transfer.scsi s.stack.bytes s.transfer.host
  z = sized_at s p

  w : m ≡ laid (head_of s) s.transfer.scsi s.stack.bytes s.transfer.host
  w = e ∙ image_laid s

  module _ (n k : ℕ) {a : List ℕ} (u : n ≡ length s.transfer.scsi) where
    -- k bytes of r behind the SCSI FIFO
    pub scsi_behind : (r : List ℕ) → length s.transfer.scsi + k ≤ 8 → k ≤ length r → a ≡ paste m (scsi_bytes_place + n) r k → set a scsi_count_place (n + k) ≡ image_of (with_scsi (s.transfer.scsi ++ take k r) s)
    scsi_behind r f h g =
        let q : List ℕ = s.transfer.scsi ++ take k r in
        let c : n + k ≡ length q = ap (λ (j : ℕ). j + k) u ∙ more_long s.transfer.scsi r k h in
        ap (λ (l : List ℕ). set l scsi_count_place (n + k)) (g ∙ ap (λ (l : List ℕ). paste l (scsi_bytes_place + n) r k) w ∙ scsi_joined z r (scsi_bytes_place + n) k (omega arith) f h)
        ∙ ap (set (laid (head_of s) q s.stack.bytes s.transfer.host) scsi_count_place) c
        ∙ scsi_set s q

    -- k bytes off the front of the SCSI FIFO
    pub scsi_off : k ≤ length s.transfer.scsi → a ≡ lowered m scsi_bytes_place n k → set a scsi_count_place (n - k) ≡ image_of (with_scsi (drop k s.transfer.scsi) s)
    scsi_off h g =
        let q : List ℕ = drop k s.transfer.scsi in
        let c : n - k ≡ length q = simp length-drop (omega arith) in
        ap (λ (l : List ℕ). set l scsi_count_place (n - k)) (g ∙ ap (λ (l : List ℕ). lowered l scsi_bytes_place n k) w ∙ scsi_lowered z n k u h)
        ∙ ap (set (laid (head_of s) q s.stack.bytes s.transfer.host) scsi_count_place) c
        ∙ scsi_set s q

  module _ (n k : ℕ) {a : List ℕ} (u : n ≡ length s.transfer.host) where
    -- so for the host FIFO
    pub host_behind : (r : List ℕ) → length s.transfer.host + k ≤ 128 → k ≤ length r → a ≡ paste m (host_bytes_place + n) r k → set a host_count_place (n + k) ≡ image_of (with_host (s.transfer.host ++ take k r) s)
    host_behind r f h g =
        let q : List ℕ = s.transfer.host ++ take k r in
        let c : n + k ≡ length q = ap (λ (j : ℕ). j + k) u ∙ more_long s.transfer.host r k h in
        ap (λ (l : List ℕ). set l host_count_place (n + k)) (g ∙ ap (λ (l : List ℕ). paste l (host_bytes_place + n) r k) w ∙ host_joined z r (host_bytes_place + n) k (omega arith) f h)
        ∙ ap (set (laid (head_of s) s.transfer.scsi s.stack.bytes q) host_count_place) c
        ∙ host_set s q

    pub host_off : k ≤ length s.transfer.host → a ≡ lowered m host_bytes_place n k → set a host_count_place (n - k) ≡ image_of (with_host (drop k s.transfer.host) s)
    host_off h g =
        let q : List ℕ = drop k s.transfer.host in
        let c : n - k ≡ length q = simp length-drop (omega arith) in
        ap (λ (l : List ℕ). set l host_count_place (n - k)) (g ∙ ap (λ (l : List ℕ). lowered l host_bytes_place n k) w ∙ host_lowered z n k u h)
        ∙ ap (set (laid (head_of s) s.transfer.scsi s.stack.bytes q) host_count_place) c
        ∙ host_set s q

  -- one byte behind a FIFO
  pub scsi_one_more : (n b : ℕ) → n ≡ length s.transfer.scsi → n < 8 → set (set m (scsi_bytes_place + n) b) scsi_count_place (n + 1) ≡ image_of (with_scsi (s.transfer.scsi ++ (b ∷ [])) s)
  scsi_one_more n b u h = scsi_behind n 1 u (b ∷ []) (omega arith) (omega arith) (set_paste m (scsi_bytes_place + n) b (omega (arith, image_length p e)))

  pub host_one_more : (b : ℕ) → get_or m host_count_place 0 < 128 → set (set m (host_bytes_place + get_or m host_count_place 0) b) host_count_place (get_or m host_count_place 0 + 1) ≡ image_of (with_host (s.transfer.host ++ (b ∷ [])) s)
  host_one_more b h =
      let n : ℕ = get_or m host_count_place 0 in
      let u : n ≡ length s.transfer.host = host_counts p e in
      host_behind n 1 u (b ∷ []) (omega arith) (omega arith) (set_paste m (host_bytes_place + n) b (omega (arith, image_length p e)))
