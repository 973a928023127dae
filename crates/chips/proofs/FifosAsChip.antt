-- What an image holds of the FIFOs, in the form of a chip value.
use Prim.Native.Nat.{ℕ}
use mathlib.Core.Path.{◌≡◌, refl, ap, ◌∙◌}
use mathlib.Core.List.{List, ◌++◌}
use native.Mathlib.Omega.{arith}
use lib.ListN.{length, take, drop, get_or}
use lib.Seq.{take_at, take_all}
use Rattle.rules.specs.Numbers.{padded}
use Rattle.rules.specs.State.{State}
use Rattle.rules.specs.Ranges.{InRange}
use Rattle.laws.proofs.Lists.{padded_length}
use Rattle.image.specs.Image.{image_of, state_at, transfer_at, IsImage}
use Rattle.image.proofs.ReadBack.{scsi_at, host_at}
use Rattle.image.specs.Layout.{host_bytes_place, host_count_place, scsi_bytes_place, scsi_count_place}

module _ (s : State) (f : InRange s) where
  scsi_places : take 8 (drop scsi_bytes_place (image_of s)) ≡ padded 8 s.transfer.scsi
  scsi_places =
      rw (scsi_at s f) (take_at (padded 8 s.transfer.scsi) (s.stack.bytes ++ padded 128 s.transfer.host) 8
      (padded_length 8 s.transfer.scsi f.transfer.scsi))

  host_places : take 128 (drop host_bytes_place (image_of s)) ≡ padded 128 s.transfer.host
  host_places =
      let l : length (padded 128 s.transfer.host) ≡ 128 = padded_length 128 s.transfer.host f.transfer.host in
      rw (host_at s f) (take_all 128 (padded 128 s.transfer.host) (omega arith))

scsi_count : (s : State) → get_or (image_of s) scsi_count_place 0 ≡ length s.transfer.scsi
unfolding image_of
scsi_count s = refl

host_count : (s : State) → get_or (image_of s) host_count_place 0 ≡ length s.transfer.host
unfolding image_of
host_count s = refl

module _ (m : List ℕ) (h : IsImage m) where
  scsi_of_lem : take 8 (drop scsi_bytes_place m) ≡ padded 8 (state_at m).transfer.scsi
  scsi_of_lem = ap (λ (l : List ℕ). take 8 (drop scsi_bytes_place l)) h.packed ∙ scsi_places (state_at m) h.range

  host_of_lem : take 128 (drop host_bytes_place m) ≡ padded 128 (state_at m).transfer.host
  host_of_lem = ap (λ (l : List ℕ). take 128 (drop host_bytes_place l)) h.packed ∙ host_places (state_at m) h.range

  scsi_counts : get_or m scsi_count_place 0 ≡ length (state_at m).transfer.scsi
  scsi_counts = ap (λ (l : List ℕ). get_or l scsi_count_place 0) h.packed ∙ scsi_count (state_at m)

  host_counts : get_or m host_count_place 0 ≡ length (state_at m).transfer.host
  host_counts = ap (λ (l : List ℕ). get_or l host_count_place 0) h.packed ∙ host_count (state_at m)

  pub scsi_held : take 8 (drop scsi_bytes_place m) ≡ padded 8 (transfer_at m).scsi
  unfolding state_at
  scsi_held = scsi_of_lem

  pub host_held : take 128 (drop host_bytes_place m) ≡ padded 128 (transfer_at m).host
  unfolding state_at
  host_held = host_of_lem

  pub scsi_counted : get_or m scsi_count_place 0 ≡ length (transfer_at m).scsi
  unfolding state_at
  scsi_counted = scsi_counts

  pub host_counted : get_or m host_count_place 0 ≡ length (transfer_at m).host
  unfolding state_at
  host_counted = host_counts

-- what an image holds of them: their bytes and their counts
pub ruleset fifos_held = (scsi_held, host_held, scsi_counted, host_counted)
