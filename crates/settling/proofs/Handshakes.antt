-- The byte and the ACK of a handshake, in an image.
use Prim.Native.Nat.{ℕ, ◌+◌, ◌-◌, ◌<◌}
use mathlib.Core.Path.{◌≡◌, refl, sym, ap, ◌∙◌}
use mathlib.Core.Bool.{Bool, true, false, cond}
use mathlib.Core.List.{List, [], ◌∷◌, ◌++◌}
use native.Mathlib.Omega.{arith}
use lib.ListN.{length, take, drop, set, get_or, length-drop}
use lib.Seq.{get_or-take, get_or-drop}
use Rattle.rules.specs.Numbers.{padded}
use Rattle.rules.specs.State.{State, Transfer}
use Rattle.rules.specs.StepC.{can_handshake, stored_by, handshake}
use Rattle.rules.specs.Ranges.{InRange, Bytes, TransferFits, TransferBytes}
use Rattle.rules.specs.declared.chip.Conditions.{Conditions}
use Rattle.rules.proofs.Logic.{cond_case}
use Rattle.rules.proofs.Ranges.{bytes_append, bytes_drop, bytes_at}
use Rattle.rules.proofs.Rest.{handshake_full}
use Rattle.laws.proofs.Lists.{elements, elements_all, padded_length, padded_shift}
use Rattle.settling.specs.Blocks.{start_of, passed, acknowledged}
use Rattle.settling.proofs.ShakeParts.{passed_none}
use Rattle.rules.specs.Changed.{with_ack, with_scsi, with_transfer, with_last}
use Rattle.image.specs.Image.{head_of, image_of, state_at, IsImage}
use Rattle.datapath.specs.Laid.{laid}
use Rattle.settling.specs.Steps.{byte_passed}
use Rattle.datapath.proofs.Places.{Sized, flat, image_laid, scsi_from}
use Rattle.settling.proofs.ReadBackOfTransfer.{sized, offset_at}
use Rattle.image.specs.Layout.{last_place, offset_place, scsi_bytes_place, scsi_count_place}
use Rattle.settling.proofs.Carries.{scsi_held}
use Rattle.datapath.specs.Fits.{counter_stepped}
use Rattle.rules.specs.declared.counts.Direction.TheVariants.{Up}
use Rattle.datapath.proofs.Heads.{offset_stored_lem}

-- another SCSI FIFO and byte last sent in their places
last_set : (s : State) (q : List ℕ) (b : ℕ) → set (set (laid (head_of s) q s.stack.bytes s.transfer.host) last_place b) scsi_count_place (length q) ≡ image_of (with_scsi q (with_last b s))
unfolding laid image_of
last_set s q b = sym (flat (head_of (with_scsi q (with_last b s))) (padded 8 q) s.stack.bytes (padded 128 s.transfer.host))

-- the byte behind a place put in it; so for the eight places of the SCSI FIFO, and 0 in the last
abbrev lower : ℕ → List ℕ → List ℕ
lower i m = set m i (get_or m (i + 1) 0)

abbrev shifted : List ℕ → List ℕ
shifted m = set (lower (scsi_bytes_place + 6) (lower (scsi_bytes_place + 5) (lower (scsi_bytes_place + 4) (lower (scsi_bytes_place + 3) (lower (scsi_bytes_place + 2) (lower (scsi_bytes_place + 1) (lower scsi_bytes_place m))))))) (scsi_bytes_place + 7) 0

shifted_eight : (s : State) (q r : List ℕ) → shifted (head_of s ++ (elements q 0 8 ++ r)) ≡ head_of s ++ (padded 8 (take 7 (drop 1 (elements q 0 8))) ++ r)
unfolding padded
shifted_eight s q r = refl

module _ (s : State) (m : List ℕ) (b n : ℕ) (p : m ≡ image_of s) (r : InRange s) (u : n ≡ length s.transfer.scsi) where
  z : Sized (head_of s) s.transfer.scsi s.stack.bytes s.transfer.host
  z = sized s r.transfer r.stack

  w : m ≡ laid (head_of s) s.transfer.scsi s.stack.bytes s.transfer.host
  w = p ∙ image_laid s

  oldest : 0 < length s.transfer.scsi → get_or m scsi_bytes_place 0 ≡ get_or s.transfer.scsi 0 0
  oldest h =
      sym (get_or-drop scsi_bytes_place m 0 0) ∙ sym (get_or-take 1 (drop scsi_bytes_place m) 0 0 (omega arith))
      ∙ ap (λ (l : List ℕ). get_or l 0 0) (ap (λ (l : List ℕ). take 1 (drop scsi_bytes_place l)) w ∙ scsi_from z 1 h) ∙ get_or-take 1 s.transfer.scsi 0 0 (omega arith)

  sent_made : 0 < length s.transfer.scsi → b ≡ get_or m scsi_bytes_place 0 → set (set (shifted m) last_place b) scsi_count_place (n - 1) ≡ image_of (with_transfer (passed true [] s.transfer) s)
  unfolding passed laid
  sent_made h e =
      let q : List ℕ = s.transfer.scsi in
      let t : List ℕ = s.stack.bytes ++ (padded 128 s.transfer.host ++ []) in
      let y : padded 8 q ≡ elements (padded 8 q) 0 8 = sym (elements_all 8 (padded 8 q) (padded_length 8 q z.scsi)) in
      let v : padded 8 (take 7 (drop 1 (elements (padded 8 q) 0 8))) ≡ padded 8 (drop 1 q) = ap (λ (l : List ℕ). padded 8 (take 7 (drop 1 l))) (sym y) ∙ padded_shift 8 1 q h z.scsi in
      let g : shifted m ≡ laid (head_of s) (drop 1 q) s.stack.bytes s.transfer.host = ap shifted (w ∙ ap (λ (l : List ℕ). head_of s ++ (l ++ t)) y) ∙ shifted_eight s (padded 8 q) t ∙ ap (λ (l : List ℕ). head_of s ++ (l ++ t)) v in
      let x : n - 1 ≡ length (drop 1 q) = simp length-drop (omega arith) in
      ap (λ (l : List ℕ). set (set l last_place b) scsi_count_place (n - 1)) g
      ∙ ap (λ (y : ℕ). set (set (laid (head_of s) (drop 1 q) s.stack.bytes s.transfer.host) last_place y) scsi_count_place (n - 1)) (e ∙ oldest h)
      ∙ ap (λ (y : ℕ). set (set (laid (head_of s) (drop 1 q) s.stack.bytes s.transfer.host) last_place (get_or q 0 0)) scsi_count_place y) x
      ∙ last_set s (drop 1 q) (get_or q 0 0)

-- the ACK counted in m₁
module _ (s : State) (m₁ : List ℕ) where
  pub ack_pulse : (o : ℕ) → m₁ ≡ image_of (counter_stepped Up s) → o ≡ get_or m₁ offset_place 0 - 1 → set m₁ offset_place o ≡ image_of (with_transfer (acknowledged true s.transfer) s)
  unfolding acknowledged
  ack_pulse o e f =
      let x : State = counter_stepped Up s in
      let g : o ≡ s.transfer.offset - 1 = f ∙ ap (λ (l : List ℕ). get_or l offset_place 0 - 1) e ∙ ap (λ (k : ℕ). k - 1) (offset_at x) in
      ap (λ (l : List ℕ). set l offset_place o) e ∙ ap (set (image_of x) offset_place) g ∙ offset_stored_lem x (s.transfer.offset - 1)

  pub ack_on : m₁ ≡ image_of (with_ack true (counter_stepped Up s)) → m₁ ≡ image_of (with_transfer (acknowledged false s.transfer) s)
  unfolding acknowledged
  ack_on e = e

-- the same of an image
module _ (m : List ℕ) (i : IsImage m) where
  pub byte_oldest : 0 < length (state_at m).transfer.scsi → get_or m scsi_bytes_place 0 ≡ get_or (state_at m).transfer.scsi 0 0
  byte_oldest = oldest (state_at m) m 0 (length (state_at m).transfer.scsi) i.packed i.range refl

  pub byte_sent : (b n : ℕ) → n ≡ get_or m scsi_count_place 0 → b ≡ get_or m scsi_bytes_place 0 → 0 < length (state_at m).transfer.scsi → set (set (shifted m) last_place b) scsi_count_place (n - 1) ≡ image_of (with_transfer (passed true [] (state_at m).transfer) (state_at m))
  byte_sent b n u v h = sent_made (state_at m) m b n i.packed i.range (u ∙ scsi_held m i) h v

-- inbound: nothing stored, or one byte
pub pass_none : (o y : Bool) (b : ℕ) (t : Transfer) → o ≡ false → y ≡ true → passed o (cond y [] (b ∷ [])) t ≡ t
pass_none o y b t p q = rw (p, q) (passed_none t)

pub pass_stored : (o y : Bool) (b : ℕ) (s : State) → o ≡ false → y ≡ false → passed o (cond y [] (b ∷ [])) s.transfer ≡ (with_scsi (s.transfer.scsi ++ (b ∷ [])) s).transfer
unfolding passed
pass_stored o y b s p q = rw (p, q)

pub pass_sent : (o : Bool) (l : List ℕ) (t : Transfer) → o ≡ true → passed o l t ≡ passed true [] t
unfolding passed
pass_sent o l t p = rw p

-- its byte leaves the data path in range
module _ (c : Conditions) (t : Transfer) where
  pub passed_fits : can_handshake c t ≡ true → TransferFits t → TransferFits (byte_passed c t)
  unfolding passed handshake start_of
  passed_fits h f = record { host = f.host; scsi = handshake_full c (start_of t) h f.scsi; counter = f.counter; offset = f.offset }

  pub passed_bytes : c.byte < 256 → TransferBytes t → TransferBytes (byte_passed c t)
  unfolding passed
  passed_bytes h i =
      record {
        last = cond_case (λ n. n < 256) c.outbound _ _ (λ o. bytes_at t.scsi 0 i.scsi) (λ o. i.last);
        host = i.host;
        scsi = cond_case Bytes c.outbound _ _ (λ o. bytes_drop 1 t.scsi i.scsi) (λ o. bytes_append t.scsi (stored_by c) i.scsi (cond_case Bytes c.synchronous [] (c.byte ∷ []) (λ y. tt) (λ y. (h, tt))));
      }
