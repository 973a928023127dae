-- The tests on unused bits and on the bytes past the counts hold exactly of a list that is the image of the chip that it stands for.
use Prim.Native.Nat.{ℕ, zero, suc, ◌+◌, ◌*◌, ◌-◌, ◌%◌, ◌≤◌, ◌<◌}
use mathlib.Core.Path.{◌≡◌, refl, sym, ap, ◌∙◌}
use mathlib.Core.Bool.{Bool, true, false, ◌||◌}
use mathlib.Core.List.{List, [], ◌∷◌, ◌++◌}
use native.Mathlib.Omega.{arith}
use borrow.Author.Tests.{eqb-true, eq-eqb, ltb-true, lt-ltb}
use lib.Dec.{eqb, eqb→eq}
use lib.ListN.{length, take, drop, get_or, replicate, length-drop, take-append-drop}
use lib.Seq.{take-add, take_all, drop_at, drop-drop, take-take, length-take-le}
use Rattle.rules.specs.Numbers.{bit, one, byte_of, padded}
use Rattle.rules.specs.Counter.{counter_byte}
use Rattle.rules.specs.Registers.{scsisig_of}
use Rattle.rules.specs.Ranges.{Bytes}
use Rattle.rules.specs.Seen.{phase_number}
use Rattle.rules.proofs.Logic.{left_true, right_true}
use Rattle.rules.proofs.Ranges.{bytes_at}
use Rattle.laws.proofs.Lists.{elements_all, drop_take}
use Rattle.laws.proofs.Bits.{one_below}
use Rattle.laws.proofs.Tables.{below_at}
use Rattle.image.specs.Image.{scsisig_byte, latches_of, latches_byte, phase_of, head_of, image_of, state_at, IsImage}
use Rattle.image.specs.Layout.{ack_place, brstcntrl_place, counter_high_place, counter_low_place, counter_middle_place, control_place, data_place, dmacntrl0_place, dmacntrl1_place, host_bytes_place, host_count_place, identity_place, image_size, kept_place, last_place, latches_place, offset_place, pointer_place, quiet_place, scsi_bytes_place, scsi_count_place, scsidat_place, scsiid_place, scsirate_place, scsiseq_place, scsisig_place, selection_latches_place, selid_place, sequencer_place, simode0_place, simode1_place, stack_bytes_place, status_place, sxfrctl0_place, sxfrctl1_place, ticks_high_place, ticks_low_place, ticks_middle_place, upper_place}
use Rattle.chips.proofs.FifosAsChip.{scsi_held, host_held}
use Rattle.saved.specs.Accepted.{counts_fit, accepted}
use Rattle.saved.specs.Tests.{all, Fitting, registers_tests, registers_clear, others_tests, others_clear, all_zero, zero_between, past_clear, accepted_tests}
use Rattle.saved.proofs.Truth.{both_true, same_truth, all_at}
use Rattle.saved.proofs.Acceptance.{counts_fitting, fitting_counts, in_bytes, in_range, image_fitting, acceptable_length, accepted_acceptable, acceptable_accepted}
use Rattle.saved.proofs.Resting.{resting_rests, rests_resting}

-- ZEROS
pub zero_all : (l : List ℕ) → all_zero l ≡ true → l ≡ replicate (length l) 0
unfolding all_zero
zero_all [] e = refl
zero_all (b ∷ l) e =
    let p = eqb-true b 0 (left_true (eqb b 0) (all_zero l) e) in
    let q = zero_all l (right_true (eqb b 0) (all_zero l) e) in
    λ i. p i ∷ q i

all_zero_lem : (n : ℕ) → all_zero (replicate n 0) ≡ true
unfolding all_zero
all_zero_lem zero = refl
all_zero_lem (suc n) = all_zero_lem n

-- n places of which the first c are held: the others are 0 exactly where the places are those of what is held
module _ (n c : ℕ) (l : List ℕ) (e : length l ≡ n) (h : c ≤ n) where
  held_length : length (take c l) ≡ c
  held_length = length-take-le c l (omega arith)

  pub zero_padded : all_zero (drop c l) ≡ true → l ≡ padded n (take c l)
  unfolding padded
  zero_padded z =
      let d : length (drop c l) ≡ n - length (take c l) = length-drop c l ∙ omega (arith, held_length) in
      sym (take-append-drop c l) ∙ ap (λ (r : List ℕ). take c l ++ r) (zero_all (drop c l) z ∙ ap (λ (k : ℕ). replicate k 0) d)

  pub padded_zero : l ≡ padded n (take c l) → all_zero (drop c l) ≡ true
  unfolding padded
  padded_zero p =
      let q : drop c l ≡ replicate (n - length (take c l)) 0 = ap (drop c) p ∙ drop_at (take c l) (replicate (n - length (take c l)) 0) c held_length in
      ap all_zero q ∙ all_zero_lem (n - length (take c l))

-- the places from one on, in a list
module _ (m : List ℕ) (at n c : ℕ) (room : at + n ≤ length m) (h : c ≤ n) where
  abbrev places : List ℕ
  places = take n (drop at m)

  there : n ≤ length (drop at m)
  there = simp length-drop (omega arith)

  past_is : take (at + n - (at + c)) (drop (at + c) m) ≡ drop c places
  past_is =
      let k : at + n - (at + c) ≡ n - c = omega arith in
      rw (k, ← drop-drop c at m) (sym (drop_take c n (drop at m) h there))

  same_held : take c places ≡ take c (drop at m)
  same_held = take-take c n (drop at m) h

  pub places_held : zero_between m (at + c) (at + n) ≡ true → places ≡ padded n (take c (drop at m))
  places_held z =
      zero_padded n c places (length-take-le n (drop at m) there) h (sym (ap all_zero past_is) ∙ z) ∙ ap (padded n) same_held

  pub held_places : places ≡ padded n (take c (drop at m)) → zero_between m (at + c) (at + n) ≡ true
  held_places p =
      ap all_zero past_is ∙ padded_zero n c places (length-take-le n (drop at m) there) h (p ∙ sym (ap (padded n) same_held))

-- EIGHT BITS are a byte, computed at each
abbrev eight : ℕ → ℕ
eight v = byte_of (bit v 7) (bit v 6) (bit v 5) (bit v 4) (bit v 3) (bit v 2) (bit v 1) (bit v 0)

eight_bits : (v : ℕ) → v < 256 → v ≡ eight v
eight_bits v h = sym (eqb→eq (eight v) v (below_at (λ (n : ℕ). eqb (eight n) n) 256 tt v h))

-- five flags above the number of a phase
abbrev flagged : ℕ → ℕ
flagged v = byte_of (bit v 7) (bit v 6) (bit v 5) (bit v 4) (bit v 3) false false false + phase_number (phase_of (v % 8))

flagged_bits : (v : ℕ) → v < 256 → v ≡ flagged v
unfolding phase_number
flagged_bits v h = sym (eqb→eq (flagged v) v (below_at (λ (n : ℕ). eqb (flagged n) n) 256 tt v h))

-- the lowest bits alone: four, two, one
four_bits : (v : ℕ) → v < 16 → v ≡ byte_of false false false false (bit v 3) (bit v 2) (bit v 1) (bit v 0)
four_bits v h =
    sym (eqb→eq _ v (below_at (λ (n : ℕ). eqb (byte_of false false false false (bit n 3) (bit n 2) (bit n 1) (bit n 0)) n) 16 tt v h))

two_bits : (v : ℕ) → v < 4 → v ≡ byte_of false false false false false false (bit v 1) (bit v 0)
two_bits v h =
    sym (eqb→eq _ v (below_at (λ (n : ℕ). eqb (byte_of false false false false false false (bit n 1) (bit n 0)) n) 4 tt v h))

flag_bit : (v : ℕ) → v < 2 → v ≡ one (eqb v 1)
flag_bit v h = sym (eqb→eq _ v (below_at (λ (n : ℕ). eqb (one (eqb n 1)) n) 2 tt v h))

or_false : (b : Bool) → b ≡ b || false
or_false true = refl
or_false false = refl

-- a number of three bytes
module _ (low middle high : ℕ) (l : low < 256) (k : middle < 256) (h : high < 256) where
  abbrev number : ℕ
  number = low + 256 * middle + 65536 * high

  low_byte : low ≡ counter_byte 0 number
  low_byte = omega arith

  middle_byte : middle ≡ counter_byte 1 number
  middle_byte = omega arith

  high_byte : high ≡ counter_byte 2 number
  high_byte = omega arith

-- THE HEAD: each byte is that of the chip
module _ (m : List ℕ) (b : Bytes m) (e : length m ≡ image_size) where
  at : (k : ℕ) → get_or m k 0 < 256
  at k = bytes_at m k b

  signals : get_or m scsisig_place 0 ≡ scsisig_byte (scsisig_of false (get_or m scsisig_place 0))
  signals =
      let v = get_or m scsisig_place 0 in
      eight_bits v (at scsisig_place)
      ∙ ap (λ (x : Bool). byte_of (bit v 7) (bit v 6) (bit v 5) x (bit v 3) (bit v 2) (bit v 1) (bit v 0)) (or_false (bit v 4))

  module _ (c : registers_clear m ≡ true) (o : others_clear m ≡ true) (f : Fitting m) where
    abbrev register : (k : ℕ) → get_or (registers_tests m) k true ≡ true
    unfolding registers_clear
    register k = all_at (registers_tests m) c k

    abbrev other : (k : ℕ) → get_or (others_tests m) k true ≡ true
    unfolding others_clear
    other k = all_at (others_tests m) o k

    head_is : take scsi_bytes_place m ≡ head_of (state_at m)
    unfolding state_at
    head_is =
        let lt = get_or m ticks_low_place 0 in
        let mt = get_or m ticks_middle_place 0 in
        let ht = get_or m ticks_high_place 0 in
        let lc = get_or m counter_low_place 0 in
        let mc = get_or m counter_middle_place 0 in
        let hc = get_or m counter_high_place 0 in
        ap (take scsi_bytes_place) (sym (elements_all image_size m e))
        ∙ (λ i.
        eight_bits (get_or m scsiseq_place 0) (at scsiseq_place) i
        ∷ sym (eqb-true _ (get_or m sxfrctl0_place 0) (register 0)) i
        ∷ sym (eqb-true _ (get_or m sxfrctl1_place 0) (register 1)) i
        ∷ signals i
        ∷ sym (eqb-true _ (get_or m scsirate_place 0) (register 2)) i
        ∷ sym (eqb-true _ (get_or m scsiid_place 0) (register 3)) i
        ∷ get_or m scsidat_place 0
        ∷ sym (eqb-true _ (get_or m simode0_place 0) (register 4)) i
        ∷ eight_bits (get_or m simode1_place 0) (at simode1_place) i
        ∷ sym (eqb-true _ (get_or m dmacntrl0_place 0) (register 5)) i
        ∷ sym (eqb-true _ (get_or m dmacntrl1_place 0) (register 6)) i
        ∷ get_or m brstcntrl_place 0
        ∷ eight_bits (get_or m status_place 0) (at status_place) i
        ∷ sym (eqb-true _ (get_or m latches_place 0) (other 0)) i
        ∷ get_or m data_place 0
        ∷ two_bits (get_or m upper_place 0) (ltb-true _ 4 (other 2)) i
        ∷ eight_bits (get_or m control_place 0) (at control_place) i
        ∷ get_or m offset_place 0
        ∷ flag_bit (get_or m ack_place 0) (ltb-true _ 2 (other 3)) i
        ∷ get_or m last_place 0
        ∷ get_or m quiet_place 0
        ∷ get_or m identity_place 0
        ∷ get_or m pointer_place 0
        ∷ flag_bit (get_or m kept_place 0) (ltb-true _ 2 (other 4)) i
        ∷ flagged_bits (get_or m sequencer_place 0) (at sequencer_place) i
        ∷ four_bits (get_or m selection_latches_place 0) (ltb-true _ 16 (other 1)) i
        ∷ high_byte lt mt ht (at ticks_low_place) (at ticks_middle_place) (at ticks_high_place) i
        ∷ middle_byte lt mt ht (at ticks_low_place) (at ticks_middle_place) (at ticks_high_place) i
        ∷ low_byte lt mt ht (at ticks_low_place) (at ticks_middle_place) (at ticks_high_place) i
        ∷ get_or m selid_place 0
        ∷ sym (length-take-le (get_or m scsi_count_place 0) (drop scsi_bytes_place m) (simp length-drop (omega (arith, f.scsi)))) i
        ∷ sym (length-take-le (get_or m host_count_place 0) (drop host_bytes_place m) (simp length-drop (omega (arith, f.host)))) i
        ∷ high_byte lc mc hc (at counter_low_place) (at counter_middle_place) (at counter_high_place) i
        ∷ middle_byte lc mc hc (at counter_low_place) (at counter_middle_place) (at counter_high_place) i
        ∷ low_byte lc mc hc (at counter_low_place) (at counter_middle_place) (at counter_high_place) i
        ∷ [])

    -- the whole list in its four parts
    whole : m ≡ take scsi_bytes_place m ++ take 8 (drop scsi_bytes_place m) ++ take 32 (drop stack_bytes_place m) ++ take 128 (drop host_bytes_place m)
    whole =
        let d : length (drop host_bytes_place m) ≤ 128 = simp length-drop (omega arith) in
        sym (take-append-drop host_bytes_place m)
        ∙ (λ i.
        (take-add stack_bytes_place 32 m ∙ ap (λ (l : List ℕ). l ++ take 32 (drop stack_bytes_place m)) (take-add scsi_bytes_place 8 m)) i
        ++ sym (take_all 128 (drop host_bytes_place m) d) i)

    pub packed : past_clear m ≡ true → m ≡ image_of (state_at m)
    unfolding image_of state_at past_clear
    packed p =
        let scsi = get_or m scsi_count_place 0 in
        let host = get_or m host_count_place 0 in
        let x = zero_between m (scsi_bytes_place + scsi) stack_bytes_place in
        let y = zero_between m (host_bytes_place + host) image_size in
        let q = places_held m scsi_bytes_place 8 scsi (omega arith) f.scsi (left_true x y p) in
        let r = places_held m host_bytes_place 128 host (omega arith) f.host (right_true x y p) in
        whole ∙ (λ i. head_is i ++ q i ++ take 32 (drop stack_bytes_place m) ++ r i)

-- the tests on the bytes alone
pub tested_image : (m : List ℕ) → Bytes m → length m ≡ image_size → Fitting m → registers_clear m ≡ true → others_clear m ≡ true → past_clear m ≡ true → IsImage m
unfolding others_clear
tested_image m b e f c o p =
    record {
      packed = packed m b e c o f p;
      range = in_range m b e f (ltb-true _ 32 (all_at (others_tests m) o 5)) (ltb-true _ 32 (all_at (others_tests m) o 6));
      bytes = in_bytes m b;
    }

pub tests_image :
    (m : List ℕ) → (length m ≡ image_size) × Bytes m → counts_fit m ≡ true → registers_clear m ≡ true → others_clear m ≡ true → past_clear m ≡ true
    → IsImage m
tests_image m b f c o p = tested_image m b.1 b.0 (counts_fitting m f) c o p

-- AND BACK: an image has each byte of the chip
module _ (m : List ℕ) (i : IsImage m) where
  head_at : (k : ℕ) → get_or (image_of (state_at m)) k 0 ≡ get_or m k 0
  head_at k = ap (λ (l : List ℕ). get_or l k 0) (sym i.packed)

  pub image_registers : registers_clear m ≡ true
  unfolding registers_clear image_of state_at
  image_registers =
      both_true (eq-eqb _ _ (head_at sxfrctl0_place))
      (both_true (eq-eqb _ _ (head_at sxfrctl1_place))
      (both_true (eq-eqb _ _ (head_at scsirate_place))
      (both_true (eq-eqb _ _ (head_at scsiid_place))
      (both_true (eq-eqb _ _ (head_at simode0_place))
      (both_true (eq-eqb _ _ (head_at dmacntrl0_place)) (eq-eqb _ _ (head_at dmacntrl1_place)))))))

  upper_below : get_or m upper_place 0 < 4
  unfolding image_of
  upper_below =
      let l = (state_at m).lines in
      omega (arith, head_at upper_place, one_below l.parity, one_below l.rst)

  ack_below : get_or m ack_place 0 < 2
  unfolding image_of
  ack_below = omega (arith, head_at ack_place, one_below (state_at m).transfer.ack)

  kept_below : get_or m kept_place 0 < 2
  unfolding image_of
  kept_below = omega (arith, head_at kept_place, one_below (state_at m).keptbad)

  identity_below : get_or m identity_place 0 < 32
  unfolding state_at
  identity_below = i.range.identity

  pointer_below : get_or m pointer_place 0 < 32
  unfolding state_at
  pointer_below = i.range.stack.pointer

  latches_again : latches_byte (latches_of (get_or m latches_place 0)) ≡ get_or m latches_place 0
  unfolding image_of state_at
  latches_again = head_at latches_place

  selection_below : get_or m selection_latches_place 0 < 16
  unfolding image_of
  selection_below =
      let k = (state_at m).sequencer.latches in
      omega (arith, head_at selection_latches_place, one_below k.seldo, one_below k.seldi, one_below k.selingo, one_below k.selto)

  pub image_others : others_clear m ≡ true
  unfolding others_clear
  image_others =
      both_true (eq-eqb _ _ latches_again)
      (both_true (lt-ltb _ 16 selection_below)
      (both_true (lt-ltb _ 4 upper_below)
      (both_true (lt-ltb _ 2 ack_below)
      (both_true (lt-ltb _ 2 kept_below) (both_true (lt-ltb _ 32 identity_below) (lt-ltb _ 32 pointer_below))))))

  pub image_past : past_clear m ≡ true
  unfolding past_clear
  image_past =
      let e = acceptable_length m i in
      let f = image_fitting i in
      both_true (held_places m scsi_bytes_place 8 (get_or m scsi_count_place 0) (omega arith) f.scsi (scsi_held m i))
      (held_places m host_bytes_place 128 (get_or m host_count_place 0) (omega arith) f.host (host_held m i))

-- THE TESTS OF THE CODE DECIDE WHETHER AN IMAGE IS ACCEPTED
pub accepted_by_lem : (m : List ℕ) → Bytes m → length m ≡ image_size → accepted m ≡ all (accepted_tests m)
accepted_by_lem m b e = same_truth (accepted m) (all (accepted_tests m)) to from
  where
    to : accepted m ≡ true → all (accepted_tests m) ≡ true
    to h =
        let a = accepted_acceptable m b h in
        both_true (fitting_counts m (image_fitting a.image))
        (both_true (image_registers m a.image)
        (both_true (image_others m a.image) (both_true (image_past m a.image) (rests_resting (state_at m) a.rest))))

    from : all (accepted_tests m) ≡ true → accepted m ≡ true
    from h =
        let f = counts_fitting m (all_at (accepted_tests m) h 0) in
        let i = tested_image m b e f (all_at (accepted_tests m) h 1) (all_at (accepted_tests m) h 2) (all_at (accepted_tests m) h 3) in
        acceptable_accepted m (record { image = i; rest = resting_rests (state_at m) (all_at (accepted_tests m) h 4) })
