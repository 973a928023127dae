-- What an image holds at a place, by the state that it stands for.
use Prim.Native.Nat.{ℕ, zero, suc, ◌+◌, ◌-◌, ◌<◌}
use mathlib.Core.Path.{◌≡◌, refl, sym, ap, ◌∙◌}
use mathlib.Core.Bool.{Bool}
use mathlib.Core.List.{List, [], ◌∷◌, ◌++◌}
use native.Mathlib.Omega.{arith}
use lib.ListN.{length, drop, get_or, replicate, length-append}
use lib.Seq.{get_or-append-add, get_or-take, get_or-drop}
use Rattle.rules.specs.Numbers.{padded}
use Rattle.rules.specs.Counter.{counter_byte}
use Rattle.rules.specs.Registers.{scsiseq_byte, sxfrctl0_byte, sxfrctl1_byte, simode0_byte, simode1_byte, dmacntrl0_byte, dmacntrl1_byte}
use Rattle.rules.specs.State.{State}
use Rattle.rules.specs.Ranges.{InRange}
use Rattle.rules.specs.Stack.{stack_place, stack_byte}
use Rattle.rules.specs.Seen.{data_seen}
use Rattle.rules.specs.Reads.{scsibus}
use Rattle.laws.proofs.Lists.{padded_length}
use Rattle.laws.proofs.Bits.{one_below}
use Rattle.stack.proofs.Places.{place_lt}
use Rattle.image.specs.Image.{image_of, state_at, status_of, latches_of, IsImage}
use Rattle.image.specs.Layout.{brstcntrl_place, counter_high_place, counter_low_place, counter_middle_place, dmacntrl0_place, dmacntrl1_place, host_bytes_place, host_count_place, identity_place, image_size, latches_place, pointer_place, scsi_count_place, scsiseq_place, selid_place, simode0_place, simode1_place, stack_bytes_place, status_place, sxfrctl0_place, sxfrctl1_place}

-- zeros read as 0, and so does what is past them
zeros : (n i : ℕ) → get_or (replicate n zero) i zero ≡ zero
zeros zero i = refl
zeros (suc n) zero = refl
zeros (suc n) (suc i) = zeros n i

filled : (l : List ℕ) (k i : ℕ) → get_or (l ++ replicate k 0) i 0 ≡ get_or l i 0
filled [] k i = zeros k i
filled (x ∷ l) k zero = refl
filled (x ∷ l) k (suc i) = filled l k i

padded_at : (n i : ℕ) (l : List ℕ) → get_or (padded n l) i 0 ≡ get_or l i 0
unfolding padded
padded_at n i l = filled l (n - length l) i

-- the head, byte by byte
module _ (s : State) where
  head_scsiseq : get_or (image_of s) scsiseq_place 0 ≡ scsiseq_byte s.registers.scsiseq
  unfolding image_of
  head_scsiseq = refl

  head_sxfrctl0 : get_or (image_of s) sxfrctl0_place 0 ≡ sxfrctl0_byte s.registers.sxfrctl0
  unfolding image_of
  head_sxfrctl0 = refl

  head_sxfrctl1 : get_or (image_of s) sxfrctl1_place 0 ≡ sxfrctl1_byte s.registers.sxfrctl1
  unfolding image_of
  head_sxfrctl1 = refl

  head_simode0 : get_or (image_of s) simode0_place 0 ≡ simode0_byte s.registers.simode0
  unfolding image_of
  head_simode0 = refl

  head_simode1 : get_or (image_of s) simode1_place 0 ≡ simode1_byte s.registers.simode1
  unfolding image_of
  head_simode1 = refl

  head_dmacntrl0 : get_or (image_of s) dmacntrl0_place 0 ≡ dmacntrl0_byte s.registers.dmacntrl0
  unfolding image_of
  head_dmacntrl0 = refl

  head_dmacntrl1 : get_or (image_of s) dmacntrl1_place 0 ≡ dmacntrl1_byte s.registers.dmacntrl1 0
  unfolding image_of
  head_dmacntrl1 = refl

  head_pointer : get_or (image_of s) pointer_place 0 ≡ s.stack.pointer
  unfolding image_of
  head_pointer = refl

  head_scsi : get_or (image_of s) scsi_count_place 0 ≡ length s.transfer.scsi
  unfolding image_of
  head_scsi = refl

  head_host : get_or (image_of s) host_count_place 0 ≡ length s.transfer.host
  unfolding image_of
  head_host = refl

  head_counter0 : get_or (image_of s) counter_low_place 0 ≡ counter_byte 0 s.transfer.counter
  unfolding image_of
  head_counter0 = refl

  head_counter1 : get_or (image_of s) counter_middle_place 0 ≡ counter_byte 1 s.transfer.counter
  unfolding image_of
  head_counter1 = refl

  head_counter2 : get_or (image_of s) counter_high_place 0 ≡ counter_byte 2 s.transfer.counter
  unfolding image_of
  head_counter2 = refl

-- the host FIFO, behind the SCSI FIFO and the stack
abbrev before_host : State → List ℕ
before_host s = padded 8 s.transfer.scsi ++ s.stack.bytes

module _ (s : State) (r : InRange s) where
  before_length : length (before_host s) ≡ 40
  before_length =
      let a : length (padded 8 s.transfer.scsi) ≡ 8 = padded_length 8 s.transfer.scsi r.transfer.scsi in
      length-append (padded 8 s.transfer.scsi) s.stack.bytes ∙ omega (arith, a, r.stack.size)

  behind : (k : ℕ) → get_or (before_host s ++ padded 128 s.transfer.host) (40 + k) 0 ≡ get_or s.transfer.host k 0
  behind k =
      ap (λ (n : ℕ). get_or (before_host s ++ padded 128 s.transfer.host) (n + k) 0) (sym before_length)
      ∙ get_or-append-add (before_host s) (padded 128 s.transfer.host) k 0
      ∙ padded_at 128 k s.transfer.host

  host_first : get_or (image_of s) host_bytes_place 0 ≡ get_or s.transfer.host 0 0
  unfolding image_of
  host_first = behind 0

  host_second : get_or (image_of s) (host_bytes_place + 1) 0 ≡ get_or s.transfer.host 1 0
  unfolding image_of
  host_second = behind 1

-- what holds of the image of every state holds of an array that is an image
pub of_image : (f : List ℕ → List ℕ) (g : State → State) → ((s : State) → f (image_of s) ≡ image_of (g s)) → (m : List ℕ) → IsImage m → f m ≡ image_of (g (state_at m))
of_image f g law m i = ap f i.packed ∙ law (state_at m)

-- the statuses and the latches, whatever the array
pub status_at : (m : List ℕ) → (state_at m).status ≡ status_of (get_or m status_place 0)
unfolding state_at
status_at m = refl

pub latches_at : (m : List ℕ) → (state_at m).latches ≡ latches_of (get_or m latches_place 0)
unfolding state_at
latches_at m = refl

-- in an array
module _ (m : List ℕ) (i : IsImage m) where
  held : (k : ℕ) {x : ℕ} → get_or (image_of (state_at m)) k 0 ≡ x → get_or m k 0 ≡ x
  held k e = ap (λ (l : List ℕ). get_or l k 0) i.packed ∙ e

  pub at_scsiseq : get_or m scsiseq_place 0 ≡ scsiseq_byte (state_at m).registers.scsiseq
  at_scsiseq = held scsiseq_place (head_scsiseq (state_at m))

  pub at_sxfrctl0 : get_or m sxfrctl0_place 0 ≡ sxfrctl0_byte (state_at m).registers.sxfrctl0
  at_sxfrctl0 = held sxfrctl0_place (head_sxfrctl0 (state_at m))

  pub at_sxfrctl1 : get_or m sxfrctl1_place 0 ≡ sxfrctl1_byte (state_at m).registers.sxfrctl1
  at_sxfrctl1 = held sxfrctl1_place (head_sxfrctl1 (state_at m))

  pub at_simode0 : get_or m simode0_place 0 ≡ simode0_byte (state_at m).registers.simode0
  at_simode0 = held simode0_place (head_simode0 (state_at m))

  pub at_simode1 : get_or m simode1_place 0 ≡ simode1_byte (state_at m).registers.simode1
  at_simode1 = held simode1_place (head_simode1 (state_at m))

  pub at_dmacntrl0 : get_or m dmacntrl0_place 0 ≡ dmacntrl0_byte (state_at m).registers.dmacntrl0
  at_dmacntrl0 = held dmacntrl0_place (head_dmacntrl0 (state_at m))

  pub at_dmacntrl1 : get_or m dmacntrl1_place 0 ≡ dmacntrl1_byte (state_at m).registers.dmacntrl1 0
  at_dmacntrl1 = held dmacntrl1_place (head_dmacntrl1 (state_at m))

  pub at_pointer : get_or m pointer_place 0 ≡ (state_at m).stack.pointer
  at_pointer = held pointer_place (head_pointer (state_at m))

  pub at_scsi : get_or m scsi_count_place 0 ≡ length (state_at m).transfer.scsi
  at_scsi = held scsi_count_place (head_scsi (state_at m))

  pub at_host : get_or m host_count_place 0 ≡ length (state_at m).transfer.host
  at_host = held host_count_place (head_host (state_at m))

  pub at_counter0 : get_or m counter_low_place 0 ≡ counter_byte 0 (state_at m).transfer.counter
  at_counter0 = held counter_low_place (head_counter0 (state_at m))

  pub at_counter1 : get_or m counter_middle_place 0 ≡ counter_byte 1 (state_at m).transfer.counter
  at_counter1 = held counter_middle_place (head_counter1 (state_at m))

  pub at_counter2 : get_or m counter_high_place 0 ≡ counter_byte 2 (state_at m).transfer.counter
  at_counter2 = held counter_high_place (head_counter2 (state_at m))

  pub at_first : get_or m host_bytes_place 0 ≡ get_or (state_at m).transfer.host 0 0
  at_first = held host_bytes_place (host_first (state_at m) i.range)

  pub at_second : get_or m (host_bytes_place + 1) 0 ≡ get_or (state_at m).transfer.host 1 0
  at_second = held (host_bytes_place + 1) (host_second (state_at m) i.range)

  pub at_brstcntrl : get_or m brstcntrl_place 0 ≡ (state_at m).registers.brstcntrl
  unfolding state_at
  at_brstcntrl = refl

  pub at_selid : get_or m selid_place 0 ≡ (state_at m).sequencer.selid
  unfolding state_at
  at_selid = refl

  pub at_bus : data_seen (state_at m) ≡ scsibus (state_at m)
  unfolding scsibus state_at
  at_bus = refl

  pub at_identity : get_or m identity_place 0 < 32
  unfolding state_at
  at_identity = i.range.identity

  -- 353h is a byte, and the sum of its parts
  pub parts_fit : get_or m dmacntrl1_place 0 + get_or m pointer_place 0 < 256
  parts_fit =
      let d = (state_at m).registers.dmacntrl1 in
      omega (arith, at_dmacntrl1, at_pointer, i.range.stack.pointer, one_below d.pwrdwn, one_below d.enstk32)

  pub parts_join : get_or m dmacntrl1_place 0 + get_or m pointer_place 0 ≡ dmacntrl1_byte (state_at m).registers.dmacntrl1 (state_at m).stack.pointer
  parts_join = omega (arith, at_dmacntrl1, at_pointer)

-- the stack
abbrev pub wide_at : List ℕ → Bool
wide_at m = (state_at m).registers.dmacntrl1.enstk32

pub place_inside : (m : List ℕ) (p : ℕ) → p ≡ stack_place (wide_at m) (state_at m).stack → stack_bytes_place + p < image_size
place_inside m p e = omega (arith, e, place_lt (wide_at m) (state_at m).stack)

pub at_place : (m : List ℕ) (p : ℕ) → p ≡ stack_place (wide_at m) (state_at m).stack → get_or m (stack_bytes_place + p) 0 ≡ stack_byte (wide_at m) (state_at m).stack
unfolding stack_byte state_at
at_place m p e =
    let q = stack_place (wide_at m) (state_at m).stack in
    ap (λ (k : ℕ). get_or m (stack_bytes_place + k) 0) e
    ∙ sym (get_or-take 32 (drop stack_bytes_place m) q 0 (place_lt (wide_at m) (state_at m).stack) ∙ get_or-drop stack_bytes_place m q 0)
