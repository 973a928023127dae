-- Stores in the head of an image: the counter's bytes, the ACK and the offset; and the SCSI FIFO's count.
use Prim.Native.Nat.{ℕ, zero, suc, ◌+◌, ◌-◌, ◌*◌, ◌<◌, ◌≤◌}
use mathlib.Core.Path.{◌≡◌, refl, ap, sym, ◌∙◌}
use mathlib.Core.Bool.{true, false}
use mathlib.Core.List.{List, []}
use borrow.Author.Tests.{lt-ltb, le-ltb, lt-leb}
use native.Mathlib.Omega.{arith}
use lib.ListN.{length, drop, set, get_or, drop_of_length-le}
use Rattle.rules.specs.Counter.{counter_size, counter_byte, counter_with}
use Rattle.rules.specs.declared.counts.CounterStep.{CounterStep}
use Rattle.rules.specs.declared.counts.Direction.TheVariants.{Up, Down}
use Rattle.rules.specs.State.{State}
use Rattle.counter.specs.Steps.{counter_steps}
use Rattle.counter.proofs.Steps.{up_steps, down_steps}
use Rattle.image.proofs.ReadBack.{counter_back}
use Rattle.image.specs.Image.{image_of}
use Rattle.rules.specs.Changed.{with_counter, with_offset, with_ack}
use Rattle.image.specs.Layout.{ack_place, counter_high_place, counter_low_place, counter_middle_place, offset_place, scsi_count_place}
use Rattle.datapath.specs.Fits.{FitsPlaces, counter_written, counter_stepped_by, counter_passes_in}

-- the three bytes of a number stand for it
stored : (s : State) (n : ℕ) → set (set (set (image_of s) counter_low_place (counter_byte 0 n)) counter_middle_place (counter_byte 1 n)) counter_high_place (counter_byte 2 n) ≡ image_of (with_counter n s)
unfolding image_of
stored s n = refl

counter_bytes : (s : State) → get_or (image_of s) counter_low_place 0 + 256 * get_or (image_of s) counter_middle_place 0 + 65536 * get_or (image_of s) counter_high_place 0 ≡ counter_byte 0 s.transfer.counter + 256 * counter_byte 1 s.transfer.counter + 65536 * counter_byte 2 s.transfer.counter
unfolding image_of
counter_bytes s = refl

module _ (v n : ℕ) (h : v < 256) where
  low_0 : counter_byte 0 (counter_with 0 v n) ≡ v
  low_0 = omega arith

  low_1 : counter_byte 1 (counter_with 0 v n) ≡ counter_byte 1 n
  low_1 = omega arith

  low_2 : counter_byte 2 (counter_with 0 v n) ≡ counter_byte 2 n
  low_2 = omega arith

  middle_0 : counter_byte 0 (counter_with 1 v n) ≡ counter_byte 0 n
  middle_0 = omega arith

  middle_1 : counter_byte 1 (counter_with 1 v n) ≡ v
  middle_1 = omega arith

  middle_2 : counter_byte 2 (counter_with 1 v n) ≡ counter_byte 2 n
  middle_2 = omega arith

  high_0 : counter_byte 0 (counter_with 2 v n) ≡ counter_byte 0 n
  high_0 = omega arith

  high_1 : counter_byte 1 (counter_with 2 v n) ≡ counter_byte 1 n
  high_1 = omega arith

  high_2 : counter_byte 2 (counter_with 2 v n) ≡ v
  high_2 = omega arith

-- three stores of a number's bytes
bytes_as : (s : State) (n : ℕ) {a b c : ℕ} → a ≡ counter_byte 0 n → b ≡ counter_byte 1 n → c ≡ counter_byte 2 n → set (set (set (image_of s) counter_low_place a) counter_middle_place b) counter_high_place c ≡ image_of (with_counter n s)
bytes_as s n {a} {b} {c} e f g =
    ap (λ (x : ℕ). set (set (set (image_of s) counter_low_place x) counter_middle_place b) counter_high_place c) e
    ∙ ap (λ (x : ℕ). set (set (set (image_of s) counter_low_place (counter_byte 0 n)) counter_middle_place x) counter_high_place c) f
    ∙ ap (λ (x : ℕ). set (set (set (image_of s) counter_low_place (counter_byte 0 n)) counter_middle_place (counter_byte 1 n)) counter_high_place x) g
    ∙ stored s n

module _ (s : State) (v : ℕ) (h : v < 256) where
  low_stored : set (image_of s) counter_low_place v ≡ image_of (counter_written 0 v s)
  unfolding image_of
  low_stored =
      let n : ℕ = s.transfer.counter in
      bytes_as s (counter_with 0 v n) (sym (low_0 v n h)) (sym (low_1 v n h)) (sym (low_2 v n h))

  middle_stored : set (image_of s) counter_middle_place v ≡ image_of (counter_written 1 v s)
  unfolding image_of
  middle_stored =
      let n : ℕ = s.transfer.counter in
      bytes_as s (counter_with 1 v n) (sym (middle_0 v n h)) (sym (middle_1 v n h)) (sym (middle_2 v n h))

  high_stored : set (image_of s) counter_high_place v ≡ image_of (counter_written 2 v s)
  unfolding image_of
  high_stored =
      let n : ℕ = s.transfer.counter in
      bytes_as s (counter_with 2 v n) (sym (high_0 v n h)) (sym (high_1 v n h)) (sym (high_2 v n h))

low_read : (s : State) → get_or (image_of s) counter_low_place 0 ≡ counter_byte 0 s.transfer.counter
unfolding image_of
low_read s = refl

-- steps that change the low byte alone, to b
low_steps : (s : State) (v b : ℕ) → b < 256 → v + counter_byte 0 s.transfer.counter ≡ s.transfer.counter + b
    → set (image_of s) counter_low_place b ≡ image_of (with_counter v s)
unfolding image_of
low_steps s v b h k = bytes_as s v (omega (arith, k)) (omega (arith, k)) (omega (arith, k))

-- k steps up or down of a low byte that does not carry pass no end
more_up : (k n : ℕ) → n < counter_size → counter_byte 0 n + k < 256
    → ((counter_steps Up k n).passed ≡ false) × ((counter_steps Up k n).value + counter_byte 0 n ≡ n + (counter_byte 0 n + k))
more_up k n h l =
    let e = up_steps k n h in (
      ap (λ (x : CounterStep). x.passed) e ∙ le-ltb 16777215 (n + k) (omega arith),
      ap (λ (x : CounterStep). x.value + counter_byte 0 n) e ∙ omega arith,
    )

more_down : (k n : ℕ) → n < counter_size → k < counter_byte 0 n
    → ((counter_steps Down k n).passed ≡ false) × ((counter_steps Down k n).value + counter_byte 0 n ≡ n + (counter_byte 0 n - k))
more_down k n h l =
    let e = down_steps k n h (omega arith) in (
      ap (λ (x : CounterStep). x.passed) e ∙ rw (lt-ltb 0 n (omega arith)) (lt-leb n k (omega arith)),
      ap (λ (x : CounterStep). x.value + counter_byte 0 n) e ∙ omega arith,
    )

ack_stored : (s : State) → set (image_of s) ack_place 1 ≡ image_of (with_ack true s)
unfolding image_of
ack_stored s = refl

pub offset_stored_lem : (s : State) (n : ℕ) → set (image_of s) offset_place n ≡ image_of (with_offset n s)
unfolding image_of
offset_stored_lem s n = refl

scsi_count : (s : State) → get_or (image_of s) scsi_count_place 0 ≡ length s.transfer.scsi
unfolding image_of
scsi_count s = refl

-- an array of which it is known which state it is the image of
module _ {m : List ℕ} (s : State) (e : m ≡ image_of s) where
  pub byte_laid : (k v : ℕ) → k < 3 → v < 256 → set m (counter_low_place - k) v ≡ image_of (counter_written k v s)
  byte_laid zero v l h = ap (λ (y : List ℕ). set y counter_low_place v) e ∙ low_stored s v h
  byte_laid (suc zero) v l h = ap (λ (y : List ℕ). set y counter_middle_place v) e ∙ middle_stored s v h
  byte_laid (suc (suc zero)) v l h = ap (λ (y : List ℕ). set y counter_high_place v) e ∙ high_stored s v h
  byte_laid (suc (suc (suc k))) v l h = absurd (omega arith)

  -- the place by its number
  pub byte_laid_at : (k p v : ℕ) → p ≡ counter_low_place - k → k < 3 → v < 256 → set m p v ≡ image_of (counter_written k v s)
  byte_laid_at k p v f l h = ap (λ (q : ℕ). set m q v) f ∙ byte_laid k v l h

  pub number_laid : (n : ℕ) {a b c : ℕ} → a ≡ counter_byte 0 n → b ≡ counter_byte 1 n → c ≡ counter_byte 2 n
      → set (set (set m counter_low_place a) counter_middle_place b) counter_high_place c ≡ image_of (with_counter n s)
  number_laid n {a} {b} {c} f g h =
      ap (λ (y : List ℕ). set (set (set y counter_low_place a) counter_middle_place b) counter_high_place c) e ∙ bytes_as s n f g h

  pub on : set m ack_place 1 ≡ image_of (with_ack true s)
  on = ap (λ (y : List ℕ). set y ack_place 1) e ∙ ack_stored s

  pub no_offset : set m offset_place 0 ≡ image_of (with_offset 0 s)
  no_offset = ap (λ (y : List ℕ). set y offset_place 0) e ∙ offset_stored_lem s 0

  module _ (p : FitsPlaces s) where
    pub number : get_or m counter_low_place 0 + 256 * get_or m counter_middle_place 0 + 65536 * get_or m counter_high_place 0 ≡ s.transfer.counter
    number = ap (λ (y : List ℕ). get_or y counter_low_place 0 + 256 * get_or y counter_middle_place 0 + 65536 * get_or y counter_high_place 0) e ∙ counter_bytes s ∙ counter_back s.transfer.counter p.counter

    low_byte : get_or m counter_low_place 0 ≡ counter_byte 0 s.transfer.counter
    low_byte = ap (λ (y : List ℕ). get_or y counter_low_place 0) e ∙ low_read s

    -- the low byte alone is stored
    low_to : (v b : ℕ) {a : ℕ} → a ≡ b → b < 256 → v + counter_byte 0 s.transfer.counter ≡ s.transfer.counter + b
        → set m counter_low_place a ≡ image_of (with_counter v s)
    low_to v b f h k =
        ap (λ (x : ℕ). set m counter_low_place x) f ∙ ap (λ (y : List ℕ). set y counter_low_place b) e ∙ low_steps s v b h k

    pub low_up_by : (k : ℕ) → get_or m counter_low_place 0 + k < 256
        → (false ≡ counter_passes_in Up k s) × (set m counter_low_place (get_or m counter_low_place 0 + k) ≡ image_of (counter_stepped_by Up k s))
    low_up_by k h =
        let n : ℕ = s.transfer.counter in
        let x = more_up k n p.counter (omega (arith, low_byte)) in
        (sym x.0, low_to (counter_steps Up k n).value (counter_byte 0 n + k) (omega (arith, low_byte)) (omega (arith, low_byte)) x.1)

    pub low_down_by : (k : ℕ) → k < get_or m counter_low_place 0
        → (false ≡ counter_passes_in Down k s) × (set m counter_low_place (get_or m counter_low_place 0 - k) ≡ image_of (counter_stepped_by Down k s))
    low_down_by k h =
        let n : ℕ = s.transfer.counter in
        let x = more_down k n p.counter (omega (arith, low_byte)) in
        (sym x.0, low_to (counter_steps Down k n).value (counter_byte 0 n - k) (omega (arith, low_byte)) (omega arith) x.1)

    pub scsi_counted : get_or m scsi_count_place 0 ≡ length s.transfer.scsi
    scsi_counted = ap (λ (y : List ℕ). get_or y scsi_count_place 0) e ∙ scsi_count s

    pub no_scsi : (n : ℕ) → n ≡ get_or m scsi_count_place 0 → drop n s.transfer.scsi ≡ []
    no_scsi n g =
        let i : length s.transfer.scsi ≤ n = omega (arith, scsi_counted) in
        drop_of_length-le s.transfer.scsi i
