-- The array after all its places were stored, one run of bytes after another, is the image.
use Prim.Native.Nat.{ℕ, ◌+◌, ◌≤◌, ◌<◌}
use mathlib.Core.Path.{◌≡◌, refl, ap, sym, subst, ◌∙◌}
use mathlib.Core.List.{List, [], ◌++◌}
use native.Mathlib.Omega.{arith}
use lib.ListN.{length, take, drop, length-append}
use lib.Seq.{sets, length-sets, sets-eq, take_at, take_all, length-take-le, take-paste, length-paste}
use Rattle.rules.specs.Chips.{view, chip_of, path_of, registers_view, path_view, stack_view, sequencer_view}
use Rattle.rules.specs.State.{State}
use Rattle.rules.specs.Ranges.{Tidy, RegistersFit, RegistersBytes, Bytes, InBytes}
use Rattle.rules.specs.declared.chip.Chip.{Chip}
use Rattle.rules.proofs.Ranges.{bytes_take}
use Rattle.laws.proofs.Chips.{tidy_registers, tidy_host, tidy_scsi}
use Rattle.image.specs.Image.{image_of, sequencer_bytes}
use Rattle.image.specs.Layout.{host_bytes_place, image_size, offset_place, scsi_bytes_place, scsi_count_place, sequencer_place, stack_bytes_place, status_place}
use Rattle.chips.specs.HeadRuns.{registers_bytes, flags_bytes, numbers_bytes, counts_bytes, Placed}

-- the first k bytes are in their places
pub record Filled (m : List ℕ) (k : ℕ) (p : List ℕ) : Type 0 where
  pub size : length m ≡ image_size
  pub front : take k m ≡ p

pub none : (m : List ℕ) → length m ≡ image_size → Filled m 0 []
none m e = record { size = e; front = refl }

module _ {m : List ℕ} {k : ℕ} {p : List ℕ} (f : Filled m k p) where
  -- by stores
  pub stored : (vs : List ℕ) {after : List ℕ} → k + length vs ≤ image_size → after ≡ sets m k vs → Filled after (k + length vs) (p ++ vs)
  stored vs h e =
      let s : sets m k vs ≡ take k m ++ vs ++ drop (k + length vs) m = sets-eq vs m k (omega arith) in
      let n : length (take k m) ≡ k = length-take-le k m (omega arith) in
      let l : length (take k m ++ vs) ≡ k + length vs = simp length-append (omega arith) in
      record {
        size = rw e (length-sets m k vs ∙ f.size);
        front = rw (e, s) (take_at (take k m ++ vs) (drop (k + length vs) m) (k + length vs) l ∙ ap (λ (q : List ℕ). q ++ vs) f.front);
      }

  -- by a copy
  pub copied : {s : List ℕ} {n : ℕ} {after : List ℕ} → k + n ≤ image_size → Placed m k s n after → Filled after (k + n) (p ++ s)
  copied {s} {n} h c =
      let all : take n s ≡ s = take_all n s (omega arith) in
      record {
        size = rw c.placed (length-paste m k s n (omega arith) (omega arith) ∙ f.size);
        front = rw c.placed (take-paste m k s n (omega arith) (omega arith) ∙ ap (λ (q : List ℕ). q ++ take n s) f.front ∙ ap (λ (q : List ℕ). p ++ q) all);
      }

pub whole : {m p : List ℕ} → Filled m image_size p → m ≡ p
whole {m} f = sym (take_all image_size m (omega arith)) ∙ f.front

-- the bytes of a chip value in the order of the stores
abbrev pub bytes_of : Chip → List ℕ
bytes_of c =
    registers_bytes c.registers
    ++ flags_bytes c.status c.latches c.lines
    ++ numbers_bytes c
    ++ sequencer_bytes c.sequencer
    ++ counts_bytes c.transfer
    ++ c.transfer.scsi.bytes
    ++ c.stack.bytes
    ++ c.transfer.host.bytes

of_state : (s : State) → bytes_of (chip_of s) ≡ image_of s
unfolding chip_of path_of image_of
of_state s = refl

module _ (c : Chip) (t : Tidy c) where
  pub of_chip : bytes_of c ≡ image_of (view c)
  of_chip = ap bytes_of t.packed ∙ of_state (view c)

  pub registers_fit : RegistersFit c.registers
  registers_fit = subst RegistersFit (sym (tidy_registers c t)) t.range.registers

  pub counts_fit_lem : (c.transfer.scsi.count < 256) × (c.transfer.host.count < 256)
  counts_fit_lem = (omega (arith, tidy_scsi c t, t.range.transfer.scsi), omega (arith, tidy_host c t, t.range.transfer.host))

  -- the array after each of the eight calls
  pub all_stored : (m : List ℕ) {m1 m2 m3 m4 m5 m6 m7 m8 : List ℕ} → m1 ≡ sets m 0 (registers_bytes c.registers) → m2 ≡ sets m1 status_place (flags_bytes c.status c.latches c.lines) → m3 ≡ sets m2 offset_place (numbers_bytes c) → m4 ≡ sets m3 sequencer_place (sequencer_bytes c.sequencer) → m5 ≡ sets m4 scsi_count_place (counts_bytes c.transfer) → Placed m5 scsi_bytes_place c.transfer.scsi.bytes 8 m6 → Placed m6 stack_bytes_place c.stack.bytes 32 m7 → Placed m7 host_bytes_place c.transfer.host.bytes 128 m8 → m8 ≡ image_of (view c)
  all_stored m {m1} {m2} {m3} {m4} {m5} e1 e2 e3 e4 e5 p6 p7 p8 =
      let l1 : length m1 ≡ length m = rw e1 (length-sets m 0 (registers_bytes c.registers)) in
      let l2 : length m2 ≡ length m1 = rw e2 (length-sets m1 status_place (flags_bytes c.status c.latches c.lines)) in
      let l3 : length m3 ≡ length m2 =
      rw e3 (length-sets m2 offset_place (numbers_bytes c))
      in
      let l4 : length m4 ≡ length m3 = rw e4 (length-sets m3 sequencer_place (sequencer_bytes c.sequencer)) in
      let l5 : length m5 ≡ length m4 = rw e5 (length-sets m4 scsi_count_place (counts_bytes c.transfer)) in
      let f0 : Filled m 0 [] = none m (omega (arith, p6.size)) in
      let f1 = stored f0 (registers_bytes c.registers) (omega arith) e1 in
      let f2 = stored f1 (flags_bytes c.status c.latches c.lines) (omega arith) e2 in
      let f3 = stored f2 (numbers_bytes c) (omega arith) e3 in
      let f4 = stored f3 (sequencer_bytes c.sequencer) (omega arith) e4 in
      let f5 = stored f4 (counts_bytes c.transfer) (omega arith) e5 in
      whole (copied (copied (copied f5 (omega arith) p6) (omega arith) p7) (omega arith) p8) ∙ of_chip

  -- every byte that was stored is one
  pub in_bytes : RegistersBytes c.registers → c.lines.byte < 256 → c.transfer.last < 256 → c.sequencer.selid < 256 → Bytes c.transfer.scsi.bytes → Bytes c.stack.bytes → Bytes c.transfer.host.bytes → InBytes (view c)
  unfolding view registers_view path_view stack_view sequencer_view
  in_bytes r l a i scsi stack host =
      record {
        lines = l;
        registers = record { scsidat = r.scsidat; brstcntrl = r.brstcntrl };
        transfer = record { last = a; host = bytes_take c.transfer.host.count c.transfer.host.bytes host; scsi = bytes_take c.transfer.scsi.count c.transfer.scsi.bytes scsi };
        stack = stack;
        selid = i;
      }
