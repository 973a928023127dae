-- ONE CHIP HAS ONE IMAGE. What a chip value stands for is in range and in bytes by the value's type.
use Rattle.std.specs.Prelude.{Ok, Err}
use Prim.Native.Nat.{ℕ, suc}
use mathlib.Core.Path.{◌≡◌, refl, sym, ap, subst, ◌∙◌}
use mathlib.Core.Bool.{true}
use mathlib.Core.List.{List, [], ◌∷◌}
use borrow.Author.Tests.{eq-eqb}
use lib.ListN.{length, set}
use Rattle.rules.specs.State.{power_reset}
use Rattle.rules.specs.Chips.{view, chip_of, path_view, path_of, registers_view, stack_view, sequencer_view}
use Rattle.rules.specs.Ranges.{InRange, InBytes, Bytes, Tidy}
use Rattle.rules.specs.Rest.{AtRest}
use Rattle.rules.specs.Step.{after}
use Rattle.rules.specs.Examples.{bytes_of}
use Rattle.rules.specs.declared.chip.Chip.{Chip}
use Rattle.rules.proofs.Computes.{computes}
use Rattle.rules.proofs.Packing.{read_back}
use Rattle.rules.proofs.Ranges.{bytes_zeros, bytes_computed, always_in_range, always_in_bytes}
use Rattle.rules.proofs.Still.{always_at_rest}
use Rattle.image.specs.Image.{image_of, state_at}
use Rattle.image.specs.Layout.{dmacntrl0_place, host_bytes_place, host_count_place, image_size, scsiseq_place}
use Rattle.image.proofs.ReadBack as image
use Rattle.step.specs.Entry.{Entered}
use Rattle.step.proofs.Parts.{tidy_of, view_of}
use Rattle.saved.specs.Accepted.{same_bytes, counts_fit, unused_clear, ticks_leave, accepted}
use Rattle.saved.specs.Lent.{refused_chip, chip_written, chip_read}
use Rattle.saved.specs.declared.slices.Refused.TheVariants.{NotAccepted}
use Rattle.saved.proofs.Acceptance.{accepted_acceptable, acceptable_accepted}
use Rattle.saved.proofs.Cases.{zeros}

-- an image that is accepted is read as its chip
is_read : (m : List ℕ) {c : Chip} → c ≡ chip_of (state_at m) → accepted m ≡ true → chip_read m ≡ Ok c
unfolding chip_read
is_read m e h = rw (h, e)

-- WHAT IS WRITTEN OF A CHIP AT REST IS ACCEPTED, AND READ AS THAT CHIP, TIDIED
module _ (c : Chip) (i : InRange (view c)) (b : InBytes (view c)) (r : AtRest (view c)) where
  pub written_accepted : accepted (image_of (view c)) ≡ true
  written_accepted =
      acceptable_accepted (image_of (view c))
      (record { image = image.is_image (view c) i b; rest = subst AtRest (sym (image.read_back (view c) i)) r })

  pub written_read : (out : List ℕ) → length out ≡ image_size → chip_read (chip_written c out) ≡ Ok (chip_of (view c))
  unfolding chip_written
  written_read out h =
      let e : chip_of (view c) ≡ chip_of (state_at (image_of (view c))) = ap chip_of (sym (image.read_back (view c) i)) in
      rw (eq-eqb (length out) image_size h) (is_read (image_of (view c)) e written_accepted)

-- `tidied` returns that chip, and its image is the one that is written
module _ (c tidied : Chip) (e : Entered c tidied) where
  pub tidied_image : image_of (view tidied) ≡ image_of (view c)
  tidied_image = ap image_of (view_of (view c) tidied e.range e.packed)

  pub tidied_read : InBytes (view c) → AtRest (view c) → (out : List ℕ) → length out ≡ image_size → chip_read (chip_written c out) ≡ Ok tidied
  tidied_read b r out h = written_read c e.range b r out h ∙ ap Ok (sym e.packed)

-- a chip in its one form is read as it was
pub tidy_read : (c : Chip) → Tidy c → InBytes (view c) → AtRest (view c) → (out : List ℕ) → length out ≡ image_size → chip_read (chip_written c out) ≡ Ok c
tidy_read c t = tidied_read c c (record { packed = t.packed; range = t.range })

-- WHAT WAS READ IS WRITTEN AS THE SAME BYTES
pub read_written :
    (m : List ℕ) → Bytes m → accepted m ≡ true →
    (c : Chip) × (chip_read m ≡ Ok c) × ((out : List ℕ) → length out ≡ image_size → chip_written c out ≡ m)
unfolding chip_written
read_written m b e =
    let i = (accepted_acceptable m b e).image in (
      chip_of (state_at m),
      is_read m refl e,
      λ out h. rw (eq-eqb (length out) image_size h) (ap image_of (read_back (state_at m) i.range) ∙ sym i.packed),
    )

-- whatever chip it is
pub read_again :
    (m : List ℕ) → Bytes m → accepted m ≡ true → (c : Chip) → chip_read m ≡ Ok c → (out : List ℕ) → length out ≡ image_size → chip_written c out ≡ m
read_again m b e c f out h =
    let r = read_written m b e in
    let same : c ≡ r.0 = cc (f, r.1) in
    ap (λ (d : Chip). chip_written d out) same ∙ r.2 out h

-- TWO CHIPS WITH THE SAME IMAGE ARE THE SAME, TIDIED
pub same_image : (c d : Chip) → InRange (view c) → InRange (view d) → image_of (view c) ≡ image_of (view d) → chip_of (view c) ≡ chip_of (view d)
same_image c d i j e = ap chip_of (sym (image.read_back (view c) i) ∙ ap state_at e ∙ image.read_back (view d) j)

pub same_chip : (c d : Chip) → Tidy c → Tidy d → image_of (view c) ≡ image_of (view d) → c ≡ d
same_chip c d t u e = t.packed ∙ same_image c d t.range u.range e ∙ sym u.packed

-- EVERY CHIP REACHED FROM POWER RESET IS READ AS IT WAS WRITTEN
abbrev pub reached : List (List ℕ) → Chip
reached records = chip_of (after power_reset records)

module _ (records : List (List ℕ)) where
  reached_view : view (reached records) ≡ after power_reset records
  reached_view = view_of (after power_reset records) (reached records) (always_in_range records) refl

  pub reached_tidy : Tidy (reached records)
  reached_tidy = tidy_of (after power_reset records) (reached records) (always_in_range records) refl

  pub reached_read : (out : List ℕ) → length out ≡ image_size → chip_read (chip_written (reached records) out) ≡ Ok (reached records)
  reached_read =
      tidy_read (reached records) reached_tidy (subst InBytes (sym reached_view) (always_in_bytes records))
      (subst AtRest (sym reached_view) (always_at_rest records))

-- AN IMAGE OF ZEROS IS POWER RESET
pub reset_image : image_of power_reset ≡ zeros
unfolding computes image_of zeros
reset_image = refl

zeros_length : length zeros ≡ image_size
unfolding zeros
zeros_length = refl

zeros_accepted : accepted zeros ≡ true
unfolding computes image_of state_at same_bytes counts_fit unused_clear ticks_leave accepted zeros
zeros_accepted = refl

pub zeros_read : chip_read zeros ≡ Ok (chip_of power_reset)
zeros_read =
    let e : chip_of power_reset ≡ chip_of (state_at zeros) = ap chip_of (sym (ap state_at (sym reset_image) ∙ image.read_back power_reset (always_in_range []))) in
    is_read zeros e zeros_accepted

zeros_bytes : Bytes zeros
unfolding zeros
zeros_bytes = bytes_zeros image_size

-- power reset, written and read, and read and written
reset_read : chip_read (chip_written (chip_of power_reset) zeros) ≡ Ok (chip_of power_reset)
reset_read = reached_read [] zeros zeros_length

reset_written : (c : Chip) → chip_read zeros ≡ Ok c → chip_written c zeros ≡ zeros
reset_written c e = read_again zeros zeros_bytes zeros_accepted c e zeros zeros_length

-- a word written to the port: "DMA enabled, write", then the word 4241h
abbrev pub word_written : List (List ℕ)
word_written = bytes_of 4 0x32000088 ∷ bytes_of 4 0x60004241 ∷ []

unfoldable pub word_image : List ℕ
word_image = set (set (set (set zeros dmacntrl0_place 0x88) host_count_place 2) host_bytes_place 0x41) (suc host_bytes_place) 0x42

word_image_lem : image_of (after power_reset word_written) ≡ word_image
unfolding computes image_of zeros word_image
word_image_lem = refl

word_read_lem : chip_read (chip_written (reached word_written) zeros) ≡ Ok (reached word_written)
word_read_lem = reached_read word_written zeros zeros_length

word_accepted : accepted word_image ≡ true
unfolding computes image_of state_at same_bytes counts_fit unused_clear ticks_leave accepted zeros word_image
word_accepted = refl

word_bytes : Bytes word_image
unfolding zeros word_image
word_bytes = bytes_computed word_image refl

word_written_lem : (c : Chip) → chip_read word_image ≡ Ok c → chip_written c zeros ≡ word_image
word_written_lem c e = read_again word_image word_bytes word_accepted c e zeros zeros_length

-- power reset again after the word: the image of power reset, and so its chip
abbrev pub reset_again : List (List ℕ)
reset_again = bytes_of 4 0x32000088 ∷ bytes_of 4 0x60004241 ∷ bytes_of 4 0 ∷ []

again_image : image_of (after power_reset reset_again) ≡ zeros
unfolding computes image_of zeros
again_image = refl

again_same : reached reset_again ≡ reached []
again_same =
    same_chip (reached reset_again) (reached []) (reached_tidy reset_again) (reached_tidy [])
    (ap image_of (reached_view reset_again) ∙ again_image ∙ sym (ap image_of (reached_view []) ∙ reset_image))

-- a chip made by hand, not at rest: ENSELO as no event leaves it. What is written of it is refused
unfoldable pub unrested : Chip
unrested = chip_of (state_at (set zeros scsiseq_place 0x40))

unrested_refused : chip_read (chip_written unrested zeros) ≡ Err (refused_chip NotAccepted)
unfolding computes view chip_of path_view path_of registers_view stack_view sequencer_view image_of state_at same_bytes counts_fit unused_clear ticks_leave accepted zeros chip_written chip_read unrested
unrested_refused = refl
