-- R-4 OVER CALLS: for every list of calls of the two exported functions, each handed what the last one left, the box shows the chip's
-- answers, and what it keeps, put in one, is the chip's image.
use Prim.Native.Nat.{ℕ}
use mathlib.Core.Path.{◌≡◌, refl, ap, sym, subst, ◌∙◌}
use mathlib.Core.List.{List, [], ◌∷◌}
use lib.ListN.{get_or, replicate}
use Rattle.rules.specs.State.{State, power_reset}
use Rattle.rules.specs.Registers.{dmacntrl1_byte}
use Rattle.rules.specs.Records.{decode}
use Rattle.rules.specs.Step.{step, after}
use Rattle.rules.specs.Ranges.{InRange}
use Rattle.rules.specs.Rest.{AtRest}
use Rattle.rules.proofs.Computes.{computes}
use Rattle.rules.proofs.Ranges.{step_in_range, step_bytes, after_fits, after_bytes, power_reset_fits, power_reset_bytes}
use Rattle.rules.proofs.Still.{step_rests, after_rests, power_reset_rests}
use Rattle.stack.specs.Box.{Box, whole, Doing, Accesses, Resets, Steps, doing, boxed, box_after, box_answers}
use Rattle.stack.proofs.HeldApart.{held_apart}
use Rattle.image.specs.Image.{image_of, state_at}
use Rattle.image.specs.Layout.{dmacntrl1_place, image_size}
use Rattle.image.proofs.ReadBack.{read_back}
use Rattle.saved.specs.Accepted.{accepted}
use Rattle.saved.proofs.Acceptance.{Acceptable, acceptable_accepted}
use Rattle.apart.specs.Turns.{Kept, Turn, kept_after, Turns, kept_last, records_of, shown, kept_from, put_in, ShowsChip}
use Rattle.apart.proofs.OneTurn.{Sound, sound_acceptable, Holds, turned, put_whole}

-- what stays so: the chip apart and the whole are in range and at rest
record Steady (b : Box) : Type 0 where
  chip : Sound b.chip
  range : InRange (whole b)
  rest : AtRest (whole b)

sound_step : (s : State) → Sound s → (bytes : List ℕ) → Sound (step s bytes).state
sound_step s u bytes =
    record {
      range = step_in_range s bytes u.range;
      bytes = (step_bytes s bytes u.range u.bytes).state;
      rest = step_rests s bytes u.range u.rest;
    }

sound_boxed : (b : Box) → Sound b.chip → (bytes : List ℕ) (w : Doing) → Sound (boxed b bytes w).chip
unfolding boxed
sound_boxed b u bytes (Accesses a) = u
sound_boxed b u bytes Resets = sound_step b.chip u bytes
sound_boxed b u bytes Steps = sound_step b.chip u bytes

steady_boxed : (b : Box) → Steady b → (bytes : List ℕ) → Steady (boxed b bytes (doing (decode bytes)))
steady_boxed b u bytes =
    let e = (held_apart b (bytes ∷ []) u.range u.rest).state in
    record {
      chip = sound_boxed b u.chip bytes (doing (decode bytes));
      range = subst InRange e (step_in_range (whole b) bytes u.range);
      rest = subst AtRest e (step_rests (whole b) bytes u.range u.rest);
    }

-- TURNS ARE WHAT THE BOX DOES
record Boxed (k : Kept) (b : Box) (ts : List Turn) : Type 0 where
  shows : shown ts ≡ box_answers b (records_of ts)
  holds : Holds (kept_last k ts) (box_after b (records_of ts))
  steady : Steady (box_after b (records_of ts))

turns_boxed : (k : Kept) (b : Box) (ts : List Turn) → Holds k b → Steady b → Turns k ts → Boxed k b ts
turns_boxed k b [] h u c = record { shows = refl; holds = h; steady = u }
turns_boxed k b (t ∷ more) h u c =
    let one = turned k b t h u.chip u.range.stack.size c.0 (doing (decode t.bytes)) refl in
    let rest =
    turns_boxed (kept_after t) (boxed b t.bytes (doing (decode t.bytes))) more one.kept (steady_boxed b u t.bytes) c.1 in
    record { shows = λ j. one.shown j ∷ rest.shows j; holds = rest.holds; steady = rest.steady }

-- THE BOX THAT BEGINS WITH AN ACCEPTED IMAGE, the stack taken out
module _ (m : List ℕ) (a : Acceptable m) where
  abbrev s : State
  s = state_at m

  abbrev split : Box
  split = record { chip = s; control = s.registers.dmacntrl1; stack = s.stack }

  control_byte_lem : get_or m dmacntrl1_place 0 ≡ dmacntrl1_byte s.registers.dmacntrl1 0
  unfolding image_of
  control_byte_lem = ap (λ (l : List ℕ). get_or l dmacntrl1_place 0) a.image.packed

  begins : Holds (kept_from m) split
  unfolding state_at
  begins = record { image = a.image.packed; stack = refl; control = ap (λ (n : ℕ). n ∷ []) control_byte_lem }

  sound : Sound s
  sound = record { range = a.image.range; bytes = a.image.bytes; rest = a.rest }

  pub calls_apart : (ts : List Turn) → Turns (kept_from m) ts → ShowsChip s (kept_from m) ts
  calls_apart ts c =
      let rs = records_of ts in
      let t = turns_boxed (kept_from m) split ts begins (record { chip = sound; range = sound.range; rest = sound.rest }) c in
      let e = held_apart split rs sound.range sound.rest in
      let put : put_in (kept_last (kept_from m) ts) ≡ image_of (after s rs) =
      put_whole (box_after split rs) t.steady.chip.range t.steady.range (kept_last (kept_from m) ts) t.holds
      ∙ ap image_of (sym e.state) in
      let last : Sound (after s rs) =
      record {
        range = after_fits s rs sound.range;
        bytes = after_bytes s rs sound.range sound.bytes;
        rest = after_rests s rs sound.range sound.rest;
      } in
      record {
        answered = t.shows ∙ sym e.shown;
        image = put;
        taken = ap accepted put ∙ acceptable_accepted (image_of (after s rs)) (sound_acceptable (after s rs) last);
      }

-- FROM POWER RESET: image, stack and byte all zeros
abbrev pub zero_image : List ℕ
zero_image = replicate image_size 0

reset_image : zero_image ≡ image_of power_reset
unfolding computes image_of
reset_image = refl

reset_sound : Sound power_reset
reset_sound = record { range = power_reset_fits; bytes = power_reset_bytes; rest = power_reset_rests }

zero_acceptable : Acceptable zero_image
zero_acceptable = subst Acceptable (sym reset_image) (sound_acceptable power_reset reset_sound)

zero_state : state_at zero_image ≡ power_reset
zero_state = ap state_at reset_image ∙ read_back power_reset power_reset_fits

pub reset_calls_apart : (ts : List Turn) → Turns (kept_from zero_image) ts → ShowsChip power_reset (kept_from zero_image) ts
reset_calls_apart ts c =
    subst (λ (s : State). ShowsChip s (kept_from zero_image) ts) zero_state (calls_apart zero_image zero_acceptable ts c)
