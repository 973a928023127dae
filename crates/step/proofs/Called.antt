-- The call with a lent buffer: sixteen bytes, or any other number.
use mathlib.Core.Path.{◌≡◌, ap, ◌∙◌}
use mathlib.Core.List.{List}
use Prim.Native.Nat.{ℕ}
use lib.ListN.{length}
use borrow.Author.Tests.{eq-eqb, ne_eqb}
use Rattle.rules.specs.State.{State}
use Rattle.rules.specs.Chips.{view, chip_of}
use Rattle.rules.specs.Ranges.{InRange, InBytes, Tidy}
use Rattle.rules.specs.Answers.{Stepped, answer_of, answer_bytes}
use Rattle.rules.specs.Step.{called, step, answer}
use Rattle.rules.specs.declared.chip.Chip.{Chip}
use Rattle.rules.specs.declared.codes.Code.TheVariants.{Malformed}
use Rattle.rules.proofs.Ranges.{step_in_range, step_bytes}
use Rattle.image.specs.Image.{state_at, IsImage}
use Rattle.image.proofs.ReadBack.{read_back}
use Rattle.chips.specs.HeadRuns.{Stored}
use Rattle.effects.proofs.ImageOnward.{image_is, state_is}
use Rattle.event.specs.Outcomes.{Gives}
use Rattle.event.specs.declared.stepping.Reply.{Reply}
use Rattle.step.specs.declared.Returned.{Returned}
use Rattle.step.specs.Outcomes.{returned_of, IsStep}
use Rattle.step.proofs.Parts.{tidy_of, view_of}

-- a tidy chip whose image was stepped
module _ (c : Chip) (t : Tidy c) {m : List ℕ} (k : Stored c m) (bytes : List ℕ) {n : List ℕ} {r : Reply} (g : Gives (step (state_at m) bytes) n r) where
  pub stored_state : state_at m ≡ view c
  stored_state = ap state_at k.packed ∙ read_back (view c) t.range

  abbrev x : Stepped
  x = step (state_at m) bytes

  range : InRange x.state
  range = step_in_range (state_at m) bytes k.sound.range

  in_bytes : InBytes x.state
  in_bytes = (step_bytes (state_at m) bytes k.sound.range k.sound.bytes).state

  pub image_stepped : IsImage n
  image_stepped = image_is x.state g.image range in_bytes

  module _ (before buffer : List ℕ) (h : length before ≡ 16) (w : buffer ≡ r.answer) where
    answered : buffer ≡ answer (view c) bytes
    unfolding answer
    answered = w ∙ g.answer ∙ ap (λ (s : State). answer_bytes (answer_of (step s bytes))) stored_state

    -- a buffer of sixteen bytes: the step, and its answer
    pub sixteen : (d : Chip) → d ≡ chip_of (state_at n) → IsStep c bytes before buffer (record { chip = d; code = r.code })
    unfolding called returned_of
    sixteen d q =
        let chip : d ≡ chip_of (step (view c) bytes).state =
        q ∙ ap chip_of (state_is x.state g.image range in_bytes) ∙ ap (λ (s : State). chip_of (step s bytes).state) stored_state in
        let code : r.code ≡ (step (view c) bytes).code = g.code ∙ ap (λ (s : State). (step s bytes).code) stored_state in
        record {
          returns = rw (eq-eqb (length before) 16 h) (λ i. record { chip = chip i; code = code i });
          answer = rw (eq-eqb (length before) 16 h) answered;
        }

module _ (c : Chip) (t : Chip) (i : InRange (view c)) (e : t ≡ chip_of (view c)) where
  pub entry_tidy : Tidy t
  entry_tidy = tidy_of (view c) t i e

  -- a chip value and its one form step alike
  pub entered : (bytes before buffer : List ℕ) (r : Returned) → IsStep t bytes before buffer r → IsStep c bytes before buffer r
  entered bytes before buffer r x =
      let v = view_of (view c) t i e in
      record {
        returns = x.returns ∙ ap (λ (s : State). returned_of (called s bytes before)) v;
        answer = x.answer ∙ ap (λ (s : State). (called s bytes before).buffer) v;
      }

  -- a buffer of another size: code 1, all as it was
  pub other_size : (bytes before : List ℕ) → (length before ≡ 16 → ⊥) → IsStep c bytes before before (record { chip = t; code = Malformed })
  unfolding called returned_of
  other_size bytes before h =
      record { returns = rw (ne_eqb (length before) 16 h) (ap (λ (x : Chip). record { chip = x; code = Malformed }) e); answer = rw (ne_eqb (length before) 16 h) }
