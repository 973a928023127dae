-- The answer to a step, from what the step left.
use mathlib.Core.Path.{◌≡◌, ap, sym, ◌∙◌}
use mathlib.Core.List.{List}
use Prim.Native.Nat.{ℕ}
use Rattle.rules.specs.Answers.{Stepped, answer_bytes}
use Rattle.rules.specs.Ranges.{InRange, InBytes}
use Rattle.rules.specs.Step.{step}
use Rattle.rules.proofs.Ranges.{step_in_range, step_bytes}
use Rattle.image.specs.Image.{state_at, IsImage}
use Rattle.reads.specs.Answering.{answer_with}
use Rattle.reads.proofs.AnswerParts.{answer_parts}
use Rattle.effects.proofs.ImageOnward.{image_is, state_is}
use Rattle.event.specs.declared.stepping.Outcome.{Outcome}
use Rattle.event.specs.Outcomes.{Leaves, Gives}

module _ {m : List ℕ} (g : IsImage m) (bytes : List ℕ) {n : List ℕ} {o : Outcome} (l : Leaves (step (state_at m) bytes) n o) where
  abbrev x : Stepped
  x = step (state_at m) bytes

  range : InRange x.state
  range = step_in_range (state_at m) bytes g.range

  in_bytes : InBytes x.state
  in_bytes = (step_bytes (state_at m) bytes g.range g.bytes).state

  pub image_left : IsImage n
  image_left = image_is x.state l.image range in_bytes

  pub gives : {r : List ℕ} → r ≡ answer_bytes (answer_with (state_at n) o.code o.value o.moves o.acks o.sent.bytes) → Gives x n (record { code = o.code; answer = r })
  gives h =
      record {
        image = l.image;
        code = l.code;
        answer =
            h
            ∙ (λ i. answer_bytes (answer_with (state_is x.state l.image range in_bytes i) (l.code i) (l.value i) (l.moves i) (l.acks i) (l.sent i).bytes))
            ∙ ap answer_bytes (sym (answer_parts x));
      }
