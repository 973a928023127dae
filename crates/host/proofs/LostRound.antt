-- R-1: "A LOST ROUND OF 72 TICKS LEAVES THE IMAGE AS IT WAS": the call of 72 ticks on the image of a chip that loses again.
use Prim.Native.Nat.{ℕ}
use mathlib.Core.Path.{◌≡◌, refl, ap, sym, subst, ◌∙◌}
use mathlib.Core.List.{List, [], ◌∷◌}
use lib.Dec.{eqb}
use lib.ListN.{length}
use Rattle.rules.specs.State.{State}
use Rattle.rules.specs.Records.{well_formed, fields_of, decode}
use Rattle.rules.specs.Answers.{Stepped, answer_size}
use Rattle.rules.specs.Step.{Called, ended, step_event, step_decoded, step, called}
use Rattle.rules.specs.declared.records.Event.TheVariants.{Ticks}
use Rattle.rules.specs.Rest.{AtRest}
use Rattle.rules.proofs.Logic.{cond_case}
use Rattle.rules.proofs.Ranges.{always_in_range, always_in_bytes}
use Rattle.rules.proofs.Still.{always_at_rest}
use Rattle.rules.proofs.LostRounds.{LosesAgain, lost_round, lost_round_event}
use Rattle.rules.proofs.Selections.{lost_records, lost, loses}
use Rattle.image.specs.Image.{image_of, state_at}
use Rattle.image.proofs.ReadBack.{read_back, is_image}
use Rattle.saved.proofs.Acceptance.{Acceptable, acceptable_accepted}
use Rattle.host.specs.ImageCalls.{image_called}

-- the record of 72 ticks
abbrev pub round_record : List ℕ
round_record = 0xC0 ∷ 0 ∷ 0 ∷ 72 ∷ []

round_step : (s : State) → step s round_record ≡ step_event s (Ticks lost_round)
unfolding step decode fields_of well_formed step_decoded
round_step s = refl

-- whatever the answer buffer is
pub lost_round_image : (m before : List ℕ) → Acceptable m → LosesAgain (state_at m) → (image_called m round_record before).image ≡ m
unfolding image_called called ended
lost_round_image m before a l =
    let s = state_at m in
    let e = round_step s ∙ lost_round_event s l a.rest a.image.range in
    rw (acceptable_accepted m a)
    (cond_case (λ (c : Called). image_of c.state ≡ m) (eqb (length before) answer_size) _ _
    (λ t. ap (λ (r : Stepped). image_of r.state) e ∙ sym a.image.packed) (λ t. sym a.image.packed))

-- A CASE: the image of the chip that has just lost to 6, where it is 5
abbrev lost_image : List ℕ
lost_image = image_of lost

lost_acceptable : Acceptable lost_image
lost_acceptable =
    let i = always_in_range lost_records in
    record {
      image = is_image lost i (always_in_bytes lost_records);
      rest = subst AtRest (sym (read_back lost i)) (always_at_rest lost_records);
    }

pub lost_image_case : (before : List ℕ) → (image_called lost_image round_record before).image ≡ lost_image
lost_image_case before =
    lost_round_image lost_image before lost_acceptable (subst LosesAgain (sym (read_back lost (always_in_range lost_records))) loses)
