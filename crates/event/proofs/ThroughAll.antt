-- C and D, on the image that B left.
use mathlib.Core.Path.{◌≡◌, ap, sym, ◌∙◌}
use mathlib.Core.Bool.{Bool, cond}
use mathlib.Core.List.{List}
use Prim.Native.Nat.{ℕ}
use Rattle.rules.specs.State.{State}
use Rattle.rules.specs.Seen.{path}
use Rattle.rules.specs.Reads.{value_read}
use Rattle.rules.specs.StepA.{after_a}
use Rattle.rules.specs.StepB.{beyond, at_req, after_b}
use Rattle.rules.specs.StepC.{Settling, conditions, settle, turns, started, settled_c}
use Rattle.rules.specs.StepD.{after_d}
use Rattle.rules.specs.Step.{done}
use Rattle.rules.specs.Ranges.{InRange, InBytes}
use Rattle.rules.specs.declared.codes.Code.{Code}
use Rattle.rules.specs.declared.codes.Code.TheVariants.{Done, BeyondLimit}
use Rattle.rules.specs.declared.records.Event.{Event}
use Rattle.rules.specs.declared.registers.Simode0.{Simode0}
use Rattle.rules.specs.declared.registers.Simode1.{Simode1}
use Rattle.rules.specs.declared.chip.Status.{Status}
use Rattle.fifos.specs.Fifos.{sent_of}
use Rattle.rules.specs.Changed.{with_transfer}
use Rattle.image.specs.Image.{image_of, state_at, registers_at, IsImage}
use Rattle.settling.specs.Blocks.{start_of}
use Rattle.settling.specs.declared.Told.{Told}
use Rattle.settling.specs.Settles.{end_of, Settles}
use Rattle.event.specs.Closing.{closed_by}
use Rattle.event.specs.Outcomes.{Leaves}
use Rattle.effects.proofs.ImageOnward.{image_is, state_is, onward}
use Rattle.event.proofs.AfterSettling as parts

module _ (s : State) (e : Event) (i : InRange (after_b s e)) (j : InBytes (after_b s e)) {b : List ℕ} (h : b ≡ image_of (after_b s e)) {n : List ℕ} {t : Told} (w : Settles b (conditions (state_at b)) n t) where
  state_b : state_at b ≡ after_b s e
  state_b = state_is (after_b s e) h i j

  end_is : end_of b (conditions (state_at b)) ≡ settled_c s e
  unfolding settled_c started start_of
  end_is = ap (λ (x : State). settle (conditions x) turns (start_of x.transfer)) state_b

  is_c : n ≡ image_of (parts.settled_state s e)
  is_c = w.exact ∙ (λ x. image_of (with_transfer (end_is x).transfer (state_b x)))

  pub image_c : IsImage n
  image_c = image_is (parts.settled_state s e) is_c (parts.settled_range s e i) (parts.settled_in_bytes s e j)

  -- settling changes no register
  pub way_kept : {y : Bool} → y ≡ path (registers_at b) → y ≡ path (state_at n).registers
  unfolding state_at
  way_kept q =
      q
      ∙ ap (λ (x : State). path x.registers) state_b
      ∙ sym (ap (λ (x : State). path x.registers) (state_is (parts.settled_state s e) is_c (parts.settled_range s e i) (parts.settled_in_bytes s e j)))

  acks_are : t.acks ≡ (settled_c s e).acks
  acks_are = w.acks ∙ ap (λ (x : Settling). x.acks) end_is

  module _ {b0 : Simode0} {b1 : Simode1} {status : Status} (x : b0 ≡ s.registers.simode0) (y : b1 ≡ s.registers.simode1) (z : status ≡ (after_a s e).status) {d : List ℕ} (q : d ≡ image_of (closed_by b0 b1 status t.acks (state_at n))) where
    is_d : d ≡ image_of (after_d s e)
    is_d =
        onward (closed_by b0 b1 status t.acks) (parts.settled_state s e) is_c (parts.settled_range s e i) (parts.settled_in_bytes s e j) q
        ∙ (λ v. image_of (closed_by (x v) (y v) (z v) (acks_are v) (parts.settled_state s e)))
        ∙ ap image_of (parts.all_of_d s e)

    pub leaves : {code : Code} → code ≡ cond (beyond s (at_req s e)) BeyondLimit Done → {value : ℕ} → value ≡ value_read s e → Leaves (done s e) d (record { code = code; value = value; moves = t.moves; acks = t.acks; sent = t.sent })
    unfolding done
    leaves o v =
        record {
          image = is_d;
          code = o;
          value = v;
          moves = w.moves ∙ ap (λ (x : Settling). x.moves) end_is;
          acks = acks_are;
          sent = w.sent ∙ ap (λ (x : Settling). sent_of x.sent) end_is;
        }
