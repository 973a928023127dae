-- B, on the image that A left.
use mathlib.Core.Path.{◌≡◌, refl, ap, ◌∙◌}
use mathlib.Core.Bool.{Bool, not, ◌&&◌, cond}
use mathlib.Core.List.{List}
use Prim.Native.Nat.{ℕ}
use Rattle.rules.specs.State.{State}
use Rattle.rules.specs.Seen.{rst_seen, req_seen, mismatched}
use Rattle.rules.specs.Events.{ticks_of}
use Rattle.rules.specs.Codes.{access_code, is_done}
use Rattle.rules.specs.StepA.{after_a}
use Rattle.rules.specs.StepB.{beyond, phase_changes, phase_changed, after_phase_changes, after_sequencer, first_four, in_order, at_req, after_b}
use Rattle.rules.specs.Ranges.{InRange, InBytes, EventFits}
use Rattle.rules.specs.declared.codes.Code.TheVariants.{Done}
use Rattle.rules.specs.declared.records.Event.{Event}
use Rattle.rules.proofs.Ranges.{after_a_fits, bytes_after_a, after_b_fits, bytes_after_b}
use Rattle.image.specs.Image.{image_of, state_at, IsImage}
use Rattle.edges.specs.Since.{last_of, beyond_since, rst_of, req_of, mismatched_of}
use Rattle.edges.specs.declared.last.Seen.{Seen}
use Rattle.edges.proofs.InOrder.{four_as_seen, beyond_as_seen}
use Rattle.sequencer.specs.Since.{bus_since}
use lib.Dec.{ltb}
use Rattle.effects.proofs.ImageOnward.{image_is, state_is}

-- B since the bytes that were seen is B since any state that has them, and has the quiet ticks of now
phase_as_seen : (x : Seen) (s n : State) → mismatched_of x ≡ mismatched s → after_phase_changes (last_of x) n ≡ after_phase_changes s n
unfolding after_phase_changes phase_changes mismatched_of
phase_as_seen x s n e = ap (λ (b : Bool). cond (mismatched n && not b) (phase_changed n) n) e

bus_as_seen : (x : Seen) (ticks : ℕ) (now s : State) → rst_of x ≡ rst_seen s → req_of x ≡ req_seen s → mismatched_of x ≡ mismatched s → now.quiet ≡ s.quiet → bus_since x ticks now ≡ in_order s ticks now
unfolding bus_since in_order
bus_as_seen x ticks now s p q r k =
    (λ i. after_phase_changes (last_of x) (after_sequencer (ltb 0 ticks) (k i) (four_as_seen x ticks now s p q i)))
    ∙ phase_as_seen x s (after_sequencer (ltb 0 ticks) s.quiet (first_four s ticks now)) r

-- A leaves the quiet ticks
quiet_left : (s : State) (e : Event) → (after_a s e).quiet ≡ s.quiet
unfolding after_a
quiet_left s e = refl

module _ (s : State) (i : InRange s) (j : InBytes s) (e : Event) (f : EventFits e) (d : access_code s e ≡ Done) {n : List ℕ} (h : n ≡ image_of (after_a s e)) where
  a_fits : InRange (after_a s e)
  a_fits = after_a_fits s e f (ap is_done d) i

  a_bytes : InBytes (after_a s e)
  a_bytes = bytes_after_a s e f j

  pub image_a : IsImage n
  image_a = image_is (after_a s e) h a_fits a_bytes

  pub state_a : state_at n ≡ after_a s e
  state_a = state_is (after_a s e) h a_fits a_bytes

  pub b_fits : InRange (after_b s e)
  b_fits = after_b_fits s e f (ap is_done d) i

  pub b_bytes : InBytes (after_b s e)
  b_bytes = bytes_after_b s e a_bytes

  module _ (x : Seen) (p : rst_of x ≡ rst_seen s) (q : req_of x ≡ req_seen s) {ticks : ℕ} (t : ticks ≡ ticks_of e) where
    pub beyond_is : {b : Bool} → b ≡ beyond_since x (state_at n) → b ≡ beyond s (at_req s e)
    unfolding at_req
    beyond_is k = k ∙ ap (λ (a : State). beyond_since x a) state_a ∙ beyond_as_seen x (ticks_of e) (after_a s e) s p q

    module _ (r : mismatched_of x ≡ mismatched s) {b : List ℕ} (l : b ≡ image_of (bus_since x ticks (state_at n))) where
      pub is_b : b ≡ image_of (after_b s e)
      unfolding after_b
      is_b = l ∙ (λ i. image_of (bus_since x (t i) (state_a i))) ∙ ap image_of (bus_as_seen x (ticks_of e) (after_a s e) s p q r (quiet_left s e))

      pub image_b : IsImage b
      image_b = image_is (after_b s e) is_b b_fits b_bytes
