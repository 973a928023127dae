-- The frequent parts in turn, where the tests for what is rare have failed.
use Prim.Native.Nat.{ℕ}
use mathlib.Core.Path.{◌≡◌, refl, ap, sym, ◌∙◌}
use mathlib.Core.Bool.{Bool, true, false, not, ◌&&◌, ◌||◌, false≢true}
use mathlib.Core.List.{List}
use lib.Dec.{leb}
use lib.ListN.{get_or, set}
use Rattle.rules.specs.State.{State}
use Rattle.rules.specs.Seen.{rst_seen, sel_seen, bsy_seen, connected, matched, synchronous}
use Rattle.rules.specs.StepB.{parity_bad, beyond_limit, quiet_after}
use Rattle.edges.specs.Components.{reset_b}
use Rattle.rules.specs.Changed.{with_quiet}
use Rattle.image.specs.Image.{image_of, state_at}
use Rattle.image.specs.Layout.{quiet_place}
use Rattle.edges.specs.Tests.{inbound_bad}
use Rattle.edges.specs.From.{rst_rises_from, req_rises_from, synchronous_req_from, quiet_from, edges_from, applied_from}
use Rattle.edges.specs.Frequent.{phase_b, req_b}
use Rattle.edges.proofs.Laws.{inbound_checked}
use Rattle.edges.proofs.Placed.{quiet_placed, quiet_kept, status_kept, packed_as}
use Rattle.edges.proofs.Frequent.{frequent}

-- none of the three that are rare
pub record None (a b c : Bool) : Type 0 where
  pub first : a ≡ false
  pub second : b ≡ false
  pub third : c ≡ false

pub none : (a b c : Bool) → (a || b || c) ≡ false → None a b c
none false false false e = record { first = refl; second = refl; third = refl }
none true b c e = absurd (false≢true (sym e))
none false true c e = absurd (false≢true (sym e))
none false false true e = absurd (false≢true (sym e))

-- the tests, of the state
module _ (m : List ℕ) (rst req : Bool) (ticks : ℕ) where
  pub quiet_is : {q : ℕ} → rst_rises_from rst (state_at m) ≡ false → q ≡ quiet_after ticks (reset_b false (state_at m)) → q ≡ quiet_from rst (state_at m) ticks
  unfolding quiet_from
  quiet_is a e = rw a e

  pub no_error : {b : Bool} → b ≡ (req_rises_from req (state_at m) && inbound_bad (state_at m)) → b ≡ false → (req_rises_from req (state_at m) && parity_bad (state_at m)) ≡ false
  no_error e f = rw (inbound_checked (state_at m)) (sym e ∙ f)

  pub not_free : {q : ℕ} → q ≡ quiet_from rst (state_at m) ticks → (leb 8 q && not (leb 8 (get_or m quiet_place 0))) ≡ false → (leb 8 (quiet_from rst (state_at m) ticks) && not (leb 8 (state_at m).quiet)) ≡ false
  unfolding state_at
  not_free e f = rw e at f

-- the quiet ticks and the phase
module _ (m : List ℕ) (packed : m ≡ image_of (state_at m)) (q : ℕ) where
  quiet_again : state_at (image_of (with_quiet q (state_at m))) ≡ with_quiet q (state_at m)
  quiet_again = quiet_kept (state_at m) q (ap state_at (sym packed))

  quieted_back : state_at (set m quiet_place q) ≡ with_quiet q (state_at m)
  quieted_back = ap state_at (quiet_placed m q (state_at m) packed) ∙ quiet_again

  pub quieted : set m quiet_place q ≡ image_of (state_at (set m quiet_place q))
  quieted = packed_as (with_quiet q (state_at m)) (quiet_placed m q (state_at m) packed) quieted_back

module _ (m : List ℕ) (packed : m ≡ image_of (state_at m)) (was : Bool) (q : ℕ) {n : List ℕ} (then : n ≡ image_of (phase_b was (state_at (set m quiet_place q)))) where
  abbrev t : State
  t = phase_b was (with_quiet q (state_at m))

  phased : n ≡ image_of t
  phased = then ∙ ap (λ (x : State). image_of (phase_b was x)) (quieted_back m packed q)

  phased_back : state_at n ≡ t
  phased_back = ap state_at phased ∙ status_kept (with_quiet q (state_at m)) _ (quiet_again m packed q)

  pub phased_packed : n ≡ image_of (state_at n)
  phased_packed = packed_as t phased phased_back

  -- REQ after them
  module _ (rst req : Bool) (ticks : ℕ) (e : q ≡ quiet_from rst (state_at m) ticks) where
    kept : (synchronous_req_from req t && beyond_limit t) ≡ (edges_from rst req (state_at m) ticks).beyond
    unfolding edges_from synchronous_req_from req_rises_from beyond_limit matched connected synchronous bsy_seen sel_seen rst_seen
    kept = refl

    pub beyond_is : {b : Bool} → b ≡ (synchronous_req_from req (state_at n) && beyond_limit (state_at n)) → b ≡ (edges_from rst req (state_at m) ticks).beyond
    beyond_is f = f ∙ ap (λ (x : State). synchronous_req_from req x && beyond_limit x) phased_back ∙ kept

    pub all_parts : {k : List ℕ} → rst_rises_from rst (state_at m) ≡ false → (req_rises_from req (state_at m) && parity_bad (state_at m)) ≡ false → (leb 8 (quiet_from rst (state_at m) ticks) && not (leb 8 (state_at m).quiet)) ≡ false → k ≡ image_of (req_b req (state_at n)) → k ≡ image_of (applied_from (edges_from rst req (state_at m) ticks) was (state_at m))
    all_parts a b d f =
        f ∙ ap (λ (x : State). image_of (req_b req x)) phased_back
        ∙ ap (λ (x : ℕ). image_of (req_b req (phase_b was (with_quiet x (state_at m))))) e
        ∙ ap image_of (sym (frequent rst req was (state_at m) ticks a b d))
