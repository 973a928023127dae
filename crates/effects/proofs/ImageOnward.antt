-- From one image to the next.
use mathlib.Core.Path.{◌≡◌, ap, sym, subst, ◌∙◌}
use mathlib.Core.Bool.{Bool, ◌&&◌}
use mathlib.Core.List.{List}
use Prim.Native.Nat.{ℕ}
use Rattle.rules.specs.State.{State}
use Rattle.rules.specs.Seen.{automatic, matched, req_seen}
use Rattle.rules.specs.Codes.{access_code, is_done}
use Rattle.rules.specs.StepA.{latch_access, automatic_ack, after_a}
use Rattle.rules.specs.Ranges.{InRange, InBytes, EventFits}
use Rattle.rules.specs.declared.codes.Code.TheVariants.{Done}
use Rattle.rules.specs.declared.records.Event.{Event}
use Rattle.rules.proofs.Ranges.{after_a_fits, bytes_after_a}
use Rattle.image.specs.Image.{image_of, state_at, registers_at, IsImage}
use Rattle.image.proofs.ReadBack.{read_back, is_image}

module _ {m : List ℕ} (s : State) (e : m ≡ image_of s) (i : InRange s) (j : InBytes s) where
  -- the state that the image of s stands for
  pub state_is : state_at m ≡ s
  state_is = ap state_at e ∙ read_back s i

  pub image_is : IsImage m
  image_is = subst IsImage (sym e) (is_image s i j)

-- a part of an event that goes on from the image of t
pub onward : (part : State → State) {m n : List ℕ} (t : State) → m ≡ image_of t → InRange t → InBytes t → n ≡ image_of (part (state_at m)) → n ≡ image_of (part t)
onward part t e i j h = h ∙ ap (λ (x : State). image_of (part x)) (state_is t e i j)

-- an event that is done leaves a state in range
module _ {m : List ℕ} (g : IsImage m) (e : Event) (f : EventFits e) (d : access_code (state_at m) e ≡ Done) where
  pub a_fits : InRange (after_a (state_at m) e)
  a_fits = after_a_fits (state_at m) e f (ap is_done d) g.range

  pub a_bytes : InBytes (after_a (state_at m) e)
  a_bytes = bytes_after_a (state_at m) e f g.bytes

-- the Automatic ACK as the code judges it
pub acked_is : (m : List ℕ) (e : Event) {x y : Bool} → x ≡ latch_access (state_at m) e → y ≡ (x && automatic (registers_at m) && matched (state_at m) && req_seen (state_at m)) → y ≡ automatic_ack (state_at m) e
unfolding automatic_ack state_at
acked_is m e p h = h ∙ ap (λ (x : Bool). x && automatic (registers_at m) && matched (state_at m) && req_seen (state_at m)) p
