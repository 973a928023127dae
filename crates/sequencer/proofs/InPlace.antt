-- What the sequencer changes, stored into an image.
use Prim.Native.Nat.{ℕ}
use mathlib.Core.Path.{◌≡◌, refl, ap, sym, subst, ◌∙◌}
use mathlib.Core.Bool.{Bool, true, false, cond}
use mathlib.Core.List.{List}
use lib.ListN.{get_or, set}
use Rattle.rules.specs.Registers.{scsiseq_byte}
use Rattle.rules.specs.Changed.{with_sequencer}
use Rattle.rules.specs.State.{State}
use Rattle.rules.specs.StepA.{with_atn}
use Rattle.rules.specs.StepB.{scsiseq_with, after_sequencer}
use Rattle.rules.specs.Ranges.{InRange, InBytes}
use Rattle.rules.specs.declared.chip.Sequenced.{Sequenced}
use Rattle.image.specs.Image.{image_of, state_at, IsImage, scsisig_byte}
use Rattle.image.specs.Layout.{quiet_place, scsiseq_place, scsisig_place}
use Rattle.image.proofs.ReadBack.{read_back, is_image}
use Rattle.sequencer.specs.Since.{sequenced_in}

-- 340h, 343h and the quiet ticks, where the sequencer stands in its bytes already
pub sequenced_image : (x : Sequenced) (s : State) → set (set (set (image_of (with_sequencer x.sequencer s)) scsiseq_place (scsiseq_byte (scsiseq_with x.enselo s.registers.scsiseq))) scsisig_place (scsisig_byte (with_atn x.atno s.registers.scsisig))) quiet_place x.quiet ≡ image_of (sequenced_in x s)
unfolding image_of
sequenced_image x s = refl

-- an array that is the image of a state in range reads back as it
module _ {m : List ℕ} (s : State) (e : m ≡ image_of s) (r : InRange s) where
  pub reads_back : state_at m ≡ s
  reads_back = ap state_at e ∙ read_back s r

  pub packed_back : m ≡ image_of (state_at m)
  packed_back = e ∙ ap image_of (sym reads_back)

  pub image_again : InBytes s → IsImage m
  image_again b = subst IsImage (sym e) (is_image s r b)

  -- the sequencer where it does not rest, and nothing where it does
  pub unless_rests : (tick : Bool) {before quiet : ℕ} → before ≡ quiet → (rests : Bool) → (rests ≡ true → after_sequencer tick quiet s ≡ s) → cond rests m (image_of (after_sequencer tick before (state_at m))) ≡ image_of (after_sequencer tick quiet s)
  unless_rests tick q true f = e ∙ ap image_of (sym (f refl))
  unless_rests tick q false f = λ i. image_of (after_sequencer tick (q i) (reads_back i))

-- the quiet ticks in their place
pub quiet_at : (m : List ℕ) → get_or m quiet_place 0 ≡ (state_at m).quiet
unfolding state_at
quiet_at m = refl
