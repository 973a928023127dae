-- A derived `==` of two phases is the test of their numbers.
use Prim.Native.Nat.{ℕ}
use mathlib.Core.Path.{◌≡◌, refl, ap, ◌∙◌}
use native.Mathlib.Omega.{arith}
use lib.Dec.{eqb}
use denote.Enum.Bare.{sameb}
use denote.Enum.Declared.{tag_of}
use Rattle.rules.specs.Seen.{phase_number, is_phase}
use Rattle.rules.specs.declared.chip.Phase.{Phase}
use Rattle.rules.specs.declared.chip.Phase.TheVariants.{Idle, Waiting, Arbitrating, Clearing, Selecting, Holding, Answering, Answered}
use Rattle.rules.specs.contracts.chip.Phase.{the_type}

tag_is_number : (p : Phase) → tag_of the_type p ≡ phase_number p
unfolding phase_number
tag_is_number Idle = refl
tag_is_number Waiting = refl
tag_is_number Arbitrating = refl
tag_is_number Clearing = refl
tag_is_number Selecting = refl
tag_is_number Holding = refl
tag_is_number Answering = refl
tag_is_number Answered = refl

eqb_sym : (a b : ℕ) → eqb a b ≡ eqb b a
eqb_sym a b = grind arith

pub same_phase : (q p : Phase) → sameb the_type p q ≡ is_phase q p
unfolding is_phase
same_phase q p =
    ap (λ (n : ℕ). eqb n (tag_of the_type q)) (tag_is_number p) ∙ ap (eqb (phase_number p)) (tag_is_number q) ∙ eqb_sym (phase_number p) (phase_number q)
