use Prim.Native.Nat.{ℕ, ◌<◌}
use mathlib.Core.Path.{◌≡◌, refl, ap, sym, subst, ◌∙◌}
use mathlib.Core.Bool.{cond}
use native.Mathlib.Omega.{arith}
use lib.Dec.{eqb}
use lib.ListN.{set}
use Rattle.rules.specs.Changed.{with_quiet, with_sequencer}
use Rattle.rules.specs.Counter.{counter_size}
use Rattle.rules.specs.Ranges.{InRange}
use Rattle.rules.specs.Rest.{AtRest}
use Rattle.rules.specs.Sequencer.{in_ticks}
use Rattle.rules.specs.State.{State}
use Rattle.rules.specs.StepB.{quiet_after}
use Rattle.rules.specs.Ticks.{ticks_in, advanced, distance}
use Rattle.rules.specs.declared.chip.Sequencer.{Sequencer}
use Rattle.rules.proofs.OneTick.{advanced_fits}
use Rattle.rules.proofs.TickByTick.{distance_bounded}
use Rattle.image.specs.Image.{image_of, state_at}
use Rattle.image.specs.Layout.{quiet_place}
use Rattle.sequencer.proofs.skipping.advanced_in.Goals as goal

-- the ticks in the phase stay within their 24 bits
ticks_fit : (s : State) (k : ℕ) → AtRest s → InRange s → k < distance s → cond (eqb k 0) s.sequencer.ticks (ticks_in s.sequencer.phase k s) < counter_size
unfolding advanced
ticks_fit s k r i h = (advanced_fits s r k i h).sequencer

-- the quiet ticks, where the sequencer stands in its bytes already
quiet_image : (q : Sequencer) (n : ℕ) (s : State) → set (image_of (with_sequencer q s)) quiet_place n ≡ image_of (with_quiet n (with_sequencer q s))
unfolding image_of
quiet_image q n s = refl

pub ticks_after-ticks-requires : goal.ticks_after-ticks-requires
ticks_after-ticks-requires c =
    let s = state_at c.args.m.now in
    record { m_bound = c.requires.image.range.sequencer; k_lt_unreached = omega (arith, c.requires.k_bound, (distance_bounded s).1) }

pub sequencer_put-requires : goal.sequencer_put-requires
sequencer_put-requires c =
    let a = c.args in
    record { image = c.requires.image; ticks_lt_counter_size = subst (λ (n : ℕ). n < counter_size) (sym c.ticks_after-ticks.ensures) (ticks_fit (state_at a.m.now) a.k c.requires.at_rest c.requires.image.range c.requires.k_bound) }

pub returns : goal.returns
unfolding advanced
returns c =
    let a = c.args in
    let s = state_at a.m.now in
    let e : in_ticks c.ticks_after-ticks.result c.sequencer-q.result ≡ in_ticks (cond (eqb a.k 0) s.sequencer.ticks (ticks_in s.sequencer.phase a.k s)) s.sequencer =
    λ i. in_ticks (c.ticks_after-ticks.ensures i) (c.sequencer-q.ensures i) in
    (λ i. set (c.sequencer_put.ensures i) quiet_place (c.quiet_after-quiet.ensures i))
    ∙ quiet_image (in_ticks c.ticks_after-ticks.result c.sequencer-q.result) (quiet_after a.k s) s
    ∙ ap (λ (q : Sequencer). image_of (with_quiet (quiet_after a.k s) (with_sequencer q s))) e
