-- A tick brings no bus reset: 341h stays.
use mathlib.Core.Path.{◌≡◌, refl}
use mathlib.Core.Bool.{Bool, and-not_self}
use Prim.Native.Nat.{ℕ}
use Rattle.rules.specs.State.{State}
use Rattle.rules.specs.Seen.{rst_seen}
use Rattle.rules.specs.Events.{writes, lines_after}
use Rattle.rules.specs.StepA.{registers_a, after_a}
use Rattle.rules.specs.StepB.{req_falls, ack_released, after_req_falls, rst_rises, after_rst_rises, req_rises, req_risen, after_req_rises, bus_free, bus_freed, after_quiet_ticks, after_sequencer, phase_changes, phase_changed, after_phase_changes, first_four, in_order, after_b}
use Rattle.rules.specs.StepD.{finished, after_d}
use Rattle.rules.specs.Step.{done}
use Rattle.rules.specs.declared.records.Event.TheVariants.{Ticks}
use Rattle.rules.proofs.Logic.{cond_case}

module _ (s : State) where
  abbrev Same341 : State → Type 0
  Same341 n = n.registers.sxfrctl0 ≡ s.registers.sxfrctl0

  -- RST is seen as at the end of the last event: it does not rise
  abbrev Unreset : State → Type 0
  Unreset n = (rst_seen n ≡ rst_seen s) × Same341 n

  unreset_a : Unreset (after_a s (Ticks 1))
  unfolding after_a registers_a lines_after writes rst_seen
  unreset_a = (refl, refl)

  falls_leave : (n : State) → Unreset n → Unreset (after_req_falls s n)
  unfolding after_req_falls ack_released rst_seen
  falls_leave n h = cond_case Unreset (req_falls s n) (ack_released n) n (λ q. h) (λ q. h)

  no_reset : (n : State) → Unreset n → Same341 (after_rst_rises s n)
  unfolding after_rst_rises rst_rises
  no_reset n h = rw (h.0, and-not_self) h.1

  rises_leave : (n : State) → Same341 n → Same341 (after_req_rises s n)
  unfolding after_req_rises req_risen
  rises_leave n h = cond_case Same341 (req_rises s n) (req_risen n) n (λ q. h) (λ q. h)

  quiet_leave : (ticks : ℕ) (n : State) → Same341 n → Same341 (after_quiet_ticks ticks n)
  unfolding after_quiet_ticks bus_freed
  quiet_leave ticks n h = cond_case Same341 (bus_free ticks n) _ _ (λ q. h) (λ q. h)

  sequencer_leaves : (tick : Bool) (before : ℕ) (n : State) → Same341 n → Same341 (after_sequencer tick before n)
  unfolding after_sequencer
  sequencer_leaves tick before n h = h

  phase_leaves : (n : State) → Same341 n → Same341 (after_phase_changes s n)
  unfolding after_phase_changes phase_changed
  phase_leaves n h = cond_case Same341 (phase_changes s n) (phase_changed n) n (λ q. h) (λ q. h)

  pub tick_leaves : (done s (Ticks 1)).state.registers.sxfrctl0 ≡ s.registers.sxfrctl0
  unfolding done after_d finished after_b in_order first_four
  tick_leaves =
      phase_leaves _ (sequencer_leaves _ _ _ (quiet_leave _ _ (rises_leave _ (no_reset _ (falls_leave (after_a s (Ticks 1)) unreset_a)))))
