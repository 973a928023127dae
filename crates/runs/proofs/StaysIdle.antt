-- R-1: the sequencer is idle, and 340h bits 6-4 are clear, at every moment of a run.
use Rattle.std.specs.Prelude.{Option}
use mathlib.Core.Path.{◌≡◌, refl}
use mathlib.Core.Bool.{Bool, true, false}
use mathlib.Core.List.{List, [], ◌∷◌}
use Prim.Native.Nat.{ℕ, suc}
use Rattle.rules.specs.State.{State}
use Rattle.rules.specs.Events.{writes}
use Rattle.rules.specs.Answers.{Stepped}
use Rattle.rules.specs.Step.{ended, refused, done, single_ticks, step, after}
use Rattle.rules.specs.declared.codes.Code.{Code}
use Rattle.rules.specs.declared.map.Register.TheVariants.{SCSISEQ}
use Rattle.rules.specs.declared.records.Event.{Event}
use Rattle.rules.specs.declared.records.Event.TheVariants.{PowerReset, Ticks}
use Rattle.rules.proofs.Logic.{left_true, right_true}
use Rattle.rules.proofs.StayIdle.{SequencerOff, idle_stays}
use Rattle.runs.specs.Comes.{is_refusal, may_come, all_come}
use Rattle.runs.specs.Run.{Starts, run_allows}
use Rattle.runs.proofs.Access.{ticks_law, come_law}
use Rattle.runs.proofs.Spared.{spared}

pub off_at_start : (w : Bool) (s : State) → Starts w s → SequencerOff s
off_at_start w s h = record { enselo = h.enselo; enseli = h.enseli; enrseli = h.enrseli; idle = h.idle }

off_done : (s : State) (e : Event) → writes e SCSISEQ ≡ false → SequencerOff s → SequencerOff (done s e).state
unfolding done
off_done s e w o = idle_stays s e w o

-- ticks one by one
abbrev OffTicks : State → Stepped → Type 0
OffTicks s r = SequencerOff s → SequencerOff r.state

off_ticks : (n : ℕ) (s : State) → OffTicks s (single_ticks n s)
unfolding ended writes
off_ticks = ticks_law OffTicks (λ s code value o. o) (λ s q. off_done s (Ticks 1) refl) (λ s first rest f g o. g (f o))

off_refused : (s : State) → SequencerOff s → (d : Option Event) (code : Code) (value : ℕ) → is_refusal code ≡ true → SequencerOff (refused s code value).state
unfolding ended
off_refused s o d code value q = o

-- records that do not write 340h leave the sequencer off
module _ (allows : Event → Bool) (power : allows PowerReset ≡ false) (spares : (e : Event) → allows e ≡ true → writes e SCSISEQ ≡ false) where
  pub step_off : (s : State) → SequencerOff s → (bytes : List ℕ) → may_come allows s bytes ≡ true → SequencerOff (step s bytes).state
  step_off s o =
      come_law allows power s (λ d r. SequencerOff r.state) (off_refused s o) (λ e a t q. off_done s e (spares e a) o) (λ n. off_ticks (suc n) s o)

  pub off_along : (s : State) (records : List (List ℕ)) → SequencerOff s → all_come allows s records ≡ true → SequencerOff (after s records)
  off_along s [] o q = o
  off_along s (bytes ∷ more) o q =
      off_along (step s bytes).state more (step_off s o bytes (left_true (may_come allows s bytes) (all_come allows (step s bytes).state more) q))
      (right_true (may_come allows s bytes) (all_come allows (step s bytes).state more) q)

-- THE SEQUENCER STAYS IDLE THROUGH A RUN of either direction, bus resets and bus free among its events
pub run_stays_idle : (w : Bool) (s : State) (records : List (List ℕ)) → Starts w s → all_come run_allows s records ≡ true → SequencerOff (after s records)
run_stays_idle w s records h q = off_along run_allows refl (λ e a. (spared e a).sequence) s records (off_at_start w s h) q
