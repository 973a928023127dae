-- Chips that meet what the laws of ticks ask for: a selection, tick by tick, and a bus that becomes free.
use mathlib.Core.Path.{◌≡◌, refl, ap}
use mathlib.Core.Bool.{true}
use mathlib.Core.List.{List, [], ◌∷◌, ◌++◌}
use Prim.Native.Nat.{ℕ}
use native.Mathlib.Omega.{arith}
use Rattle.rules.specs.Rest.{AtRest}
use Rattle.rules.specs.State.{State, power_reset}
use Rattle.rules.specs.Changed.{with_sequencer}
use Rattle.rules.specs.Examples.{bytes_of}
use Rattle.rules.specs.Sequencer.{called, in_ticks}
use Rattle.rules.specs.Answers.{Stepped}
use Rattle.rules.specs.Step.{after, access}
use Rattle.rules.specs.Ranges.{InRange}
use Rattle.rules.specs.declared.chip.Phase.{Phase}
use Rattle.rules.specs.declared.chip.Phase.TheVariants.{Idle, Waiting, Arbitrating, Clearing, Selecting, Holding}
use Rattle.rules.specs.declared.records.Event.TheVariants.{Ticks}
use Rattle.rules.proofs.Computes.{computes}
use Rattle.rules.proofs.Still.{always_at_rest}
use Rattle.rules.proofs.Ranges.{always_in_range}
use Rattle.quick.proofs.Opened.{looks_at}
use Rattle.quick.proofs.Alike.{sequential_alike}
use Rattle.quick.proofs.Phases.{Ripe, Contends, Cleared, Expires, arbitrates_next, clears_next, loses_next, gives_up_next, selects_next, times_out_next}
use Rattle.quick.proofs.BusFree.{Frees, frees_next, mode_stuck, mode_fwerr}

-- the phase after one tick
abbrev next : State → Phase
next s = (access s (Ticks 1)).state.sequencer.phase

-- ENSELO, 8 ticks, then 15: one tick before arbitration
abbrev waits : List (List ℕ)
waits = bytes_of 4 0x20000040 ∷ bytes_of 4 0xC0000008 ∷ bytes_of 4 0xC000000F ∷ []

ripe : Ripe (after power_reset waits)
unfolding computes
ripe = record { phase = refl; due = refl; quiet = refl; free = refl; sel = refl; rst = refl }

arbitrates_met : next (after power_reset waits) ≡ Arbitrating
unfolding computes
arbitrates_met =
    ap (λ (x : Stepped). x.state.sequencer.phase)
    (arbitrates_next (after power_reset waits) ripe (always_at_rest waits) (always_in_range waits))

-- 48 ticks more: one tick before the end of arbitration
abbrev contends : List (List ℕ)
contends = waits ++ (bytes_of 4 0xC0000030 ∷ [])

contended : Contends (after power_reset contends)
unfolding computes
contended = record { phase = refl; due = refl; rst = refl }

clears_met : next (after power_reset contends) ≡ Clearing
unfolding computes
clears_met =
    ap (λ (x : Stepped). x.state.sequencer.phase)
    (clears_next (after power_reset contends) contended (always_at_rest contends) (always_in_range contends) refl)

-- others drive data bit 7: lost
abbrev loses : List (List ℕ)
loses = contends ++ (bytes_of 4 0xA0020000 ∷ [])

lost : Contends (after power_reset loses)
unfolding computes
lost = record { phase = refl; due = refl; rst = refl }

loses_met : next (after power_reset loses) ≡ Waiting
unfolding computes
loses_met =
    ap (λ (x : Stepped). x.state.sequencer.phase)
    (loses_next (after power_reset loses) lost (always_at_rest loses) (always_in_range loses) refl refl refl refl refl)

-- and 340h is 0 by then
abbrev gives_up : List (List ℕ)
gives_up = loses ++ (bytes_of 4 0x20000000 ∷ [])

gave_up : Contends (after power_reset gives_up)
unfolding computes
gave_up = record { phase = refl; due = refl; rst = refl }

gives_up_met : next (after power_reset gives_up) ≡ Idle
unfolding computes
gives_up_met =
    ap (λ (x : Stepped). x.state.sequencer.phase)
    (gives_up_next (after power_reset gives_up) gave_up (always_at_rest gives_up) (always_in_range gives_up) refl refl refl refl refl)

-- 24 ticks more: one tick before selecting; 342h: STIMESEL 3, ENSTIMER
abbrev clearing : List (List ℕ)
clearing = contends ++ (bytes_of 4 0x2200001C ∷ bytes_of 4 0xC0000018 ∷ [])

cleared : Cleared (after power_reset clearing)
unfolding computes
cleared = record { phase = refl; due = refl; bsy = refl; rst = refl }

selects_met : next (after power_reset clearing) ≡ Selecting
unfolding computes
selects_met =
    ap (λ (x : Stepped). x.state.sequencer.phase)
    (selects_next (after power_reset clearing) cleared (always_at_rest clearing) (always_in_range clearing))

-- rest does not look at the ticks in the phase
rests_still : (n : ℕ) (s : State) → AtRest s → AtRest (with_sequencer (in_ticks n s.sequencer) s)
unfolding looks_at called
rests_still n s r =
    record {
      resting = record { no_move = r.resting.no_move; no_handshake = r.resting.no_handshake };
      fwerr = r.fwerr;
      spiordy = r.spiordy;
      reqinit = r.reqinit;
      scsiperr = r.scsiperr;
      quiet = r.quiet;
      sequencer =
          sequential_alike s (with_sequencer (in_ticks n s.sequencer) s)
          (record { rst = refl; phase = refl; selingo = refl; called = refl; sel = refl; bsy = refl; asked = refl; quiet = refl })
          r.sequencer;
    }

-- selecting, with 639,999 ticks spent
abbrev selecting : List (List ℕ)
selecting = clearing ++ (bytes_of 4 0xC0000001 ∷ [])

abbrev late : State
late = with_sequencer (in_ticks 639999 (after power_reset selecting).sequencer) (after power_reset selecting)

late_rests : AtRest late
late_rests = rests_still 639999 (after power_reset selecting) (always_at_rest selecting)

late_fits : InRange late
late_fits =
    let i = always_in_range selecting in
    record {
      registers = i.registers;
      transfer = i.transfer;
      stack = i.stack;
      quiet = i.quiet;
      identity = i.identity;
      sequencer = omega arith;
    }

expires : Expires late
unfolding computes
expires = record { phase = refl; timer = refl; due = refl; bsy = refl; bsyo = refl; sel = refl; rst = refl }

times_out_met : next late ≡ Holding
unfolding computes
times_out_met = ap (λ (x : Stepped). x.state.sequencer.phase) (times_out_next late expires late_rests late_fits)

-- SEVEN TICKS AFTER POWER RESET
abbrev quieting : List (List ℕ)
quieting = bytes_of 4 0xC0000007 ∷ []

abbrev s : State
s = after power_reset quieting

frees : Frees s
unfolding computes
frees =
    record {
      quiet = refl;
      bsy = refl;
      sel = refl;
      others = refl;
      rst = refl;
      asleep = refl;
      stuck = mode_stuck s refl;
      fwerr = mode_fwerr s refl;
    }

frees_met : (access s (Ticks 1)).state.status.busfree ≡ true
unfolding computes
frees_met =
    ap (λ (x : Stepped). x.state.status.busfree) (frees_next s frees (always_at_rest quieting) (always_in_range quieting))
