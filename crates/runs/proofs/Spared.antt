-- What an event that a run allows does not do.
use mathlib.Core.Path.{◌≡◌, refl}
use mathlib.Core.Bool.{Bool, true, false, not, ◌&&◌}
use Prim.Native.Nat.{ℕ}
use lib.Dec.{eqb}
use borrow.Author.Tests.{eqb-true, not-true}
use Rattle.rules.specs.Numbers.{bit}
use Rattle.rules.specs.Map.{offset_of}
use Rattle.rules.specs.Events.{writes, value_of}
use Rattle.rules.specs.StepA.{clrstcnt, clrch}
use Rattle.rules.specs.declared.map.Register.{Register}
use Rattle.rules.specs.declared.map.Register.TheVariants.{SCSISEQ, SXFRCTL0, SCSISIGO, STCNT0, STCNT1, STCNT2, DMACNTRL0}
use Rattle.rules.specs.declared.records.Event.{Event}
use Rattle.rules.specs.declared.records.Event.TheVariants.{PowerReset, Write, Read, WordWrite, WordRead, Drive, Ticks}
use Rattle.rules.proofs.Logic.{never, left_true, right_true}
use Rattle.runs.specs.Run.{keeps_run, write_allowed, run_allows}

-- a write that a run allows, at a register that the test of its offset meets
allowed_at : (offset value : ℕ) (r : Register) → eqb offset (offset_of r) ≡ true → write_allowed offset value ≡ true → write_allowed (offset_of r) value ≡ true
allowed_at offset value r q h = rw (eqb-true offset (offset_of r) q) at h

-- a register that no run writes is not written
pub not_written_lem : (r : Register) → ((value : ℕ) → write_allowed (offset_of r) value ≡ false) → (e : Event) → run_allows e ≡ true → writes e r ≡ false
unfolding writes
not_written_lem r out PowerReset h = refl
not_written_lem r out (Write offset value) h = go (eqb offset (offset_of r)) refl
  where
    go : (b : Bool) → eqb offset (offset_of r) ≡ b → b ≡ false
    go false q = refl
    go true q = absurd (never (rw (out value) at (allowed_at offset value r q h)))
not_written_lem r out (Read offset) h = refl
not_written_lem r out (WordWrite word) h = refl
not_written_lem r out WordRead h = refl
not_written_lem r out (Drive lines) h = refl
not_written_lem r out (Ticks n) h = refl

-- the bits that a write to 341h leaves 0 in a run
pub record Bits341 (value : ℕ) : Type 0 where
  pub clrstcnt : bit value 4 ≡ false
  pub spioen : bit value 3 ≡ false
  pub clrch : bit value 1 ≡ false

pub bits341 : (value : ℕ) → keeps_run value ≡ true → Bits341 value
unfolding keeps_run
bits341 value h =
    let a = left_true (not (bit value 4) && not (bit value 3)) (not (bit value 1)) h in
    record {
      clrstcnt = not-true (bit value 4) (left_true (not (bit value 4)) (not (bit value 3)) a);
      spioen = not-true (bit value 3) (right_true (not (bit value 4)) (not (bit value 3)) a);
      clrch = not-true (bit value 1) (right_true (not (bit value 4) && not (bit value 3)) (not (bit value 1)) h);
    }

allowed_bits : (value : ℕ) → write_allowed (offset_of SXFRCTL0) value ≡ true → Bits341 value
unfolding write_allowed
allowed_bits value h = bits341 value h

-- what an allowed event spares
pub record Spared (e : Event) : Type 0 where
  pub sequence : writes e SCSISEQ ≡ false
  pub signals : writes e SCSISIGO ≡ false
  pub low : writes e STCNT0 ≡ false
  pub middle : writes e STCNT1 ≡ false
  pub high : writes e STCNT2 ≡ false
  pub control : writes e DMACNTRL0 ≡ false
  pub clrstcnt : clrstcnt e ≡ false
  pub spioen : (writes e SXFRCTL0 && bit (value_of e) 3) ≡ false
  pub clrch : clrch e ≡ false

-- a bit of a write to 341h that a run wants 0
zero_bit : (k : ℕ) → ((value : ℕ) → Bits341 value → bit value k ≡ false) → (e : Event) → run_allows e ≡ true → (writes e SXFRCTL0 && bit (value_of e) k) ≡ false
unfolding writes value_of
zero_bit k out PowerReset h = refl
zero_bit k out (Write offset value) h = go (eqb offset (offset_of SXFRCTL0)) refl
  where
    go : (b : Bool) → eqb offset (offset_of SXFRCTL0) ≡ b → (b && bit value k) ≡ false
    go false q = refl
    go true q = out value (allowed_bits value (allowed_at offset value SXFRCTL0 q h))
zero_bit k out (Read offset) h = refl
zero_bit k out (WordWrite word) h = refl
zero_bit k out WordRead h = refl
zero_bit k out (Drive lines) h = refl
zero_bit k out (Ticks n) h = refl

pub spared : (e : Event) → run_allows e ≡ true → Spared e
unfolding write_allowed clrstcnt clrch
spared e h =
    record {
      sequence = not_written_lem SCSISEQ (λ v. refl) e h;
      signals = not_written_lem SCSISIGO (λ v. refl) e h;
      low = not_written_lem STCNT0 (λ v. refl) e h;
      middle = not_written_lem STCNT1 (λ v. refl) e h;
      high = not_written_lem STCNT2 (λ v. refl) e h;
      control = not_written_lem DMACNTRL0 (λ v. refl) e h;
      clrstcnt = zero_bit 4 (λ v b. b.clrstcnt) e h;
      spioen = zero_bit 3 (λ v b. b.spioen) e h;
      clrch = zero_bit 1 (λ v b. b.clrch) e h;
    }
