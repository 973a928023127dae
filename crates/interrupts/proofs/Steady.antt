-- Where no latch is set: no interrupt is enabled, or enables and statuses are as before.
use Prim.Native.Nat.{ℕ}
use mathlib.Core.Path.{◌≡◌, refl, ◌∙◌}
use mathlib.Core.Bool.{Bool, true, false, not, ◌&&◌, ◌||◌, or-false, false≢true}
use mathlib.Core.List.{List}
use lib.Dec.{eqb}
use lib.ListN.{get_or}
use borrow.Author.Tests.{eqb-true}
use Rattle.rules.specs.Interrupts.{latched}
use Rattle.rules.specs.Registers.{simode0_of, simode1_of}
use Rattle.rules.specs.StepD.{latches_d}
use Rattle.rules.specs.declared.registers.Registers.{Registers}
use Rattle.rules.specs.declared.registers.Simode0.{Simode0}
use Rattle.rules.specs.declared.registers.Simode1.{Simode1}
use Rattle.rules.specs.declared.chip.Status.{Status}
use Rattle.rules.specs.declared.chip.Latches.{Latches}
use Rattle.rules.specs.Changed.{with_latches}
use Rattle.image.specs.Image.{image_of, state_at, status_of, latches_of}
use Rattle.image.specs.Layout.{latches_place, simode0_place, simode1_place}
use Rattle.interrupts.proofs.StatusAndLatchBytes.{latches_as}
use Rattle.interrupts.specs.Latching.{latches_from, any_enable}

-- the latches after D look at 350h and 351h only
pub latches_from_registers : (before r : Registers) (status raised : Status) (k : Latches) → latches_d before r status raised k ≡ latches_from before.simode0 before.simode1 r.simode0 r.simode1 status raised k
unfolding latches_d latches_from
latches_from_registers before r status raised k = refl

record Masked (a b d e f g : Bool) : Type 0 where
  pub ready : a ≡ false
  pub reset : b ≡ false
  pub free : d ≡ false
  pub parity : e ≡ false
  pub phase : f ≡ false
  pub req : g ≡ false

masked : (a b d e f g : Bool) → not (a || b || d || e || f || g) ≡ true → Masked a b d e f g
masked true b d e f g h = absurd (false≢true h)
masked false true d e f g h = absurd (false≢true h)
masked false false true e f g h = absurd (false≢true h)
masked false false false true f g h = absurd (false≢true h)
masked false false false false true g h = absurd (false≢true h)
masked false false false false false true h = absurd (false≢true h)
masked false false false false false false h = record { ready = refl; reset = refl; free = refl; parity = refl; phase = refl; req = refl }

pub latches_masked : (b0 r0 : Simode0) (b1 r1 : Simode1) (status raised : Status) (k : Latches) → not (any_enable r0 r1) ≡ true → k ≡ latches_from b0 b1 r0 r1 status raised k
unfolding latches_from
latches_masked b0 r0 b1 r1 status raised k h =
    let m = masked r0.enspiordy r1.enscsirst r1.enbusfree r1.enscsiperr r1.enphasechg r1.enreqinit h in
    simp (m.ready, m.reset, m.free, m.parity, m.phase, m.req, or-false)

-- one latch, where neither its enable nor its status rises
steady : (k e t : Bool) → k ≡ latched (record { kept = k; enable = e; enabled_before = e; status = t; raised = t })
steady true e t = refl
steady false false t = refl
steady false true false = refl
steady false true true = refl

pub latches_steady : (r0 : Simode0) (r1 : Simode1) (t : Status) (k : Latches) → k ≡ latches_from r0 r1 r0 r1 t t k
unfolding latches_from
latches_steady r0 r1 t k =
    λ i.
    record {
      spiordy = steady k.spiordy r0.enspiordy t.spiordy i;
      scsirsti = steady k.scsirsti r1.enscsirst t.scsirsti i;
      busfree = steady k.busfree r1.enbusfree t.busfree i;
      scsiperr = steady k.scsiperr r1.enscsiperr t.scsiperr i;
      phasechg = steady k.phasechg r1.enphasechg t.phasechg i;
      reqinit = steady k.reqinit r1.enreqinit t.reqinit i;
    }

-- the three tests of the code
record Same (a b c : Bool) : Type 0 where
  pub first : a ≡ true
  pub second : b ≡ true
  pub third : c ≡ true

same : (a b c : Bool) → a && b && c ≡ true → Same a b c
same true true true h = record { first = refl; second = refl; third = refl }
same true true false h = absurd (false≢true h)
same true false c h = absurd (false≢true h)
same false b c h = absurd (false≢true h)

pub latches_same : (b0 r0 b1 r1 status raised : ℕ) (k : Latches) → eqb r0 b0 && eqb r1 b1 && eqb status raised ≡ true → k ≡ latches_from (simode0_of b0) (simode1_of b1) (simode0_of r0) (simode1_of r1) (status_of status) (status_of raised) k
latches_same b0 r0 b1 r1 status raised k h =
    let s = same (eqb r0 b0) (eqb r1 b1) (eqb status raised) h in
    rw (eqb-true r0 b0 s.first, eqb-true r1 b1 s.second, eqb-true status raised s.third) (latches_steady (simode0_of b0) (simode1_of b1) (status_of raised) k)

-- over the bytes, as the code reads them, and over the state
pub latches_from_at : (m : List ℕ) (b0 b1 status raised : ℕ) → latches_from (simode0_of b0) (simode1_of b1) (simode0_of (get_or m simode0_place 0)) (simode1_of (get_or m simode1_place 0)) (status_of status) (status_of raised) (latches_of (get_or m latches_place 0)) ≡ latches_from (simode0_of b0) (simode1_of b1) (state_at m).registers.simode0 (state_at m).registers.simode1 (status_of status) (status_of raised) (state_at m).latches
unfolding state_at
latches_from_at m b0 b1 status raised = refl

-- what the code stores is what is to stand there
pub latches_made : (m : List ℕ) (b0 b1 status raised : ℕ) {k : Latches} {n : List ℕ} → k ≡ latches_from (simode0_of b0) (simode1_of b1) (simode0_of (get_or m simode0_place 0)) (simode1_of (get_or m simode1_place 0)) (status_of status) (status_of raised) (latches_of (get_or m latches_place 0)) → n ≡ image_of (with_latches k (state_at m)) → n ≡ image_of (with_latches (latches_from (simode0_of b0) (simode1_of b1) (state_at m).registers.simode0 (state_at m).registers.simode1 (status_of status) (status_of raised) (state_at m).latches) (state_at m))
latches_made m b0 b1 status raised e h = latches_as (state_at m) (e ∙ latches_from_at m b0 b1 status raised) h
