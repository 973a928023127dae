-- Each register's byte in its place: the image of the state after a write to that register.
use Prim.Native.Nat.{ℕ, ◌+◌, ◌*◌, ◌/◌, ◌%◌, ◌^◌}
use mathlib.Core.Path.{◌≡◌, refl, ap, ◌∙◌}
use mathlib.Core.Bool.{Bool, not, false, ◌&&◌}
use mathlib.Core.List.{List}
use native.Mathlib.Omega.{arith}
use lib.ListN.{set, get_or}
use Rattle.rules.specs.Numbers.{bit}
use Rattle.rules.specs.Map.{offset_of}
use Rattle.rules.specs.Registers.{scsiseq_of, scsiseq_byte, sxfrctl0_of, sxfrctl0_byte, sxfrctl1_of, sxfrctl1_byte, scsisig_of, scsirate_of, scsiid_of, simode0_of, simode0_byte, simode1_of, simode1_byte, dmacntrl0_of, dmacntrl0_byte, dmacntrl1_of, dmacntrl1_byte}
use Rattle.rules.specs.State.{State}
use Rattle.rules.specs.Events.{writes, value_of}
use Rattle.rules.specs.StepA.{registers_a, clears, with_atn}
use Rattle.rules.specs.declared.registers.Scsisig.{Scsisig}
use Rattle.rules.specs.declared.registers.Registers.{Registers}
use Rattle.rules.specs.declared.map.Register.{Register}
use Rattle.rules.specs.declared.map.Register.TheVariants.{SCSISEQ, SXFRCTL0, SXFRCTL1, SCSISIGO, SCSIRATE, SCSIID, SCSIDAT, CLRSINT1, SIMODE0, SIMODE1, DMACNTRL0, DMACNTRL1, BRSTCNTRL}
use Rattle.rules.specs.declared.records.Event.{Event}
use Rattle.rules.specs.declared.records.Event.TheVariants.{Write}
use Rattle.rules.specs.Changed.{with_registers}
use Rattle.image.specs.Image.{IsImage, image_of, state_at, scsisig_byte, scsirate_byte, scsiid_byte}
use Rattle.laws.proofs.EightBits.{bit_4}
use Rattle.image.proofs.ReadBack.{scsisig_back}
use Rattle.image.proofs.AtPlaces.{of_image}
use Rattle.image.specs.Layout.{brstcntrl_place, dmacntrl0_place, dmacntrl1_place, scsidat_place, scsiid_place, scsirate_place, scsiseq_place, scsisig_place, simode0_place, simode1_place, sxfrctl0_place, sxfrctl1_place}

-- the state after a write of v to a register
abbrev pub after : Register → ℕ → State → State
after r v s = with_registers (registers_a s.registers (Write (offset_of r) v)) s

-- a byte that is stored at k, of what stood there
abbrev pub Puts : Register → ℕ → ℕ → (List ℕ → ℕ) → Type 0
Puts r v k b = (m : List ℕ) → IsImage m → set m k (b m) ≡ image_of (after r v (state_at m))

puts : (r : Register) (v k : ℕ) (b : List ℕ → ℕ) → ((s : State) → set (image_of s) k (b (image_of s)) ≡ image_of (after r v s)) → Puts r v k b
puts r v k b law = of_image (λ (m : List ℕ). set m k (b m)) (after r v) law

module _ (v : ℕ) (s : State) where
  set_scsiseq : set (image_of s) scsiseq_place (scsiseq_byte (scsiseq_of v)) ≡ image_of (after SCSISEQ v s)
  unfolding image_of registers_a clears writes value_of
  set_scsiseq = refl

  set_sxfrctl0 : set (image_of s) sxfrctl0_place (sxfrctl0_byte (sxfrctl0_of v)) ≡ image_of (after SXFRCTL0 v s)
  unfolding image_of registers_a clears writes value_of
  set_sxfrctl0 = refl

  set_sxfrctl1 : set (image_of s) sxfrctl1_place (sxfrctl1_byte (sxfrctl1_of v)) ≡ image_of (after SXFRCTL1 v s)
  unfolding image_of registers_a clears writes value_of
  set_sxfrctl1 = refl

  set_scsisigo : set (image_of s) scsisig_place (scsisig_byte (scsisig_of s.registers.scsisig.atno v)) ≡ image_of (after SCSISIGO v s)
  unfolding image_of registers_a clears writes value_of
  set_scsisigo = refl

  set_scsirate : set (image_of s) scsirate_place (scsirate_byte (scsirate_of v)) ≡ image_of (after SCSIRATE v s)
  unfolding image_of registers_a clears writes value_of
  set_scsirate = refl

  set_scsiid : set (image_of s) scsiid_place (scsiid_byte (scsiid_of v)) ≡ image_of (after SCSIID v s)
  unfolding image_of registers_a clears writes value_of
  set_scsiid = refl

  set_scsidat : set (image_of s) scsidat_place v ≡ image_of (after SCSIDAT v s)
  unfolding image_of registers_a clears writes value_of
  set_scsidat = refl

  set_clrsint1 : set (image_of s) scsisig_place (scsisig_byte (with_atn (not (bit v 6) && s.registers.scsisig.atno) s.registers.scsisig)) ≡ image_of (after CLRSINT1 v s)
  unfolding image_of registers_a clears writes value_of
  set_clrsint1 = refl

  set_simode0 : set (image_of s) simode0_place (simode0_byte (simode0_of v)) ≡ image_of (after SIMODE0 v s)
  unfolding image_of registers_a clears writes value_of
  set_simode0 = refl

  set_simode1 : set (image_of s) simode1_place (simode1_byte (simode1_of v)) ≡ image_of (after SIMODE1 v s)
  unfolding image_of registers_a clears writes value_of
  set_simode1 = refl

  set_dmacntrl0 : set (image_of s) dmacntrl0_place (dmacntrl0_byte (dmacntrl0_of v)) ≡ image_of (after DMACNTRL0 v s)
  unfolding image_of registers_a clears writes value_of
  set_dmacntrl0 = refl

  set_dmacntrl1 : set (image_of s) dmacntrl1_place (dmacntrl1_byte (dmacntrl1_of v) 0) ≡ image_of (after DMACNTRL1 v s)
  unfolding image_of registers_a clears writes value_of
  set_dmacntrl1 = refl

  set_brstcntrl : set (image_of s) brstcntrl_place v ≡ image_of (after BRSTCNTRL v s)
  unfolding image_of registers_a clears writes value_of
  set_brstcntrl = refl

-- 343h as it stands
sig_byte : (s : State) → get_or (image_of s) scsisig_place 0 ≡ scsisig_byte s.registers.scsisig
unfolding image_of
sig_byte s = refl

atn_bit : (g : Scsisig) → bit (scsisig_byte g) 4 ≡ g.atno
atn_bit g = bit_4 g.cdexp g.ioexp g.msgexp g.atno g.selo g.bsyo g.reqo g.acko

-- 343h with ATN cleared or as it was
abbrev pub sig_cleared : ℕ → ℕ → ℕ
sig_cleared v x = scsisig_byte (with_atn (not (bit v 6) && bit x 4) (scsisig_of false x))

sig_cleared_lem : (v : ℕ) (g : Scsisig) → sig_cleared v (scsisig_byte g) ≡ scsisig_byte (with_atn (not (bit v 6) && g.atno) g)
sig_cleared_lem v g = λ i. scsisig_byte (with_atn (not (bit v 6) && atn_bit g i) (scsisig_back g i))

rate_byte : (v : ℕ) → v % 128 ≡ scsirate_byte (scsirate_of v)
rate_byte v = omega arith

id_byte : (v : ℕ) → v / 2 ^ 4 % 8 * 16 + v % 8 ≡ scsiid_byte (scsiid_of v)
id_byte v = omega arith

module _ (v : ℕ) where
  pub put_scsiseq : Puts SCSISEQ v scsiseq_place (λ (m : List ℕ). scsiseq_byte (scsiseq_of v))
  put_scsiseq = puts SCSISEQ v scsiseq_place (λ (m : List ℕ). scsiseq_byte (scsiseq_of v)) (set_scsiseq v)

  pub put_sxfrctl0 : Puts SXFRCTL0 v sxfrctl0_place (λ (m : List ℕ). sxfrctl0_byte (sxfrctl0_of v))
  put_sxfrctl0 = puts SXFRCTL0 v sxfrctl0_place (λ (m : List ℕ). sxfrctl0_byte (sxfrctl0_of v)) (set_sxfrctl0 v)

  pub put_sxfrctl1 : Puts SXFRCTL1 v sxfrctl1_place (λ (m : List ℕ). sxfrctl1_byte (sxfrctl1_of v))
  put_sxfrctl1 = puts SXFRCTL1 v sxfrctl1_place (λ (m : List ℕ). sxfrctl1_byte (sxfrctl1_of v)) (set_sxfrctl1 v)

  -- ATNO as the code read it
  pub put_scsisigo : (m : List ℕ) → IsImage m → {a : Bool} → a ≡ (state_at m).registers.scsisig.atno → set m scsisig_place (scsisig_byte (scsisig_of a v)) ≡ image_of (after SCSISIGO v (state_at m))
  put_scsisigo m i {a} e =
      ap (λ (b : Bool). set m scsisig_place (scsisig_byte (scsisig_of b v))) e
      ∙ ap (λ (l : List ℕ). set l scsisig_place (scsisig_byte (scsisig_of (state_at m).registers.scsisig.atno v))) i.packed
      ∙ set_scsisigo v (state_at m)

  pub put_scsirate : Puts SCSIRATE v scsirate_place (λ (m : List ℕ). v % 128)
  put_scsirate = puts SCSIRATE v scsirate_place (λ (m : List ℕ). v % 128) (λ (s : State). ap (λ (x : ℕ). set (image_of s) scsirate_place x) (rate_byte v) ∙ set_scsirate v s)

  pub put_scsiid : Puts SCSIID v scsiid_place (λ (m : List ℕ). v / 2 ^ 4 % 8 * 16 + v % 8)
  put_scsiid = puts SCSIID v scsiid_place (λ (m : List ℕ). v / 2 ^ 4 % 8 * 16 + v % 8) (λ (s : State). ap (λ (x : ℕ). set (image_of s) scsiid_place x) (id_byte v) ∙ set_scsiid v s)

  pub put_scsidat : Puts SCSIDAT v scsidat_place (λ (m : List ℕ). v)
  put_scsidat = puts SCSIDAT v scsidat_place (λ (m : List ℕ). v) (set_scsidat v)

  pub put_clrsint1 : Puts CLRSINT1 v scsisig_place (λ (m : List ℕ). sig_cleared v (get_or m scsisig_place 0))
  put_clrsint1 = puts CLRSINT1 v scsisig_place (λ (m : List ℕ). sig_cleared v (get_or m scsisig_place 0)) (λ (s : State). ap (λ (x : ℕ). set (image_of s) scsisig_place x) (ap (sig_cleared v) (sig_byte s) ∙ sig_cleared_lem v s.registers.scsisig) ∙ set_clrsint1 v s)

  pub put_simode0 : Puts SIMODE0 v simode0_place (λ (m : List ℕ). simode0_byte (simode0_of v))
  put_simode0 = puts SIMODE0 v simode0_place (λ (m : List ℕ). simode0_byte (simode0_of v)) (set_simode0 v)

  pub put_simode1 : Puts SIMODE1 v simode1_place (λ (m : List ℕ). simode1_byte (simode1_of v))
  put_simode1 = puts SIMODE1 v simode1_place (λ (m : List ℕ). simode1_byte (simode1_of v)) (set_simode1 v)

  pub put_dmacntrl0 : Puts DMACNTRL0 v dmacntrl0_place (λ (m : List ℕ). dmacntrl0_byte (dmacntrl0_of v))
  put_dmacntrl0 = puts DMACNTRL0 v dmacntrl0_place (λ (m : List ℕ). dmacntrl0_byte (dmacntrl0_of v)) (set_dmacntrl0 v)

  pub put_dmacntrl1 : Puts DMACNTRL1 v dmacntrl1_place (λ (m : List ℕ). dmacntrl1_byte (dmacntrl1_of v) 0)
  put_dmacntrl1 = puts DMACNTRL1 v dmacntrl1_place (λ (m : List ℕ). dmacntrl1_byte (dmacntrl1_of v) 0) (set_dmacntrl1 v)

  pub put_brstcntrl : Puts BRSTCNTRL v brstcntrl_place (λ (m : List ℕ). v)
  put_brstcntrl = puts BRSTCNTRL v brstcntrl_place (λ (m : List ℕ). v) (set_brstcntrl v)

-- an event that stores nothing
pub unchanged : (e : Event) (m : List ℕ) → IsImage m → (state_at m).registers ≡ registers_a (state_at m).registers e → m ≡ image_of (with_registers (registers_a (state_at m).registers e) (state_at m))
unchanged e m i h = i.packed ∙ ap (λ (r : Registers). image_of (with_registers r (state_at m))) h
