-- Laws of the edges, over their parts.
use mathlib.Core.Path.{◌≡◌, refl, ap, sym}
use mathlib.Core.Bool.{Bool, true, false, not, ◌&&◌, ◌||◌, and-true, and-false, or-false, beq}
use Rattle.rules.specs.State.{State}
use Rattle.rules.specs.Seen.{phase_bsy, phase_sel, bsy_seen, sel_seen, io_seen, connected, parity_even}
use Rattle.rules.specs.StepB.{parity_bad}
use Rattle.rules.proofs.Driving.{inbound_data, inbound_parity}
use Rattle.edges.specs.Components.{registers_b, busy_b}
use Rattle.rules.specs.declared.registers.Registers.{Registers}
use Rattle.edges.specs.Tests.{inbound_even, inbound_bad}

-- what is seen of BSY and SEL once a bus reset has zeroed 343h, and without one
pub busy_reset : (s : State) → (s.lines.bsy || phase_bsy s.sequencer.phase || s.lines.sel || phase_sel s.sequencer.phase) ≡ busy_b true s
unfolding bsy_seen sel_seen registers_b
busy_reset s =
    rw (or-false s.lines.bsy, or-false s.lines.sel) (regrouped (s.lines.bsy || phase_bsy s.sequencer.phase) s.lines.sel (phase_sel s.sequencer.phase))
  where
    regrouped : (a b d : Bool) → (a || b || d) ≡ (a || (b || d))
    regrouped true b d = refl
    regrouped false b d = refl

pub busy_unreset : (s : State) → (bsy_seen s || sel_seen s) ≡ busy_b false s
unfolding registers_b
busy_unreset s = refl

-- without a bus reset, a parity error and bus free the registers stay
pub registers_kept : (reset bad free : Bool) (r : Registers) → (reset || bad || free) ≡ false → r ≡ registers_b reset bad free r
unfolding registers_b
registers_kept true bad free r e = cc
registers_kept false true free r e = cc
registers_kept false false true r e = cc
registers_kept false false false r e = refl

-- a test that is only made where the first part holds
pub and_not : (a b : Bool) → (a && not (a && b)) ≡ (a && not b)
and_not true b = refl
and_not false b = refl

-- a conjunction whose last parts were tested first
module _ (a b d : Bool) where
  pub first_left : {x : Bool} → x ≡ a → b ≡ true → d ≡ true → x ≡ (a && b && d)
  first_left e f g = rw (e, f, g, and-true, and-true)

  pub second_fails : b ≡ false → false ≡ (a && b && d)
  second_fails f = rw (f, and-false a)

  pub third_fails : d ≡ false → false ≡ (a && b && d)
  third_fails g = rw (g, and-false (a && b))

-- the parity of an inbound byte is that of others
pub inbound_even_lem : (s : State) → connected s ≡ true → io_seen s ≡ true → parity_even s ≡ inbound_even s
unfolding parity_even
inbound_even_lem s h io = rw (inbound_data s h io, inbound_parity s h io)

-- a part of a conjunction counts where the others hold
counts_where : (a i e p q : Bool) → (a ≡ true → i ≡ true → p ≡ q) → (a && i && e && p) ≡ (a && i && e && q)
counts_where true true e p q f = ap (λ (b : Bool). e && b) (f refl refl)
counts_where true false e p q f = refl
counts_where false i e p q f = refl

-- where parity is checked, only the data of others count
pub inbound_checked : (s : State) → parity_bad s ≡ inbound_bad s
unfolding parity_bad
inbound_checked s =
    counts_where (connected s) (io_seen s) s.registers.sxfrctl1.enspchk (parity_even s) (inbound_even s) (inbound_even_lem s)

-- REQ as it was and is
pub same_falls : (now was : Bool) → beq now was ≡ true → (was && not now) ≡ false
same_falls true true e = refl
same_falls false false e = refl
same_falls true false e = refl
same_falls false true e = sym e

pub same_rises : (now was : Bool) → beq now was ≡ true → (now && not was) ≡ false
same_rises true true e = refl
same_rises false false e = refl
same_rises true false e = sym e
same_rises false true e = refl

pub other_than : (now was : Bool) → beq now was ≡ false → was ≡ not now
other_than true true e = e
other_than false false e = sym e
other_than true false e = refl
other_than false true e = refl
