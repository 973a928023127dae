use Prim.Native.Nat.{ℕ, ◌-◌}
use mathlib.Core.Path.{refl, ap}
use native.Mathlib.Omega.{arith}
use Rattle.settling.proofs.ReadBackOfTransfer.{offset_held}
use Rattle.strings.proofs.Through.{low_held, acked}
use Rattle.strings.proofs.sending.acknowledged_by.Goals as goal

pub overflow_sub-m-2 : goal.overflow_sub-m-2
overflow_sub-m-2 c =
    omega (arith, offset_held c.args.m.now c.requires.image, c.requires.n_bound)

pub overflow_add-m-2 : goal.overflow_add-m-2
overflow_add-m-2 c =
    omega (arith, low_held c.args.m.now c.requires.image c.args.n, c.requires.n_bound_2)

pub returns : goal.returns
returns c =
    let m = c.args.m.now in
    let n = c.args.n in
    acked m c.requires.image n c.requires.n_nonzero c.requires.n_in_bounds c.requires.n_bound_2 refl (ap (λ (o : ℕ). o - n) (offset_held m c.requires.image)) refl
