use native.Mathlib.Omega.{arith}
use Rattle.stack.proofs.Places.{place_below}
use Rattle.writes.proofs.StackStores.{pushed_image}
use Rattle.writes.proofs.stacking.pushed.Goals as goal

pub bounds-m-at : goal.bounds-m-at
bounds-m-at c =
    omega (arith, c.from-at.ensures, place_below c.enstk32-enstk32.result _ c.place_of.ensures)

pub returns : goal.returns
returns c =
    rw (c.from-at.ensures, c.place_of.ensures, c.next_of-next.ensures) (pushed_image c.args.value c.args.m.now c.requires c.enstk32-enstk32.ensures)
