use native.Mathlib.Nat.{mod-add-mod}
use Rattle.rules.specs.Counter.{stepped_to}
use Rattle.counter.proofs.stepped_to.Goals as goal

pub returns-in-Up : goal.returns-in-Up
unfolding stepped_to
returns-in-Up c = rw c.in-Up.is (mod-add-mod c.args.n 16777216 1)

pub returns-in-Down : goal.returns-in-Down
unfolding stepped_to
returns-in-Down c = rw c.in-Down.is (mod-add-mod c.args.n 16777216 16777215)
