use Prim.Native.Nat.{◌+◌, ◌-◌}
use mathlib.Core.Path.{ap, ◌∙◌}
use mathlib.Core.List.{List}
use Prim.Native.Nat.{ℕ}
use lib.ListN.{replicate}
use lib.Seq.{paste}
use Rattle.datapath.specs.Laid.{lowered}
use Rattle.datapath.proofs.copies.moved_down.Goals as goal

pub returns : goal.returns
unfolding lowered
returns c =
    let a = c.args in
    c.zeroed.ensures ∙ ap (λ (l : List ℕ). paste l (a.at + (a.n - a.k)) (replicate a.k 0) a.k) c.copied.ensures
