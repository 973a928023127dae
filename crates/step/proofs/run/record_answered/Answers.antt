use Prim.Native.Nat.{ℕ, ◌+◌, ◌*◌, ◌-◌, ◌<◌, min}
use mathlib.Core.Path.{◌≡◌}
use native.Mathlib.Omega.{arith}
use lib.ListN.{length}
use Rattle.step.proofs.Running.{turned}
use Rattle.step.proofs.run.record_answered.Goals as goal

-- where the record ends
record_end : (i n k : ℕ) → 4 * i < n → k ≡ min 4 (n - 4 * i) → 4 * i + k ≡ min (4 * i + 4) n
record_end i n k h e = omega arith

pub returns : goal.returns
returns c =
    let a = c.args in
    let l = a.records.now in
    let r = c.min.result in
    turned a.m.now a.i (4 * a.i + r) l (record_end a.i (length l) r c.requires.i_in_bounds c.min.ensures) c.stepped-reply.ensures c.store_at.ensures
