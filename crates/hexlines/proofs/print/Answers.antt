-- The loop's invariant: the lines of the answers passed, then the rest of out as it was.
use Prim.Native.Nat.{ℕ, ◌*◌}
use mathlib.Core.Path.{ap, ◌∙◌}
use mathlib.Core.List.{List}
use native.Mathlib.Omega.{arith}
use lib.Seq.{paste}
use Rattle.hexlines.specs.Hex.{line_of}
use Rattle.hexlines.proofs.LineByLine.{put_line}
use Rattle.hexlines.proofs.print.Goals as goal

pub loop-k-preserved : goal.loop-k-preserved
loop-k-preserved c =
    let a = c.args in
    let l = c.loop-k in
    let put = c.line.ensures ∙ ap (λ (b : List ℕ). paste l.out (33 * l.k) (line_of b) 33) c.copied.ensures in
    put_line a.answers.now a.out.now l.k l.out c.line.new.out (omega arith) l.invariant put
