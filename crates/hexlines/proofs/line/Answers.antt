-- The loop's invariant: the digits of the bytes passed stand in their place in out.
use Prim.Native.Nat.{◌/◌, ◌%◌}
use mathlib.Core.Path.{◌≡◌, ◌∙◌}
use native.Mathlib.Omega.{arith}
use lib.ListN.{get_or}
use lib.Seq.{paste-zero}
use Rattle.hexlines.specs.Hex.{line_of}
use Rattle.hexlines.proofs.LineByLine.{put_byte, put_end}
use Rattle.hexlines.proofs.line.Goals as goal

pub loop-i-init : goal.loop-i-init
loop-i-init c = paste-zero c.args.out.now c.args.at (line_of c.args.b)

pub loop-i-preserved : goal.loop-i-preserved
loop-i-preserved c =
    let a = c.args in
    let l = c.loop-i in
    let pair = c.digits.result in
    let two = c.to_le_bytes.ensures in
    let low : get_or c.to_le_bytes.result 0 0 ≡ pair % 256 = rw two in
    let high : get_or c.to_le_bytes.result 1 0 ≡ pair / 256 % 256 = rw two in
    let second : get_or c.to_le_bytes.result 1 0 ≡ pair / 256 = omega (arith, high, c.digits.type_inv) in
    put_byte a.out.now a.b a.at l.i (get_or c.to_le_bytes.result 0 0) (get_or c.to_le_bytes.result 1 0) l.out (omega arith) (omega arith)
    (low ∙ c.digits.ensures.first) (second ∙ c.digits.ensures.second) l.invariant

pub returns : goal.returns
returns c =
    let a = c.args in
    let l = c.loop-i in
    let e : l.i ≡ 16 = omega arith in
    put_end a.out.now a.b a.at l.out (omega arith) c.requires (rw e at l.invariant)
