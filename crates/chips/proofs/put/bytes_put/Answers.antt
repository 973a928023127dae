use Prim.Native.Nat.{◌+◌, ◌-◌}
use mathlib.Core.Path.{◌≡◌, sym}
use borrow.Author.Rules.{rules}
use native.Mathlib.Omega.{arith}
use lib.ListN.{length}
use Rattle.std.proofs.lemmas.Slice.{put_mid-paste}
use Rattle.chips.proofs.Elements.{array_bytes}
use Rattle.chips.proofs.put.bytes_put.Goals as goal

pub returns : goal.returns
returns g c =
    let a = c.args in
    let n = g.row.N in
    let enough : length a.b ≡ n = search rules in
    record {
      size = search rules;
      enough = enough;
      bytes = array_bytes n a.b _ c.well_formed.0;
      placed = put_mid-paste a.at (a.at + n - a.at) a.m.now c.copy_from_slice.new.self a.b n c.copy_from_slice.ensures.after (omega arith) (sym enough);
    }
