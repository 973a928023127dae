-- Both digits are right at each of the 256 bytes, by computing them.
use Prim.Native.Nat.{ℕ, ◌+◌, ◌*◌, ◌/◌, ◌%◌, ◌<◌}
use mathlib.Core.Bool.{Bool}
use native.Mathlib.Omega.{arith}
use lib.Dec.{eqb, eqb→eq}
use Rattle.laws.proofs.Tables.{below_at}
use Rattle.hexlines.specs.Hex.{digit_of}
use Rattle.hexlines.proofs.digits.Goals as goal

abbrev values : ℕ → ℕ
values b = b / 16 + b % 16 * 256

abbrev letters : ℕ → ℕ
letters b = (values b + 1542) / 16 % 2 + (values b + 1542) / 4096 * 256

abbrev pair : ℕ → ℕ
pair b = values b + 12336 + 7 * letters b

abbrev first_right : ℕ → Bool
first_right b = eqb (pair b % 256) (digit_of (b / 16))

abbrev second_right : ℕ → Bool
second_right b = eqb (pair b / 256) (digit_of (b % 16))

pub returns : goal.returns
returns c =
    let b = c.args.b in
    let h : b < 256 = omega arith in
    rw c.from-w.ensures (record {
      first = eqb→eq (pair b % 256) (digit_of (b / 16)) (below_at first_right 256 tt b h);
      second = eqb→eq (pair b / 256) (digit_of (b % 16)) (below_at second_right 256 tt b h);
    })
