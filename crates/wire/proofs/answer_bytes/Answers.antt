use mathlib.Core.Path.{◌≡◌}
use Prim.Native.Nat.{◌/◌, ◌%◌}
use lib.Bits.{and_mask, mask_lt}
use lib.ListN.{length}
use borrow.Author.Rules.{rules}
use Rattle.rules.specs.Answers.{answer_bytes}
use Rattle.laws.proofs.Lists.{elements_all}
use Rattle.wire.proofs.answer_bytes.Goals as goal
use Rattle.wire.proofs.answer_bytes.Goals.{Start}

pub overflow_cast-low : goal.overflow_cast-low
overflow_cast-low c = record { fits = mask_lt c.args.a.value 8 }

eight : (c : Start) → length c.args.a.sent ≡ 8
eight c = search rules

pub returns : goal.returns
unfolding answer_bytes
returns c =
    let a = c.args.a in
    let high : a.value / 256 % 256 ≡ a.value / 256 = search rules in
    rw (
      c.code_byte-first.ensures,
      c.moves_byte-second.ensures,
      high,
      and_mask a.value 8,
      c.offset_byte-seventh.ensures,
      elements_all 8 a.sent (eight (goal.at.returns c).Start),
    )
