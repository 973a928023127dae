-- What one read puts behind the bytes kept, and how many wait for the next.
use mathlib.Core.Path.{◌≡◌, subst}
use mathlib.Core.Bool.{Bool, true, false}
use mathlib.Core.List.{List}
use Prim.Native.Nat.{ℕ, ◌+◌, ◌-◌, ◌≤◌}
use native.Mathlib.Omega.{arith}
use lib.Dec.{T, eqb}
use lib.ListN.{length}
use borrow.Author.Tests.{eqb-true, eqb-false}
use borrow.Rule.Slice.PartMut.{mid_of, put_mid, take_put, same_len_mid}
use Rattle.adapter.specs.Texts.{IsReceived, left_over, nothing}

module _ (kept : ℕ) (before new : List ℕ) (h : kept ≤ length before) (k : length new ≡ length (mid_of kept (length before - kept) before)) where
  abbrev after : List ℕ
  after = put_mid kept (length before - kept) before new

  pub none_received : IsReceived kept before after nothing
  none_received =
      record {
        front = take_put kept (length before - kept) before new h;
        held = omega arith;
        grown = λ e. absurd (subst T e tt);
        ended = λ e. omega arith;
      }

  pub some_received : (n : ℕ) → kept + n ≤ length before → IsReceived kept before after (record { held = kept + n; is_end = eqb n 0 })
  some_received n m =
      let l : length after ≡ length before = same_len_mid kept (length before - kept) before new k in
      record {
        front = take_put kept (length before - kept) before new h;
        held = omega arith;
        grown = λ e. omega (arith, eqb-false n 0 e);
        ended = λ e. omega (arith, eqb-true n 0 e);
      }

pub left_over_within : (held : ℕ) (is-end : Bool) → left_over held is-end ≤ held
left_over_within held true = omega arith
left_over_within held false = omega arith

pub left_over_small : (held : ℕ) (is-end : Bool) → left_over held is-end ≤ 3
left_over_small held true = omega arith
left_over_small held false = omega arith
