-- What the test of an event's fields tells.
use Rattle.std.specs.Prelude.{None}
use mathlib.Core.Path.{◌≡◌}
use mathlib.Core.Bool.{Bool, true, cond}
use Prim.Native.Nat.{ℕ, ◌<◌}
use lib.Dec.{ltb}
use borrow.Author.Tests.{ltb-true}
use Rattle.rules.specs.Records.{payload_limit, offset_limit, event_of, well_formed, fields_of}
use Rattle.rules.proofs.Logic.{left_true}

module _ (kind offset p : ℕ) where
  pub by_test : {t : Bool} → t ≡ well_formed kind offset p → cond t (event_of kind offset p) None ≡ fields_of kind offset p
  unfolding fields_of
  by_test e = rw e

  pub fits : well_formed kind offset p ≡ true → p < payload_limit kind
  unfolding well_formed
  fits e = ltb-true p (payload_limit kind) (left_true (ltb p (payload_limit kind)) (ltb offset (offset_limit kind)) e)
