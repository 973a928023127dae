use mathlib.Core.Path.{ap₂, ◌∙◌}
use Prim.Native.Nat.{ℕ, ◌+◌, ◌*◌}
use native.Mathlib.Nat.{mul_comm}
use lib.ListN.{get_or}
use Rattle.image.specs.Layout.{host_bytes_place}
use Rattle.image.proofs.AtPlaces.{at_first, at_second}
use Rattle.reads.proofs.values.oldest_word.Goals as goal

pub returns : goal.returns
returns c =
    let m = c.args.m.now in
    let i = c.requires in
    c.from_le_bytes.ensures ∙ rw (mul_comm (get_or m (host_bytes_place + 1) 0) 256) (ap₂ (λ (a b : ℕ). a + 256 * b) (at_first m i) (at_second m i))
