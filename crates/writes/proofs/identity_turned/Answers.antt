use Prim.Native.Nat.{ℕ, ◌+◌, ◌%◌}
use mathlib.Core.List.{List}
use native.Mathlib.Omega.{arith}
use lib.ListN.{set, get_or}
use Rattle.rules.specs.State.{State}
use Rattle.rules.specs.Changed.{with_identity}
use Rattle.image.proofs.AtPlaces.{of_image, at_identity}
use Rattle.writes.proofs.LinesAndIdentity.{identity_turned}
use Rattle.image.specs.Layout.{identity_place}
use Rattle.writes.proofs.identity_turned.Goals as goal

pub overflow_add-m : goal.overflow_add-m
overflow_add-m c =
    omega (arith, at_identity c.args.m.now c.requires)

pub returns : goal.returns
returns c =
    of_image (λ (m : List ℕ). set m identity_place ((get_or m identity_place 0 + 1) % 32)) (λ (s : State). with_identity ((s.identity + 1) % 32) s) identity_turned c.args.m.now c.requires
