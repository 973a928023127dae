use Prim.Native.Nat.{ℕ, suc, ◌<◌}
use mathlib.Core.List.{List, [], ◌∷◌}
use native.Mathlib.Omega.{arith}
use lib.ListN.{get_or}
use Rattle.rules.specs.Ranges.{Bytes}
use Rattle.saved.proofs.bytes.known.Goals as goal

by_elements : (l : List ℕ) → ((k : ℕ) → get_or l k 0 < 256) → Bytes l
by_elements [] f = tt
by_elements (b ∷ l) f = (f 0, by_elements l (λ k. f (suc k)))

pub returns : goal.returns
returns c = (c.requires, by_elements c.args.m.now (λ k. omega (arith, c.shared_slice_known-1.given k)))
