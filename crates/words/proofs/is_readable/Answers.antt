use Prim.Native.Nat.{ℕ, ◌*◌, ◌/◌, ◌%◌}
use mathlib.Core.Path.{◌≡◌, refl}
use mathlib.Core.Bool.{Bool, true, false, ◌&&◌}
use native.Mathlib.Omega.{arith}
use lib.Dec.{eqb}
use borrow.Author.Tests.{eqb-true, eqb-false, eq-eqb, ne_eqb}
use Rattle.words.specs.Calls.{readable}
use Rattle.words.proofs.is_readable.Goals as goal

-- so many bytes are twice so many words where they halve to them
halves : (n w : ℕ) → (eqb (n % 2) 0 && eqb (n / 2) w) ≡ eqb n (2 * w)
halves n w = go (eqb (n % 2) 0) (eqb (n / 2) w) refl refl
  where
    go : (a b : Bool) → eqb (n % 2) 0 ≡ a → eqb (n / 2) w ≡ b → (a && b) ≡ eqb n (2 * w)
    go true true p q = rw (eq-eqb n (2 * w) (omega (arith, eqb-true (n % 2) 0 p, eqb-true (n / 2) w q)))
    go true false p q = rw (ne_eqb n (2 * w) (λ e. eqb-false (n / 2) w q (omega arith)))
    go false b p q = rw (ne_eqb n (2 * w) (λ e. eqb-false (n % 2) 0 p (omega arith)))

pub returns : goal.returns
unfolding readable
returns c = halves c.args.bytes c.args.words
