use Prim.Native.Nat.{ℕ, ◌*◌, ◌/◌}
use mathlib.Core.Path.{◌≡◌, refl}
use mathlib.Core.Bool.{Bool, true, false}
use native.Mathlib.Omega.{arith}
use lib.Dec.{leb}
use borrow.Author.Tests.{leb-true, leb-false, le-leb, lt-leb}
use Rattle.words.specs.Calls.{writable}
use Rattle.words.proofs.is_writable.Goals as goal

-- eight bytes a word fit where the words fit an eighth
eighths : (w room : ℕ) → leb w (room / 8) ≡ leb (8 * w) room
eighths w room = go (leb w (room / 8)) refl
  where
    go : (a : Bool) → leb w (room / 8) ≡ a → a ≡ leb (8 * w) room
    go true p = rw (le-leb (8 * w) room (omega (arith, leb-true w (room / 8) p)))
    go false p = rw (lt-leb (8 * w) room (omega (arith, leb-false w (room / 8) p)))

pub returns : goal.returns
unfolding writable
returns c = rw (c.is_readable.ensures, eighths c.args.words c.args.room)
