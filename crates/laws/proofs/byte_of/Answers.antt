use mathlib.Core.Bool.{Bool}
use Prim.Native.Nat.{ℕ, ◌*◌, ◌%◌}
use lib.Bits.{bit_or}
use lib.Dec.{T, eqb, eqb→eq}
use mir.Val.{bool_byte}
use Rattle.rules.specs.Numbers.{byte_of}
use Rattle.laws.proofs.Tables.{every, every_at}
use Rattle.laws.proofs.byte_of.Goals as goal

abbrev joined : Bool → Bool → Bool → Bool → Bool → Bool → Bool → Bool → ℕ
joined a b c d e f g h = bit_or (bit_or (bit_or (bit_or (bit_or (bit_or (bit_or (bool_byte a * 128 % 256) (bool_byte b * 64 % 256)) (bool_byte c * 32 % 256)) (bool_byte d * 16 % 256)) (bool_byte e * 8 % 256)) (bool_byte f * 4 % 256)) (bool_byte g * 2 % 256)) (bool_byte h)

abbrev right : Bool → Bool → Bool → Bool → Bool → Bool → Bool → Bool → Bool
right a b c d e f g h = eqb (joined a b c d e f g h) (byte_of a b c d e f g h)

law : (a b c d e f g h : Bool) → T (right a b c d e f g h)
law a b c d e f g h = (every_at (λ h. right a b c d e f g h) (every_at (λ g. every (λ h. right a b c d e f g h)) (every_at (λ f. every (λ g. every (λ h. right a b c d e f g h))) (every_at (λ e. every (λ f. every (λ g. every (λ h. right a b c d e f g h)))) (every_at (λ d. every (λ e. every (λ f. every (λ g. every (λ h. right a b c d e f g h))))) (every_at (λ c. every (λ d. every (λ e. every (λ f. every (λ g. every (λ h. right a b c d e f g h)))))) (every_at (λ b. every (λ c. every (λ d. every (λ e. every (λ f. every (λ g. every (λ h. right a b c d e f g h))))))) (every_at (λ a. every (λ b. every (λ c. every (λ d. every (λ e. every (λ f. every (λ g. every (λ h. right a b c d e f g h)))))))) tt a) b) c) d) e) f) g) h)

pub returns : goal.returns
returns c =
    let x = c.args in
    eqb→eq (joined x.b7 x.b6 x.b5 x.b4 x.b3 x.b2 x.b1 x.b0) (byte_of x.b7 x.b6 x.b5 x.b4 x.b3 x.b2 x.b1 x.b0)
    (law x.b7 x.b6 x.b5 x.b4 x.b3 x.b2 x.b1 x.b0)
