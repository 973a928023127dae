-- Bits of numbers, and bytes in places. Document 01, "Records": "Fields are packed most significant bit first."
use Rattle.std.specs.Prelude.{ℕ, zero, suc, ◌+◌, ◌*◌, ◌-◌, ◌/◌, ◌%◌, ◌^◌, Bool, true, false, List, ◌++◌, eqb, length, replicate}

-- bit k of a number
abbrev pub bit : ℕ → ℕ → Bool
bit v k = eqb (v / 2 ^ k % 2) 1

-- the field of w bits whose lowest is bit k
abbrev pub field : ℕ → ℕ → ℕ → ℕ
field v k w = v / 2 ^ k % 2 ^ w

-- a bit as a number
abbrev pub one : Bool → ℕ
one true = 1
one false = 0

-- eight bits as a byte, bit 7 first
abbrev pub byte_of : Bool → Bool → Bool → Bool → Bool → Bool → Bool → Bool → ℕ
byte_of b7 b6 b5 b4 b3 b2 b1 b0 =
    one b7 * 128 + one b6 * 64 + one b5 * 32 + one b4 * 16 + one b3 * 8 + one b2 * 4 + one b1 * 2 + one b0

-- the number of ones among the n lowest bits
abbrev pub ones_in : ℕ → ℕ → ℕ
ones_in zero v = 0
ones_in (suc n) v = v % 2 + ones_in n (v / 2)

-- the number of ones of a byte
unfoldable pub ones : ℕ → ℕ
ones v = ones_in 8 v

abbrev pub even : ℕ → Bool
even n = eqb (n % 2) 0

-- n places: the bytes of l, then zeros
unfoldable pub padded : ℕ → List ℕ → List ℕ
padded n l = l ++ replicate (n - length l) 0
