-- Masks, shifts and packing by the definitions' bit and field: each law once, over the bit index or the width.
use mathlib.Core.Path.{◌≡◌, refl, ap, ◌∙◌}
use mathlib.Core.Bool.{Bool, true, false}
use Prim.Native.Nat.{ℕ, zero, suc, ◌+◌, ◌*◌, ◌/◌, ◌%◌, ◌^◌, ◌-◌, ◌≤◌, ◌<◌}
use native.Mathlib.Nat.{mod-eq_of_lt, div-eq_of_lt, lt_of_lt_of_le, lt_of_le_of_lt, div-mul-le_self, one-mul, suc-mul, mul-le-mul_right, mod-lt, add_comm, add_assoc}
use native.Mathlib.Omega.{arith}
use lib.Pow.{pow_pos, pow_mono, pow-add, shl_lt, shl_exact}
use lib.Dec.{eqb}
use lib.Bits.{bit_and, bit_or, or_shifted, and_mask, mask_lt}
use mir.Val.{bool_byte}
use Rattle.rules.specs.Numbers.{bit, field, one, ones_in, ones}

-- (n >> k) & (2 ^ w - 1)
pub field_and : (n k w : ℕ) → bit_and (n / 2 ^ k) (2 ^ w - 1) ≡ field n k w
field_and n k w = and_mask (n / 2 ^ k) w

-- ((n >> k) & 1) == 1
pub bit_and_one : (n k : ℕ) → eqb (bit_and (n / 2 ^ k) 1) 1 ≡ bit n k
bit_and_one n k = ap (λ (m : ℕ). eqb m 1) (and_mask (n / 2 ^ k) 1)

-- a number of w bits has none past them
pub shr_past : (w n k : ℕ) → n < 2 ^ w → w ≤ k → n / 2 ^ k ≡ 0
shr_past w n k h l = div-eq_of_lt {n = n} {m = 2 ^ k} (lt_of_lt_of_le h (pow_mono l))

pub bit_past : (w n k : ℕ) → n < 2 ^ w → w ≤ k → false ≡ bit n k
bit_past w n k h l = rw (shr_past w n k h l)

-- (a << k) | b in a word of w bits, where nothing is lost and b is below the shift
pub join : (w k a b : ℕ) → a * 2 ^ k < 2 ^ w → b < 2 ^ k → bit_or (a * 2 ^ k % 2 ^ w) b ≡ a * 2 ^ k + b
join w k a b h l = rw (mod-eq_of_lt {n = a * 2 ^ k} {m = 2 ^ w} h) (or_shifted a k b l)

-- the same for an x that is a: packing field after field, each law goes on from the equation that the one before it gave
pub joined : (w k : ℕ) {x a : ℕ} (b : ℕ) → x ≡ a → a * 2 ^ k < 2 ^ w → b < 2 ^ k → bit_or (x * 2 ^ k % 2 ^ w) b ≡ a * 2 ^ k + b
joined w k {a = a} b e h l = rw e (join w k a b h l)

-- (x << k) | (b & (2 ^ k - 1))
pub joined_field : (w k : ℕ) {x a : ℕ} (b : ℕ) → x ≡ a → a * 2 ^ k < 2 ^ w → bit_or (x * 2 ^ k % 2 ^ w) (bit_and b (2 ^ k - 1)) ≡ a * 2 ^ k + b % 2 ^ k
joined_field w k b e h = rw (← and_mask b k) (joined w k (bit_and b (2 ^ k - 1)) e h (mask_lt b k))

-- (x << 1) | b
pub joined_bit : (w : ℕ) {x a : ℕ} (b : Bool) → x ≡ a → a * 2 < 2 ^ w → bit_or (x * 2 % 2 ^ w) (bool_byte b) ≡ a * 2 + one b
joined_bit w true e h = joined w 1 1 e h (omega arith)
joined_bit w false e h = joined w 1 0 e h (omega arith)

pub one_below : (b : Bool) → one b < 2
one_below true = omega arith
one_below false = omega arith

-- two fields side by side fit their widths
pub join_lt : (j k a b : ℕ) → a < 2 ^ j → b < 2 ^ k → a * 2 ^ k + b < 2 ^ (j + k)
join_lt j k a b h l = rw (pow-add 2 j k) (lt_of_lt_of_le (rw (suc-mul a (2 ^ k)) (omega arith)) (mul-le-mul_right (2 ^ k) h))

-- 1 << k
pub shl_one : (w k : ℕ) → k < w → 1 * 2 ^ k % 2 ^ w ≡ 2 ^ k
shl_one w k h = shl_exact {a = 1} 1 k w (omega arith) (omega arith) ∙ one-mul (2 ^ k)

-- n & ((1 << k) - 1)
pub low_and : (w k n : ℕ) → k < w → bit_and n (1 * 2 ^ k % 2 ^ w - 1) ≡ n % 2 ^ k
low_and w k n h = rw (shl_one w k h) (and_mask n k)

-- ((n >> (k + j)) << (k + j)) | ((v << k) | (n & ((1 << k) - 1))): n with its field of j bits from k on written
pub put_field : (w j k v n : ℕ) → j + k ≤ w → k < w → v < 2 ^ j → n < 2 ^ w → bit_or (n / 2 ^ (k + j) * 2 ^ (k + j) % 2 ^ w) (bit_or (v * 2 ^ k % 2 ^ w) (bit_and n (1 * 2 ^ k % 2 ^ w - 1))) ≡ n / 2 ^ (k + j) * 2 ^ (k + j) + v * 2 ^ k + n % 2 ^ k
put_field w j k v n f h p q =
    let low : n % 2 ^ k < 2 ^ k = mod-lt n (pow_pos k) in
    let mid : v * 2 ^ k < 2 ^ w = lt_of_lt_of_le (shl_lt j k p) (pow_mono f) in
    let top : n / 2 ^ (k + j) * 2 ^ (k + j) < 2 ^ w = lt_of_le_of_lt (div-mul-le_self n (2 ^ (k + j))) q in
    let both : v * 2 ^ k + n % 2 ^ k < 2 ^ (k + j) = rw (add_comm k j) (join_lt j k v (n % 2 ^ k) p low) in
    rw (low_and w k n h, join w k v (n % 2 ^ k) mid low, join w (k + j) (n / 2 ^ (k + j)) (v * 2 ^ k + n % 2 ^ k) top both, add_assoc)

-- a bool as a number
pub one_of : (b : Bool) → bool_byte b ≡ one b
one_of true = refl
one_of false = refl

pub one_le : (b : Bool) → bool_byte b ≤ 1
one_le true = omega arith
one_le false = omega arith

-- no more ones than bits
pub ones_le : (n v : ℕ) → ones_in n v ≤ n
ones_le zero v = omega arith
ones_le (suc n) v = omega (arith, ones_le n (v / 2))

pub byte_ones_le : (v : ℕ) → ones v ≤ 8
unfolding ones
byte_ones_le v = ones_le 8 v
