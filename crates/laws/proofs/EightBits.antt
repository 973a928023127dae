-- Each bit of a byte made of eight bits.
use mathlib.Core.Path.{◌≡◌, refl}
use mathlib.Core.Bool.{Bool, true, false}
use Prim.Native.Nat.{ℕ, ◌/◌, ◌%◌, ◌^◌}
use native.Mathlib.Omega.{arith}
use lib.Dec.{eqb}
use Rattle.rules.specs.Numbers.{bit, one, byte_of}
use Rattle.laws.proofs.Bits.{one_below}

pub is_one : (b : Bool) → eqb (one b) 1 ≡ b
is_one true = refl
is_one false = refl

pub bit_0 : (b7 b6 b5 b4 b3 b2 b1 b0 : Bool) → bit (byte_of b7 b6 b5 b4 b3 b2 b1 b0) 0 ≡ b0
bit_0 b7 b6 b5 b4 b3 b2 b1 b0 =
    let e : byte_of b7 b6 b5 b4 b3 b2 b1 b0 / 2 ^ 0 % 2 ≡ one b0 =
    omega (arith, one_below b7, one_below b6, one_below b5, one_below b4, one_below b3, one_below b2, one_below b1, one_below b0)
    in
    rw e (is_one b0)

pub bit_1 : (b7 b6 b5 b4 b3 b2 b1 b0 : Bool) → bit (byte_of b7 b6 b5 b4 b3 b2 b1 b0) 1 ≡ b1
bit_1 b7 b6 b5 b4 b3 b2 b1 b0 =
    let e : byte_of b7 b6 b5 b4 b3 b2 b1 b0 / 2 ^ 1 % 2 ≡ one b1 =
    omega (arith, one_below b7, one_below b6, one_below b5, one_below b4, one_below b3, one_below b2, one_below b1, one_below b0)
    in
    rw e (is_one b1)

pub bit_2 : (b7 b6 b5 b4 b3 b2 b1 b0 : Bool) → bit (byte_of b7 b6 b5 b4 b3 b2 b1 b0) 2 ≡ b2
bit_2 b7 b6 b5 b4 b3 b2 b1 b0 =
    let e : byte_of b7 b6 b5 b4 b3 b2 b1 b0 / 2 ^ 2 % 2 ≡ one b2 =
    omega (arith, one_below b7, one_below b6, one_below b5, one_below b4, one_below b3, one_below b2, one_below b1, one_below b0)
    in
    rw e (is_one b2)

pub bit_3 : (b7 b6 b5 b4 b3 b2 b1 b0 : Bool) → bit (byte_of b7 b6 b5 b4 b3 b2 b1 b0) 3 ≡ b3
bit_3 b7 b6 b5 b4 b3 b2 b1 b0 =
    let e : byte_of b7 b6 b5 b4 b3 b2 b1 b0 / 2 ^ 3 % 2 ≡ one b3 =
    omega (arith, one_below b7, one_below b6, one_below b5, one_below b4, one_below b3, one_below b2, one_below b1, one_below b0)
    in
    rw e (is_one b3)

pub bit_4 : (b7 b6 b5 b4 b3 b2 b1 b0 : Bool) → bit (byte_of b7 b6 b5 b4 b3 b2 b1 b0) 4 ≡ b4
bit_4 b7 b6 b5 b4 b3 b2 b1 b0 =
    let e : byte_of b7 b6 b5 b4 b3 b2 b1 b0 / 2 ^ 4 % 2 ≡ one b4 =
    omega (arith, one_below b7, one_below b6, one_below b5, one_below b4, one_below b3, one_below b2, one_below b1, one_below b0)
    in
    rw e (is_one b4)

pub bit_5 : (b7 b6 b5 b4 b3 b2 b1 b0 : Bool) → bit (byte_of b7 b6 b5 b4 b3 b2 b1 b0) 5 ≡ b5
bit_5 b7 b6 b5 b4 b3 b2 b1 b0 =
    let e : byte_of b7 b6 b5 b4 b3 b2 b1 b0 / 2 ^ 5 % 2 ≡ one b5 =
    omega (arith, one_below b7, one_below b6, one_below b5, one_below b4, one_below b3, one_below b2, one_below b1, one_below b0)
    in
    rw e (is_one b5)

pub bit_6 : (b7 b6 b5 b4 b3 b2 b1 b0 : Bool) → bit (byte_of b7 b6 b5 b4 b3 b2 b1 b0) 6 ≡ b6
bit_6 b7 b6 b5 b4 b3 b2 b1 b0 =
    let e : byte_of b7 b6 b5 b4 b3 b2 b1 b0 / 2 ^ 6 % 2 ≡ one b6 =
    omega (arith, one_below b7, one_below b6, one_below b5, one_below b4, one_below b3, one_below b2, one_below b1, one_below b0)
    in
    rw e (is_one b6)

pub bit_7 : (b7 b6 b5 b4 b3 b2 b1 b0 : Bool) → bit (byte_of b7 b6 b5 b4 b3 b2 b1 b0) 7 ≡ b7
bit_7 b7 b6 b5 b4 b3 b2 b1 b0 =
    let e : byte_of b7 b6 b5 b4 b3 b2 b1 b0 / 2 ^ 7 % 2 ≡ one b7 =
    omega (arith, one_below b7, one_below b6, one_below b5, one_below b4, one_below b3, one_below b2, one_below b1, one_below b0)
    in
    rw e (is_one b7)

-- the eight bits that a number has
pub record Bits (v : ℕ) (b7 b6 b5 b4 b3 b2 b1 b0 : Bool) : Type 0 where
  pub seven : bit v 7 ≡ b7
  pub six : bit v 6 ≡ b6
  pub five : bit v 5 ≡ b5
  pub four : bit v 4 ≡ b4
  pub three : bit v 3 ≡ b3
  pub two : bit v 2 ≡ b2
  pub one : bit v 1 ≡ b1
  pub zero : bit v 0 ≡ b0

pub bits : (b7 b6 b5 b4 b3 b2 b1 b0 : Bool) → Bits (byte_of b7 b6 b5 b4 b3 b2 b1 b0) b7 b6 b5 b4 b3 b2 b1 b0
bits b7 b6 b5 b4 b3 b2 b1 b0 =
    record {
      seven = bit_7 b7 b6 b5 b4 b3 b2 b1 b0;
      six = bit_6 b7 b6 b5 b4 b3 b2 b1 b0;
      five = bit_5 b7 b6 b5 b4 b3 b2 b1 b0;
      four = bit_4 b7 b6 b5 b4 b3 b2 b1 b0;
      three = bit_3 b7 b6 b5 b4 b3 b2 b1 b0;
      two = bit_2 b7 b6 b5 b4 b3 b2 b1 b0;
      one = bit_1 b7 b6 b5 b4 b3 b2 b1 b0;
      zero = bit_0 b7 b6 b5 b4 b3 b2 b1 b0;
    }
