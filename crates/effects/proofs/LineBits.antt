-- The eighteen bits of a line event, byte by byte.
use Prim.Native.Nat.{ℕ, ◌+◌, ◌*◌, ◌/◌, ◌%◌, ◌^◌, ◌<◌}
use mathlib.Core.Path.{◌≡◌}
use native.Mathlib.Omega.{arith}
use Rattle.rules.specs.Numbers.{bit, one, byte_of}
use Rattle.rules.specs.Records.{lines_of, payload_of}
use Rattle.image.specs.Image.{upper_byte, control_byte}
use lib.Bits.{bit_and, bit_or, and_mask}
use Rattle.reads.proofs.LatchByte.{one_bit_lem, six}
use Rattle.laws.proofs.Bits.{joined}

-- each bit above those below it
top_7 : (v : ℕ) → v % 256 ≡ one (bit v 7) * 128 + v % 128
top_7 v = rw (one_bit_lem (v / 2 ^ 7 % 2) (omega arith)) (omega arith)

top_6 : (v : ℕ) → v % 128 ≡ one (bit v 6) * 64 + v % 64
top_6 v = rw (one_bit_lem (v / 2 ^ 6 % 2) (omega arith)) (omega arith)

eight : (v : ℕ) → v % 256 ≡ byte_of (bit v 7) (bit v 6) (bit v 5) (bit v 4) (bit v 3) (bit v 2) (bit v 1) (bit v 0)
eight v = omega (arith, top_7 v, top_6 v, six v)

module _ (h m l : ℕ) (i : m < 256) (j : l < 256) where
  pub line_byte : bit_or (bit_and h 3 * 64 % 256) (m / 4) ≡ (lines_of (payload_of h m l)).byte
  unfolding lines_of
  line_byte = omega (arith, joined 8 6 (m / 4) (and_mask h 2) (omega arith) (omega arith))

  pub line_upper : bit_and m 3 ≡ upper_byte (lines_of (payload_of h m l))
  unfolding lines_of
  line_upper = rw (and_mask m 2, one_bit_lem (payload_of h m l / 2 ^ 9 % 2) (omega arith), one_bit_lem (payload_of h m l / 2 ^ 8 % 2) (omega arith)) (omega arith)

  pub line_control : l ≡ control_byte (lines_of (payload_of h m l))
  unfolding lines_of
  line_control = omega (arith, eight (payload_of h m l))
