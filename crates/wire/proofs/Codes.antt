-- A code has three bits.
use Prim.Native.Nat.{◌<◌}
use native.Mathlib.Omega.{arith}
use Rattle.rules.specs.Codes.{number_of}
use Rattle.rules.specs.declared.codes.Code.{Code}
use Rattle.rules.specs.declared.codes.Code.TheVariants.{Done, Malformed, Absent, Shut, NoRoom, NoBytes, BeyondLimit, TestValue}

pub number_below : (c : Code) → number_of c < 8
number_below Done = omega arith
number_below Malformed = omega arith
number_below Absent = omega arith
number_below Shut = omega arith
number_below NoRoom = omega arith
number_below NoBytes = omega arith
number_below BeyondLimit = omega arith
number_below TestValue = omega arith
