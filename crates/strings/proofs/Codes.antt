-- Whether a code is that of a refusal, as it is compared.
use mathlib.Core.Path.{◌≡◌, refl}
use mathlib.Core.Bool.{Bool, true, false, not}
use denote.Enum.Bare.{sameb}
use Rattle.rules.specs.contracts.codes.Code.{the_type}
use Rattle.rules.specs.declared.codes.Code.{Code}
use Rattle.rules.specs.declared.codes.Code.TheVariants.{Done, Malformed, Absent, Shut, NoRoom, NoBytes, BeyondLimit, TestValue}
use Rattle.rules.specs.Codes.{number_of}

pub refused : (c : Code) (r : Bool) → r ≡ not (sameb the_type c Done) → r ≡ true → number_of c ≡ 0 → ⊥
refused Done r e t z = cc
refused Malformed r e t z = cc
refused Absent r e t z = cc
refused Shut r e t z = cc
refused NoRoom r e t z = cc
refused NoBytes r e t z = cc
refused BeyondLimit r e t z = cc
refused TestValue r e t z = cc

pub accepted : (c : Code) (r : Bool) → r ≡ not (sameb the_type c Done) → r ≡ false → number_of c ≡ 0
accepted Done r e t = refl
accepted Malformed r e t = cc
accepted Absent r e t = cc
accepted Shut r e t = cc
accepted NoRoom r e t = cc
accepted NoBytes r e t = cc
accepted BeyondLimit r e t = cc
accepted TestValue r e t = cc
