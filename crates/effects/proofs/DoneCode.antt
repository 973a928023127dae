-- The one code that is no refusal.
use mathlib.Core.Path.{◌≡◌, refl}
use mathlib.Core.Bool.{true}
use Rattle.rules.specs.Codes.{is_done}
use Rattle.rules.specs.declared.codes.Code.{Code}
use Rattle.rules.specs.declared.codes.Code.TheVariants.{Done, Malformed, Absent, Shut, NoRoom, NoBytes, BeyondLimit, TestValue}
use Rattle.rules.proofs.Logic.{never}

pub code_done : (code : Code) → is_done code ≡ true → code ≡ Done
code_done Done h = refl
code_done Malformed h = absurd (never h)
code_done Absent h = absurd (never h)
code_done Shut h = absurd (never h)
code_done NoRoom h = absurd (never h)
code_done NoBytes h = absurd (never h)
code_done BeyondLimit h = absurd (never h)
code_done TestValue h = absurd (never h)
