use mathlib.Core.Path.{◌≡◌, refl}
use mathlib.Core.Bool.{false}
use native.Mathlib.Omega.{arith}
use Rattle.std.proofs.lemmas.Bool.Decides.{nat_tests}
use Rattle.rules.specs.Codes.{refused_value}
use Rattle.rules.specs.declared.codes.Code.TheVariants.{TestValue}
use Rattle.rules.specs.declared.records.Event.TheVariants.{Write, WordRead}
use Rattle.image.specs.Image.{state_at}
use Rattle.effects.proofs.Effects.{test_leaves}
use Rattle.effects.proofs.Endings.{acts_refused, is_found, is_passed}
use Rattle.effects.proofs.StatesOfA.{start, flagged, acts}
use Rattle.effects.proofs.WriteCodes.{scsitest, test, test_refused}
use Rattle.effects.proofs.writing.test_written.Goals as goal

pub returns-in_err-check : goal.returns-in_err-check
unfolding refused_value
returns-in_err-check c =
    let v = c.args.value in
    let s = state_at c.args.m.now in
    let f = is_found _ TestValue (Write 0x0E v) c.check.ensures c.in_err-check.was c.from_residual.ensures.1 in
    let some : v ≡ 0 → ⊥ = λ h. grind (arith, nat_tests, f.0) in
    (acts_refused s (Write 0x0E v) TestValue (test_refused c.requires v scsitest some) refl c.requires.packed f.1, acts_refused s (Write 0x1E v) TestValue (test_refused c.requires v test some) refl c.requires.packed f.1)

pub returns : goal.returns
returns c =
    let f = is_passed _ _ _ c.check.ensures c.in_ok-check.was in
    let none : c.args.value ≡ 0 = grind (arith, nat_tests, f) in
    let i = flagged (start c.requires) false false WordRead c.done.ensures.m_after in
    (acts (test_leaves c.requires c.ranges.value.fits scsitest none) i c.done.ensures.value, acts (test_leaves c.requires c.ranges.value.fits test none) i c.done.ensures.value)
