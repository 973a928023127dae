use mathlib.Core.Path.{refl}
use mathlib.Core.Bool.{false}
use native.Mathlib.Omega.{arith}
use Rattle.std.proofs.lemmas.Bool.Decides.{nat_tests}
use Rattle.rules.specs.declared.codes.Code.TheVariants.{Shut, NoRoom}
use Rattle.rules.specs.declared.records.Event.TheVariants.{Write, WordRead}
use Rattle.image.specs.Image.{state_at}
use Rattle.effects.proofs.Coding.{byte_write_tests, is_shut, is_full, is_open}
use Rattle.effects.proofs.Effects.{port_leaves}
use Rattle.effects.proofs.Endings.{acts_refused, is_found, is_passed}
use Rattle.effects.proofs.StatesOfA.{start, there, carried, flagged, acts}
use Rattle.effects.proofs.porting.byte_written.Goals as goal

pub returns-in_err-check : goal.returns-in_err-check
returns-in_err-check c =
    let v = c.args.value in
    let f = is_found _ _ _ c.check.ensures c.in_err-check.was c.from_residual.ensures.1 in
    acts_refused (state_at c.args.m.now) (Write 0x16 v) Shut (is_shut (byte_write_tests c.requires v) c.shut_to.ensures f.0) refl c.requires.packed f.1

pub returns-in_err-check-2 : goal.returns-in_err-check-2
returns-in_err-check-2 c =
    let v = c.args.value in
    let o = is_passed _ _ _ c.check.ensures c.in_ok-check.was in
    let f = is_found _ _ _ c.check-2.ensures c.in_err-check-2.was c.from_residual-in_err-check-2.ensures.1 in
    acts_refused (state_at c.args.m.now) (Write 0x16 v) NoRoom (is_full (byte_write_tests c.requires v) c.shut_to.ensures o f.0) refl c.requires.packed f.1

pub host_pushed-requires : goal.host_pushed-requires
host_pushed-requires c =
    let room = is_passed _ _ _ c.check-2.ensures c.in_ok-check-2.was in
    record { image = c.requires; host_count_place_bound = grind (arith, nat_tests, room) }

pub done-requires : goal.done-requires
done-requires c =
    let v = c.args.value in
    let o = is_passed _ _ _ c.check.ensures c.in_ok-check.was in
    let d = is_open (byte_write_tests c.requires v) c.shut_to.ensures o (is_passed _ _ _ c.check-2.ensures c.in_ok-check-2.was) refl in
    there (carried (port_leaves c.requires c.ranges.value.fits d) (start c.requires) c.host_pushed.ensures)

pub returns : goal.returns
returns c =
    let v = c.args.value in
    let o = is_passed _ _ _ c.check.ensures c.in_ok-check.was in
    let d = is_open (byte_write_tests c.requires v) c.shut_to.ensures o (is_passed _ _ _ c.check-2.ensures c.in_ok-check-2.was) refl in
    let l = port_leaves c.requires c.ranges.value.fits d in
    acts l (flagged (carried l (start c.requires) c.host_pushed.ensures) false false WordRead c.done.ensures.m_after) c.done.ensures.value
