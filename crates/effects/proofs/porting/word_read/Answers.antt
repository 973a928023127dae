use mathlib.Core.Path.{refl}
use mathlib.Core.Bool.{false}
use native.Mathlib.Omega.{arith}
use Rattle.std.proofs.lemmas.Bool.Decides.{nat_tests}
use Rattle.rules.specs.Events.{ticks_of}
use Rattle.rules.specs.Reads.{value_read}
use Rattle.rules.specs.declared.codes.Code.TheVariants.{Shut, NoBytes}
use Rattle.rules.specs.declared.records.Event.TheVariants.{WordRead}
use Rattle.image.specs.Image.{state_at}
use Rattle.effects.proofs.Coding.{word_read_tests, is_shut, is_short, is_open}
use Rattle.effects.proofs.Driven.{leaves_off}
use Rattle.effects.proofs.Endings.{acts_refused, is_found, is_passed}
use Rattle.effects.proofs.StatesOfA.{start, there, carried, flagged, acts_with}
use Rattle.effects.proofs.porting.word_read.Goals as goal

pub returns-in_err-check : goal.returns-in_err-check
returns-in_err-check c =
    let f = is_found _ _ _ c.check.ensures c.in_err-check.was c.from_residual.ensures.1 in
    acts_refused (state_at c.args.m.now) WordRead Shut (is_shut (word_read_tests c.requires) c.shut_to.ensures f.0) refl c.requires.packed f.1

pub returns-in_err-check-2 : goal.returns-in_err-check-2
returns-in_err-check-2 c =
    let o = is_passed _ _ _ c.check.ensures c.in_ok-check.was in
    let f = is_found _ _ _ c.check-2.ensures c.in_err-check-2.was c.from_residual-in_err-check-2.ensures.1 in
    acts_refused (state_at c.args.m.now) WordRead NoBytes (is_short (word_read_tests c.requires) c.shut_to.ensures o refl f.0) refl c.requires.packed f.1

pub host_popped-requires : goal.host_popped-requires
host_popped-requires c =
    let held = is_passed _ _ _ c.check-2.ensures c.in_ok-check-2.was in
    record { image = c.requires; k_bound = grind (arith, nat_tests, held) }

pub done-requires : goal.done-requires
done-requires c =
    let o = is_passed _ _ _ c.check.ensures c.in_ok-check.was in
    let d = is_open (word_read_tests c.requires) c.shut_to.ensures o refl (is_passed _ _ _ c.check-2.ensures c.in_ok-check-2.was) in
    there (carried (leaves_off c.requires d) (start c.requires) c.host_popped.ensures)

pub returns : goal.returns
unfolding value_read ticks_of
returns c =
    let o = is_passed _ _ _ c.check.ensures c.in_ok-check.was in
    let d = is_open (word_read_tests c.requires) c.shut_to.ensures o refl (is_passed _ _ _ c.check-2.ensures c.in_ok-check-2.was) in
    let w = leaves_off c.requires d in
    acts_with w c.oldest_word-value.ensures refl (flagged (carried w (start c.requires) c.host_popped.ensures) false false WordRead c.done.ensures.m_after) c.done.ensures.value
