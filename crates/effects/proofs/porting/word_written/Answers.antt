use mathlib.Core.Path.{refl}
use mathlib.Core.Bool.{false}
use native.Mathlib.Omega.{arith}
use Rattle.std.proofs.lemmas.Bool.Decides.{nat_tests}
use Rattle.rules.specs.Events.{ticks_of}
use Rattle.rules.specs.Reads.{value_read}
use Rattle.rules.specs.declared.codes.Code.TheVariants.{Shut, NoRoom}
use Rattle.rules.specs.declared.records.Event.TheVariants.{WordWrite, WordRead}
use Rattle.image.specs.Image.{state_at}
use Rattle.effects.proofs.Coding.{word_write_tests, is_shut, is_full, is_open}
use Rattle.effects.proofs.Driven.{leaves_word}
use Rattle.effects.proofs.Endings.{acts_refused, is_found, is_passed}
use Rattle.effects.proofs.StatesOfA.{start, there, carried, flagged, acts_with}
use Rattle.effects.proofs.porting.word_written.Goals as goal

pub returns-in_err-check : goal.returns-in_err-check
returns-in_err-check c =
    let w = c.args.word in
    let f = is_found _ _ _ c.check.ensures c.in_err-check.was c.from_residual.ensures.1 in
    acts_refused (state_at c.args.m.now) (WordWrite w) Shut (is_shut (word_write_tests c.requires w) c.shut_to.ensures f.0) refl c.requires.packed f.1

pub returns-in_err-check-2 : goal.returns-in_err-check-2
returns-in_err-check-2 c =
    let w = c.args.word in
    let o = is_passed _ _ _ c.check.ensures c.in_ok-check.was in
    let f = is_found _ _ _ c.check-2.ensures c.in_err-check-2.was c.from_residual-in_err-check-2.ensures.1 in
    acts_refused (state_at c.args.m.now) (WordWrite w) NoRoom (is_full (word_write_tests c.requires w) c.shut_to.ensures o f.0) refl c.requires.packed f.1

pub word_pushed-requires : goal.word_pushed-requires
word_pushed-requires c =
    let room = is_passed _ _ _ c.check-2.ensures c.in_ok-check-2.was in
    record { image = c.requires; host_count_place_bound = grind (arith, nat_tests, room) }

pub done-requires : goal.done-requires
done-requires c =
    let w = c.args.word in
    let o = is_passed _ _ _ c.check.ensures c.in_ok-check.was in
    let d = is_open (word_write_tests c.requires w) c.shut_to.ensures o (is_passed _ _ _ c.check-2.ensures c.in_ok-check-2.was) refl in
    there (carried (leaves_word c.requires c.ranges.word.fits d) (start c.requires) c.word_pushed.ensures)

pub returns : goal.returns
unfolding value_read ticks_of
returns c =
    let w = c.args.word in
    let o = is_passed _ _ _ c.check.ensures c.in_ok-check.was in
    let d = is_open (word_write_tests c.requires w) c.shut_to.ensures o (is_passed _ _ _ c.check-2.ensures c.in_ok-check-2.was) refl in
    let l = leaves_word c.requires c.ranges.word.fits d in
    acts_with l refl refl (flagged (carried l (start c.requires) c.word_pushed.ensures) false false WordRead c.done.ensures.m_after) c.done.ensures.value
