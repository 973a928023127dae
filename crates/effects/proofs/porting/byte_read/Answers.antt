use mathlib.Core.Path.{refl, ap, ◌∙◌}
use native.Mathlib.Omega.{arith}
use Rattle.std.proofs.lemmas.Bool.Decides.{nat_tests}
use Rattle.rules.specs.declared.codes.Code.TheVariants.{Shut, NoBytes}
use Rattle.image.specs.Image.{image_of, state_at}
use Rattle.image.proofs.AtPlaces.{at_first}
use Rattle.effects.proofs.Coding.{byte_read_tests, is_shut, is_short, is_open}
use Rattle.effects.proofs.Endings.{is_found, is_passed}
use Rattle.effects.proofs.ReadLaws.{read_refused, unheld_image, read_acts}
use Rattle.effects.proofs.ReadParts.{port_left, port_value, unaccessed, unacked}
use Rattle.effects.proofs.porting.byte_read.Goals as goal

pub returns-in_err-check : goal.returns-in_err-check
returns-in_err-check c =
    let f = is_found _ _ _ c.check.ensures c.in_err-check.was c.from_residual.ensures.1 in
    read_refused c.requires 0x16 Shut (is_shut (byte_read_tests c.requires) c.shut_to.ensures f.0) refl f.1

pub returns-in_err-check-2 : goal.returns-in_err-check-2
returns-in_err-check-2 c =
    let o = is_passed _ _ _ c.check.ensures c.in_ok-check.was in
    let f = is_found _ _ _ c.check-2.ensures c.in_err-check-2.was c.from_residual-in_err-check-2.ensures.1 in
    read_refused c.requires 0x16 NoBytes (is_short (byte_read_tests c.requires) c.shut_to.ensures o refl f.0) refl f.1

pub host_popped-requires : goal.host_popped-requires
host_popped-requires c =
    let held = is_passed _ _ _ c.check-2.ensures c.in_ok-check-2.was in
    record { image = c.requires; k_bound = grind (arith, nat_tests, held) }

pub done-requires : goal.done-requires
done-requires c =
    let o = is_passed _ _ _ c.check.ensures c.in_ok-check.was in
    let d = is_open (byte_read_tests c.requires) c.shut_to.ensures o refl (is_passed _ _ _ c.check-2.ensures c.in_ok-check-2.was) in
    unheld_image c.requires 0x16 (omega arith) d (c.host_popped.ensures ∙ ap image_of (port_left (state_at c.args.m.now)))

pub returns : goal.returns
returns c =
    let m = c.args.m.now in
    let s = state_at m in
    let o = is_passed _ _ _ c.check.ensures c.in_ok-check.was in
    let d = is_open (byte_read_tests c.requires) c.shut_to.ensures o refl (is_passed _ _ _ c.check-2.ensures c.in_ok-check-2.was) in
    read_acts c.requires 0x16 (omega arith) d (c.host_popped.ensures ∙ ap image_of (port_left s)) (unaccessed s 0x16 refl) (unacked s 0x16 refl)
    c.done.ensures.m_after (c.from.ensures ∙ at_first m c.requires ∙ port_value s) c.done.ensures.value
