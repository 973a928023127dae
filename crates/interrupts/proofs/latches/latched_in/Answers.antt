use mathlib.Core.Path.{ap, ◌∙◌}
use mathlib.Core.Bool.{not}
use lib.ListN.{get_or}
use Rattle.rules.specs.Registers.{simode0_of, simode1_of}
use Rattle.image.specs.Image.{status_of, latches_of}
use Rattle.image.specs.Layout.{latches_place, simode0_place, simode1_place}
use Rattle.image.proofs.AtPlaces.{latches_at}
use Rattle.interrupts.proofs.StatusAndLatchBytes.{latches_left}
use Rattle.interrupts.proofs.Steady.{latches_masked, latches_same, latches_from_at, latches_made}
use Rattle.interrupts.proofs.latches.latched_in.Goals as goal

pub returns-then-eq-status : goal.returns-then-eq-status
returns-then-eq-status c =
    let a = c.args in
    let m = a.m.now in
    let b = a.before in
    let now = c.enables_in-now.ensures in
    latches_left m c.requires _ (latches_at m ∙ latches_same b.simode0 (get_or m simode0_place 0) b.simode1 (get_or m simode1_place 0) a.status a.raised (latches_of (get_or m latches_place 0)) (rw (← now.simode0_value, ← now.simode1_value, ← c.eq.ensures) c.if-eq-status.true) ∙ latches_from_at m b.simode0 b.simode1 a.status a.raised)

pub returns-then-not-any_enable : goal.returns-then-not-any_enable
returns-then-not-any_enable c =
    let a = c.args in
    let m = a.m.now in
    let b = a.before in
    let now = c.enables_in-now.ensures in
    latches_left m c.requires _ (latches_at m ∙ latches_masked (simode0_of b.simode0) (simode0_of (get_or m simode0_place 0)) (simode1_of b.simode1) (simode1_of (get_or m simode1_place 0)) (status_of a.status) (status_of a.raised) (latches_of (get_or m latches_place 0)) (rw (← now.simode0_value, ← now.simode1_value, ← c.any_enable.ensures) (ap not c.if-not-any_enable.true)) ∙ latches_from_at m b.simode0 b.simode1 a.status a.raised)

pub returns : goal.returns
returns c =
    let a = c.args in
    let now = c.enables_in-now.ensures in
    latches_made a.m.now a.before.simode0 a.before.simode1 a.status a.raised {k = c.latches_from-k.result} (rw (← now.simode0_value, ← now.simode1_value, ← c.status_of.ensures, ← c.status_of-2.ensures, ← c.latches_of.ensures) c.latches_from-k.ensures) c.latches_put.ensures
