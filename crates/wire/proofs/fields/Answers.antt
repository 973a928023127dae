use Rattle.std.specs.Prelude.{None}
use mathlib.Core.Path.{◌≡◌}
use Prim.Native.Nat.{zero-le}
use borrow.Author.Tests.{le-ltb}
use Rattle.rules.specs.Records.{well_formed, fields_of}
use Rattle.laws.proofs.Tables.{in_rest}
use Rattle.wire.proofs.fields.Goals as goal

pub returns-in-0 : goal.returns-in-0
unfolding fields_of well_formed
returns-in-0 c = rw (c.in-0.is, c.well_if.ensures)

pub returns-in-1 : goal.returns-in-1
returns-in-1 c = rw c.in-1.is c.write_of.ensures

pub returns-in-2 : goal.returns-in-2
unfolding fields_of well_formed
returns-in-2 c = rw (c.in-2.is, c.well_if-in-2.ensures)

pub returns-in-3 : goal.returns-in-3
returns-in-3 c = rw c.in-3.is c.word_of.ensures

pub returns-in-4 : goal.returns-in-4
unfolding fields_of well_formed
returns-in-4 c = rw (c.in-4.is, c.well_if-in-4.ensures)

pub returns-in-5 : goal.returns-in-5
returns-in-5 c = rw c.in-5.is c.drive_of.ensures

pub returns-in-6 : goal.returns-in-6
unfolding fields_of well_formed
returns-in-6 c = rw (c.in-6.is, c.well_if-in-6.ensures)

pub returns-in_default : goal.returns-in_default
unfolding fields_of well_formed
returns-in_default c =
    let a = c.args in
    in_rest (λ k. None ≡ fields_of k a.offset a.p) a.kind 7 c.in_default.in_default-own.rest (λ m. rw (le-ltb a.p 0 zero-le))
