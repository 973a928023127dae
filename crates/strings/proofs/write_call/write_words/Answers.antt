-- The words written to an image, between a chip that is laid out and one that is taken up.
use mathlib.Core.Path.{◌≡◌, sym, ◌∙◌}
use mathlib.Core.Bool.{true}
use lib.ListN.{length}
use Rattle.words.specs.Calls.{writable}
use Rattle.strings.proofs.Fits.{writable_length, writable_room}
use Rattle.strings.proofs.ByValue.{entered_tidy}
use Rattle.strings.proofs.WriteCall.{other_sizes, image_written_lem, all_written}
use Rattle.strings.proofs.write_call.write_words.Goals as goal
use Rattle.strings.proofs.write_call.write_words.Goals.{Else-not-is_writable}

-- the buffers fit
fits : (c : Else-not-is_writable) → let a = c.args in writable (length a.bytes.now) a.words (length a.out.now) ≡ true
fits c = sym c.is_writable.ensures ∙ c.if-not-is_writable.false

pub returns-then-not-is_writable : goal.returns-then-not-is_writable
returns-then-not-is_writable c =
    let a = c.args in
    other_sizes c.tidied-chip.ensures a.bytes.now a.words a.out.now
    (sym c.is_writable.ensures ∙ c.if-not-is_writable.true)

pub store-requires : goal.store-requires
store-requires c = entered_tidy c.tidied-chip.ensures

pub written_over-r-requires : goal.written_over-r-requires
written_over-r-requires c =
    let a = c.args in
    let bytes = length a.bytes.now in
    let room = length a.out.now in
    record { image = c.store.ensures.sound; bytes_len = writable_length bytes a.words room (fits (goal.at.written_over-r-requires c).Else-not-is_writable); words_in_bounds = writable_room bytes a.words room (fits (goal.at.written_over-r-requires c).Else-not-is_writable) }

pub load-requires : goal.load-requires
load-requires c =
    let a = c.args in
    image_written_lem c.tidied-chip.ensures a.bytes.now a.words a.out.now c.store.ensures c.written_over-r.ensures

pub returns : goal.returns
returns c =
    let a = c.args in
    all_written c.tidied-chip.ensures a.bytes.now a.words a.out.now c.store.ensures c.written_over-r.ensures (fits (goal.at.returns c).Else-not-is_writable)
    c.load.ensures
