use mathlib.Core.Path.{◌≡◌, sym, ◌∙◌}
use mathlib.Core.Bool.{true}
use lib.ListN.{length}
use Rattle.words.specs.Calls.{writable}
use Rattle.strings.proofs.Fits.{writable_length, writable_room}
use Rattle.wordhost.proofs.OverWords.{not_written_lem, all_written}
use Rattle.wordhost.proofs.words_over.words_written.Goals as goal
use Rattle.wordhost.proofs.words_over.words_written.Goals.{Else-not-is_writable}

-- the buffers fit
fits : (c : Else-not-is_writable) → let a = c.args in writable (length a.bytes.now) a.words (length a.out.now) ≡ true
fits c = sym c.is_writable.ensures ∙ c.if-not-is_writable.false

pub returns-then-not-is_writable : goal.returns-then-not-is_writable
returns-then-not-is_writable c =
    let a = c.args in
    not_written_lem c.requires a.bytes.now a.words a.out.now
    (sym c.is_writable.ensures ∙ c.if-not-is_writable.true) c.not_done.ensures

pub written_over-requires : goal.written_over-requires
written_over-requires c =
    let a = c.args in
    let bytes = length a.bytes.now in
    let room = length a.out.now in
    record { image = c.requires; bytes_len = writable_length bytes a.words room (fits (goal.at.written_over-requires c).Else-not-is_writable); words_in_bounds = writable_room bytes a.words room (fits (goal.at.written_over-requires c).Else-not-is_writable) }

pub returns : goal.returns
returns c =
    let a = c.args in
    all_written c.requires a.bytes.now a.words a.out.now (fits (goal.at.returns c).Else-not-is_writable) c.written_over.ensures
