-- The words read from an image, between a chip that is laid out and one that is taken up.
use mathlib.Core.Path.{◌≡◌, sym, ◌∙◌}
use mathlib.Core.Bool.{true}
use lib.ListN.{length}
use Rattle.words.specs.Calls.{readable}
use Rattle.strings.proofs.Fits.{readable_length}
use Rattle.strings.proofs.ByValue.{entered_tidy}
use Rattle.strings.proofs.ReadCall.{other_size, image_read, all_read}
use Rattle.strings.proofs.read_call.read_words.Goals as goal
use Rattle.strings.proofs.read_call.read_words.Goals.{Else-not-is_readable}

-- the buffer fits
fits : (c : Else-not-is_readable) → readable (length c.args.out.now) c.args.words ≡ true
fits c = sym c.is_readable.ensures ∙ c.if-not-is_readable.false

pub returns-then-not-is_readable : goal.returns-then-not-is_readable
returns-then-not-is_readable c =
    let a = c.args in
    other_size c.tidied-chip.ensures a.words a.out.now
    (sym c.is_readable.ensures ∙ c.if-not-is_readable.true)

pub store-requires : goal.store-requires
store-requires c = entered_tidy c.tidied-chip.ensures

pub fetched_over-r-requires : goal.fetched_over-r-requires
fetched_over-r-requires c =
    let a = c.args in
    record { image = c.store.ensures.sound; out_len = readable_length (length a.out.now) a.words (fits (goal.at.fetched_over-r-requires c).Else-not-is_readable) }

pub load-requires : goal.load-requires
load-requires c =
    let a = c.args in
    image_read c.tidied-chip.ensures a.words a.out.now c.store.ensures c.fetched_over-r.ensures

pub returns : goal.returns
returns c =
    let a = c.args in
    all_read c.tidied-chip.ensures a.words a.out.now c.store.ensures c.fetched_over-r.ensures (fits (goal.at.returns c).Else-not-is_readable) c.load.ensures
