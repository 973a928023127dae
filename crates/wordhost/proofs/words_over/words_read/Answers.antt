use mathlib.Core.Path.{◌≡◌, sym, ◌∙◌}
use mathlib.Core.Bool.{true}
use lib.ListN.{length}
use Rattle.words.specs.Calls.{readable}
use Rattle.strings.proofs.Fits.{readable_length}
use Rattle.wordhost.proofs.OverWords.{not_read, all_read}
use Rattle.wordhost.proofs.words_over.words_read.Goals as goal
use Rattle.wordhost.proofs.words_over.words_read.Goals.{Else-not-is_readable}

-- the buffer fits
fits : (c : Else-not-is_readable) → readable (length c.args.out.now) c.args.words ≡ true
fits c = sym c.is_readable.ensures ∙ c.if-not-is_readable.false

pub returns-then-not-is_readable : goal.returns-then-not-is_readable
returns-then-not-is_readable c =
    let a = c.args in
    not_read c.requires a.words a.out.now
    (sym c.is_readable.ensures ∙ c.if-not-is_readable.true) c.not_done.ensures

pub fetched_over-requires : goal.fetched_over-requires
fetched_over-requires c =
    let a = c.args in
    record { image = c.requires; out_len = readable_length (length a.out.now) a.words (fits (goal.at.fetched_over-requires c).Else-not-is_readable) }

pub returns : goal.returns
returns c =
    let a = c.args in
    all_read c.requires a.words a.out.now (fits (goal.at.returns c).Else-not-is_readable) c.fetched_over.ensures
