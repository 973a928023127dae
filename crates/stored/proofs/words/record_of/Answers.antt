-- A text that is a record, and one that is none.
use Rattle.std.proofs.Common.{sym, ◌∙◌}
use Rattle.stored.specs.Words.{record_named}
use Rattle.stored.proofs.words.record_of.Goals as goal

pub returns-then-not-is_record : goal.returns-then-not-is_record
unfolding record_named
returns-then-not-is_record c = rw (sym c.is_record.ensures ∙ c.if-not-is_record.true)

pub returns : goal.returns
unfolding record_named
returns c =
    rw (sym c.is_record.ensures ∙ c.if-not-is_record.false, c.byte_at-4.ensures, c.byte_at-3.ensures, c.byte_at-2.ensures, c.byte_at.ensures)
