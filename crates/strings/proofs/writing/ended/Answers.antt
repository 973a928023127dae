use borrow.Author.Tests.{lt-ltb, le-ltb}
use Rattle.strings.proofs.writing.ended.Goals as goal

pub returns-then-done-words : goal.returns-then-done-words
returns-then-done-words c = rw (lt-ltb c.args.done c.args.words c.if-done-words.true)

pub returns-else-done-words : goal.returns-else-done-words
returns-else-done-words c = rw (le-ltb c.args.done c.args.words c.if-done-words.false)
