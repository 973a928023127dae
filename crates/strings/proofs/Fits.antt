-- The two calls by their buffers: those that fit, and all others.
use Prim.Native.Nat.{ℕ, ◌*◌, ◌≤◌}
use mathlib.Core.Path.{◌≡◌}
use mathlib.Core.Bool.{true, false}
use mathlib.Core.List.{List}
use lib.Dec.{leb}
use lib.ListN.{length}
use borrow.Author.Tests.{eqb-true, leb-true}
use Rattle.rules.specs.State.{State}
use Rattle.rules.proofs.Logic.{left_true, right_true}
use Rattle.words.specs.Words.{strung, word_writes, word_reads}
use Rattle.words.specs.Calls.{readable, writable, wrote_of, fetched_of, not_written, not_fetched, written_words, fetched_words}

-- two bytes a word, and eight for the sent bytes
pub readable_length : (n words : ℕ) → readable n words ≡ true → n ≡ 2 * words
unfolding readable
readable_length n words e = eqb-true n (2 * words) e

module _ (n words room : ℕ) (e : writable n words room ≡ true) where
  pub writable_length : n ≡ 2 * words
  unfolding writable
  writable_length = readable_length n words (left_true (readable n words) (leb (8 * words) room) e)

  pub writable_room : 8 * words ≤ room
  unfolding writable
  writable_room = leb-true (8 * words) room (right_true (readable n words) (leb (8 * words) room) e)

-- the write call
module _ (s : State) (bytes : List ℕ) (words : ℕ) (before : List ℕ) where
  pub write_fits : writable (length bytes) words (length before) ≡ true → written_words s bytes words before ≡ wrote_of (strung s (word_writes words bytes)) before
  unfolding written_words
  write_fits e = rw e

  pub write_misfits : writable (length bytes) words (length before) ≡ false → written_words s bytes words before ≡ not_written s before
  unfolding written_words
  write_misfits e = rw e

-- the read call
module _ (s : State) (words : ℕ) (before : List ℕ) where
  pub read_fits : readable (length before) words ≡ true → fetched_words s words before ≡ fetched_of (strung s (word_reads words)) before
  unfolding fetched_words
  read_fits e = rw e

  pub read_misfits : readable (length before) words ≡ false → fetched_words s words before ≡ not_fetched s before
  unfolding fetched_words
  read_misfits e = rw e
