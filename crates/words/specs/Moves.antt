-- R-12: "A ceiling for a string transfer, over R-3's calls. Moves are those that the single word events of the call report, summed."
use Rattle.std.specs.Prelude.{ℕ, ◌+◌, ◌*◌, cond, List, [], ◌∷◌, length}
use Rattle.rules.specs.State.{State}
use Rattle.rules.specs.Codes.{is_refusal}
use Rattle.rules.specs.Answers.{Stepped}
use Rattle.rules.specs.Step.{step}
use Rattle.words.specs.Words.{word_writes, word_reads}
use Rattle.words.specs.Calls.{readable, writable}

-- the moves of an event that is done and of those after it; a refusal makes none, and ends them
unfoldable pub moves_then : Stepped → ℕ → ℕ
moves_then r rest = cond (is_refusal r.code) 0 (r.moves + rest)

-- THE MOVES OF RECORDS, one after another up to the first refusal
unfoldable pub moves_until : State → List (List ℕ) → ℕ
moves_until s [] = 0
moves_until s (bytes ∷ more) = moves_then (step s bytes) (moves_until (step s bytes).state more)

-- THE MOVES OF A WRITE CALL: of so many words from a run of bytes, with so much room for the sent bytes; where the buffers do not
-- fit there is no word, and so no move
unfoldable pub write_moves : State → List ℕ → ℕ → ℕ → ℕ
write_moves s bytes words room = cond (writable (length bytes) words room) (moves_until s (word_writes words bytes)) 0

-- THE MOVES OF A READ CALL: of so many words to a buffer of so many bytes
unfoldable pub read_moves : State → ℕ → ℕ → ℕ
read_moves s words room = cond (readable room words) (moves_until s (word_reads words)) 0

-- "A write call: at most the host FIFO's count before it plus two for each word done"
abbrev pub write_ceiling : State → ℕ → ℕ
write_ceiling s done = length s.transfer.host + 2 * done

-- "and never above 16 times the words done"
abbrev pub word_ceiling : ℕ → ℕ
word_ceiling done = 16 * done

-- "from chips at rest never more than two moves for each word done"
abbrev pub rest_ceiling : ℕ → ℕ
rest_ceiling done = 2 * done

-- "A read call: at most 9"
abbrev pub read_ceiling : ℕ
read_ceiling = 9
