-- R-3: the two calls. "Refusals: a data buffer not of two bytes a word, or in a write call a sent buffer too small, is code 1, before
-- any word, and nothing is written."
use Rattle.std.specs.Prelude.{ℕ, ◌*◌, Bool, ◌&&◌, cond, List, ◌++◌, eqb, leb, length, drop}
use Rattle.rules.specs.State.{State}
use Rattle.rules.specs.declared.codes.Code.{Code}
use Rattle.rules.specs.declared.codes.Code.TheVariants.{Malformed}
use Rattle.words.specs.Words.{Strung, strung, word_writes, word_reads, word_bytes}

-- what a write call leaves and reports: the state, the words done, the number of bytes sent, the refusal that stopped it, and the
-- buffer for the sent bytes
pub record Wrote : Type 0 where
  pub state : State
  pub done : ℕ
  pub count : ℕ
  pub code : Code
  pub buffer : List ℕ

-- what a read call leaves and reports, with the buffer for the bytes read
pub record Fetched : Type 0 where
  pub state : State
  pub done : ℕ
  pub code : Code
  pub buffer : List ℕ

-- the buffers of so many bytes fit a write of so many words, or a read
unfoldable pub readable : ℕ → ℕ → Bool
readable bytes words = eqb bytes (2 * words)

unfoldable pub writable : ℕ → ℕ → ℕ → Bool
writable bytes words room = readable bytes words && leb (8 * words) room

-- what comes first in a buffer whose rest "keeps its old content"
abbrev pub stored_in : List ℕ → List ℕ → List ℕ
stored_in bytes buffer = bytes ++ drop (length bytes) buffer

unfoldable pub wrote_of : Strung → List ℕ → Wrote
wrote_of r buffer =
    record { state = r.state; done = r.done; count = length r.sent; code = r.code; buffer = stored_in r.sent buffer }

unfoldable pub fetched_of : Strung → List ℕ → Fetched
fetched_of r buffer =
    record { state = r.state; done = r.done; code = r.code; buffer = stored_in (word_bytes r.values) buffer }

unfoldable pub not_written : State → List ℕ → Wrote
not_written s buffer = record { state = s; done = 0; count = 0; code = Malformed; buffer = buffer }

unfoldable pub not_fetched : State → List ℕ → Fetched
not_fetched s buffer = record { state = s; done = 0; code = Malformed; buffer = buffer }

-- THE WRITE CALL: of so many words from a run of bytes, the sent bytes to a buffer
unfoldable pub written_words : State → List ℕ → ℕ → List ℕ → Wrote
written_words s bytes words buffer =
    cond (writable (length bytes) words (length buffer)) (wrote_of (strung s (word_writes words bytes)) buffer)
    (not_written s buffer)

-- THE READ CALL: of so many words to a buffer
unfoldable pub fetched_words : State → ℕ → List ℕ → Fetched
fetched_words s words buffer =
    cond (readable (length buffer) words) (fetched_of (strung s (word_reads words)) buffer) (not_fetched s buffer)
