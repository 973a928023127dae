-- What a string call on an image leaves and hands back, and what a block of words does.
use Rattle.std.specs.Prelude.{ℕ, ◌≡◌, List, length}
use Rattle.rules.specs.State.{State}
use Rattle.rules.specs.Ranges.{Bytes}
use Rattle.image.specs.Image.{image_of}
use Rattle.fifos.specs.Fifos.{sent_of}
use Rattle.rules.specs.declared.chip.Fifo.{Fifo}
use Rattle.words.specs.Words.{Strung, strung, word_writes, word_reads, word_bytes}
use Rattle.words.specs.Calls.{stored_in}
use Rattle.words.specs.Blocks.{block_settled, block_left}
use Rattle.strings.specs.declared.Passed.{Passed}

-- the host FIFO has become h: what settling leaves and sends
pub record IsBlock (s : State) (h m : List ℕ) (r : Fifo 8) : Type 0 where
  pub image : m ≡ image_of (block_left s h)
  pub sent : r ≡ sent_of (block_settled s h).sent

-- the records x: the image that they leave, how many were done, the refusal, and l in the buffer, its rest as it was
pub record IsPassed (x : Strung) (l before m out : List ℕ) (r : Passed) : Type 0 where
  pub image : m ≡ image_of x.state
  pub done : r.done ≡ x.done
  pub count : r.count ≡ length l
  pub code : r.code ≡ x.code
  pub buffer : out ≡ stored_in l before

-- words written: the bytes sent are stored
abbrev pub IsWritten : State → List ℕ → ℕ → List ℕ → List ℕ → List ℕ → Passed → Type 0
IsWritten s bytes words before m out r =
    IsPassed (strung s (word_writes words bytes)) (strung s (word_writes words bytes)).sent before m out r

-- words read: their bytes are stored
abbrev pub IsFetched : State → ℕ → List ℕ → List ℕ → List ℕ → Passed → Type 0
IsFetched s words before m out r =
    IsPassed (strung s (word_reads words)) (word_bytes (strung s (word_reads words)).values) before m out r

-- the first word, by the step; reading it tells that the run is one of bytes
pub record FirstWritten (s : State) (bytes before m out : List ℕ) (r : Passed) : Type 0 where
  pub known : Bytes bytes
  pub passed : IsWritten s bytes 1 before m out r
