-- What a block of words read does, and the read call of a chip by value.
use Rattle.std.specs.Prelude.{ℕ, ◌+◌, ◌≡◌, List, ◌++◌, take, drop}
use Rattle.rules.specs.State.{State}
use Rattle.rules.specs.Chips.{view, chip_of}
use Rattle.rules.specs.declared.chip.Chip.{Chip}
use Rattle.image.specs.Image.{image_of}
use Rattle.words.specs.Calls.{fetched_words}
use Rattle.words.specs.Blocks.{block_left}
use Rattle.strings.specs.declared.Fetched.{Fetched}

-- the n oldest bytes of the host FIFO, at a place of the buffer, and what settling leaves without them
pub record IsBlockFetched (s : State) (n at : ℕ) (before m out : List ℕ) : Type 0 where
  pub image : m ≡ image_of (block_left s (drop n s.transfer.host))
  pub buffer : out ≡ (take at before ++ take n s.transfer.host) ++ drop (at + n) before

-- THE READ CALL of a chip by value: what it returns, and what it leaves in the lent buffer
pub record IsReadCall (c : Chip) (words : ℕ) (before out : List ℕ) (r : Fetched) : Type 0 where
  pub returns :
      r
      ≡ record {
        chip = chip_of (fetched_words (view c) words before).state;
        done = (fetched_words (view c) words before).done;
        code = (fetched_words (view c) words before).code;
      }
  pub buffer : out ≡ (fetched_words (view c) words before).buffer
