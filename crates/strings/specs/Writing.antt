-- The write call of a chip by value.
use Rattle.std.specs.Prelude.{ℕ, ◌≡◌, List}
use Rattle.rules.specs.Chips.{view, chip_of}
use Rattle.rules.specs.declared.chip.Chip.{Chip}
use Rattle.words.specs.Calls.{written_words}
use Rattle.strings.specs.declared.Written.{Written}

-- THE WRITE CALL of a chip by value: what it returns, and what it leaves in the lent buffer for the sent bytes
pub record IsWriteCall (c : Chip) (bytes : List ℕ) (words : ℕ) (before out : List ℕ) (r : Written) : Type 0 where
  pub returns :
      r
      ≡ record {
        chip = chip_of (written_words (view c) bytes words before).state;
        done = (written_words (view c) bytes words before).done;
        sent = (written_words (view c) bytes words before).count;
        code = (written_words (view c) bytes words before).code;
      }
  pub buffer : out ≡ (written_words (view c) bytes words before).buffer
