-- R-12's bounds are reached: starts that reach each, computed, those from power reset with the records that reach them.
use Prim.Native.Nat.{ℕ, suc, ◌*◌, ◌≤◌}
use mathlib.Core.Path.{◌≡◌, refl, sym, ◌∙◌}
use mathlib.Core.Bool.{false, and-true}
use mathlib.Core.List.{List, [], ◌∷◌, ◌++◌}
use native.Mathlib.Omega.{arith}
use borrow.Author.Tests.{lt-ltb}
use lib.Dec.{ltb}
use lib.ListN.{length, length-replicate, replicate}
use Rattle.rules.specs.Rest.{AtRest}
use Rattle.rules.specs.Ranges.{InRange}
use Rattle.rules.specs.State.{State, power_reset}
use Rattle.rules.specs.Changed.{with_transfer}
use Rattle.rules.specs.Examples.{bytes_of}
use Rattle.rules.specs.Step.{after}
use Rattle.rules.proofs.Computes.{computes}
use Rattle.rules.proofs.Logic.{never}
use Rattle.rules.proofs.Ranges.{always_in_range}
use Rattle.words.specs.Words.{strung_none, stopped, one_done, one_then, strung, word_writes, word_reads}
use Rattle.words.specs.Calls.{readable, writable, wrote_of, fetched_of, not_written, not_fetched, written_words, fetched_words}
use Rattle.words.specs.Moves.{moves_then, moves_until, write_moves, read_moves, write_ceiling, word_ceiling, rest_ceiling, read_ceiling}

-- one name opens all that a string call is made of
unfoldable pub strings : ℕ
unfolding computes strung_none stopped one_done one_then strung readable writable wrote_of fetched_of not_written not_fetched written_words fetched_words moves_then moves_until write_moves read_moves
strings = 0

-- records, each written as one number
abbrev records : List ℕ → List (List ℕ)
records [] = []
records (n ∷ more) = bytes_of 4 n ∷ records more

-- the moves of a call and the words done, which a bound compares
pub record Tally : Type 0 where
  pub moves : ℕ
  pub done : ℕ

-- a write call of n words of 0, a read call of n words, their buffers as small as they may be
abbrev pub write_tally : State → ℕ → Tally
write_tally s n =
    record {
      moves = write_moves s (replicate (2 * n) 0) n (8 * n);
      done = (written_words s (replicate (2 * n) 0) n (replicate (8 * n) 0)).done;
    }

abbrev pub read_tally : State → ℕ → Tally
read_tally s n = record { moves = read_moves s n (2 * n); done = (fetched_words s n (replicate (2 * n) 0)).done }

-- READING, from power reset: 16 bits and WRITE, SCSIEN and DMAEN; 68 words fill both FIFOs; WRITE 0, IOEXP; then a REQ with IO, for
-- which the SCSI FIFO has no room
unfoldable pub both_full : State
both_full =
    after power_reset
    (records (0x32000088 ∷ 0x210000C0 ∷ []) ++ word_writes 68 [] ++ records (0x32000080 ∷ 0x23000040 ∷ 0xA0010446 ∷ []))

-- the host FIFO at 128, the SCSI FIFO at 8
pub both_full_lem : (length both_full.transfer.host ∷ length both_full.transfer.scsi ∷ []) ≡ 128 ∷ 8 ∷ []
unfolding strings both_full
both_full_lem = refl

-- NINE MOVES: the 8 bytes, and the one that came when there was room
pub nine_reached : read_tally both_full 5 ≡ record { moves = read_ceiling; done = 5 }
unfolding strings both_full
nine_reached = computed
  where
    computed : read_tally both_full 5 ≡ record { moves = 9; done = 5 }
    computed = refl

-- and by the definition, over the single word events
pub nine_by_events : moves_until both_full (word_reads 5) ≡ read_ceiling
unfolding strings both_full
nine_by_events = refl

-- WRITING AT REST, from power reset: 16 bits and WRITE, DMAEN; the SCSI FIFO takes 8 bytes, so four words make two moves each
unfoldable pub writing : State
writing = after power_reset (records (0x32000088 ∷ 0x21000040 ∷ []))

pub two_each_reached : write_tally writing 4 ≡ record { moves = rest_ceiling 4; done = 4 }
unfolding strings writing
two_each_reached = computed
  where
    computed : write_tally writing 4 ≡ record { moves = 8; done = 4 }
    computed = refl

-- WRITING NOT AT REST: SOFS 8, BSY seen, and a data path that no record leaves so: n bytes wait in the host FIFO while the SCSI FIFO
-- is empty, and 8 REQ are open
unfoldable pub asking : State
asking = after power_reset (records (0x32000088 ∷ 0x24000008 ∷ 0x210000C0 ∷ 0xA0000004 ∷ []))

unfoldable pub waiting : ℕ → State
waiting n = with_transfer (record { host = replicate n 0; scsi = []; counter = 0; offset = 8; ack = false; last = 0 }) asking

pub waiting_in_range : (n : ℕ) → n ≤ 128 → InRange (waiting n)
unfolding waiting asking
waiting_in_range n h =
    let i = always_in_range (records (0x32000088 ∷ 0x24000008 ∷ 0x210000C0 ∷ 0xA0000004 ∷ [])) in
    record {
      registers = i.registers;
      transfer = record { host = simp length-replicate h; scsi = omega arith; counter = omega arith; offset = omega arith };
      stack = i.stack;
      quiet = i.quiet;
      identity = i.identity;
      sequencer = i.sequencer;
    }

pub waiting_not_at_rest : (n : ℕ) → AtRest (waiting (suc n)) → ⊥
unfolding strings waiting asking
waiting_not_at_rest n r =
    let m = suc (length {A = ℕ} (replicate n 0)) in
    never (sym r.resting.no_move ∙ and-true (ltb 0 m) ∙ lt-ltb 0 m (omega arith))

-- SIXTEEN FOR A WORD, which is also the count of 14 and two for the word
pub sixteen_reached : write_tally (waiting 14) 1 ≡ record { moves = word_ceiling 1; done = 1 }
unfolding strings waiting asking
sixteen_reached = computed
  where
    computed : write_tally (waiting 14) 1 ≡ record { moves = 16; done = 1 }
    computed = refl

-- THE COUNT AND TWO FOR EACH WORD, over several: the count of 2, and seven words
pub count_reached : write_tally (waiting 2) 7 ≡ record { moves = write_ceiling (waiting 2) 7; done = 7 }
unfolding strings waiting asking
count_reached = computed
  where
    computed : write_tally (waiting 2) 7 ≡ record { moves = 16; done = 7 }
    computed = refl
