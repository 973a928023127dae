-- The statements are not empty: chains of rounds that meet every hypothesis, computed; and the order of clearing that fails.
use mathlib.Core.Path.{◌≡◌, refl}
use mathlib.Core.Bool.{true, false}
use mathlib.Core.List.{List, [], ◌∷◌, ◌++◌}
use Prim.Native.Nat.{ℕ, zero, suc, ◌+◌, ◌*◌}
use Rattle.rules.specs.State.{State, power_reset}
use Rattle.rules.specs.Examples.{bytes_of}
use Rattle.rules.specs.Step.{step, after}
use Rattle.rules.specs.declared.chip.Phase.TheVariants.{Selecting}
use Rattle.rules.specs.declared.map.Register.TheVariants.{SCSIRATE}
use Rattle.rules.proofs.Computes.{computes}
use Rattle.runs.specs.Comes.{may_come, all_come, along}
use Rattle.runs.specs.Run.{Starts, keeps_run, write_allowed, run_allows, sent_by, host_read, took_at_req, took_by_handshakes, took_in_ticks, took_by_ticks, chip_took}
use Rattle.runs.specs.Cut.{cut_value, is_cut, sets_scsien, calm, read_answer}
use Rattle.runs.specs.Clearing.{switched_off, both_empty, may_clear, all_clear, write_record, from_manual, clearing_of, short_clearing_of}
use Rattle.runs.specs.Known.{own_effect, pulses, settled}
use Rattle.runs.specs.Rounds.{Round, Chain, taken, reached, AllCleared}
use Rattle.runs.proofs.Tests.{chain_by_test, cleared_by_test}

-- one name opens all that a chain is made of
unfoldable pub follows : ℕ
unfolding computes may_come took_at_req took_by_handshakes took_in_ticks took_by_ticks keeps_run write_allowed cut_value is_cut sets_scsien calm read_answer switched_off both_empty may_clear from_manual clearing_of short_clearing_of own_effect pulses settled
follows = 0

-- records, each written as one number
abbrev pub records : List ℕ → List (List ℕ)
records [] = []
records (n ∷ more) = bytes_of 4 n ∷ records more

-- 16 bits, WRITE 1, SCSIEN, DMAEN: the start of a run
unfoldable pub ready : State
ready = after power_reset (records (0x32000088 ∷ 0x210000E0 ∷ []))

-- the three reads of the counter, out of order, the target asking meanwhile
abbrev reads : List (List ℕ)
reads = records (0xA0000006 ∷ 0x4A000000 ∷ 0x48000000 ∷ 0xA0000004 ∷ 0x49000000 ∷ [])

abbrev letters : List ℕ
letters = 0x41 ∷ 0x42 ∷ 0x43 ∷ 0x44 ∷ 0x45 ∷ 0x46 ∷ 0x47 ∷ 0x48 ∷ []

-- 16 bits, asynchronous, with a bus reset after two bytes; refused: a record of 3 bytes, kind 7, a port write of 8 bits, a port read
abbrev reset_round : Round
reset_round =
    record {
      run =
          bytes_of 3 0x600000
          ∷ records
          (0xE0000000 ∷ 0x36000041 ∷ 0x80000000 ∷ 0x60004241 ∷ 0x60004443 ∷ 0xA0000006 ∷ 0xA0000004 ∷ 0xA0000006 ∷ 0xA0000104
          ∷ 0xA0000000 ∷ 0x60004645 ∷ 0xA0000006 ∷ []);
      cut = bytes_of 4 0x21000060;
      reading = reads;
      clearing = clearing_of false;
    }

-- 16 bits, asynchronous, with bus free after one byte; SCSIEN stays, and a second byte is taken; then SOFS 4 and 8 bits
abbrev free_round : Round
free_round =
    record {
      run =
          records
          (0x60004443 ∷ 0x60004645 ∷ 0xA0000006 ∷ 0xA0000004 ∷ 0xA0000000 ∷ 0xC0000007 ∷ 0xC0000001 ∷ 0xA0000006 ∷ 0x2C0000FF
          ∷ []);
      cut = bytes_of 4 0x21000060;
      reading = reads;
      clearing = write_record SCSIRATE 0x04 ∷ clearing_of true;
    }

-- 8 bits, synchronous: two REQ before the bytes; refused: a port write of 16 bits; no pulse on RST in its clearing
abbrev synchronous_round : Round
synchronous_round =
    record {
      run = records (0xA0000006 ∷ 0xA0000004 ∷ 0xA0000006 ∷ 0xA0000004 ∷ 0x36000045 ∷ 0x60004746 ∷ 0x36000046 ∷ 0x36000047 ∷ []);
      cut = bytes_of 4 0x21000000;
      reading = reads;
      clearing = short_clearing_of false;
    }

-- 16 bits, synchronous: the bytes before the REQ; SCSIEN off and on again within the run
abbrev last_round : Round
last_round =
    record {
      run = records (0x60004847 ∷ 0x21000060 ∷ 0xA0000006 ∷ 0x210000E0 ∷ 0xA0000004 ∷ 0xA0000006 ∷ []);
      cut = bytes_of 4 0x21000060;
      reading = reads;
      clearing = [];
    }

abbrev pub four_rounds : List Round
four_rounds = reset_round ∷ free_round ∷ synchronous_round ∷ last_round ∷ []

pub four_rounds_lem : Chain letters 0 ready four_rounds
unfolding follows ready
four_rounds_lem = chain_by_test letters 0 ready four_rounds refl

pub four_cleared : AllCleared ready four_rounds
unfolding follows ready
four_cleared = cleared_by_test ready four_rounds refl

-- the target has taken all eight letters, two in each round
pub four_taken : taken ready four_rounds ≡ letters
unfolding follows ready
four_taken = refl

pub four_reached : reached 0 ready four_rounds ≡ 8
unfolding follows ready
four_reached = refl

-- A SELECTION BEFORE THE RUN: the IDs, ENSELO with ENAUTOATNO, and 96 ticks to the waiting for BSY; no run starts there
unfoldable pub selecting : State
selecting = after power_reset (records (0x25000072 ∷ 0x20000048 ∷ 0xC0000060 ∷ []))

pub selecting_waits : selecting.sequencer.phase ≡ Selecting
unfolding follows selecting
selecting_waits = refl

-- the target answers, ATN is taken back, 340h is written with 0, and a run can start
unfoldable pub selected_target : State
selected_target = after selecting (records (0xA0000004 ∷ 0x2C000040 ∷ 0x20000000 ∷ 0x32000088 ∷ 0x210000E0 ∷ []))

-- it takes two bytes
abbrev selected_round : Round
selected_round =
    record {
      run = records (0x60004241 ∷ 0xA0000006 ∷ 0xA0000004 ∷ 0xA0000006 ∷ 0xC0000003 ∷ []);
      cut = bytes_of 4 0x21000060;
      reading = reads;
      clearing = short_clearing_of false;
    }

pub selected_round_lem : Chain (0x41 ∷ 0x42 ∷ []) 0 selected_target (selected_round ∷ [])
unfolding follows selecting selected_target
selected_round_lem = chain_by_test (0x41 ∷ 0x42 ∷ []) 0 selected_target (selected_round ∷ []) refl

pub selected_taken : taken selected_target (selected_round ∷ []) ≡ 0x41 ∷ 0x42 ∷ []
unfolding follows selecting selected_target
selected_taken = refl

-- n word writes of the bytes from b on
abbrev words_from : ℕ → ℕ → List (List ℕ)
words_from zero b = []
words_from (suc n) b = bytes_of 4 (0x60000000 + (b + 1) * 256 + b) ∷ words_from n (b + 2)

abbrev bytes_from : ℕ → ℕ → List ℕ
bytes_from zero b = []
bytes_from (suc n) b = b ∷ bytes_from n (b + 1)

-- both FIFOs full at 136 bytes: a word is refused, and again when one byte of room is left, and then accepted
abbrev full_round : Round
full_round =
    record {
      run =
          words_from 69 0
          ++ (bytes_of 4 0xA0000006 ∷ words_from 1 136 ++ records (0xA0000004 ∷ 0xA0000006 ∷ []) ++ words_from 1 136);
      cut = bytes_of 4 0x21000060;
      reading = reads;
      clearing = clearing_of false;
    }

pub full_round_lem : Chain (bytes_from 140 0) 0 ready (full_round ∷ [])
unfolding follows ready
full_round_lem = chain_by_test (bytes_from 140 0) 0 ready (full_round ∷ []) refl

pub full_taken : taken ready (full_round ∷ []) ≡ 0 ∷ 1 ∷ []
unfolding follows ready
full_taken = refl

-- THE ORDER THAT FAILS: twelve bytes accepted, SCSIEN 0, and the path left open
unfoldable pub twelve : State
twelve = after ready (words_from 6 0x30 ++ records (0x21000060 ∷ []))

-- CLRCH empties the SCSI FIFO, and in the same event the host FIFO's four bytes move into it
pub refilled : (step twelve (bytes_of 4 0x21000072)).moves ≡ 4
unfolding follows ready twelve
refilled = refl

abbrev wrong_order : List (List ℕ)
wrong_order = records (0x21000072 ∷ 0x3200008A ∷ 0x23000000 ∷ 0x210000E0 ∷ [])

-- RSTFIFO then finds nothing to empty: the four bytes are left, though the host FIFO, the counter and the offset are as at a start
pub left_over_lem : (after twelve wrong_order).transfer.scsi ≡ 0x38 ∷ 0x39 ∷ 0x3A ∷ 0x3B ∷ []
unfolding follows ready twelve
left_over_lem = refl

-- and the target would take them before the driver's data
pub left_over_sent : along sent_by (after twelve wrong_order) (records (0xA0000006 ∷ [])) ≡ 0x38 ∷ []
unfolding follows ready twelve
left_over_sent = refl

-- why the port is left alone until the start: both FIFOs empty and SCSIEN set, but the counter not yet 0, so no run has started
unfoldable pub unstarted : State
unstarted = after power_reset (records (0x320000C8 ∷ 0x210000E0 ∷ 0x28000001 ∷ 0xA0000006 ∷ []))

-- a port write, then CLRSTCNT
abbrev too_early : List (List ℕ)
too_early = records (0x36000041 ∷ 0x210000F0 ∷ [])

-- the target takes a byte that no run counts, and a run can start after it
pub sent_outside : along sent_by unstarted too_early ≡ 0x41 ∷ []
unfolding follows unstarted
sent_outside = refl

pub starts_after_it : Starts true (after unstarted too_early)
unfolding follows unstarted
starts_after_it =
    record {
      host = refl;
      scsi = refl;
      counter = refl;
      offset = refl;
      acko = refl;
      opened = refl;
      direction = refl;
      enselo = refl;
      enseli = refl;
      enrseli = refl;
      idle = refl;
    }

pub not_a_clearing : all_clear unstarted too_early ≡ false
unfolding follows unstarted
not_a_clearing = refl

-- A READ RUN, 8 bits: an asynchronous byte, two ticks, a bus reset, and what is left in the FIFO is read; refused: a port write, a read with no byte
unfoldable pub inward : State
inward = after power_reset (records (0x320000C0 ∷ 0x23000040 ∷ 0x210000E0 ∷ []))

abbrev inward_run : List (List ℕ)
inward_run = records (0xA0010446 ∷ 0xC0000002 ∷ 0xA0000044 ∷ 0xA0010846 ∷ 0x36000041 ∷ 0x56000000 ∷ 0xA0000144 ∷ 0x56000000 ∷ 0x56000000 ∷ [])

pub inward_starts : Starts false inward
unfolding follows inward
inward_starts =
    record {
      host = refl;
      scsi = refl;
      counter = refl;
      offset = refl;
      acko = refl;
      opened = refl;
      direction = refl;
      enselo = refl;
      enseli = refl;
      enrseli = refl;
      idle = refl;
    }

pub inward_comes : all_come run_allows inward inward_run ≡ true
unfolding follows inward
inward_comes = refl

pub inward_took : along chip_took inward inward_run ≡ 0x41 ∷ 0x42 ∷ []
unfolding follows inward
inward_took = refl

pub inward_read : along host_read inward inward_run ≡ 0x41 ∷ 0x42 ∷ []
unfolding follows inward
inward_read = refl

-- 16 bits, synchronous with SOFS 2: three REQ, the third beyond the limit (code 6, not taken), while SCSIEN is 0; then a word is read
unfoldable pub inward_fast : State
inward_fast = after power_reset (records (0x32000080 ∷ 0x24000002 ∷ 0x23000040 ∷ 0x21000060 ∷ []))

abbrev fast_run : List (List ℕ)
fast_run =
    records
    (0xA0010446 ∷ 0xA0010444 ∷ 0xA0010846 ∷ 0xA0010844 ∷ 0xA0010C46 ∷ 0xA0010C44 ∷ 0x210000E0 ∷ 0x80000000 ∷ 0xA0011046 ∷ [])

pub fast_starts : Starts false inward_fast
unfolding follows inward_fast
fast_starts =
    record {
      host = refl;
      scsi = refl;
      counter = refl;
      offset = refl;
      acko = refl;
      opened = refl;
      direction = refl;
      enselo = refl;
      enseli = refl;
      enrseli = refl;
      idle = refl;
    }

pub fast_comes : all_come run_allows inward_fast fast_run ≡ true
unfolding follows inward_fast
fast_comes = refl

pub fast_took : along chip_took inward_fast fast_run ≡ 0x41 ∷ 0x42 ∷ 0x44 ∷ []
unfolding follows inward_fast
fast_took = refl

pub fast_read : along host_read inward_fast fast_run ≡ 0x41 ∷ 0x42 ∷ []
unfolding follows inward_fast
fast_read = refl
