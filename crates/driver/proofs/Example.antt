-- The statements are not empty: a chain from power reset over records and buffers, cut twice and finished by a run that is not cut.
use mathlib.Core.Path.{◌≡◌, refl, ap, sym}
use mathlib.Core.Bool.{Bool, true, false, ◌&&◌, cond}
use mathlib.Core.List.{List, [], ◌∷◌, ◌++◌, append-nil}
use Prim.Native.Nat.{ℕ}
use lib.Dec.{lit<, lit≤}
use lib.ListN.{length, take, drop}
use Rattle.rules.specs.State.{State, power_reset}
use Rattle.rules.specs.Chips.{view, chip_of}
use Rattle.rules.specs.Examples.{bytes_of, same}
use Rattle.rules.specs.Step.{step, answer}
use Rattle.rules.proofs.Logic.{never, left_true, right_true}
use Rattle.rules.proofs.Packing.{read_back}
use Rattle.rules.proofs.Ranges.{power_reset_fits}
use Rattle.runs.specs.Run.{Starts, run_allows}
use Rattle.runs.proofs.Examples.{follows}
use Rattle.runs.proofs.Tests.{same_eq}
use Rattle.driver.specs.Exchanges.{Exchange, is_answered, handed, accepted_of, offered_of, read_of, may_come, all_over, over, counter_of}
use Rattle.driver.specs.Driving.{Offers, Round, all_rounds, Follows, Clears, DrivesBlind, taken_so_far}
use Rattle.driver.specs.Calls.{Trace, Call, Calls, exchanges_of as exchangesOfCalls}
use Rattle.driver.specs.DemandThree.{state_after, ReadMoment}
use Rattle.driver.proofs.Steps.{trace_calls}
use Rattle.driver.proofs.DemandThree.{demand_three, reset_ranged}

-- a record and a buffer, each as its size and one number
abbrev exchange : ℕ → ℕ → ℕ → ℕ → Exchange
exchange n event k reply = record { bytes = bytes_of n event; buffer = bytes_of k reply }

-- two probes, then the seven records of a clearing: a pulse on RST, 16 bits, WRITE 1, SCSIEN, DMAEN
abbrev pub set_up : List Exchange
set_up =
    exchange 4 0x5C000000 16 0x00000001000000000000000000000000
    ∷ exchange 4 0x28000007 16 0x00000000000000000000000000000000
    ∷ exchange 4 0x21000000 16 0x00000000000000000000000000000000
    ∷ exchange 4 0x20000001 16 0x00020000000000000000000000000000
    ∷ exchange 4 0x20000000 16 0x00000000000000000000000000000000
    ∷ exchange 4 0x3200008A 16 0x00000000000000000000000000000000
    ∷ exchange 4 0x21000012 16 0x00000000000000000000000000000000
    ∷ exchange 4 0x23000000 16 0x00000000000000000000000000000000
    ∷ exchange 4 0x210000E0 16 0x00000000000000000000000000000000
    ∷ []

-- 16 bits, asynchronous. Refused: a record of three bytes, kind 7, a byte, a port read; a call with a buffer of fifteen bytes that
-- stays as it was. Two bytes are taken, then a bus reset
abbrev pub first_run : List Exchange
first_run =
    exchange 3 0x600000 16 0x20000000000000000000000000000000
    ∷ exchange 4 0xE0000000 16 0x20000000000000000000000000000000
    ∷ exchange 4 0x36000041 16 0x60000000000000000000000000000000
    ∷ exchange 4 0x80000000 16 0x6000FFFF000000000000000000000000
    ∷ exchange 4 0x60004241 16 0x00100000000002000000000000000000
    ∷ exchange 4 0x60004443 16 0x00100000000004000000000000000000
    ∷ exchange 4 0xA0000006 16 0x01050000014103004100000000000000
    ∷ exchange 4 0xA0000004 16 0x00000000000003000000000000000000
    ∷ exchange 4 0x60004645 15 0xAAAAAAAAAAAAAAAAAAAAAAAAAAAAAA
    ∷ exchange 4 0xA0000006 16 0x01050000014202004200000000000000
    ∷ exchange 4 0xA0000104 16 0x00000000000002000000000000000000
    ∷ exchange 4 0xA0000000 16 0x00000000000002000000000000000000
    ∷ exchange 4 0x60004645 16 0x00100000000004000000000000000000
    ∷ exchange 4 0xA0000006 16 0x00000000000004000000000000000000
    ∷ []

-- the target lets go; a selection is begun, and after 96 ticks the chip waits for BSY. Then the seven records: the pulse on RST ends
-- the selection; four bytes are left in the SCSI FIFO and go
abbrev pub first_clearing : List Exchange
first_clearing =
    exchange 4 0xA0000000 16 0x00000000000004000000000000000000
    ∷ exchange 4 0x25000072 16 0x00000000000004000000000000000000
    ∷ exchange 4 0x20000040 16 0x00000000000004000000000000000000
    ∷ exchange 4 0xC0000060 16 0x00050000088404000000000000000000
    ∷ exchange 4 0x21000000 16 0x00050000088404000000000000000000
    ∷ exchange 4 0x20000001 16 0x00020000000004000000000000000000
    ∷ exchange 4 0x20000000 16 0x00000000000004000000000000000000
    ∷ exchange 4 0x3200008A 16 0x00000000000004000000000000000000
    ∷ exchange 4 0x21000012 16 0x00000000000000000000000000000000
    ∷ exchange 4 0x23000000 16 0x00000000000000000000000000000000
    ∷ exchange 4 0x210000E0 16 0x00000000000000000000000000000000
    ∷ []

-- 341h without SCSIEN; the target goes on asking while the counter is read, the high byte first
abbrev pub first_round : Round
first_round =
    record {
      run = first_run;
      cut = exchange 4 0x21000060 16 0x00000000000004000000000000000000;
      reading =
          exchange 4 0xA0000006 16 0x00000000000004000000000000000000
          ∷ exchange 4 0x4A000000 16 0x00000000000004000000000000000000
          ∷ exchange 4 0x48000000 16 0x00000002000004000000000000000000
          ∷ exchange 4 0xA0000004 16 0x00000000000004000000000000000000
          ∷ exchange 4 0x49000000 16 0x00000000000004000000000000000000
          ∷ [];
      clearing = first_clearing;
    }

-- 16 bits, asynchronous: bus free after the third byte; SCSIEN stays, and the fourth is taken
abbrev pub second_run : List Exchange
second_run =
    exchange 4 0x60004443 16 0x00100000000002000000000000000000
    ∷ exchange 4 0x60004645 16 0x00100000000004000000000000000000
    ∷ exchange 4 0xA0000006 16 0x01040000014303004300000000000000
    ∷ exchange 4 0xA0000004 16 0x00000000000003000000000000000000
    ∷ exchange 4 0xA0000000 16 0x00000000000003000000000000000000
    ∷ exchange 4 0xC0000007 16 0x00000000000003000000000000000000
    ∷ exchange 4 0xC0000001 16 0x00000000000003000000000000000000
    ∷ exchange 4 0xA0000006 16 0x01050000014402004400000000000000
    ∷ exchange 4 0x2C0000FF 16 0x00050000014402000000000000000000
    ∷ []

-- SOFS 4, and from now on 8 bits; the sequencer is off as the run left it, and there is no pulse on RST
abbrev pub second_clearing : List Exchange
second_clearing =
    exchange 4 0x24000004 16 0x00000000000002000000000000000000
    ∷ exchange 4 0xA0000004 16 0x00000000000002000000000000000000
    ∷ exchange 4 0x21000000 16 0x00050000000002000000000000000000
    ∷ exchange 4 0x320000CA 16 0x00050000000002000000000000000000
    ∷ exchange 4 0x21000012 16 0x00050000000000000000000000000000
    ∷ exchange 4 0x23000000 16 0x00050000000000000000000000000000
    ∷ exchange 4 0x210000E0 16 0x00000000000000000000000000000000
    ∷ []

abbrev pub second_round : Round
second_round =
    record {
      run = second_run;
      cut = exchange 4 0x21000060 16 0x00050000014402000000000000000000;
      reading =
          exchange 4 0xA0000006 16 0x00050000014402000000000000000000
          ∷ exchange 4 0x4A000000 16 0x00050000014402000000000000000000
          ∷ exchange 4 0x48000000 16 0x00050002014402000000000000000000
          ∷ exchange 4 0xA0000004 16 0x00000000000002000000000000000000
          ∷ exchange 4 0x49000000 16 0x00000000000002000000000000000000
          ∷ [];
      clearing = second_clearing;
    }

-- 8 bits, synchronous: two REQ before the bytes, a word refused, then byte and REQ in turn; not cut
abbrev pub last_run : List Exchange
last_run =
    exchange 4 0xA0000006 16 0x00000000000010000000000000000000
    ∷ exchange 4 0xA0000004 16 0x00000000000010000000000000000000
    ∷ exchange 4 0xA0000006 16 0x00000000000020000000000000000000
    ∷ exchange 4 0xA0000004 16 0x00000000000020000000000000000000
    ∷ exchange 4 0x36000045 16 0x01080000000010004500000000000000
    ∷ exchange 4 0x60004746 16 0x60000000000010000000000000000000
    ∷ exchange 4 0x36000046 16 0x01080000000000004600000000000000
    ∷ exchange 4 0x36000047 16 0x00080000000001000000000000000000
    ∷ exchange 4 0xA0000006 16 0x01000000000000004700000000000000
    ∷ exchange 4 0xA0000004 16 0x00000000000000000000000000000000
    ∷ exchange 4 0x36000048 16 0x00080000000001000000000000000000
    ∷ exchange 4 0xA0000006 16 0x01000000000000004800000000000000
    ∷ exchange 4 0xA0000004 16 0x00000000000000000000000000000000
    ∷ []

abbrev pub letters : List ℕ
letters = 0x41 ∷ 0x42 ∷ 0x43 ∷ 0x44 ∷ 0x45 ∷ 0x46 ∷ 0x47 ∷ 0x48 ∷ []

abbrev pub rounds : List Round
rounds = first_round ∷ second_round ∷ []

abbrev pub whole : List Exchange
whole = set_up ++ (all_rounds rounds ++ last_run)

-- a trace as one test that computes
abbrev trace_test : State → List Exchange → Bool
trace_test s [] = true
trace_test s (x ∷ more) = cond (is_answered x) (same x.buffer (answer s x.bytes)) true && trace_test (step s (handed x)).state more

answered_by_test : (t : Bool) (a b : List ℕ) → cond t (same a b) true ≡ true → t ≡ true → a ≡ b
answered_by_test true a b h q = same_eq a b h
answered_by_test false a b h q = absurd (never q)

trace_by_test : (s : State) (xs : List Exchange) → trace_test s xs ≡ true → Trace s xs
trace_by_test s [] h = tt
trace_by_test s (x ∷ more) h =
    let first = cond (is_answered x) (same x.buffer (answer s x.bytes)) true in
    let later = trace_test (step s (handed x)).state more in (
      answered_by_test (is_answered x) x.buffer (answer s x.bytes) (left_true first later h),
      trace_by_test (step s (handed x)).state more (right_true first later h),
    )

abbrev offers_test : List ℕ → List Exchange → Bool
offers_test rest [] = true
offers_test rest (x ∷ more) = same (take (length (offered_of x)) rest) (offered_of x) && offers_test (drop (length (accepted_of x)) rest) more

offers_by_test : (rest : List ℕ) (xs : List Exchange) → offers_test rest xs ≡ true → Offers rest xs
offers_by_test rest [] h = tt
offers_by_test rest (x ∷ more) h =
    let first = same (take (length (offered_of x)) rest) (offered_of x) in
    let later = offers_test (drop (length (accepted_of x)) rest) more in (
      same_eq (take (length (offered_of x)) rest) (offered_of x) (left_true first later h),
      offers_by_test (drop (length (accepted_of x)) rest) more (right_true first later h),
    )

-- THE BUFFERS ARE THOSE THAT THE CHIP GIVES: the definition's answers from power reset, row by row
pub whole_trace : Trace power_reset whole
unfolding follows
whole_trace = trace_by_test power_reset whole refl

-- so there are calls of step::step from the chip of power reset that leave them
pub reset_view : view (chip_of power_reset) ≡ power_reset
reset_view = read_back power_reset power_reset_fits

pub whole_calls : (ks : List Call) × (Calls (chip_of power_reset) ks × (exchangesOfCalls ks ≡ whole))
whole_calls = trace_calls (chip_of power_reset) whole (rw reset_view reset_ranged) (rw reset_view whole_trace)

-- THE DRIVER'S SIDE, from records and buffers alone
pub first_follows : Follows letters first_round
unfolding follows
first_follows =
    record {
      keeps =
          record { run = refl; cut = refl; cut_code = refl; reading = refl; low = lit< tt; middle = lit< tt; high = lit< tt };
      offers = offers_by_test letters first_run refl;
      bound = lit≤ tt;
    }

pub second_follows : Follows (drop 2 letters) second_round
unfolding follows
second_follows =
    record {
      keeps =
          record { run = refl; cut = refl; cut_code = refl; reading = refl; low = lit< tt; middle = lit< tt; high = lit< tt };
      offers = offers_by_test (drop 2 letters) second_run refl;
      bound = lit≤ tt;
    }

pub first_clears : Clears first_clearing
unfolding follows
first_clears =
    record { earlier = take 4 first_clearing; final = drop 4 first_clearing; pulse = true; eightbit = false; whole = refl; off = refl; sequence = refl }

pub second_clears : Clears second_clearing
unfolding follows
second_clears =
    record { earlier = take 2 second_clearing; final = drop 2 second_clearing; pulse = false; eightbit = true; whole = refl; off = refl; sequence = refl }

pub counters_read : (counter_of first_round.reading ≡ 2) × (counter_of second_round.reading ≡ 2)
unfolding follows
counters_read = (refl, refl)

pub drives : DrivesBlind letters rounds last_run
unfolding follows
drives =
    record {
      rules = (first_follows, (second_follows, tt));
      clear = (first_clears, (second_clears, tt));
      goes = record { run = refl; offers = offers_by_test (drop 4 letters) last_run refl };
    }

-- the target has taken all eight letters: two in each round, four in the last run
pub all_taken : taken_so_far rounds last_run ≡ letters
unfolding follows
all_taken = refl

pub starts : Starts true (state_after power_reset set_up)
unfolding follows
starts = (demand_three power_reset whole reset_ranged whole_trace).start (take 2 set_up) (drop 2 set_up) (all_rounds rounds ++ last_run) false refl refl

-- and so, by the theorem and not by computing, what it has taken is a beginning of the data
pub all_beginning : taken_so_far rounds last_run ≡ take (length (taken_so_far rounds last_run)) letters
all_beginning =
    (demand_three power_reset whole reset_ranged whole_trace).blind set_up [] letters rounds last_run
    (ap (λ (l : List Exchange). set_up ++ l) (sym (append-nil (all_rounds rounds ++ last_run)))) starts drives

-- A READ RUN from power reset, 8 bits: an asynchronous byte, another, a port write refused, a bus reset, and a read with no byte left
abbrev pub read_set_up : List Exchange
read_set_up =
    exchange 4 0x320000C0 16 0x00000000000000000000000000000000
    ∷ exchange 4 0x23000040 16 0x00000000000000000000000000000000
    ∷ exchange 4 0x210000E0 16 0x00000000000000000000000000000000
    ∷ []

abbrev pub read_run : List Exchange
read_run =
    exchange 4 0xA0010446 16 0x01080000010000010000000000000000
    ∷ exchange 4 0xA0000044 16 0x00000000000000010000000000000000
    ∷ exchange 4 0xA0010846 16 0x01080000010000020000000000000000
    ∷ exchange 4 0x36000041 16 0x60000000010000020000000000000000
    ∷ exchange 4 0x56000000 16 0x00000041010000010000000000000000
    ∷ exchange 4 0xA0000144 16 0x00000000000000010000000000000000
    ∷ exchange 4 0x56000000 16 0x00000042000000000000000000000000
    ∷ exchange 4 0x56000000 16 0xA00000FF000000000000000000000000
    ∷ []

pub read_trace : Trace power_reset (read_set_up ++ read_run)
unfolding follows
read_trace = trace_by_test power_reset (read_set_up ++ read_run) refl

pub read_starts : Starts false (state_after power_reset read_set_up)
unfolding follows
read_starts =
    record {
      host = refl;
      scsi = refl;
      counter = refl;
      offset = refl;
      acko = refl;
      opened = refl;
      direction = refl;
      enselo = refl;
      enseli = refl;
      enrseli = refl;
      idle = refl;
    }

pub read_comes : all_over (may_come run_allows) read_run ≡ true
unfolding follows
read_comes = refl

-- the values of the buffers are what the target drove
pub host_has_read : over read_of read_run ≡ 0x41 ∷ 0x42 ∷ []
unfolding follows
host_has_read = refl

pub read_beginning : ReadMoment (state_after power_reset read_set_up) (state_after power_reset (read_set_up ++ read_run)) read_run
read_beginning =
    (demand_three power_reset (read_set_up ++ read_run) reset_ranged read_trace).reading read_set_up read_run []
    (ap (λ (l : List Exchange). read_set_up ++ l) (sym (append-nil read_run))) read_starts read_comes
