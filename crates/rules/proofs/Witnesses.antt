-- Concrete cases that meet the hypotheses of the theorems here, computed.
use mathlib.Core.Path.{◌≡◌, refl}
use mathlib.Core.Bool.{true}
use mathlib.Core.List.{List, [], ◌∷◌, ◌++◌}
use Prim.Native.Nat.{ℕ, zero, suc}
use native.Mathlib.Omega.{arith}
use lib.ListN.{replicate}
use Rattle.rules.specs.Numbers.{bit}
use Rattle.rules.specs.State.{State, power_reset}
use Rattle.rules.specs.Changed.{transfer_with_host, transfer_with_offset, with_transfer, with_quiet, with_sequencer}
use Rattle.rules.specs.Records.{lines_of}
use Rattle.rules.specs.Codes.{number_of, access_code}
use Rattle.rules.specs.StepA.{after_a}
use Rattle.rules.specs.StepB.{rst_rises, in_order}
use Rattle.rules.specs.Step.{ended, single_ticks, step, after}
use Rattle.rules.specs.Sequencer.{in_ticks}
use Rattle.rules.specs.Ticks.{distance}
use Rattle.rules.specs.Ranges.{InRange}
use Rattle.rules.specs.Answers.{Stepped}
use Rattle.rules.specs.Examples.{bytes_of}
use Rattle.rules.specs.declared.codes.Code.TheVariants.{Done}
use Rattle.rules.specs.declared.records.Event.TheVariants.{WordWrite, Drive}
use Rattle.rules.proofs.Computes.{computes}
use Rattle.rules.proofs.Reports.{Few, in_range_few}
use Rattle.rules.proofs.Selections.{records_of}

-- the number of the code that the last of some records gets, from power reset
code_after : List ℕ → ℕ → ℕ
code_after [] e = number_of (step power_reset (bytes_of 4 e)).code
code_after (x ∷ xs) e = number_of (step (after power_reset (records_of (x ∷ xs))) (bytes_of 4 e)).code

-- every code is reached: 0 done, 1 kind 7, 2 a write to 347h, 3 a port shut, 4 no room (a word at 127 is in the marked table),
-- 5 no bytes, 6 a REQ past a limit of 1, 7 a test value
every_code : (code_after [] 0x00000000 ∷ code_after [] 0xE0000000 ∷ code_after [] 0x27000000 ∷ code_after [] 0x60000000 ∷ code_after (0x32000080 ∷ []) 0x80000000 ∷ code_after (0x32000008 ∷ 0x21000040 ∷ 0x24000001 ∷ 0xA0000006 ∷ 0xA0000004 ∷ []) 0xA0000006 ∷ code_after [] 0x2E000001 ∷ []) ≡ 0 ∷ 1 ∷ 2 ∷ 3 ∷ 5 ∷ 6 ∷ 7 ∷ []
unfolding computes code_after
every_code = refl

-- a word that is taken
word_taken : access_code (after power_reset (bytes_of 4 0x32000088 ∷ [])) (WordWrite 0x4241) ≡ Done
unfolding computes
word_taken = refl

-- a bus reset
reset_rises : rst_rises power_reset (after_a power_reset (Drive (lines_of 0x100))) ≡ true
unfolding computes
reset_rises = refl

-- "in this order": RST rises while the chip drives BSY and seven quiet ticks stand; 343h is 0 when the eighth is added, so that the
-- bus becomes free, where a count before the reset would find BSY seen
abbrev driving_bsy : State
driving_bsy = after power_reset (bytes_of 4 0x23000004 ∷ [])

reset_before_ticks : (in_order driving_bsy 1 (with_quiet 7 (after_a driving_bsy (Drive (lines_of 0x100))))).status.busfree ≡ true
unfolding computes
reset_before_ticks = refl

-- CLRCH without CLRSTCNT
clrch_alone : bit 0x02 1 ≡ true
clrch_alone = refl

-- a chip at rest, in range and 8 ticks from bus free
reset_distance : distance power_reset ≡ 8
unfolding computes
reset_distance = refl

-- a round that leaves all as it was: one tick on a bus that has been free for long
abbrev long_free : State
long_free = with_quiet 8 power_reset

round_idle : single_ticks 1 long_free ≡ ended long_free Done 0
unfolding computes
round_idle = refl

-- SIXTEEN MOVES AND EIGHT ACKS IN ONE EVENT. "at most 16; ACKs at most 8" is reached: 352h with ENDMA and WRITE, an offset limit of
-- 8 and DMAEN; eight REQs that find nothing to send; DMAEN off, so that there is no path, and eight words; then DMAEN and SCSIEN
abbrev reqs : ℕ → List ℕ
reqs zero = []
reqs (suc n) = 0xA0000006 ∷ 0xA0000004 ∷ reqs n

abbrev before_most : State
before_most =
    after power_reset (records_of ((0x32000088 ∷ 0x24000008 ∷ 0x21000040 ∷ reqs 8) ++ 0x21000000 ∷ replicate 8 0x60004241))

abbrev counted : Stepped → List ℕ
counted r = r.moves ∷ r.acks ∷ []

pub most_moves : counted (step before_most (bytes_of 4 0x210000C0)) ≡ 16 ∷ 8 ∷ []
unfolding computes
most_moves = refl

-- AND BY TICKS OF A CHIP THAT IS NOT AT REST: it selects and drives BSY itself, two ticks from the end of its time, and holds
-- sixteen bytes and eight REQs that no event has settled. Its first tick makes eight moves, the second, which lets SEL go, eight more
-- and eight ACKs
abbrev selecting_alone : State
selecting_alone =
    after power_reset (records_of
    (0x25000053 ∷ 0x2200001C ∷ 0x31000080 ∷ 0x24000008 ∷ 0x32000088 ∷ 0xC0000008 ∷ 0x20000040 ∷ 0xC0000058 ∷ 0x23000004 ∷ 0x210000C0 ∷ []))

abbrev unsettled : State
unsettled =
    let s = selecting_alone in
    with_sequencer (in_ticks 639998 s.sequencer)
    (with_transfer (transfer_with_host (replicate 16 0x41) (transfer_with_offset 8 s.transfer)) s)

pub unsettled_fits : InRange unsettled
unfolding computes
unsettled_fits =
    record {
      registers = record { sxfr = omega arith; sofs = omega arith; oid = omega arith; tid = omega arith };
      transfer = record { host = omega arith; scsi = omega arith; counter = omega arith; offset = omega arith };
      stack = record { pointer = omega arith; size = refl };
      quiet = omega arith;
      identity = omega arith;
      sequencer = omega arith;
    }

pub unsettled_moves :
    counted (step unsettled (bytes_of 4 0xC0000001)) ++ counted (step unsettled (bytes_of 4 0xC0000002)) ≡ 8 ∷ 0 ∷ 16 ∷ 8 ∷ []
unfolding computes
unsettled_moves = refl

pub unsettled_few : Few (step unsettled (bytes_of 4 0xC0000002))
unsettled_few = in_range_few unsettled (bytes_of 4 0xC0000002) unsettled_fits
