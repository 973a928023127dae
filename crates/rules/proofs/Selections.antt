-- R-1: selections and a reselection from power reset, row by row.
use mathlib.Core.Path.{◌≡◌, refl}
use mathlib.Core.Bool.{true, false, ◌&&◌}
use mathlib.Core.List.{List, [], ◌∷◌}
use Prim.Native.Nat.{ℕ}
use native.Mathlib.Omega.{arith}
use Rattle.rules.specs.State.{State, power_reset}
use Rattle.rules.specs.Records.{lines_of}
use Rattle.rules.specs.StepA.{clears_latch}
use Rattle.rules.specs.StepD.{after_d}
use Rattle.rules.specs.Step.{ended, single_ticks, step_event, after}
use Rattle.rules.specs.Examples.{Row, row, bytes_of, misses}
use Rattle.rules.specs.declared.codes.Code.TheVariants.{Done}
use Rattle.rules.specs.declared.records.Event.TheVariants.{Write, Drive, Ticks}
use Rattle.rules.proofs.Computes.{computes}
use Rattle.rules.proofs.Ranges.{always_in_range}
use Rattle.rules.proofs.Selection.{Silent, Connects, Falls, Arbitrated, seldi_ends, silent_under_reset, seldo_comes, seldi_falls, noted_rises, selingo_falls, lost_drives_nothing, sel_after_arbitration, arbitrating_counts, always_silent_under_reset, always_noted_seldi}
use Rattle.rules.proofs.Still.{always_at_rest}
use Rattle.rules.proofs.LostRounds.{JustLost, FreeAlready, LosesAgain, lost_round, lost_round_event, second_round_lem}
use Rattle.rules.proofs.Timeout.{EndsAtLimit, unanswered_ends}
use Rattle.rules.proofs.Unanswered.{AllLeave, StillSelects, Reaches, EndsInTime, unanswered_ends_in_time}

-- a start-up: the chip is 7, the target 3
abbrev start_up : List Row
start_up =
    row 0x25000073 0x00000000000000000000000000000000  -- 345h: own ID 7, the target's 3
    ∷ row 0xC0000008 0x00000000000000000000000000000000  -- 8 ticks: the bus is free
    ∷ row 0x20000048 0x00000000000000000000000000000000  -- 340h: ENSELO, ENAUTOATNO
    ∷ row 0xC000000F 0x00000000000000000000000000000000  -- 15 ticks: it waits
    ∷ row 0xC0000001 0x00040000048000000000000000000000  -- the 16th: it arbitrates, BSY and its own ID
    ∷ row 0xC000002F 0x00040000048000000000000000000000  -- 47 ticks
    ∷ row 0xC0000001 0x000400000C8000000000000000000000  -- the 48th: it has won, SEL too
    ∷ row 0xC0000017 0x000400000C8000000000000000000000  -- 23 ticks
    ∷ row 0x4B000000 0x000400000C8000000000000000000000  -- 34Bh reads 0
    ∷ row 0xC0000001 0x00050000188800000000000000000000  -- the 24th: it selects, SEL and both IDs, ATN
    ∷ row 0x4B000000 0x00050010188800000000000000000000  -- 34Bh reads SELINGO
    ∷ row 0xA0000004 0x00050000100000000000000000000000  -- BSY of the target: SEL is released, ATN stays
    ∷ row 0x4B000000 0x00050040100000000000000000000000  -- 34Bh reads SELDO
    ∷ row 0x40000000 0x00050008100000000000000000000000  -- 340h reads ENAUTOATNO: ENSELO is 0
    ∷ row 0x43000000 0x00050014100000000000000000000000  -- 343h reads ATN and BSY
    ∷ []

-- an arbitration lost to 6, where the chip is 5; it tries again at the next bus free
abbrev lost_arbitration : List Row
lost_arbitration =
    row 0x25000053 0x00000000000000000000000000000000  -- 345h: own ID 5, the target's 3
    ∷ row 0xC0000008 0x00000000000000000000000000000000  -- 8 ticks: the bus is free
    ∷ row 0x20000040 0x00000000000000000000000000000000  -- 340h: ENSELO
    ∷ row 0xC0000010 0x00040000042000000000000000000000  -- 16 ticks: it arbitrates
    ∷ row 0xA0010000 0x00040000042000000000000000000000  -- others drive the ID 6
    ∷ row 0xC000002F 0x00040000042000000000000000000000  -- 47 ticks: it arbitrates still
    ∷ row 0xC0000001 0x00000000000000000000000000000000  -- the 48th: lost, and nothing is driven
    ∷ row 0xA0010008 0x00000000000000000000000000000000  -- the winner drives SEL
    ∷ row 0x40000000 0x00000040000000000000000000000000  -- 340h reads ENSELO
    ∷ row 0xA0000000 0x00000000000000000000000000000000  -- the bus is left
    ∷ row 0xC0000017 0x00000000000000000000000000000000  -- 8 and 15 ticks
    ∷ row 0xC0000001 0x00040000042000000000000000000000  -- and one: it arbitrates again
    ∷ []

-- an arbitration that is lost when others drive SEL
abbrev forestalled_by_sel : List Row
forestalled_by_sel =
    row 0x25000053 0x00000000000000000000000000000000  -- 345h: own ID 5, the target's 3
    ∷ row 0xC0000008 0x00000000000000000000000000000000  -- 8 ticks: the bus is free
    ∷ row 0x20000040 0x00000000000000000000000000000000  -- 340h: ENSELO
    ∷ row 0xC0000010 0x00040000042000000000000000000000  -- 16 ticks: it arbitrates
    ∷ row 0xA0000008 0x00000000000000000000000000000000  -- others drive SEL: lost
    ∷ []

-- a reselection by 3, where the chip is 7
abbrev reselection : List Row
reselection =
    row 0x25000073 0x00000000000000000000000000000000  -- 345h: own ID 7
    ∷ row 0x20000010 0x00000000000000000000000000000000  -- 340h: ENRESELI
    ∷ row 0xA0022048 0x00000000000000000000000000000000  -- others drive SEL, IO and the IDs 7 and 3
    ∷ row 0xC0000007 0x00000000000000000000000000000000  -- 7 ticks: it answers not yet
    ∷ row 0x45000000 0x00000000000000000000000000000000  -- 345h reads 0
    ∷ row 0xC0000001 0x00000000040000000000000000000000  -- the 8th: BSY
    ∷ row 0x4B000000 0x00000020040000000000000000000000  -- 34Bh reads SELDI
    ∷ row 0x45000000 0x00000088040000000000000000000000  -- 345h reads the two IDs
    ∷ row 0xA0022044 0x00000000000000000000000000000000  -- others drive BSY and release SEL: it lets BSY go
    ∷ row 0x2B000020 0x00000000000000000000000000000000  -- 34Bh bit 5: noted
    ∷ row 0x4B000000 0x00000020000000000000000000000000  -- 34Bh reads SELDI still
    ∷ row 0xA0000000 0x00000000000000000000000000000000  -- the bus is left
    ∷ row 0xC0000007 0x00000000000000000000000000000000
    ∷ row 0x4B000000 0x00000020000000000000000000000000  -- 34Bh reads SELDI
    ∷ row 0xC0000001 0x00000000000000000000000000000000  -- bus free
    ∷ row 0x4B000000 0x00000000000000000000000000000000  -- 34Bh reads 0
    ∷ row 0x45000000 0x00000088000000000000000000000000  -- 345h reads the two IDs still
    ∷ []

pub selections_computed : misses (start_up ∷ lost_arbitration ∷ forestalled_by_sel ∷ reselection ∷ []) ≡ []
unfolding computes
selections_computed = refl

-- A CASE OF EACH THEOREM, in a state reached from power reset

abbrev pub records_of : List ℕ → List (List ℕ)
records_of [] = []
records_of (e ∷ es) = bytes_of 4 e ∷ records_of es

-- 345h with the IDs 5 and 3, 342h with ENSTIMER and the shortest timeout, a free bus, ENSELO, 16 ticks: it arbitrates
abbrev arbitrating_records : List ℕ → List (List ℕ)
arbitrating_records more =
    records_of (0x25000053 ∷ 0x2200001C ∷ 0xC0000008 ∷ 0x20000040 ∷ 0xC0000010 ∷ more)

abbrev arbitrating : List ℕ → State
arbitrating more = after power_reset (arbitrating_records more)

-- 48 and 24 ticks more: it selects
abbrev selecting_records : List (List ℕ)
selecting_records = arbitrating_records (0xC0000030 ∷ 0xC0000018 ∷ [])

abbrev selecting : State
selecting = after power_reset selecting_records

-- without the timer
abbrev untimed : State
untimed =
    after power_reset (records_of (0x25000053 ∷ 0xC0000008 ∷ 0x20000040 ∷ 0xC0000010 ∷ 0xC0000030 ∷ 0xC0000018 ∷ []))

-- reselected by 3, where the chip is 7, and connected
abbrev reselected_records : List ℕ → List (List ℕ)
reselected_records more = records_of (0x25000073 ∷ 0x20000010 ∷ 0xA0022048 ∷ 0xC0000008 ∷ 0xA0022044 ∷ more)

abbrev reselected : List ℕ → State
reselected more = after power_reset (reselected_records more)

-- RST while it arbitrates
pub reset_case : Silent (after_d (arbitrating []) (Drive (lines_of 0x100))).sequencer.phase
unfolding computes
reset_case = silent_under_reset (arbitrating []) (Drive (lines_of 0x100)) refl

-- the 48th tick
pub sel_case : Arbitrated (arbitrating (0xC000002F ∷ [])) (Ticks 1)
unfolding computes
sel_case = sel_after_arbitration (arbitrating (0xC000002F ∷ [])) (Ticks 1) refl refl

pub counts_case : (after_d (arbitrating (0xC000002E ∷ [])) (Ticks 1)).sequencer.ticks ≡ 47
unfolding computes
counts_case = arbitrating_counts (arbitrating (0xC000002E ∷ [])) (Ticks 1) refl

-- the 48th tick with the ID 6 of others, and SEL of others before it
pub lost_case : Silent (after_d (arbitrating (0xA0010000 ∷ 0xC000002F ∷ [])) (Ticks 1)).sequencer.phase
unfolding computes
lost_case = lost_drives_nothing (arbitrating (0xA0010000 ∷ 0xC000002F ∷ [])) (Ticks 1) refl refl

pub forestalled_case : Silent (after_d (arbitrating []) (Drive (lines_of 0x8))).sequencer.phase
unfolding computes
forestalled_case = lost_drives_nothing (arbitrating []) (Drive (lines_of 0x8)) refl refl

-- BSY of the target
pub seldo_case : Connects selecting (Drive (lines_of 0x4))
unfolding computes
seldo_case = seldo_comes selecting (Drive (lines_of 0x4)) refl refl

-- SELINGO falls at SELDO, at RST, and where the processor gives up
pub selingo_seldo_case : Falls selecting (Drive (lines_of 0x4))
unfolding computes
selingo_seldo_case = selingo_falls selecting (Drive (lines_of 0x4)) refl refl

pub selingo_reset_case : Falls selecting (Drive (lines_of 0x100))
unfolding computes
selingo_reset_case = selingo_falls selecting (Drive (lines_of 0x100)) refl refl

pub selingo_given_up_case : Falls untimed (Write 0 0)
unfolding computes
selingo_given_up_case = selingo_falls untimed (Write 0 0) refl refl

-- 34Bh bit 5 noted, then bus free; and the bus free first
pub noted_case : (clears_latch (Write 0xB 0x20) 5 && (reselected []).sequencer.status.seldi) ≡ true
unfolding computes
noted_case = noted_rises (reselected []) (Write 0xB 0x20) refl refl

pub seldi_noted_case : seldi_ends (reselected (0x2B000020 ∷ 0xA0000000 ∷ 0xC0000007 ∷ [])) (Ticks 1) ≡ true
unfolding computes
seldi_noted_case = seldi_falls (reselected (0x2B000020 ∷ 0xA0000000 ∷ 0xC0000007 ∷ [])) (Ticks 1) refl refl

pub seldi_free_case : seldi_ends (reselected (0xA0000000 ∷ 0xC0000008 ∷ [])) (Write 0xB 0x20) ≡ true
unfolding computes
seldi_free_case = seldi_falls (reselected (0xA0000000 ∷ 0xC0000008 ∷ [])) (Write 0xB 0x20) refl refl

-- after any records: RST is seen, and SELDI is noted
pub always_reset_case : Silent (arbitrating (0xA0000100 ∷ [])).sequencer.phase
unfolding computes
always_reset_case = always_silent_under_reset (arbitrating_records (0xA0000100 ∷ [])) refl

pub always_noted_case : (reselected (0x2B000020 ∷ [])).sequencer.status.seldi ≡ true
unfolding computes
always_noted_case = always_noted_seldi (reselected_records (0x2B000020 ∷ [])) refl

-- nobody answers
pub timeout_case : EndsAtLimit selecting
unfolding computes
timeout_case =
    unanswered_ends selecting (always_in_range selecting_records) (record { phase = refl; timer = refl; bsy = refl; rst = refl }) refl

-- NOBODY ANSWERS, WITH MUCH BETWEEN THE TICKS: 640,000 of them in four pieces; a read of 34Bh, a 340h without ENSELO, 342h with other
-- bits, BSYO and SELO in 343h, SEL and data of others, a read that is refused, a record of kind 7
abbrev between : List (List ℕ)
between =
    records_of
    (0xC0000064 ∷ 0x4B000000 ∷ 0x20000000 ∷ 0xC0030D40 ∷ 0x220000FE ∷ 0x2300000C ∷ 0xA003FE08 ∷ 0xC0030D40 ∷ 0x40000000
    ∷ 0x57000000 ∷ 0xE0000000 ∷ [])

in_time : EndsInTime selecting
unfolding computes
in_time =
    unanswered_ends_in_time selecting (always_in_range selecting_records) (record { phase = refl; timer = refl; bsy = refl; rst = refl })

leave : AllLeave selecting.registers.sxfrctl1 between
unfolding computes
leave = (refl, (refl, (refl, (refl, (refl, (refl, (refl, (refl, (refl, (refl, (refl, tt)))))))))))

pub between_case : StillSelects selecting 400100 (after selecting between)
unfolding computes
between_case = in_time.before between leave (omega arith)

-- 239,900 ticks more reach the limit, and so do 16,777,215
pub reached_case : Reaches (after selecting between) 239900 16777215
unfolding computes
reached_case = in_time.at between 239900 16777215 leave refl (omega arith) (omega arith)

-- AN ARBITRATION LOST TO 6, where the chip is 5: the next round is lost too, and leaves all as it was
abbrev pub lost_records : List (List ℕ)
lost_records = arbitrating_records (0xA0010000 ∷ 0xC0000030 ∷ [])

abbrev pub lost : State
lost = after power_reset lost_records

just_lost : JustLost lost
unfolding computes
just_lost =
    record {
      contests =
          record {
            selingo = refl;
            asked = refl;
            higher = refl;
            bsy = refl;
            sel = refl;
            bsyo = refl;
            selo = refl;
            rst = refl;
          };
      phase = refl;
      ticks = refl;
      quiet = refl;
    }

free_already : FreeAlready lost
unfolding computes
free_already = record { busfree = refl; scsisig = refl; offset = refl; ack = refl; seldo = refl; noted = refl }

pub loses : LosesAgain lost
loses = record { lost = just_lost; free = free_already }

pub lost_round_case : step_event lost (Ticks lost_round) ≡ ended lost Done 0
lost_round_case = lost_round_event lost loses (always_at_rest lost_records) (always_in_range lost_records)

-- and one that clears BUSFREE and writes 343h when it has lost: bus free sets the one and clears the other in the next round, and
-- the round after that leaves all as it was
abbrev cleared_records : List (List ℕ)
cleared_records = arbitrating_records (0xA0010000 ∷ 0xC0000030 ∷ 0x2C000008 ∷ 0x230000E0 ∷ [])

abbrev cleared : State
cleared = after power_reset cleared_records

just_lost_cleared : JustLost cleared
unfolding computes
just_lost_cleared =
    record {
      contests =
          record {
            selingo = refl;
            asked = refl;
            higher = refl;
            bsy = refl;
            sel = refl;
            bsyo = refl;
            selo = refl;
            rst = refl;
          };
      phase = refl;
      ticks = refl;
      quiet = refl;
    }

pub busfree_returns : cleared.status.busfree ∷ (single_ticks lost_round cleared).state.status.busfree ∷ [] ≡ false ∷ true ∷ []
unfolding computes
busfree_returns = refl

pub second_round_case : single_ticks lost_round (single_ticks lost_round cleared).state ≡ ended (single_ticks lost_round cleared).state Done 0
second_round_case = second_round_lem cleared just_lost_cleared (always_at_rest cleared_records) (always_in_range cleared_records)
