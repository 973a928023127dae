-- What happens at 16,777,216: a run that sends so many bytes exists, its counter reads 0, and the driver would begin again with bytes
-- that the target has taken.
use mathlib.Core.Path.{◌≡◌, refl, ◌∙◌, ap, subst⁻¹}
use mathlib.Core.Bool.{Bool, true, false, ◌&&◌}
use mathlib.Core.List.{List, [], ◌∷◌, ◌++◌}
use Prim.Native.Nat.{ℕ, zero, suc, ◌<◌}
use lib.Dec.{lit<}
use lib.ListN.{length, replicate, length-replicate}
use Rattle.rules.specs.Registers.{scsiseq_of, sxfrctl0_of, sxfrctl1_of, scsisig_of, scsirate_of, scsiid_of, simode0_of, simode1_of, dmacntrl0_of, dmacntrl1_of}
use Rattle.rules.specs.State.{State, Transfer, power_reset}
use Rattle.rules.specs.Records.{lines_of, decode}
use Rattle.rules.specs.Counter.{counter_step}
use Rattle.rules.specs.declared.counts.Direction.TheVariants.{Up}
use Rattle.rules.specs.Examples.{bytes_of}
use Rattle.rules.specs.Answers.{Stepped}
use Rattle.rules.specs.Step.{step, after}
use Rattle.rules.specs.declared.registers.Registers.{Registers}
use Rattle.rules.specs.declared.records.Lines.{Lines}
use Rattle.rules.specs.declared.chip.Status.{Status}
use Rattle.rules.specs.declared.chip.Latches.{Latches}
use Rattle.rules.specs.declared.chip.Stack.{Stack}
use Rattle.rules.specs.declared.chip.Phase.TheVariants.{Idle}
use Rattle.rules.specs.declared.chip.Sequencer.{Sequencer}
use Rattle.rules.specs.declared.codes.Code.TheVariants.{Done}
use Rattle.rules.specs.declared.map.Register.TheVariants.{STCNT0, STCNT1, STCNT2}
use Rattle.runs.specs.Comes.{says, all_come, along}
use Rattle.runs.specs.Run.{Starts, run_allows, sent_by}
use Rattle.runs.specs.Cut.{is_cut, calm, read_answers}
use Rattle.runs.specs.Rounds.{Round, taken_in, number_read, Proceeds}
use Rattle.runs.proofs.Along.{along_append, come_append, said_comes}
use Rattle.runs.proofs.Cut.{cut_and_read}
use Rattle.runs.proofs.Rounds.{at_the_bound}
use Rattle.runs.proofs.Examples.{follows, records}

-- one byte written, asked for, taken, and REQ released
abbrev writing : List ℕ
writing = bytes_of 4 0x36000055

abbrev asking : List ℕ
asking = bytes_of 4 0xA0000006

abbrev releasing : List ℕ
releasing = bytes_of 4 0xA0000004

abbrev cycle : List (List ℕ)
cycle = writing ∷ asking ∷ releasing ∷ []

-- 8 bits, WRITE 1, SCSIEN, DMAEN
abbrev running : Registers
running =
    record {
      scsiseq = scsiseq_of 0;
      sxfrctl0 = sxfrctl0_of 0xE0;
      sxfrctl1 = sxfrctl1_of 0;
      scsisig = scsisig_of false 0;
      scsirate = scsirate_of 0;
      scsiid = scsiid_of 0;
      scsidat = 0;
      simode0 = simode0_of 0;
      simode1 = simode1_of 0;
      dmacntrl0 = dmacntrl0_of 0xC8;
      dmacntrl1 = dmacntrl1_of 0;
      brstcntrl = 0;
    }

-- the sequencer idle, whatever its other parts are
abbrev idle_of : Sequencer → Sequencer
idle_of q = record { phase = Idle; ticks = q.ticks; noted = q.noted; selid = q.selid; status = q.status; latches = q.latches }

-- a state of the run, whatever its other parts are
abbrev made : Lines → Transfer → Status → Latches → Stack → Bool → ℕ → ℕ → Sequencer → State
made l t a b c k d e q =
    record {
      lines = l;
      registers = running;
      transfer = t;
      status = a;
      latches = b;
      stack = c;
      keptbad = k;
      quiet = d;
      identity = e;
      sequencer = idle_of q;
    }

record Stage (l : Lines) (t : Transfer) (s : State) : Type 0 where
  lines : s.lines ≡ l
  registers : s.registers ≡ running
  transfer : s.transfer ≡ t
  idle : s.sequencer.phase ≡ Idle

stage_made : (l : Lines) (t : Transfer) (s : State) → Stage l t s → s ≡ made l t s.status s.latches s.stack s.keptbad s.quiet s.identity s.sequencer
stage_made l t s p = rw (p.lines, p.registers, p.transfer, p.idle)

-- what holds of every state of a stage that is made so holds of every state of the stage
at_stage : (P : State → Type 0) (l : Lines) (t : Transfer) → ((a : Status) (b : Latches) (c : Stack) (k : Bool) (d e : ℕ) (q : Sequencer) → P (made l t a b c k d e q)) → (s : State) → Stage l t s → P s
at_stage P l t f s p = subst⁻¹ P (stage_made l t s p) (f s.status s.latches s.stack s.keptbad s.quiet s.identity s.sequencer)

-- between two cycles, after the write, and after the handshake
abbrev waiting : ℕ → ℕ → Transfer
waiting n last = record { host = []; scsi = []; counter = n; offset = 0; ack = false; last = last }

abbrev holding : ℕ → ℕ → Transfer
holding n last = record { host = []; scsi = 0x55 ∷ []; counter = n; offset = 0; ack = false; last = last }

abbrev handed : ℕ → Transfer
handed n = record { host = []; scsi = []; counter = n; offset = 0; ack = true; last = 0x55 }

-- a step to a stage, with what it sends
record Goes (l : Lines) (t : Transfer) (sent : List ℕ) (r : Stepped) : Type 0 where
  stage : Stage l t r.state
  sends : r.sent ≡ sent

writes_byte : (n last : ℕ) (a : Status) (b : Latches) (c : Stack) (k : Bool) (d e : ℕ) (q : Sequencer) → Goes (lines_of 4) (holding n last) [] (step (made (lines_of 4) (waiting n last) a b c k d e q) writing)
unfolding follows
writes_byte n last a b c k d e q = record { stage = record { lines = refl; registers = refl; transfer = refl; idle = refl }; sends = refl }

asks_byte : (n last : ℕ) (a : Status) (b : Latches) (c : Stack) (k : Bool) (d e : ℕ) (q : Sequencer) → Goes (lines_of 6) (handed (counter_step Up n).value) (0x55 ∷ []) (step (made (lines_of 4) (holding n last) a b c k d e q) asking)
unfolding follows
asks_byte n last a b c k d e q = record { stage = record { lines = refl; registers = refl; transfer = refl; idle = refl }; sends = refl }

releases : (n : ℕ) (a : Status) (b : Latches) (c : Stack) (k : Bool) (d e : ℕ) (q : Sequencer) → Goes (lines_of 4) (waiting n 0x55) [] (step (made (lines_of 6) (handed n) a b c k d e q) releasing)
unfolding follows
releases n a b c k d e q = record { stage = record { lines = refl; registers = refl; transfer = refl; idle = refl }; sends = refl }

-- records after which the counter is n, and which send these bytes
record Passes (n last : ℕ) (s : State) (records : List (List ℕ)) (sent : List ℕ) : Type 0 where
  stage : Stage (lines_of 4) (waiting n last) (after s records)
  sends : along sent_by s records ≡ sent
  comes : all_come run_allows s records ≡ true

record Said : Type 0 where
  write : says run_allows (decode writing) ≡ true
  ask : says run_allows (decode asking) ≡ true
  release : says run_allows (decode releasing) ≡ true

said : Said
unfolding follows
said = record { write = refl; ask = refl; release = refl }

one_cycle : (n last : ℕ) (s : State) → Stage (lines_of 4) (waiting n last) s → Passes (counter_step Up n).value 0x55 s cycle (0x55 ∷ [])
one_cycle n last s p =
    let s1 : State = (step s writing).state in
    let s2 : State = (step s1 asking).state in
    let x = at_stage (λ t. Goes (lines_of 4) (holding n last) [] (step t writing)) (lines_of 4) (waiting n last) (writes_byte n last) s p in
    let y = at_stage (λ t. Goes (lines_of 6) (handed (counter_step Up n).value) (0x55 ∷ []) (step t asking)) (lines_of 4) (holding n last) (asks_byte n last) s1 x.stage in
    let z = at_stage (λ t. Goes (lines_of 4) (waiting (counter_step Up n).value 0x55) [] (step t releasing)) (lines_of 6) (handed (counter_step Up n).value) (releases (counter_step Up n).value) s2 y.stage in
    record {
      stage = z.stage;
      sends = rw (x.sends, y.sends, z.sends);
      comes =
          rw (said_comes run_allows s writing said.write, said_comes run_allows s1 asking said.ask, said_comes run_allows s2 releasing said.release);
    }

unfoldable pub cycles : ℕ → List (List ℕ)
cycles zero = []
cycles (suc k) = cycle ++ cycles k

-- the counter, and the byte last sent, after k cycles
unfoldable counter_after : ℕ → ℕ → ℕ
counter_after zero n = n
counter_after (suc k) n = counter_after k (counter_step Up n).value

unfoldable last_after : ℕ → ℕ → ℕ
last_after zero last = last
last_after (suc k) last = last_after k 0x55

all_cycles : (k n last : ℕ) (s : State) → Stage (lines_of 4) (waiting n last) s → Passes (counter_after k n) (last_after k last) s (cycles k) (replicate k 0x55)
unfolding cycles counter_after last_after
all_cycles zero n last s p = record { stage = p; sends = refl; comes = refl }
all_cycles (suc k) n last s p =
    let x = one_cycle n last s p in
    let y = all_cycles k (counter_step Up n).value 0x55 (after s cycle) x.stage in
    record {
      stage = y.stage;
      sends =
          along_append sent_by s cycle (cycles k) ∙ ap (λ (l : List ℕ). l ++ along sent_by (after s cycle) (cycles k)) x.sends
          ∙ ap (λ (l : List ℕ). 0x55 ∷ l) y.sends;
      comes =
          come_append run_allows s cycle (cycles k) ∙ ap (λ (b : Bool). b && all_come run_allows (after s cycle) (cycles k)) x.comes ∙ y.comes;
    }

-- the cut and the reading, whatever the counter
abbrev cut_record : List ℕ
cut_record = bytes_of 4 0x21000060

abbrev read_records : List (List ℕ)
read_records = records (0x48000000 ∷ 0x49000000 ∷ 0x4A000000 ∷ [])

record Ends (s : State) : Type 0 where
  code : (step s cut_record).code ≡ Done
  calmly : all_come calm (step s cut_record).state read_records ≡ true
  low : 0 < length (read_answers STCNT0 (step s cut_record).state read_records)
  middle : 0 < length (read_answers STCNT1 (step s cut_record).state read_records)
  high : 0 < length (read_answers STCNT2 (step s cut_record).state read_records)

ends : (n last : ℕ) (a : Status) (b : Latches) (c : Stack) (k : Bool) (d e : ℕ) (q : Sequencer) → Ends (made (lines_of 4) (waiting n last) a b c k d e q)
unfolding follows
ends n last a b c k d e q = record { code = refl; calmly = refl; low = lit< tt; middle = lit< tt; high = lit< tt }

is_cut_lem : says is_cut (decode cut_record) ≡ true
unfolding follows
is_cut_lem = refl

-- a round of k bytes, from a state that is reached from power reset
unfoldable pub begin : State
begin = after power_reset (records (0x320000C8 ∷ 0x210000E0 ∷ 0xA0000004 ∷ []))

begin_stage : Stage (lines_of 4) (waiting 0 0) begin
unfolding begin follows
begin_stage = record { lines = refl; registers = refl; transfer = refl; idle = refl }

begin_starts : Starts true begin
unfolding begin follows
begin_starts =
    record {
      host = refl;
      scsi = refl;
      counter = refl;
      offset = refl;
      acko = refl;
      opened = refl;
      direction = refl;
      enselo = refl;
      enseli = refl;
      enrseli = refl;
      idle = refl;
    }

unfoldable pub round_of : ℕ → Round
round_of k = record { run = cycles k; cut = cut_record; reading = read_records; clearing = [] }

pub round_proceeds : (k : ℕ) → Proceeds begin (round_of k)
unfolding round_of
round_proceeds k =
    let p = all_cycles k 0 0 begin begin_stage in
    let e = at_stage Ends (lines_of 4) (waiting (counter_after k 0) (last_after k 0)) (ends (counter_after k 0) (last_after k 0)) (after begin (cycles k)) p.stage in
    record {
      start = begin_starts;
      run = p.comes;
      cut = is_cut_lem;
      cut_code = e.code;
      reading = e.calmly;
      low = e.low;
      middle = e.middle;
      high = e.high;
    }

round_takes : (k : ℕ) → length (taken_in begin (round_of k)) ≡ k
unfolding round_of
round_takes k =
    ap length (cut_and_read begin (round_of k) (round_proceeds k)).in_run ∙ ap length (all_cycles k 0 0 begin begin_stage).sends
    ∙ length-replicate k 0x55

-- there is a round in which the target takes 16,777,216 bytes, and its driver reads 0
pub bound_is_needed : (length (taken_in begin (round_of 16777216)) ≡ 16777216) × (number_read begin (round_of 16777216) ≡ 0)
bound_is_needed =
    (round_takes 16777216, at_the_bound begin (round_of 16777216) (round_proceeds 16777216) (round_takes 16777216))
