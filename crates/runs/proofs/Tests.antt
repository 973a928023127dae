-- A chain of rounds as one test that computes: where it is true, every hypothesis of the chain's theorem holds.
use mathlib.Core.Path.{◌≡◌, refl}
use mathlib.Core.Bool.{Bool, true, not, ◌&&◌}
use mathlib.Core.List.{List, [], ◌∷◌}
use Prim.Native.Nat.{ℕ, ◌+◌}
use lib.Dec.{eqb, leb, ltb}
use lib.ListN.{length, take, drop}
use borrow.Author.Tests.{eqb-true, leb-true, ltb-true, not-true}
use Rattle.rules.specs.State.{State}
use Rattle.rules.specs.Seen.{is_phase, path}
use Rattle.rules.specs.Records.{decode}
use Rattle.rules.specs.Events.{offered}
use Rattle.rules.specs.Codes.{is_done}
use Rattle.rules.specs.Examples.{same}
use Rattle.rules.specs.Step.{step, after}
use Rattle.rules.specs.declared.chip.Phase.TheVariants.{Idle}
use Rattle.rules.specs.declared.codes.Code.{Code}
use Rattle.rules.specs.declared.codes.Code.TheVariants.{Done, Malformed, Absent, Shut, NoRoom, NoBytes, BeyondLimit, TestValue}
use Rattle.rules.specs.declared.map.Register.TheVariants.{STCNT0, STCNT1, STCNT2}
use Rattle.rules.proofs.Logic.{never, left_true, right_true}
use Rattle.rules.proofs.StayIdle.{SequencerOff, is_idle}
use Rattle.runs.specs.Comes.{says, all_come, event_bytes}
use Rattle.runs.specs.Run.{Starts, run_allows, accepted}
use Rattle.runs.specs.Cut.{is_cut, calm, read_answers}
use Rattle.runs.specs.Clearing.{all_clear}
use Rattle.runs.specs.Rounds.{Offers, Round, after_cut, after_reading, after_round, taken_in, number_read, Proceeds, Follows, Chain, AllCleared}

pub same_eq : (a b : List ℕ) → same a b ≡ true → a ≡ b
same_eq [] [] h = refl
same_eq [] (y ∷ b) h = absurd (never h)
same_eq (x ∷ a) [] h = absurd (never h)
same_eq (x ∷ a) (y ∷ b) h =
    let p = eqb-true x y (left_true (eqb x y) (same a b) h) in
    let q = same_eq a b (right_true (eqb x y) (same a b) h) in
    cc

done_eq : (code : Code) → is_done code ≡ true → code ≡ Done
done_eq Done h = refl
done_eq Malformed h = absurd (never h)
done_eq Absent h = absurd (never h)
done_eq Shut h = absurd (never h)
done_eq NoRoom h = absurd (never h)
done_eq NoBytes h = absurd (never h)
done_eq BeyondLimit h = absurd (never h)
done_eq TestValue h = absurd (never h)

-- 340h bits 6-4 clear and the sequencer idle
abbrev pub off_test : State → Bool
off_test s =
    let q = s.registers.scsiseq in
    not q.enselo && (not q.enseli && (not q.enrseli && is_phase Idle s.sequencer.phase))

off_by_test : (s : State) → off_test s ≡ true → SequencerOff s
off_by_test s h =
    let q = s.registers.scsiseq in
    let h1 = right_true (not q.enselo) _ h in
    let h2 = right_true (not q.enseli) _ h1 in
    record {
      enselo = not-true q.enselo (left_true (not q.enselo) _ h);
      enseli = not-true q.enseli (left_true (not q.enseli) _ h1);
      enrseli = not-true q.enrseli (left_true (not q.enrseli) _ h2);
      idle = is_idle s.sequencer.phase (right_true (not q.enrseli) _ h2);
    }

abbrev pub starts_test : State → Bool
starts_test s =
    same s.transfer.host [] && (same s.transfer.scsi [] && (eqb s.transfer.counter 0 && (eqb s.transfer.offset 0
    && (not s.registers.scsisig.acko && (path s.registers && (s.registers.dmacntrl0.write && off_test s))))))

starts_by_test : (s : State) → starts_test s ≡ true → Starts true s
starts_by_test s h =
    let h1 = right_true (same s.transfer.host []) _ h in
    let h2 = right_true (same s.transfer.scsi []) _ h1 in
    let h3 = right_true (eqb s.transfer.counter 0) _ h2 in
    let h4 = right_true (eqb s.transfer.offset 0) _ h3 in
    let h5 = right_true (not s.registers.scsisig.acko) _ h4 in
    let h6 = right_true (path s.registers) _ h5 in
    let off = off_by_test s (right_true s.registers.dmacntrl0.write _ h6) in
    record {
      host = same_eq s.transfer.host [] (left_true (same s.transfer.host []) _ h);
      scsi = same_eq s.transfer.scsi [] (left_true (same s.transfer.scsi []) _ h1);
      counter = eqb-true s.transfer.counter 0 (left_true (eqb s.transfer.counter 0) _ h2);
      offset = eqb-true s.transfer.offset 0 (left_true (eqb s.transfer.offset 0) _ h3);
      acko = not-true s.registers.scsisig.acko (left_true (not s.registers.scsisig.acko) _ h4);
      opened = left_true (path s.registers) _ h5;
      direction = left_true s.registers.dmacntrl0.write _ h6;
      enselo = off.enselo;
      enseli = off.enseli;
      enrseli = off.enrseli;
      idle = off.idle;
    }

abbrev pub offers_test : List ℕ → State → List (List ℕ) → Bool
offers_test rest s [] = true
offers_test rest s (bytes ∷ more) =
    same (take (length (event_bytes offered (decode bytes))) rest) (event_bytes offered (decode bytes))
    && offers_test (drop (length (accepted s bytes)) rest) (step s bytes).state more

offers_by_test : (rest : List ℕ) (s : State) (records : List (List ℕ)) → offers_test rest s records ≡ true → Offers rest s records
offers_by_test rest s [] h = tt
offers_by_test rest s (bytes ∷ more) h =
    let a = same (take (length (event_bytes offered (decode bytes))) rest) (event_bytes offered (decode bytes)) in (
      same_eq (take (length (event_bytes offered (decode bytes))) rest) (event_bytes offered (decode bytes)) (left_true a _ h),
      offers_by_test (drop (length (accepted s bytes)) rest) (step s bytes).state more (right_true a _ h),
    )

-- the cut and the reading of the counter
abbrev pub cut_test : State → Round → Bool
cut_test s r =
    says is_cut (decode r.cut) && (is_done (step (after s r.run) r.cut).code && (all_come calm (after_cut s r) r.reading
    && (ltb 0 (length (read_answers STCNT0 (after_cut s r) r.reading)) && (ltb 0 (length (read_answers STCNT1 (after_cut s r) r.reading))
    && ltb 0 (length (read_answers STCNT2 (after_cut s r) r.reading))))))

proceeds_by_test : (s : State) (r : Round) → starts_test s ≡ true → all_come run_allows s r.run ≡ true → cut_test s r ≡ true → Proceeds s r
proceeds_by_test s r start run h =
    let code = (step (after s r.run) r.cut).code in
    let calmly = all_come calm (after_cut s r) r.reading in
    let low = length (read_answers STCNT0 (after_cut s r) r.reading) in
    let middle = length (read_answers STCNT1 (after_cut s r) r.reading) in
    let high = length (read_answers STCNT2 (after_cut s r) r.reading) in
    let h1 = right_true (says is_cut (decode r.cut)) _ h in
    let h2 = right_true (is_done code) _ h1 in
    let h3 = right_true calmly _ h2 in
    let h4 = right_true (ltb 0 low) _ h3 in
    record {
      start = starts_by_test s start;
      run = run;
      cut = left_true (says is_cut (decode r.cut)) _ h;
      cut_code = done_eq code (left_true (is_done code) _ h1);
      reading = left_true calmly _ h2;
      low = ltb-true 0 low (left_true (ltb 0 low) _ h3);
      middle = ltb-true 0 middle (left_true (ltb 0 middle) _ h4);
      high = ltb-true 0 high (right_true (ltb 0 middle) _ h4);
    }

abbrev pub follows_test : List ℕ → State → Round → Bool
follows_test bytes s r =
    starts_test s && (all_come run_allows s r.run && (cut_test s r && (offers_test bytes s r.run && leb (length (taken_in s r)) 16777215)))

follows_by_test : (bytes : List ℕ) (s : State) (r : Round) → follows_test bytes s r ≡ true → Follows bytes s r
follows_by_test bytes s r h =
    let h1 = right_true (starts_test s) _ h in
    let h2 = right_true (all_come run_allows s r.run) _ h1 in
    let h3 = right_true (cut_test s r) _ h2 in
    record {
      proceeds =
          proceeds_by_test s r (left_true (starts_test s) _ h) (left_true (all_come run_allows s r.run) _ h1) (left_true (cut_test s r) _ h2);
      offers = offers_by_test bytes s r.run (left_true (offers_test bytes s r.run) _ h3);
      bound = leb-true (length (taken_in s r)) 16777215 (right_true (offers_test bytes s r.run) _ h3);
    }

abbrev pub chain_test : List ℕ → ℕ → State → List Round → Bool
chain_test whole first s [] = true
chain_test whole first s (r ∷ more) = follows_test (drop first whole) s r && chain_test whole (first + number_read s r) (after_round s r) more

pub chain_by_test : (whole : List ℕ) (first : ℕ) (s : State) (rounds : List Round) → chain_test whole first s rounds ≡ true → Chain whole first s rounds
chain_by_test whole first s [] h = tt
chain_by_test whole first s (r ∷ more) h = (
  follows_by_test (drop first whole) s r (left_true (follows_test (drop first whole) s r) _ h),
  chain_by_test whole (first + number_read s r) (after_round s r) more (right_true (follows_test (drop first whole) s r) _ h),
)

-- every clearing keeps the paper's condition
abbrev pub cleared_test : State → List Round → Bool
cleared_test s [] = true
cleared_test s (r ∷ more) = all_clear (after_reading s r) r.clearing && cleared_test (after_round s r) more

pub cleared_by_test : (s : State) (rounds : List Round) → cleared_test s rounds ≡ true → AllCleared s rounds
cleared_by_test s [] h = tt
cleared_by_test s (r ∷ more) h = (
  left_true (all_clear (after_reading s r) r.clearing) _ h,
  cleared_by_test (after_round s r) more (right_true (all_clear (after_reading s r) r.clearing) _ h),
)
