-- DEMAND 3 of every trace, and so of the calls of step::step, step::run::run, host::rabenteig_step and host::rabenteig_run.
use mathlib.Core.Path.{◌≡◌, ap, sym, ◌∙◌}
use mathlib.Core.Bool.{true, false}
use mathlib.Core.List.{List, [], ◌∷◌, ◌++◌}
use Prim.Native.Nat.{ℕ, ◌*◌}
use lib.ListN.{drop}
use Rattle.rules.specs.State.{State, power_reset}
use Rattle.rules.specs.Chips.{view}
use Rattle.rules.specs.Step.{after, answers}
use Rattle.rules.specs.Ranges.{Bytes}
use Rattle.rules.specs.declared.chip.Chip.{Chip}
use Rattle.rules.proofs.Ranges.{power_reset_fits, power_reset_bytes}
use Rattle.runs.specs.Comes.{all_come}
use Rattle.runs.specs.Run.{Starts, run_allows}
use Rattle.runs.proofs.Along.{after_append}
use Rattle.runs.proofs.Stages.{held_at_start}
use Rattle.runs.proofs.WriteRun.{write_run}
use Rattle.runs.proofs.ReadRun.{read_run_lem}
use Rattle.image.specs.Image.{state_at}
use Rattle.saved.specs.Accepted.{accepted}
use Rattle.saved.proofs.Acceptance.{accepted_acceptable}
use Rattle.step.specs.declared.Ran.{Ran}
use Rattle.step.specs.Runs.{records_of, stepped_in, joined, IsRun}
use Rattle.host.specs.ImageCalls.{image_run, IsImageRun}
use Rattle.driver.specs.Exchanges.{Exchange, handed_over, may_come, all_over}
use Rattle.driver.specs.Driving.{exchanges_of as roundExchanges, all_rounds}
use Rattle.driver.specs.DemandThree.{WriteMoment, ReadMoment, DemandThree, state_after}
use Rattle.driver.specs.Calls.{Ranged, Trace, Call, Calls, exchanges_of, exchanges_in}
use Rattle.driver.specs.ImageChains.{HostCall, ImageChain, exchanges_over, AllMade, chains_of, AllChains, Claimed}
use Rattle.driver.proofs.Traces.{handed_append, trace_append, ranged_after, accepted_along, reads_along, comes_along, taken_along}
use Rattle.driver.proofs.Steps.{calls_trace, run_trace}
use Rattle.driver.proofs.Images.{image_ranged, chain_trace, chains_are}
use Rattle.driver.proofs.Rounds.{cut_of_trace, chain_of_trace}
use Rattle.driver.proofs.Restarts.{starts_by_records, blind_drives, blind_sends_only_taken}

-- every moment of a run, from the state in which it starts
module _ (s : State) (run : List Exchange) (i : Ranged s) (t : Trace s run) (come : all_over (may_come run_allows) run ≡ true) where
  run_comes : all_come run_allows s (handed_over run) ≡ true
  run_comes = sym (comes_along run_allows s run i t) ∙ come

  pub write_moment : Starts true s → WriteMoment (state_after s run) run
  write_moment start =
      let m = write_run s (handed_over run) start run_comes in
      let a = accepted_along s run i t in
      let b = taken_along s run i t (held_at_start true s start) run_comes in
      record { order = rw (a, b) m.order; count = rw b m.count }

  pub read_moment : Starts false s → ReadMoment s (state_after s run) run
  read_moment start = rw (reads_along s run i t) (read_run_lem s (handed_over run) start run_comes).order

module _ (s : State) (xs : List Exchange) (i : Ranged s) (t : Trace s xs) where
  -- a part of a trace is a trace from the state before it
  part : (earlier middle later : List Exchange) → xs ≡ earlier ++ (middle ++ later) → Trace (state_after s earlier) middle
  part earlier middle later e =
      let u : Trace s (earlier ++ (middle ++ later)) = rw e at t in
      (trace_append (state_after s earlier) middle later (trace_append s earlier (middle ++ later) u).1).0

  there : (earlier : List Exchange) → Ranged (state_after s earlier)
  there earlier = ranged_after s (handed_over earlier) i

  further : (earlier run : List Exchange) → state_after s (earlier ++ run) ≡ state_after (state_after s earlier) run
  further earlier run = ap (after s) (handed_append earlier run) ∙ after_append s (handed_over earlier) (handed_over run)

  -- DEMAND 3 OF EVERY TRACE
  pub demand_three : DemandThree s xs
  demand_three =
      record {
        start = λ earlier final later eightbit e q. starts_by_records s earlier final eightbit i q;
        moment =
            λ earlier run later e q come.
            rw (further earlier run) (write_moment (state_after s earlier) run (there earlier) (part earlier run later e) come q);
        cut = λ earlier later r e q k. cut_of_trace (state_after s earlier) r (there earlier) q k (part earlier (roundExchanges r) later e);
        chain =
            λ earlier later whole rounds last e d.
            chain_of_trace whole (state_after s earlier) rounds last (there earlier) d (part earlier (all_rounds rounds ++ last) later e);
        blind =
            λ earlier later whole rounds last e q d.
            let p = part earlier (all_rounds rounds ++ last) later e in
            chain_of_trace whole (state_after s earlier) rounds last (there earlier)
            (blind_drives whole (state_after s earlier) rounds last (there earlier) q d p) p;
        only =
            λ earlier later whole rounds last e q d.
            blind_sends_only_taken whole (state_after s earlier) rounds last (there earlier) q d
            (part earlier (all_rounds rounds ++ last) later e);
        reading =
            λ earlier run later e q come.
            rw (further earlier run) (read_moment (state_after s earlier) run (there earlier) (part earlier run later e) come q);
      }

-- OF EVERY LIST OF CALLS of the public step, each on the chip that the one before returned, with any records and any buffers
pub demand_three_of_calls : (c : Chip) (ks : List Call) → Ranged (view c) → Calls c ks → DemandThree (view c) (exchanges_of ks)
demand_three_of_calls c ks i h = demand_three (view c) (exchanges_of ks) i (calls_trace c ks i h)

-- OF EVERY RUN OF RECORDS in one slice, with their answers in another
pub demand_three_of_run :
    (c : Chip) (bytes before buffer : List ℕ) (r : Ran) → Ranged (view c) → IsRun c bytes before buffer r →
    DemandThree (view c) (exchanges_in (stepped_in bytes before) bytes buffer)
demand_three_of_run c bytes before buffer r i h =
    let n = stepped_in bytes before in
    demand_three (view c) (exchanges_in n bytes buffer) i
    (rw h.answers (run_trace (view c) n bytes (drop (16 * n) before) i))

pub reset_ranged : Ranged power_reset
reset_ranged = record { range = power_reset_fits; bytes = power_reset_bytes }

-- OF EVERY CHAIN OF CALLS of the exported step from an accepted image, each handed the image that the one before left
pub demand_three_of_images :
    (image : List ℕ) (ks : List HostCall) → Bytes image → accepted image ≡ true → ImageChain image ks →
    DemandThree (state_at image) (exchanges_over ks)
demand_three_of_images image ks b e h =
    let a = accepted_acceptable image b e in
    demand_three (state_at image) (exchanges_over ks) (image_ranged image a) (chain_trace image ks a h)

-- and so of any calls, chain by chain
chains_claimed : (chains : List (List HostCall)) → AllChains chains → Claimed chains
chains_claimed [] h = tt
chains_claimed ([] ∷ more) h = chains_claimed more h.1
chains_claimed ((k ∷ chain) ∷ more) h =
    (λ b e. demand_three_of_images k.image (k ∷ chain) b e h.0, chains_claimed more h.1)

pub demand_three_of_host_calls : (ks : List HostCall) → AllMade ks → Claimed (chains_of ks)
demand_three_of_host_calls ks h = chains_claimed (chains_of ks) (chains_are ks h)

-- AND OF THE EXPORTED RUN, from an accepted image
pub demand_three_of_host :
    (image bytes before left buffer : List ℕ) (count : ℕ) → Bytes image → accepted image ≡ true →
    IsImageRun image bytes before left buffer count → DemandThree (state_at image) (exchanges_in (stepped_in bytes before) bytes buffer)
unfolding image_run
demand_three_of_host image bytes before left buffer count b e h =
    let n = stepped_in bytes before in
    let s = state_at image in
    let i = image_ranged image (accepted_acceptable image b e) in
    let q : buffer ≡ joined (answers s (records_of n bytes)) ++ drop (16 * n) before = h.buffer ∙ rw e in
    demand_three s (exchanges_in n bytes buffer) i (rw q (run_trace s n bytes (drop (16 * n) before) i))
