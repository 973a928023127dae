-- The five steps of B that document 01 gives, with its edges found all at once in the state after A and applied side by side,
-- where of the state at the end of the last event only RST, REQ and the mismatch that were seen are known. This is not the
-- definition (crates/rules/specs/StepB.antt: one step after the other) but the form that the code computes, proved equal to it in
-- proofs/InOrder.antt. R-1's sequencer, which comes before the last, stands in the crate of that name.
use Rattle.std.specs.Prelude.{ℕ, Bool, not, ◌&&◌, cond, leb}
use Rattle.rules.specs.State.{State}
use Rattle.rules.specs.Seen.{rst_seen, io_seen, req_seen, matched, mismatched, path, synchronous, data_seen}
use Rattle.rules.specs.StepB.{parity_bad, beyond_limit, late_byte, quiet_after}
use Rattle.rules.specs.Changed.{with_registers, with_status, with_quiet, with_sequencer}
use Rattle.rules.specs.Sequencer.{selection_freed}
use Rattle.edges.specs.Components.{reset_b, registers_b, transfer_b, status_b}
use Rattle.edges.specs.declared.edges.Edges.{Edges}

unfoldable pub rst_rises_from : Bool → State → Bool
rst_rises_from rst now = rst_seen now && not rst

unfoldable pub req_rises_from : Bool → State → Bool
req_rises_from req now = req_seen now && not req && not (rst_seen now)

unfoldable pub synchronous_req_from : Bool → State → Bool
synchronous_req_from req now =
    req_rises_from req now && matched now && path now.registers
    && synchronous now

unfoldable pub quiet_from : Bool → State → ℕ → ℕ
quiet_from rst now ticks = quiet_after ticks (reset_b (rst_rises_from rst now) now)

-- the edges, by RST and REQ as they were
unfoldable pub edges_from : Bool → Bool → State → ℕ → Edges
edges_from rst req now ticks =
    record {
      reqfalls = req && not (req_seen now);
      rstrises = rst_rises_from rst now;
      reqrises = req_rises_from req now;
      paritybad = req_rises_from req now && parity_bad now;
      beyond = synchronous_req_from req now && beyond_limit now;
      within = synchronous_req_from req now && not (beyond_limit now);
      stored = synchronous_req_from req now && not (beyond_limit now) && io_seen now;
      late = synchronous_req_from req now && not (beyond_limit now) && late_byte now;
      free = leb 8 (quiet_from rst now ticks) && not (leb 8 now.quiet);
      quiet = quiet_from rst now ticks;
    }

-- the state after the five, by the mismatch as it was; "bus free also clears SELDO, and SELDI where noted"
unfoldable pub applied_from : Edges → Bool → State → State
applied_from g was now =
    let n = with_registers (registers_b g.rstrises g.paritybad g.free now.registers) (transfer_b g (data_seen now) now) in
    with_sequencer (cond g.free (selection_freed now.sequencer) now.sequencer)
    (with_quiet g.quiet (with_status (status_b g (mismatched n && not was) now.status) n))
