-- The edges, as they are found one after the other; `held` is the count of the SCSI FIFO.
use Prim.Native.Nat.{ℕ}
use mathlib.Core.Path.{◌≡◌, ap, ◌∙◌}
use mathlib.Core.Bool.{Bool, not, ◌&&◌}
use mathlib.Core.List.{List}
use lib.Dec.{leb}
use lib.ListN.{length, get_or}
use Rattle.rules.specs.State.{State}
use Rattle.rules.specs.Seen.{io_seen, req_seen, matched, path, synchronous}
use Rattle.rules.specs.StepB.{beyond_limit, late_byte, quiet_after}
use Rattle.edges.specs.Components.{reset_b}
use Rattle.edges.specs.declared.edges.Edges.{Edges}
use Rattle.image.specs.Image.{state_at, IsImage}
use Rattle.image.specs.Layout.{scsi_count_place}
use Rattle.edges.specs.Tests.{inbound_bad, past_limit, late_behind}
use Rattle.edges.specs.From.{rst_rises_from, req_rises_from, synchronous_req_from, quiet_from, edges_from}
use Rattle.edges.proofs.Laws.{and_not, inbound_checked}
use Rattle.edges.proofs.Placed.{held_of}

module _ (s : State) (held : ℕ) (rst req : Bool) (ticks : ℕ) where
  unfoldable pub bad_in : Bool → Bool
  bad_in rises = rises && inbound_bad s

  unfoldable pub call_in : Bool → Bool
  call_in rises = rises && matched s && path s.registers && synchronous s

  unfoldable pub beyond_in : Bool → Bool
  beyond_in call = call && past_limit held s

  unfoldable pub late_in : Bool → Bool
  late_in within = within && late_behind held s

  -- the edges by what is found
  abbrev pub edges_by : Bool → Bool → Bool → Bool → Bool → Bool → ℕ → Edges
  edges_by reset rises bad call beyond late quiet =
      record {
        reqfalls = req && not (req_seen s);
        rstrises = reset;
        reqrises = rises;
        paritybad = bad;
        beyond = beyond;
        within = call && not beyond;
        stored = call && not beyond && io_seen s;
        late = late;
        free = leb 8 quiet && not (leb 8 s.quiet);
        quiet = quiet;
      }

  unfoldable pub edges_in : Edges
  edges_in =
      let reset = rst_rises_from rst s in
      let rises = req_rises_from req s in
      let call = call_in rises in
      edges_by reset rises (bad_in rises) call (beyond_in call) (late_in (call && not (beyond_in call))) (quiet_after ticks (reset_b reset s))

  pub edges_found : {reset rises bad call beyond late : Bool} {quiet : ℕ} → reset ≡ rst_rises_from rst s → rises ≡ req_rises_from req s → bad ≡ bad_in rises → call ≡ call_in rises → beyond ≡ beyond_in call → late ≡ late_in (call && not beyond) → quiet ≡ quiet_after ticks (reset_b reset s) → edges_by reset rises bad call beyond late quiet ≡ edges_in
  unfolding edges_in
  edges_found a b d e f g h = cc

-- they are those of the state, where the count is that of the bytes
edges_of : (s : State) (rst req : Bool) (ticks : ℕ) → edges_in s (length s.transfer.scsi) rst req ticks ≡ edges_from rst req s ticks
unfolding edges_from synchronous_req_from quiet_from beyond_limit late_byte edges_in bad_in call_in beyond_in late_in
edges_of s rst req ticks = rw (inbound_checked s, and_not)

pub edges_in_lem : (m : List ℕ) (rst req : Bool) (ticks : ℕ) → IsImage m → edges_in (state_at m) (get_or m scsi_count_place 0) rst req ticks ≡ edges_from rst req (state_at m) ticks
edges_in_lem m rst req ticks i =
    ap (λ (n : ℕ). edges_in (state_at m) n rst req ticks) (held_of m (state_at m) i.packed) ∙ edges_of (state_at m) rst req ticks
