-- THE FIVE STEPS IN THEIR ORDER ARE THE EDGES SIDE BY SIDE, for every state: the definition and the form that the code computes.
-- A bus reset leaves RST seen, so that no REQ rises after it; a REQ that rises did not fall; so "REQ rises" is handed the state
-- after A wherever it does anything, and the automatic ACK released before it changes nothing that it looks at.
use Prim.Native.Nat.{ℕ}
use mathlib.Core.Path.{◌≡◌, refl, ap, sym, ◌∙◌}
use mathlib.Core.Bool.{Bool, true, false, not, ◌&&◌, ◌||◌, cond, and-false}
use mathlib.Core.List.{List, [], ◌∷◌, ◌++◌, append-nil}
use Rattle.rules.specs.State.{State}
use Rattle.rules.specs.Seen.{rst_seen, req_seen, io_seen, bsy_seen, sel_seen, connected, matched, mismatched, data_seen}
use Rattle.rules.specs.StepB.{req_falls, ack_released, after_req_falls, rst_rises, bus_reset, after_rst_rises, req_rises, parity_bad, attention, synchronous_req, beyond_limit, beyond, req_within, late_byte, stored_byte, req_risen, after_req_rises, quiet_after, bus_free, bus_freed, after_quiet_ticks, phase_changes, phase_changed, after_phase_changes, first_four}
use Rattle.rules.specs.Changed.{with_status, with_quiet}
use Rattle.rules.specs.Sequencer.{selection_freed}
use Rattle.image.specs.Image.{state_at}
use Rattle.rules.proofs.InOrder.{falls_keeps}
use Rattle.rules.proofs.Logic.{never, left_true}
use Rattle.edges.specs.Components.{registers_b, transfer_b, status_b}
use Rattle.edges.specs.From.{rst_rises_from, req_rises_from, synchronous_req_from, quiet_from, edges_from, applied_from}
use Rattle.edges.specs.Frequent.{raised_b, phase_b}
use Rattle.edges.specs.ParityKept.{kept_of, kept_from}
use Rattle.edges.proofs.ParityKept.{kept_none, kept_data}
use Rattle.edges.specs.Since.{last_of, five_in_order, beyond_since, rst_of, req_of, mismatched_of}
use Rattle.edges.specs.declared.edges.Edges.{Edges}
use Rattle.edges.specs.declared.last.Seen.{Seen}

-- REQ does not rise where it falls, nor where RST is seen
rises_not_falls : (now was : Bool) (x : Bool) → (now && not was && x) ≡ true → (was && not now) ≡ false
rises_not_falls true was x h = and-false was
rises_not_falls false was x h = absurd (never h)

-- "REQ rises" does something or nothing
module _ (last n : State) where
  stays : req_rises last n ≡ false → after_req_rises last n ≡ n
  unfolding after_req_rises
  stays u = rw u

  rises : req_rises last n ≡ true → after_req_rises last n ≡ req_risen n
  unfolding after_req_rises
  rises u = rw u

  none : req_rises last n ≡ false → beyond last n ≡ false
  unfolding beyond
  none u = rw u

  some : req_rises last n ≡ true → beyond last n ≡ (synchronous_req n && beyond_limit n)
  unfolding beyond
  some u = rw u

module _ (last now : State) where
  risen_not_fallen : req_rises last now ≡ true → req_falls last now ≡ false
  unfolding req_rises req_falls
  risen_not_fallen h = rises_not_falls now.lines.req last.lines.req _ h

  -- the first two steps, by what rises
  calm : (n : State) → rst_rises last n ≡ false → after_rst_rises last n ≡ n
  unfolding after_rst_rises
  calm n r = rw r

  -- the automatic ACK is not looked at
  reset_two : rst_rises last now ≡ true → after_rst_rises last (after_req_falls last now) ≡ bus_reset now
  unfolding after_req_falls after_rst_rises ack_released bus_reset rst_rises rst_seen
  reset_two r =
      falls_keeps (λ n. after_rst_rises last n ≡ bus_reset now) last now (rw r) (λ h. rw r)

  unreset_two : rst_rises last now ≡ false → after_rst_rises last (after_req_falls last now) ≡ after_req_falls last now
  unfolding after_req_falls ack_released rst_rises rst_seen
  unreset_two r =
      falls_keeps (λ n. after_rst_rises last n ≡ n) last now (calm now r) (λ h. calm (ack_released now) r)

  unfallen : req_rises last now ≡ true → after_req_falls last now ≡ now
  unfolding after_req_falls
  unfallen u = rw (risen_not_fallen u)

  reset_no_req : rst_rises last now ≡ true → req_rises last (bus_reset now) ≡ false
  unfolding rst_rises req_rises bus_reset rst_seen
  reset_no_req r = rw (left_true (now.lines.rst || now.registers.scsiseq.scsirsto) _ r, and-false)

  unrisen : req_rises last now ≡ false → req_rises last (after_req_falls last now) ≡ false
  unfolding after_req_falls ack_released req_rises rst_seen
  unrisen u = falls_keeps (λ n. req_rises last n ≡ false) last now u (λ h. h)

-- the last two steps of a state, where it is known whether the bus becomes free
abbrev ends_by : Bool → Bool → ℕ → State → State
ends_by was free quiet n = phase_b was (cond free (bus_freed (with_quiet quiet n)) (with_quiet quiet n))

phase_step : (last n : State) → after_phase_changes last n ≡ phase_b (mismatched last) n
unfolding after_phase_changes phase_changes phase_changed
phase_step last n = go (mismatched n && not (mismatched last))
  where
    go : (b : Bool) → cond b (phase_changed n) n ≡ with_status (raised_b b false false n.status) n
    go true = refl
    go false = refl

-- the edges where no REQ rises, with a bus reset or without one, and those where one does
abbrev pub unrisen_edges : Bool → Bool → Bool → ℕ → Edges
unrisen_edges reset falls free quiet =
    record {
      reqfalls = falls;
      rstrises = reset;
      reqrises = false;
      paritybad = false;
      beyond = false;
      within = false;
      stored = false;
      late = false;
      free = free;
      quiet = quiet;
    }

abbrev risen_edges : State → Bool → ℕ → Edges
risen_edges now free quiet =
    record {
      reqfalls = false;
      rstrises = false;
      reqrises = true;
      paritybad = parity_bad now;
      beyond = synchronous_req now && beyond_limit now;
      within = req_within now;
      stored = req_within now && io_seen now;
      late = req_within now && late_byte now;
      free = free;
      quiet = quiet;
    }

module _ (was : Bool) (now : State) where
  applied_reset : (falls free : Bool) (quiet : ℕ) → applied_from (unrisen_edges true falls free quiet) was now ≡ ends_by was free quiet (bus_reset now)
  unfolding applied_from registers_b transfer_b status_b bus_reset bus_freed selection_freed mismatched matched connected bsy_seen sel_seen rst_seen
  applied_reset true true quiet = refl
  applied_reset true false quiet = refl
  applied_reset false true quiet = refl
  applied_reset false false quiet = refl

  applied_other : (falls free : Bool) (quiet : ℕ) → applied_from (unrisen_edges false falls free quiet) was now ≡ ends_by was free quiet (cond falls (ack_released now) now)
  unfolding applied_from registers_b transfer_b status_b ack_released bus_freed selection_freed mismatched matched connected bsy_seen sel_seen rst_seen
  applied_other true true quiet = refl
  applied_other true false quiet = refl
  applied_other false true quiet = refl
  applied_other false false quiet = refl

  stored_last : (t : Bool) (l : List ℕ) (b : ℕ) → cond t (l ++ (b ∷ [])) l ≡ l ++ cond t (b ∷ []) []
  stored_last true l b = refl
  stored_last false l b = sym (append-nil l)

  stored_as : cond (req_within now && io_seen now) (now.transfer.scsi ++ (data_seen now ∷ [])) now.transfer.scsi ≡ now.transfer.scsi ++ stored_byte now
  unfolding stored_byte
  stored_as = stored_last (req_within now && io_seen now) now.transfer.scsi _

  applied_risen : (free : Bool) (quiet : ℕ) → applied_from (risen_edges now free quiet) was (kept_of now) ≡ ends_by was free quiet (req_risen now)
  unfolding applied_from registers_b transfer_b status_b attention req_risen bus_freed selection_freed mismatched matched connected bsy_seen sel_seen rst_seen
  applied_risen true quiet = rw (kept_data now, stored_as)
  applied_risen false quiet = rw (kept_data now, stored_as)

module _ (last : State) (ticks : ℕ) (now : State) where
  abbrev rst : Bool
  rst = rst_seen last

  abbrev req : Bool
  req = req_seen last

  abbrev was : Bool
  was = mismatched last

  edges_reset : rst_rises last now ≡ true → edges_from rst req now ticks ≡ unrisen_edges true (req_falls last now) (bus_free ticks (bus_reset now)) (quiet_after ticks (bus_reset now))
  unfolding edges_from rst_rises_from req_rises_from synchronous_req_from quiet_from req_falls rst_rises bus_reset quiet_after bus_free registers_b bsy_seen sel_seen
  edges_reset r = rw (r, left_true (rst_seen now) (not rst) r, and-false)

  edges_risen : rst_rises last now ≡ false → req_rises last now ≡ true → edges_from rst req now ticks ≡ risen_edges now (bus_free ticks (req_risen now)) (quiet_after ticks (req_risen now))
  unfolding edges_from rst_rises_from req_rises_from synchronous_req_from quiet_from req_falls rst_rises req_rises synchronous_req req_within req_risen quiet_after bus_free registers_b bsy_seen sel_seen
  edges_risen r u = rw (risen_not_fallen last now u, r, u)

  edges_other : rst_rises last now ≡ false → req_rises last now ≡ false → edges_from rst req now ticks ≡ unrisen_edges false (req_falls last now) (bus_free ticks now) (quiet_after ticks now)
  unfolding edges_from rst_rises_from req_rises_from synchronous_req_from quiet_from req_falls rst_rises req_rises quiet_after bus_free registers_b bsy_seen sel_seen
  edges_other r u = rw (r, u)

  -- nor do the quiet ticks look at the automatic ACK
  quiet_fallen : quiet_after ticks (after_req_falls last now) ≡ quiet_after ticks now
  unfolding ack_released quiet_after bsy_seen sel_seen
  quiet_fallen = falls_keeps (λ n. quiet_after ticks n ≡ quiet_after ticks now) last now refl (λ h. h)

  free_fallen : bus_free ticks (after_req_falls last now) ≡ bus_free ticks now
  unfolding ack_released bus_free quiet_after bsy_seen sel_seen
  free_fallen = falls_keeps (λ n. bus_free ticks n ≡ bus_free ticks now) last now refl (λ h. h)

  -- the phase judged against any mismatch, whether it was seen or not
  abbrev Ordered : Bool → Type 0
  Ordered w = phase_b w (first_four last ticks now) ≡ applied_from (edges_from rst req now ticks) w (kept_from req now)

  -- what "REQ rises" is handed, and the state that it leaves
  handed : (w : Bool) {n m : State} → after_rst_rises last (after_req_falls last now) ≡ n → after_req_rises last n ≡ m → phase_b w (first_four last ticks now) ≡ ends_by w (bus_free ticks m) (quiet_after ticks m) m
  unfolding first_four after_quiet_ticks
  handed w {n} {m} a b =
      ap (λ (x : State). phase_b w (after_quiet_ticks ticks (after_req_rises last x))) a
      ∙ ap (λ (x : State). phase_b w (after_quiet_ticks ticks x)) b

  side : (w : Bool) {g : Edges} {n : State} → edges_from rst req now ticks ≡ g → kept_from req now ≡ n → applied_from g w n ≡ applied_from (edges_from rst req now ticks) w (kept_from req now)
  side w e k = λ i. applied_from (sym e i) w (sym k i)

  -- a REQ that rises, by REQ as it was
  from_risen : {b : Bool} → req_rises last now ≡ b → req_rises_from req now ≡ b
  unfolding req_rises req_rises_from
  from_risen u = u

  unrisen_reset : rst_rises last now ≡ true → req_rises_from req now ≡ false
  unfolding rst_rises req_rises_from
  unrisen_reset r = rw (left_true (rst_seen now) (not rst) r, and-false)

  kept_risen : req_rises last now ≡ true → kept_from req now ≡ kept_of now
  unfolding kept_from
  kept_risen u = rw (from_risen u)

  ordered_reset : (w : Bool) → rst_rises last now ≡ true → Ordered w
  ordered_reset w r =
      handed w (reset_two last now r) (stays last (bus_reset now) (reset_no_req last now r))
      ∙ sym (applied_reset w now (req_falls last now) _ _) ∙ side w (edges_reset r) (kept_none req now (unrisen_reset r))

  ordered_risen : (w : Bool) → rst_rises last now ≡ false → req_rises last now ≡ true → Ordered w
  ordered_risen w r u =
      handed w (unreset_two last now r ∙ unfallen last now u) (rises last now u) ∙ sym (applied_risen w now _ _) ∙ side w (edges_risen r u) (kept_risen u)

  ordered_other : (w : Bool) → rst_rises last now ≡ false → req_rises last now ≡ false → Ordered w
  unfolding after_req_falls
  ordered_other w r u =
      handed w (unreset_two last now r) (stays last (after_req_falls last now) (unrisen last now u))
      ∙ rw (quiet_fallen, free_fallen) (sym (applied_other w now (req_falls last now) _ _)) ∙ side w (edges_other r u) (kept_none req now (from_risen u))

  ordered : (w : Bool) → Ordered w
  ordered w = by (rst_rises last now) (req_rises last now) refl refl
    where
      by : (r u : Bool) → rst_rises last now ≡ r → req_rises last now ≡ u → Ordered w
      by true u p q = ordered_reset w p
      by false true p q = ordered_risen w p q
      by false false p q = ordered_other w p q

  -- IN ORDER AND SIDE BY SIDE ARE ONE
  pub in_order_lem : five_in_order last ticks now ≡ applied_from (edges_from rst req now ticks) was (kept_from req now)
  unfolding five_in_order
  in_order_lem = phase_step last (first_four last ticks now) ∙ ordered was

  -- and so are the four, where a mismatch is taken to have been seen
  unphased : (n : State) → n ≡ phase_b true n
  unphased n = rw (and-false (mismatched n))

  pub four_in_order : first_four last ticks now ≡ applied_from (edges_from rst req now ticks) true (kept_from req now)
  four_in_order = unphased (first_four last ticks now) ∙ ordered true

  -- and so is code 6
  abbrev Beyond : Type 0
  Beyond = beyond last (after_rst_rises last (after_req_falls last now)) ≡ (edges_from rst req now ticks).beyond

  pub beyond_in_order : Beyond
  beyond_in_order = by (rst_rises last now) (req_rises last now) refl refl
    where
      by : (r u : Bool) → rst_rises last now ≡ r → req_rises last now ≡ u → Beyond
      by true u p q = rw (reset_two last now p, edges_reset p) (none last (bus_reset now) (reset_no_req last now p))
      by false true p q = rw (unreset_two last now p ∙ unfallen last now q, edges_risen p q) (some last now q)
      by false false p q = rw (unreset_two last now p, edges_other p q) (none last (after_req_falls last now) (unrisen last now q))

-- B since the bytes that were seen
module _ (x : Seen) (ticks : ℕ) (now : State) where
  pub since : applied_from (edges_from (rst_of x) (req_of x) now ticks) (mismatched_of x) (kept_from (req_of x) now) ≡ five_in_order (last_of x) ticks now
  unfolding rst_of req_of mismatched_of state_at
  since = sym (in_order_lem (last_of x) ticks now)

  pub beyond_since_lem : (edges_from (rst_of x) (req_of x) now ticks).beyond ≡ beyond_since x now
  unfolding beyond_since rst_of req_of state_at
  beyond_since_lem = sym (beyond_in_order (last_of x) ticks now)

  pub four_since : applied_from (edges_from (rst_of x) (req_of x) now ticks) true (kept_from (req_of x) now) ≡ first_four (last_of x) ticks now
  unfolding rst_of req_of state_at
  four_since = sym (four_in_order (last_of x) ticks now)

  -- are those since any state that has them
  module _ (s : State) (p : rst_of x ≡ rst_seen s) (q : req_of x ≡ req_seen s) where
    pub four_as_seen : first_four (last_of x) ticks now ≡ first_four s ticks now
    four_as_seen =
        sym four_since ∙ (λ i. applied_from (edges_from (p i) (q i) now ticks) true (kept_from (q i) now)) ∙ sym (four_in_order s ticks now)

    pub as_seen : mismatched_of x ≡ mismatched s → five_in_order (last_of x) ticks now ≡ five_in_order s ticks now
    as_seen r = sym since ∙ (λ i. applied_from (edges_from (p i) (q i) now ticks) (r i) (kept_from (q i) now)) ∙ sym (in_order_lem s ticks now)

    pub beyond_as_seen : beyond_since x now ≡ beyond s (after_rst_rises s (after_req_falls s now))
    beyond_as_seen = sym beyond_since_lem ∙ (λ i. (edges_from (p i) (q i) now ticks).beyond) ∙ sym (beyond_in_order s ticks now)

-- the phase, judged against the mismatch that was seen
pub phase_as_seen : (x : Seen) (n : State) {w : Bool} → w ≡ mismatched_of x → phase_b w n ≡ after_phase_changes (last_of x) n
unfolding mismatched_of
phase_as_seen x n e = ap (λ (b : Bool). phase_b b n) e ∙ sym (phase_step (last_of x) n)
