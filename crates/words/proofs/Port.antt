-- A word access to the port of a chip at rest changes the host FIFO, and what settling makes of that: nothing rises or falls in B,
-- and D leaves all but REQINIT as it was.
use mathlib.Core.Path.{◌≡◌, refl, sym, ◌∙◌, ap}
use mathlib.Core.Bool.{Bool, true, false, not, ◌&&◌, ◌||◌, cond, and-not_self}
use mathlib.Core.List.{List, ◌++◌}
use Prim.Native.Nat.{ℕ, ◌≤◌}
use lib.Dec.{leb}
use lib.ListN.{drop}
use Rattle.rules.specs.Rest.{AtRest}
use Rattle.rules.specs.State.{State, Transfer}
use Rattle.rules.specs.Changed.{with_transfer, with_host}
use Rattle.rules.specs.Seen.{ack_seen, bsy_seen, connected, data_seen, data_driven, byte_driven, byte_driving, matched, mismatched, req_seen, rst_seen, sel_seen, synchronous, automatic}
use Rattle.rules.specs.Events.{writes, reads, value_of, ticks_of, lines_after, offered, asked, port_write}
use Rattle.rules.specs.Reads.{value_read}
use Rattle.rules.specs.StepA.{clears, clears_latch, clears_error, clrstcnt, clrch, rstfifo, latch_access, automatic_ack, registers_a, host_a, counter_a, transfer_a, error_a, status_a, latches_a, stack_a, identity_a, gives_up, selection_a, noted_a, selection_latches_a, sequencer_a, after_a}
use Rattle.rules.specs.StepB.{req_falls, after_req_falls, rst_rises, after_rst_rises, req_rises, after_req_rises, quiet_after, bus_free, after_quiet_ticks, phase_changes, after_phase_changes, first_four, in_order, after_b}
use Rattle.rules.specs.StepC.{Settling, conditions, settle, turns, started, settled_c, move, handshake}
use Rattle.rules.specs.StepD.{fifo_conflict, pio_ready, status_raised, status_d, latches_d, finished, after_d}
use Rattle.rules.specs.Answers.{Stepped}
use Rattle.rules.specs.Step.{done}
use Rattle.rules.specs.declared.chip.Conditions.{Conditions}
use Rattle.rules.specs.declared.chip.Status.{Status}
use Rattle.rules.specs.declared.codes.Code.TheVariants.{Done, BeyondLimit}
use Rattle.rules.specs.declared.records.Event.{Event}
use Rattle.rules.specs.declared.records.Event.TheVariants.{WordWrite, WordRead, Ticks}
use Rattle.rules.proofs.Logic.{never}
use Rattle.rules.proofs.Settling.{settle_keeps}
use Rattle.rules.proofs.Refusals.{not_beyond}
use Rattle.rules.proofs.Still.{after_a_still, quiet_still, sequencer_still, finished_still}
use Rattle.rules.proofs.Resolving.{sequential_transfer}
use Rattle.words.specs.Blocks.{settled_with, block_settled, block_left}

-- B: no line and no register changes, so nothing rises or falls
module _ (s : State) (h : List ℕ) where
  abbrev held : State
  held = with_host h s

  no_fall : after_req_falls s held ≡ held
  unfolding after_req_falls req_falls
  no_fall = rw (and-not_self (req_seen s))

  no_reset : after_rst_rises s held ≡ held
  unfolding after_rst_rises rst_rises rst_seen
  no_reset = rw (and-not_self (s.lines.rst || s.registers.scsiseq.scsirsto))

  no_rise : after_req_rises s held ≡ held
  unfolding after_req_rises req_rises
  no_rise = rw (apart (req_seen s) (not (rst_seen held)))
    where
      apart : (q n : Bool) → (q && not q && n) ≡ false
      apart true n = refl
      apart false n = refl

  mismatched_same : mismatched held ≡ mismatched s
  unfolding mismatched matched connected rst_seen sel_seen bsy_seen
  mismatched_same = refl

  no_change : after_phase_changes s held ≡ held
  unfolding after_phase_changes phase_changes
  no_change = rw (mismatched_same, and-not_self (mismatched s))

  pub conditions_same : conditions held ≡ conditions s
  unfolding conditions matched connected rst_seen sel_seen bsy_seen synchronous data_seen data_driven byte_driven byte_driving
  conditions_same = refl

  quiet_same : quiet_after 0 held ≡ quiet_after 0 s
  unfolding quiet_after bsy_seen sel_seen
  quiet_same = refl

  module _ (r : AtRest s) (q : s.quiet ≤ 8) where
    quiet_held : quiet_after 0 held ≡ s.quiet
    quiet_held = quiet_same ∙ quiet_still s r q

    no_ticks_lem : after_quiet_ticks 0 held ≡ held
    unfolding after_quiet_ticks bus_free
    no_ticks_lem = rw (quiet_held, and-not_self (leb 8 s.quiet))

    b_still : in_order s 0 held ≡ held
    unfolding in_order first_four
    b_still =
        simp (no_fall, no_reset, no_rise, no_ticks_lem, sequencer_still held s.quiet (sequential_transfer _ s r.sequencer), no_change)

-- automatic ACK, once on, stays on through settling
pub ack_stays : (c : Conditions) (n : ℕ) (s : Settling) → s.transfer.ack ≡ true → (settle c n s).transfer.ack ≡ true
unfolding move handshake
ack_stays c =
    settle_keeps (λ (x : Settling). x.transfer.ack ≡ true) c (λ x can k. k) (λ x can k. on c.synchronous x.transfer.ack k)
  where
    on : (y a : Bool) → a ≡ true → cond y a true ≡ true
    on true a k = k
    on false a k = refl

-- what holds already is not raised by a weaker cause
raised_less : (weak strong status : Bool) → (weak ≡ true → strong ≡ true) → (strong || status) ≡ status → (weak || status) ≡ status
raised_less true strong status f e = rw (f refl) at e
raised_less false strong status f e = refl

-- D: s as settling left it, with the data path t
module _ (s : State) (r : AtRest s) (t : Transfer) (on : s.transfer.ack ≡ true → t.ack ≡ true) where
  abbrev settled : State
  settled = with_transfer t s

  pio_less : pio_ready settled ≡ true → pio_ready s ≡ true
  unfolding pio_ready matched connected rst_seen sel_seen bsy_seen
  pio_less = less s.transfer.ack t.ack on (automatic s.registers && matched s && req_seen s)
    where
      less : (a b : Bool) → (a ≡ true → b ≡ true) → (p : Bool) → (p && not b) ≡ true → (p && not a) ≡ true
      less true true f p e = e
      less true false f p e = absurd (never (f refl))
      less false b f true e = refl
      less false b f false e = e

  raised_spiordy : (pio_ready s || s.status.spiordy) ≡ s.status.spiordy
  unfolding finished started status_d status_raised
  raised_spiordy = ap (λ (x : State). x.status.spiordy) (finished_still s r)

  raised_fwerr : (fifo_conflict s.registers || s.status.fwerr) ≡ s.status.fwerr
  unfolding finished started status_d status_raised
  raised_fwerr = ap (λ (x : State). x.status.fwerr) (finished_still s r)

  raised_still : status_raised settled ≡ s.status
  unfolding status_raised
  raised_still =
      λ i.
      record {
        spiordy = raised_less (pio_ready settled) (pio_ready s) s.status.spiordy pio_less raised_spiordy i;
        scsirsti = s.status.scsirsti;
        busfree = s.status.busfree;
        scsiperr = s.status.scsiperr;
        phasechg = s.status.phasechg;
        reqinit = s.status.reqinit;
        syncerr = s.status.syncerr;
        fwerr = raised_fwerr i;
      }

module _ (s : State) (r : AtRest s) where
  latches_still : (x : Status) → x ≡ s.status → latches_d s.registers s.registers s.status x s.latches ≡ s.latches
  unfolding finished started
  latches_still x e =
      ap (λ (y : Status). latches_d s.registers s.registers s.status y s.latches) (e ∙ sym (raised_still s r s.transfer (λ k. k)))
      ∙ ap (λ (y : State). y.latches) (finished_still s r)

  pub block_finished : (h : List ℕ) → finished s (with_host h s) (with_host h s) (block_settled s h) ≡ block_left s h
  unfolding finished block_left settled_with
  block_finished h =
      let t = (block_settled s h).transfer in
      let e = raised_still s r t (ack_stays (conditions s) turns _) in
      λ i.
      record {
        lines = s.lines;
        registers = s.registers;
        transfer = t;
        status = status_d (block_settled s h).acks (ack_seen (with_transfer t s)) (e i);
        latches = latches_still (status_raised (with_transfer t s)) e i;
        stack = s.stack;
        keptbad = s.keptbad;
        quiet = s.quiet;
        identity = s.identity;
        sequencer = s.sequencer;
      }

-- what a word access makes of the host FIFO
pub record Ported (e : Event) (s : State) (h : List ℕ) : Type 0 where
  pub a : after_a s e ≡ with_host h (after_a s (Ticks 0))
  pub ticks : ticks_of e ≡ 0
  pub lines : lines_after e s.lines ≡ s.lines

pub word_written_lem : (word : ℕ) (s : State) → Ported (WordWrite word) s (s.transfer.host ++ offered (WordWrite word))
unfolding after_a lines_after registers_a transfer_a host_a counter_a status_a error_a latches_a stack_a identity_a automatic_ack latch_access clrstcnt clrch rstfifo clears clears_latch clears_error sequencer_a gives_up selection_a noted_a selection_latches_a writes reads value_of asked port_write ticks_of
word_written_lem word s = record { a = refl; ticks = refl; lines = refl }

pub word_read_lem : (s : State) → Ported WordRead s (drop 2 s.transfer.host)
unfolding after_a lines_after registers_a transfer_a host_a counter_a status_a error_a latches_a stack_a identity_a automatic_ack latch_access clrstcnt clrch rstfifo clears clears_latch clears_error sequencer_a gives_up selection_a noted_a selection_latches_a writes reads value_of asked port_write ticks_of
word_read_lem s = record { a = refl; ticks = refl; lines = refl }

-- what a word access gives: the block of its own two bytes
abbrev pub block_stepped : State → List ℕ → ℕ → Stepped
block_stepped s h value =
    record {
      state = block_left s h;
      code = Done;
      value = value;
      moves = (block_settled s h).moves;
      acks = (block_settled s h).acks;
      sent = (block_settled s h).sent;
    }

module _ (e : Event) (s : State) (h : List ℕ) (p : Ported e s h) (r : AtRest s) (q : s.quiet ≤ 8) where
  a_held : after_a s e ≡ with_host h s
  a_held = p.a ∙ ap (with_host h) (after_a_still s 0 r)

  b_held : after_b s e ≡ with_host h s
  unfolding after_b
  b_held = (λ i. in_order s (p.ticks i) (a_held i)) ∙ b_still s h r q

  c_held : settled_c s e ≡ block_settled s h
  unfolding settled_c started settled_with
  c_held =
      ap (λ (b : State). settle (conditions b) turns (started b)) b_held
      ∙ ap (λ (c : Conditions). settle c turns (started (with_host h s))) (conditions_same s h)

  d_held : after_d s e ≡ block_left s h
  unfolding after_d
  d_held = (λ i. finished s (a_held i) (b_held i) (c_held i)) ∙ block_finished s r h

  -- A WORD ACCESS TO A CHIP AT REST IS A BLOCK OF ONE WORD
  pub port_at_rest : done s e ≡ block_stepped s h (value_read s e)
  unfolding done
  port_at_rest =
      λ i.
      record {
        state = d_held i;
        code = cond (not_beyond s e p.lines i) BeyondLimit Done;
        value = value_read s e;
        moves = (c_held i).moves;
        acks = (c_held i).acks;
        sent = (c_held i).sent;
      }
