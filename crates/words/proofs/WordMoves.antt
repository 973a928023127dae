-- The moves of one word access. Writing, a word brings two bytes to the host FIFO and each move takes one from it. Reading, each
-- move takes a byte from the SCSI FIFO, and without a new REQ one byte at most comes to it: by an asynchronous handshake, after which
-- automatic ACK stays on.
use Prim.Native.Nat.{ℕ, ◌+◌, ◌≤◌}
use mathlib.Core.Path.{◌≡◌, refl, sym, ◌∙◌, ap, subst}
use mathlib.Core.Bool.{Bool, true, false, not, ◌&&◌, ◌||◌, and-not_self, and-false, beq}
use mathlib.Core.List.{List, [], ◌++◌}
use native.Mathlib.Omega.{arith}
use lib.Dec.{leb, ltb}
use lib.ListN.{length, drop, length-append}
use borrow.Author.Tests.{ltb-false, lt-leb, leb-false}
use Rattle.rules.specs.Rest.{AtRest, Resting}
use Rattle.rules.specs.Numbers.{one}
use Rattle.rules.specs.State.{State, Transfer}
use Rattle.rules.specs.Changed.{transfer_with_host, with_host}
use Rattle.rules.specs.Seen.{bsy_seen, sel_seen, rst_seen, req_seen}
use Rattle.rules.specs.Events.{writes, reads, lines_after, offered, asked, wide, port_write, port_read}
use Rattle.rules.specs.Codes.{absent, test_value, shut, access_code, is_done}
use Rattle.rules.specs.StepA.{clrstcnt, clrch, rstfifo, latch_access, automatic_ack, registers_a, host_a, counter_a, transfer_a, after_a}
use Rattle.rules.specs.StepB.{req_falls, after_req_falls, rst_rises, after_rst_rises, req_rises, after_req_rises, quiet_after, bus_free, after_quiet_ticks, phase_changes, phase_changed, after_phase_changes, after_sequencer, first_four, in_order, after_b}
use Rattle.rules.specs.StepC.{Settling, conditions, can_move, can_handshake, can_synchronous, can_asynchronous, turns, started, settled_c}
use Rattle.rules.specs.StepD.{finished, after_d}
use Rattle.rules.specs.Answers.{Stepped}
use Rattle.rules.specs.Step.{done}
use Rattle.rules.specs.declared.chip.Conditions.{Conditions}
use Rattle.rules.specs.declared.registers.Registers.{Registers}
use Rattle.rules.specs.declared.records.Event.{Event}
use Rattle.rules.specs.declared.records.Event.TheVariants.{WordWrite, WordRead, Ticks}
use Rattle.rules.proofs.Logic.{never, cond_case}
use Rattle.rules.proofs.InOrder.{Apart, b_leaves}
use Rattle.rules.proofs.Refusals.{in_order_lem}
use Rattle.rules.proofs.Rest.{Counts, acks_left, settling_counts, settle_rests}
use Rattle.words.specs.Blocks.{settled_with}
use Rattle.words.proofs.Port.{Ported, word_written_lem, word_read_lem, ack_stays, port_at_rest}

-- B leaves the data path as it is where REQ and RST are seen as before and no tick passes: the quiet ticks do not reach 8
module _ (last now : State) (req : req_seen now ≡ req_seen last) (rst : rst_seen now ≡ rst_seen last) where
  no_fall : after_req_falls last now ≡ now
  unfolding after_req_falls req_falls
  no_fall = rw (req, and-not_self (req_seen last))

  no_reset : after_rst_rises last now ≡ now
  unfolding after_rst_rises rst_rises
  no_reset = rw (rst, and-not_self (rst_seen last))

  not_risen : req_rises last now ≡ false
  unfolding req_rises
  not_risen = ap (λ (q : Bool). q && not (req_seen last) && not (rst_seen now)) req ∙ apart (req_seen last) (not (rst_seen now))
    where
      apart : (q n : Bool) → (q && not q && n) ≡ false
      apart true n = refl
      apart false n = refl

  no_rise : after_req_rises last now ≡ now
  unfolding after_req_rises
  no_rise = rw not_risen

  first_three : after_req_rises last (after_rst_rises last (after_req_falls last now)) ≡ now
  first_three = rw (no_fall, no_reset, no_rise)

module _ (last now : State) where
  quiet_less : quiet_after 0 now ≤ now.quiet
  unfolding quiet_after
  quiet_less = cond_case (λ (n : ℕ). n ≤ now.quiet) (bsy_seen now || sel_seen now) _ _ (λ e. omega arith) (λ e. omega arith)

  not_free : bus_free 0 now ≡ false
  unfolding bus_free
  not_free = go (leb 8 now.quiet) refl
    where
      go : (b : Bool) → leb 8 now.quiet ≡ b → (leb 8 (quiet_after 0 now) && not (leb 8 now.quiet)) ≡ false
      go true e = rw e (and-false (leb 8 (quiet_after 0 now)))
      go false e = rw (lt-leb 8 (quiet_after 0 now) (omega (arith, quiet_less, leb-false 8 now.quiet e)))

  ticks_path : (after_quiet_ticks 0 now).transfer ≡ now.transfer
  unfolding after_quiet_ticks
  ticks_path = rw not_free

  phase_path : (after_phase_changes last now).transfer ≡ now.transfer
  unfolding after_phase_changes phase_changed
  phase_path = cond_case (λ (n : State). n.transfer ≡ now.transfer) (phase_changes last now) _ _ (λ e. refl) (λ e. refl)

  sequencer_path : (before : ℕ) → (after_sequencer false before now).transfer ≡ now.transfer
  unfolding after_sequencer
  sequencer_path before = refl

b_path : (last now : State) → req_seen now ≡ req_seen last → rst_seen now ≡ rst_seen last → (in_order last 0 now).transfer ≡ now.transfer
unfolding in_order first_four
b_path last now req rst =
    phase_path last _ ∙ sequencer_path last _ last.quiet
    ∙ ap (λ (n : State). (after_quiet_ticks 0 n).transfer) (first_three last now req rst)
    ∙ ticks_path last now

-- A without an effect of its own leaves the data path and what is seen of REQ and RST
module _ (s : State) where
  idle_path : (after_a s (Ticks 0)).transfer ≡ s.transfer
  unfolding after_a transfer_a host_a counter_a automatic_ack latch_access clrstcnt clrch rstfifo writes reads asked port_write
  idle_path = refl

  idle_req : req_seen (after_a s (Ticks 0)) ≡ req_seen s
  unfolding after_a lines_after
  idle_req = refl

  idle_rst : rst_seen (after_a s (Ticks 0)) ≡ rst_seen s
  unfolding after_a lines_after registers_a writes rst_seen
  idle_rst = refl

-- reading, the moves that a data path still owes: one for each byte in the SCSI FIFO, and one for the byte that an asynchronous
-- handshake may bring
abbrev pub owed : Transfer → ℕ
owed t = length t.scsi + one (not t.ack)

-- automatic ACK that stays on: what it leaves owing is no more
off_less : (a b : Bool) → (a ≡ true → b ≡ true) → one (not b) ≤ one (not a)
off_less true b on = rw (on refl) (omega arith)
off_less false true on = omega arith
off_less false false on = omega arith

-- settling inbound, where automatic ACK once on stays on: a move pays one of those owed, and an ACK leaves no more owing than before
owed_less : (c : Conditions) (h : ℕ) (t : Transfer) (x : Settling) → c.outbound ≡ false → (t.ack ≡ true → x.transfer.ack ≡ true)
    → Counts c h (length t.scsi) (acks_left c t) x → x.moves + owed x.transfer ≤ owed t
owed_less c h t x o on i = go c.synchronous refl
  where
    go : (y : Bool) → c.synchronous ≡ y → x.moves + owed x.transfer ≤ owed t
    go true y =
        let m : length x.transfer.scsi + x.moves ≡ length t.scsi + 0 = rw (o, y) at i.scsi in
        omega (arith, off_less t.ack x.transfer.ack on)
    go false y =
        let m : length x.transfer.scsi + x.moves ≡ length t.scsi + x.acks = rw (o, y) at i.scsi in
        let k : x.acks + one (not x.transfer.ack) ≡ one (not t.ack) = rw y at i.acks in
        omega arith

-- C of a word access, from any state: what settling counts, from the host FIFO that the access leaves and the rest as it was
module _ (e : Event) (s : State) (h : List ℕ) (p : Ported e s h) where
  -- the data path that settling is handed
  handed_path : (after_b s e).transfer ≡ transfer_with_host h s.transfer
  unfolding after_b rst_seen
  handed_path =
      (λ i. (in_order s (p.ticks i) (p.a i)).transfer) ∙ b_path s (with_host h (after_a s (Ticks 0))) (idle_req s) (idle_rst s)
      ∙ ap (transfer_with_host h) (idle_path s)

  direction : (conditions (after_b s e)).outbound ≡ s.registers.dmacntrl0.write
  unfolding conditions after_a registers_a writes
  direction =
      ap (λ (a : Apart). a.control.write) (b_leaves s e) ∙ ap (λ (n : State). n.registers.dmacntrl0.write) p.a

  abbrev c : Conditions
  c = conditions (after_b s e)

  word_counts : length s.transfer.scsi ≤ 8
      → Counts c (length h) (length s.transfer.scsi) (acks_left c s.transfer) (settled_c s e)
  unfolding settled_c
  word_counts i =
      subst (λ (t : Transfer). Counts c (length t.host) (length t.scsi) (acks_left c t) (settled_c s e)) handed_path
      (settling_counts c turns (after_b s e) (rw handed_path i))

  -- outbound, each move takes a byte from the host FIFO
  moves_out : length s.transfer.scsi ≤ 8 → s.registers.dmacntrl0.write ≡ true
      → length (settled_c s e).transfer.host + (settled_c s e).moves ≡ length h
  moves_out i w = rw (direction ∙ w) at (word_counts i).host

  -- inbound, each takes one from the SCSI FIFO, to which one ACK at most adds a byte
  ack_on : s.transfer.ack ≡ true → (settled_c s e).transfer.ack ≡ true
  unfolding settled_c started
  ack_on k = ack_stays (conditions (after_b s e)) turns (started (after_b s e)) (ap (λ (t : Transfer). t.ack) handed_path ∙ k)

  moves_in : length s.transfer.scsi ≤ 8 → s.registers.dmacntrl0.write ≡ false
      → (settled_c s e).moves + owed (settled_c s e).transfer ≤ owed s.transfer
  moves_in i w =
      owed_less c (length h) s.transfer (settled_c s e) (direction ∙ w) ack_on (word_counts i)

-- the port is not shut to an access that is done
passed_shut : (s : State) (e : Event) → absent e ≡ false → test_value e ≡ false → is_done (access_code s e) ≡ true
    → shut s.registers e ≡ false
passed_shut s e a v d = go (shut s.registers e) refl
  where
    go : (b : Bool) → shut s.registers e ≡ b → b ≡ false
    go true q = absurd (never (sym (ap is_done ((in_order_lem s e).fourth a v q)) ∙ d))
    go false q = refl

-- so its direction is right: "direction wrong" is one of the causes that shut the port
write_open : (r : Registers) (word : ℕ) → shut r (WordWrite word) ≡ false → r.dmacntrl0.write ≡ true
unfolding shut port_write port_read wide
write_open r word = opened (not r.dmacntrl0.endma || r.dmacntrl0.dma || beq r.dmacntrl0.eightbit true) r.dmacntrl0.write
  where
    opened : (other w : Bool) → (other || beq w false) ≡ false → w ≡ true
    opened true w e = absurd (never (sym e))
    opened false true e = refl
    opened false false e = absurd (never (sym e))

read_open : (r : Registers) → shut r WordRead ≡ false → r.dmacntrl0.write ≡ false
unfolding shut port_write port_read wide
read_open r = opened (not r.dmacntrl0.endma || r.dmacntrl0.dma || beq r.dmacntrl0.eightbit true) r.dmacntrl0.write
  where
    opened : (other w : Bool) → (other || beq w true) ≡ false → w ≡ false
    opened true w e = absurd (never (sym e))
    opened false true e = absurd (never (sym e))
    opened false false e = refl

-- outbound, where a byte waits in the host FIFO at rest, more bytes behind it leave it at rest
still_waits : (c : Conditions) (t : Transfer) (h : List ℕ) → c.outbound ≡ true → ltb 0 (length t.host) ≡ true
    → Resting c t → Resting c (transfer_with_host h t)
unfolding can_move can_handshake can_synchronous can_asynchronous
still_waits c t h o w r =
    record {
      no_move = rw o (none c.path (ltb 0 (length h)) (ltb (length t.scsi) 8) (rw (o, w) at r.no_move));
      no_handshake = r.no_handshake;
    }
  where
    none : (p x b : Bool) → (p && b) ≡ false → (p && (x && b)) ≡ false
    none true true b e = e
    none true false b e = refl
    none false x b e = refl

-- A WORD WRITTEN, from any state: each move takes one byte from the host FIFO, to which the word adds two
module _ (s : State) (word : ℕ) (fits : length s.transfer.scsi ≤ 8) (d : is_done (access_code s (WordWrite word)) ≡ true) where
  abbrev e : Event
  e = WordWrite word

  writing : s.registers.dmacntrl0.write ≡ true
  unfolding absent test_value writes
  writing = write_open s.registers word (passed_shut s e refl refl d)

  pub written_moves : length (done s e).state.transfer.host + (done s e).moves ≡ length s.transfer.host + 2
  unfolding done after_d finished offered
  written_moves =
      moves_out e s (s.transfer.host ++ offered e) (word_written_lem word s) fits writing ∙ length-append s.transfer.host (offered e)

  -- where a byte waits at rest, it still waits, and the word behind it
  still : AtRest s → s.quiet ≤ 8 → ltb 0 (length s.transfer.host) ≡ true → (done s e).moves ≡ 0
  unfolding settled_with conditions
  still r q k =
      let h = s.transfer.host ++ offered e in
      let x : Settling = record { transfer = transfer_with_host h s.transfer; moves = 0; acks = 0; sent = [] } in
      ap (λ (n : Stepped). n.moves) (port_at_rest e s h (word_written_lem word s) r q)
      ∙ ap (λ (y : Settling). y.moves)
      (settle_rests (conditions s) turns x (still_waits (conditions s) s.transfer h writing k r.resting))

  -- at rest, a word makes two moves at most
  pub rest_moves : AtRest s → s.quiet ≤ 8 → (done s e).moves ≤ 2
  rest_moves r q = go (ltb 0 (length s.transfer.host)) refl
    where
      go : (b : Bool) → ltb 0 (length s.transfer.host) ≡ b → (done s e).moves ≤ 2
      go true k = rw (still r q k) (omega arith)
      go false k = omega (arith, written_moves, ltb-false 0 (length s.transfer.host) k)

-- A WORD READ, from any state: its moves, and those owed after it, are no more than those owed before it
pub read_moves_lem : (s : State) → length s.transfer.scsi ≤ 8 → is_done (access_code s WordRead) ≡ true
    → (done s WordRead).moves + owed (done s WordRead).state.transfer ≤ owed s.transfer
unfolding done after_d finished absent test_value writes
read_moves_lem s fits d =
    moves_in WordRead s (drop 2 s.transfer.host) (word_read_lem s) fits (read_open s.registers (passed_shut s WordRead refl refl d))
