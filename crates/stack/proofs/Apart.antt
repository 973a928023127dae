-- THE STACK AND THE TWO BITS OF 353h GO THROUGH B, C AND D UNREAD AND UNCHANGED: what these leave of a state with another stack and other
-- bits is what they leave of the state, with that stack and those bits.
use Prim.Native.Nat.{ℕ, ◌+◌}
use mathlib.Core.Path.{◌≡◌, refl, ap, ◌∙◌}
use mathlib.Core.Bool.{Bool, true, false, not, ◌&&◌, ◌||◌, cond}
use mathlib.Core.List.{[], ◌∷◌, ◌++◌}
use lib.Bits.{bit_or}
use lib.Dec.{ltb}
use lib.ListN.{length}
use Rattle.rules.specs.State.{State}
use Rattle.rules.specs.Numbers.{one, ones, even, byte_of, padded}
use Rattle.rules.specs.Changed.{with_registers, with_transfer, with_status, with_latches, with_kept, with_quiet, with_sequencer, with_scsi, with_offset}
use Rattle.rules.specs.Seen.{phase_bsy, phase_sel, phase_drives, phase_data, byte_driving, byte_driven, rst_seen, sel_seen, bsy_seen, io_seen, req_seen, manual, automatic, normal, ack_driven, ack_seen, connected, matched, path, synchronous, limit, mismatched, driving, data_driven, parity_driven, data_seen, parity_seen, parity_even}
use Rattle.rules.specs.Sequencer.{timeout, called, higher_id, sequenced_of, selingo_raised, selto_raised, seldo_raised, seldi_raised, silenced, arbitrating_for, selects, clearing_for, times_out, selecting_for, reselected, answering_for, tick_in, uncalled, let_go, forestalled, connects, selected, begun, withdrawn, answers, resolved, sequenced}
use Rattle.rules.specs.Interrupts.{phasemis, any_latch, any_selection, instat, irq}
use Rattle.rules.specs.Reads.{sstat1}
use Rattle.rules.specs.StepA.{with_atn}
use Rattle.rules.specs.StepB.{registers_with, scsiseq_with, req_falls, ack_released, after_req_falls, rst_rises, bus_reset, after_rst_rises, req_rises, parity_bad, kept_after, error_latched, attention, synchronous_req, beyond_limit, beyond, req_within, late_byte, stored_byte, req_risen, after_req_rises, quiet_after, bus_free, bus_freed, after_quiet_ticks, phase_changes, phase_changed, after_phase_changes, after_sequencer, first_four, in_order}
use Rattle.rules.specs.StepC.{Settling, conditions}
use Rattle.rules.specs.Answers.{Stepped, control_driven, answer_of}
use Rattle.rules.specs.StepD.{fifo_conflict, pio_ready, status_raised, status_d, latches_d, finished}
use Rattle.rules.specs.declared.chip.Phase.{Phase}
use Rattle.rules.specs.declared.chip.Phase.TheVariants.{Idle, Waiting, Arbitrating, Clearing, Selecting, Holding, Answering, Answered}
use Rattle.rules.specs.declared.chip.Sequenced.{Sequenced}
use Rattle.rules.specs.declared.chip.Stack.{Stack}
use Rattle.rules.specs.declared.registers.Dmacntrl1.{Dmacntrl1}
use Rattle.stack.specs.Apart.{with_apart, stepped_apart, answer_with}

-- what is seen and driven, and what follows from it
module _ (d : Dmacntrl1) (k : Stack) (s : State) where
  abbrev other : State
  other = with_apart d k s

  pub connected_same : connected other ≡ connected s
  unfolding connected bsy_seen sel_seen rst_seen
  connected_same = refl

  pub matched_same : matched other ≡ matched s
  unfolding matched connected bsy_seen sel_seen rst_seen
  matched_same = refl

  pub mismatched_same : mismatched other ≡ mismatched s
  unfolding mismatched
  mismatched_same = λ i. connected_same i && not (matched_same i)

  pub path_same : path other.registers ≡ path s.registers
  unfolding path normal
  path_same = refl

  pub synchronous_same : synchronous other ≡ synchronous s
  unfolding synchronous
  synchronous_same = refl

  pub ack_driven_same : ack_driven other ≡ ack_driven s
  unfolding ack_driven manual
  ack_driven_same = refl

  pub ack_same : ack_seen other ≡ ack_seen s
  unfolding ack_seen
  ack_same = ap (λ (b : Bool). s.lines.ack || b) ack_driven_same

  byte_driving_same : byte_driving other ≡ byte_driving s
  unfolding byte_driving manual automatic normal
  byte_driving_same =
      ap (λ (b : Bool). b && not (io_seen s) && (manual s.registers || automatic s.registers || (normal s.registers && s.transfer.ack)))
      connected_same

  byte_driven_same : byte_driven other ≡ byte_driven s
  unfolding byte_driven normal
  byte_driven_same = ap (λ (b : Bool). cond b (cond (normal s.registers) s.transfer.last s.registers.scsidat) 0) byte_driving_same

  pub driving_same : driving other ≡ driving s
  unfolding driving
  driving_same = ap (λ (b : Bool). phase_drives s.sequencer.phase || b) byte_driving_same

  pub data_driven_same : data_driven other ≡ data_driven s
  unfolding data_driven
  data_driven_same = ap (λ (n : ℕ). cond (phase_drives s.sequencer.phase) (phase_data s.sequencer.phase s.registers.scsiid) n) byte_driven_same

  pub parity_driven_same : parity_driven other ≡ parity_driven s
  unfolding parity_driven
  parity_driven_same = λ i. driving_same i && even (ones (data_driven_same i))

  pub data_same : data_seen other ≡ data_seen s
  unfolding data_seen
  data_same = ap (bit_or s.lines.byte) data_driven_same

  parity_even_same : parity_even other ≡ parity_even s
  unfolding parity_even parity_seen
  parity_even_same = λ i. even (ones (data_same i) + one (s.lines.parity || parity_driven_same i))

  parity_bad_same : parity_bad other ≡ parity_bad s
  unfolding parity_bad
  parity_bad_same = λ i. connected_same i && io_seen s && s.registers.sxfrctl1.enspchk && parity_even_same i

  kept_same : kept_after other ≡ kept_after s
  unfolding kept_after
  kept_same = λ i. cond (connected_same i && io_seen s) (parity_even_same i) s.keptbad

  synchronous_req_same : synchronous_req other ≡ synchronous_req s
  unfolding synchronous_req
  synchronous_req_same = λ i. matched_same i && path_same i && synchronous_same i

  pub beyond_limit_same : beyond_limit other ≡ beyond_limit s
  unfolding beyond_limit limit
  beyond_limit_same = refl

  within_same : req_within other ≡ req_within s
  unfolding req_within
  within_same = λ i. synchronous_req_same i && not (beyond_limit_same i)

  late_same : late_byte other ≡ late_byte s
  unfolding late_byte
  late_same = refl

  stored_same : stored_byte other ≡ stored_byte s
  unfolding stored_byte
  stored_same = λ i. cond (within_same i && io_seen s) (data_same i ∷ []) []

  risen_apart : req_risen other ≡ with_apart d k (req_risen s)
  unfolding req_risen error_latched attention
  risen_apart =
      let t = s.transfer in
      let r = s.registers in
      let k' = s.latches in
      let u = s.status in
      λ i.
      with_apart d k
      (with_status
      (record {
        spiordy = u.spiordy;
        scsirsti = u.scsirsti;
        busfree = u.busfree;
        scsiperr = parity_bad_same i || u.scsiperr;
        phasechg = u.phasechg;
        reqinit = true;
        syncerr = (within_same i && late_same i) || u.syncerr;
        fwerr = u.fwerr;
      })
      (with_registers (registers_with r.scsiseq r.sxfrctl0 (with_atn ((parity_bad_same i && r.scsiseq.enautoatnp) || r.scsisig.atno) r.scsisig) r)
      (with_offset (cond (within_same i) (t.offset + 1) t.offset) (with_scsi (t.scsi ++ stored_same i)
      (with_latches
      (record {
        spiordy = k'.spiordy;
        scsirsti = k'.scsirsti;
        busfree = k'.busfree;
        scsiperr = (parity_bad_same i && r.simode1.enscsiperr) || k'.scsiperr;
        phasechg = k'.phasechg;
        reqinit = k'.reqinit;
      })
      (with_kept (kept_same i) s))))))

  -- C and D
  pub conditions_same : conditions other ≡ conditions s
  unfolding conditions
  conditions_same =
      λ i.
      record {
        path = path_same i;
        enabled = s.registers.sxfrctl0.scsien && path_same i && matched_same i;
        outbound = s.registers.dmacntrl0.write;
        synchronous = synchronous_same i;
        req = req_seen s;
        byte = data_same i;
      }

  pub conflict_same : fifo_conflict other.registers ≡ fifo_conflict s.registers
  unfolding fifo_conflict path normal
  conflict_same = refl

  pub ready_same : pio_ready other ≡ pio_ready s
  unfolding pio_ready automatic
  ready_same = ap (λ (b : Bool). automatic s.registers && b && req_seen s && not s.transfer.ack) matched_same

  raised_same : status_raised other ≡ status_raised s
  unfolding status_raised
  raised_same =
      let u = s.status in
      λ i.
      record {
        spiordy = ready_same i || u.spiordy;
        scsirsti = u.scsirsti;
        busfree = u.busfree;
        scsiperr = u.scsiperr;
        phasechg = u.phasechg;
        reqinit = u.reqinit;
        syncerr = u.syncerr;
        fwerr = conflict_same i || u.fwerr;
      }

-- the sequencer, without the stack and 353h's bits
module _ (d : Dmacntrl1) (k : Stack) (now : State) where
  tick_same : (p : Phase) (before : ℕ) (x : Sequenced) → tick_in p before (with_apart d k now) x ≡ tick_in p before now x
  unfolding tick_in arbitrating_for higher_id selects clearing_for times_out selecting_for timeout reselected answering_for sel_seen bsy_seen selingo_raised selto_raised seldi_raised
  tick_same Idle before x = refl
  tick_same Waiting before x = refl
  tick_same Arbitrating before x = refl
  tick_same Clearing before x = refl
  tick_same Selecting before x = refl
  tick_same Holding before x = refl
  tick_same Answering before x = refl
  tick_same Answered before x = refl

  uncalled_same : (x : Sequenced) → uncalled (with_apart d k now) x ≡ uncalled now x
  unfolding uncalled called
  uncalled_same x = refl

  let_go_same : (x : Sequenced) → let_go (with_apart d k now) x ≡ let_go now x
  unfolding let_go
  let_go_same x = refl

  forestalled_same : (x : Sequenced) → forestalled (with_apart d k now) x ≡ forestalled now x
  unfolding forestalled
  forestalled_same x = refl

  selected_same : (x : Sequenced) → selected (with_apart d k now) x ≡ selected now x
  unfolding selected connects seldo_raised
  selected_same x = refl

  begun_same : (x : Sequenced) → begun (with_apart d k now) x ≡ begun now x
  unfolding begun
  begun_same x = refl

  withdrawn_same : (x : Sequenced) → withdrawn (with_apart d k now) x ≡ withdrawn now x
  unfolding withdrawn
  withdrawn_same x = refl

  answers_same : (x : Sequenced) → answers (with_apart d k now) x ≡ answers now x
  unfolding answers called
  answers_same x = refl

  resolved_same : (x : Sequenced) → resolved (with_apart d k now) x ≡ resolved now x
  unfolding resolved
  resolved_same x =
      let o = with_apart d k now in
      answers_same _ ∙ ap (answers now) (withdrawn_same _ ∙ ap (withdrawn now) (begun_same _ ∙ ap (begun now) (selected_same _ ∙ ap (selected now)
      (forestalled_same _ ∙ ap (forestalled now) (let_go_same _ ∙ ap (let_go now) (uncalled_same x))))))

  sequenced_same : (tick : Bool) (before : ℕ) → sequenced tick before (with_apart d k now) ≡ sequenced tick before now
  unfolding sequenced sequenced_of rst_seen
  sequenced_same tick before =
      let x = sequenced_of now in
      ap (cond (rst_seen now) (silenced x))
      (resolved_same _ ∙ ap (λ (y : Sequenced). resolved now (cond tick y x)) (tick_same x.sequencer.phase before x))

-- c and j are the bits and the stack at the end of the last event, d and k those now
module _ (c d : Dmacntrl1) (j k : Stack) where
  either : (b : Bool) (x y : State) → cond b (with_apart d k x) (with_apart d k y) ≡ with_apart d k (cond b x y)
  either true x y = refl
  either false x y = refl

  falls : (last now : State) → after_req_falls (with_apart c j last) (with_apart d k now) ≡ with_apart d k (after_req_falls last now)
  unfolding after_req_falls req_falls ack_released
  falls last now = either (req_falls last now) (ack_released now) now

  reset : (last now : State) → after_rst_rises (with_apart c j last) (with_apart d k now) ≡ with_apart d k (after_rst_rises last now)
  unfolding after_rst_rises rst_rises bus_reset rst_seen
  reset last now = either (rst_rises last now) (bus_reset now) now

  rises : (last now : State) → after_req_rises (with_apart c j last) (with_apart d k now) ≡ with_apart d k (after_req_rises last now)
  unfolding after_req_rises req_rises rst_seen
  rises last now =
      ap (λ (x : State). cond (req_rises last now) x (with_apart d k now)) (risen_apart d k now) ∙ either (req_rises last now) (req_risen now) now

  ticks : (n : ℕ) (now : State) → after_quiet_ticks n (with_apart d k now) ≡ with_apart d k (after_quiet_ticks n now)
  unfolding after_quiet_ticks bus_free bus_freed quiet_after sel_seen bsy_seen
  ticks n now = either (bus_free n now) _ _

  sequences : (tick : Bool) (before : ℕ) (now : State) → after_sequencer tick before (with_apart d k now) ≡ with_apart d k (after_sequencer tick before now)
  unfolding after_sequencer
  sequences tick before now =
      let r = now.registers in
      ap
      (λ (x : Sequenced).
      with_apart d k
      (with_sequencer x.sequencer
      (with_registers (registers_with (scsiseq_with x.enselo r.scsiseq) r.sxfrctl0 (with_atn x.atno r.scsisig) r) (with_quiet x.quiet now))))
      (sequenced_same d k now tick before)

  changes : (last now : State) → after_phase_changes (with_apart c j last) (with_apart d k now) ≡ with_apart d k (after_phase_changes last now)
  unfolding after_phase_changes phase_changes phase_changed
  changes last now =
      (λ i. cond (mismatched_same d k now i && not (mismatched_same c j last i)) (phase_changed (with_apart d k now)) (with_apart d k now))
      ∙ either (phase_changes last now) (phase_changed now) now

  -- B IN ITS ORDER
  pub b_apart : (last now : State) (n : ℕ) → in_order (with_apart c j last) n (with_apart d k now) ≡ with_apart d k (in_order last n now)
  unfolding in_order first_four
  b_apart last now n =
      let first = falls last now in
      let second = ap (after_rst_rises (with_apart c j last)) first ∙ reset last _ in
      let third = ap (after_req_rises (with_apart c j last)) second ∙ rises last _ in
      let fourth = ap (after_quiet_ticks n) third ∙ ticks n _ in
      let fifth = ap (after_sequencer (ltb 0 n) last.quiet) fourth ∙ sequences (ltb 0 n) last.quiet _ in
      ap (after_phase_changes (with_apart c j last)) fifth ∙ changes last _

  -- C AND D: a is the state after A, b after B
  pub d_apart : (last a b : State) (t : Settling) → finished (with_apart c j last) (with_apart d k a) (with_apart d k b) t ≡ with_apart d k (finished last a b t)
  unfolding finished latches_d status_d
  d_apart last a b t =
      let u = with_transfer t.transfer b in
      λ i.
      with_apart d k
      (with_status (status_d t.acks (ack_same d k u i) (raised_same d k u i))
      (with_latches (latches_d last.registers b.registers a.status (raised_same d k u i) b.latches) u))

  -- what "REQ rises" is handed, and whether it is beyond the limit
  pub req_apart : (last a : State) → after_rst_rises (with_apart c j last) (after_req_falls (with_apart c j last) (with_apart d k a)) ≡ with_apart d k (after_rst_rises last (after_req_falls last a))
  req_apart last a = ap (after_rst_rises (with_apart c j last)) (falls last a) ∙ reset last _

  pub beyond_same : (last now : State) → beyond (with_apart c j last) (with_apart d k now) ≡ beyond last now
  unfolding beyond req_rises rst_seen
  beyond_same last now = λ i. req_rises last now && synchronous_req_same d k now i && beyond_limit_same d k now i

-- WHAT AN ANSWER SHOWS beside code, value, moves, ACKs and bytes sent
module _ (d : Dmacntrl1) (k : Stack) (s : State) where
  phasemis_same : phasemis (with_apart d k s) ≡ phasemis s
  unfolding phasemis
  phasemis_same = ap (λ (b : Bool). b && s.status.reqinit) (mismatched_same d k s)

  pub instat_same : instat (with_apart d k s) ≡ instat s
  unfolding instat
  instat_same =
      ap
      (λ (b : Bool).
      (any_latch s.latches || any_selection s.sequencer.latches) || (b && s.registers.simode1.enphasemis) || s.registers.dmacntrl0.swint)
      phasemis_same

  pub sstat1_same : sstat1 (with_apart d k s) ≡ sstat1 s
  unfolding sstat1
  sstat1_same =
      let t = s.status in
      ap (λ (b : Bool). byte_of s.sequencer.status.selto false t.scsirsti b t.busfree t.scsiperr t.phasechg t.reqinit) phasemis_same

  irq_same : irq (with_apart d k s) ≡ irq s
  unfolding irq
  irq_same = ap (λ (b : Bool). b && s.registers.dmacntrl0.inten) instat_same

  control_same : control_driven (with_apart d k s) ≡ control_driven s
  unfolding control_driven
  control_same =
      let g = s.registers.scsisig in
      let p = s.sequencer.phase in
      ap (byte_of false false false g.atno (g.selo || phase_sel p) (g.bsyo || phase_bsy p) false) (ack_driven_same d k s)

-- AN ANSWER SHOWS NEITHER THE STACK NOR THE BITS OF 353h
pub answer_apart : (d : Dmacntrl1) (k : Stack) (v : ℕ) (r : Stepped) → answer_of (stepped_apart d k v r) ≡ answer_with v (answer_of r)
unfolding answer_of
answer_apart d k v r =
    let s = r.state in
    λ i.
    record {
      code = r.code;
      irq = irq_same d k s i;
      acks = r.acks;
      moves = r.moves;
      driving = driving_same d k s i;
      rst = s.registers.scsiseq.scsirsto;
      parity = parity_driven_same d k s i;
      value = v;
      control = control_same d k s i;
      driven = data_driven_same d k s i;
      offset = s.transfer.offset;
      scsi = length s.transfer.scsi;
      host = length s.transfer.host;
      sent = padded 8 r.sent;
    }
