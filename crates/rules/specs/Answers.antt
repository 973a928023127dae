-- Answers. "An answer is 16 bytes: code 3, IRQ 1, ACKs issued 4; moves 5, data driven or not 1, RST driven 1, parity level
-- driven 1; value read 16; control lines driven 8 (order of 343h); data driven 8; offset 4, SCSI FIFO count 4; host FIFO
-- count 8; then eight bytes: those sent by Normal-mode ACKs in this event, in order, the rest 0."
use Rattle.std.specs.Prelude.{ℕ, ◌+◌, ◌*◌, ◌/◌, ◌%◌, false, ◌||◌, List, ◌∷◌, length}
use Rattle.rules.specs.Numbers.{one, byte_of, padded}
use Rattle.rules.specs.State.{State}
use Rattle.rules.specs.Seen.{phase_bsy, phase_sel, ack_driven, driving, data_driven, parity_driven}
use Rattle.rules.specs.Interrupts.{irq}
use Rattle.rules.specs.Codes.{number_of}
use Rattle.rules.specs.declared.codes.Code.{Code}
use Rattle.rules.specs.declared.records.Answer.{Answer}

-- what a step gives: the new state, and what the answer says beside it
pub record Stepped : Type 0 where
  pub state : State
  pub code : Code
  pub value : ℕ
  pub moves : ℕ
  pub acks : ℕ
  pub sent : List ℕ

abbrev pub answer_size : ℕ
answer_size = 16

-- "control lines driven 8 (order of 343h)": CD, IO, MSG and REQ are never driven; SEL and BSY by the sequencer too (R-1)
unfoldable pub control_driven : State → ℕ
control_driven s =
    let g = s.registers.scsisig in
    let p = s.sequencer.phase in
    byte_of false false false g.atno (g.selo || phase_sel p) (g.bsyo || phase_bsy p) false (ack_driven s)

-- the fields of an answer
unfoldable pub answer_of : Stepped → Answer
answer_of r =
    let s = r.state in
    record {
      code = r.code;
      irq = irq s;
      acks = r.acks;
      moves = r.moves;
      driving = driving s;
      rst = s.registers.scsiseq.scsirsto;
      parity = parity_driven s;
      value = r.value;
      control = control_driven s;
      driven = data_driven s;
      offset = s.transfer.offset;
      scsi = length s.transfer.scsi;
      host = length s.transfer.host;
      sent = padded 8 r.sent;
    }

-- the fields packed, "most significant bit first"
unfoldable pub answer_bytes : Answer → List ℕ
answer_bytes a =
    ((number_of a.code * 2 + one a.irq) * 16 + a.acks % 16)
    ∷ (((a.moves % 32 * 2 + one a.driving) * 2 + one a.rst) * 2 + one a.parity)
    ∷ a.value / 256 % 256
    ∷ a.value % 256
    ∷ a.control
    ∷ a.driven
    ∷ (a.offset % 16 * 16 + a.scsi % 16)
    ∷ a.host
    ∷ a.sent
