-- The fields of an answer, with the eight bytes sent as they stand in it.
use Rattle.std.specs.Prelude.{ℕ, cond, List, length}
use Rattle.rules.specs.State.{State}
use Rattle.rules.specs.Seen.{normal, phase_drives, phase_data, driving, data_driven, parity_driven}
use Rattle.rules.specs.Interrupts.{irq}
use Rattle.rules.specs.Answers.{control_driven}
use Rattle.rules.specs.declared.codes.Code.{Code}
use Rattle.rules.specs.declared.records.Answer.{Answer}

-- the byte driven where data is: the sequencer's, else by the mode
unfoldable pub byte_given : State → ℕ
byte_given s =
    cond (phase_drives s.sequencer.phase) (phase_data s.sequencer.phase s.registers.scsiid)
    (cond (normal s.registers) s.transfer.last s.registers.scsidat)

unfoldable pub answer_with : State → Code → ℕ → ℕ → ℕ → List ℕ → Answer
answer_with s code value moves acks sent =
    record {
      code = code;
      irq = irq s;
      acks = acks;
      moves = moves;
      driving = driving s;
      rst = s.registers.scsiseq.scsirsto;
      parity = parity_driven s;
      value = value;
      control = control_driven s;
      driven = data_driven s;
      offset = s.transfer.offset;
      scsi = length s.transfer.scsi;
      host = length s.transfer.host;
      sent = sent;
    }
