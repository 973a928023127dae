-- Opening the definitions in groups: `unfolding own_effect` lets A compute, `unfolding looks_at` what B, C and D look at.
use Prim.Native.Nat.{ℕ}
use Rattle.rules.specs.Seen.{ack_driven, ack_seen, automatic, bsy_seen, connected, manual, matched, mismatched, normal, path, rst_seen, sel_seen, synchronous}
use Rattle.rules.specs.Map.{read_at, written_at}
use Rattle.rules.specs.Events.{writes, reads, value_of, ticks_of, lines_after, offered, asked, port_write, port_read}
use Rattle.rules.specs.Codes.{absent, test_value}
use Rattle.rules.specs.StepA.{clears, clears_latch, clears_error, clrstcnt, clrch, rstfifo, registers_a, host_a, counter_a, transfer_a, error_a, status_a, latches_a, stack_a, identity_a, gives_up, selection_a, noted_a, selection_latches_a, sequencer_a, after_a}
use Rattle.rules.specs.StepB.{rst_rises, req_rises, quiet_after, phase_changes}
use Rattle.rules.specs.StepC.{conditions, can_move, can_handshake, can_synchronous, can_asynchronous}
use Rattle.rules.specs.StepD.{fifo_conflict, pio_ready}

-- A, but for the access to 346h
unfoldable pub own_effect : ℕ
unfolding read_at written_at writes reads value_of ticks_of lines_after offered asked port_write port_read absent test_value clears clears_latch clears_error clrstcnt clrch rstfifo registers_a host_a counter_a transfer_a error_a status_a latches_a stack_a identity_a gives_up selection_a noted_a selection_latches_a sequencer_a after_a
own_effect = 0

-- lines and registers as B, C and D see them
unfoldable pub looks_at : ℕ
unfolding ack_driven ack_seen automatic bsy_seen connected manual matched mismatched normal path rst_seen sel_seen synchronous rst_rises req_rises quiet_after phase_changes conditions can_move can_handshake can_synchronous can_asynchronous fifo_conflict pio_ready
looks_at = 0
