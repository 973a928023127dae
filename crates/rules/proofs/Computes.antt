-- Opening a table: `unfolding computes` alone lets every definition of the step compute.
use Prim.Native.Nat.{ℕ}
use Rattle.rules.specs.Numbers.{ones, padded}
use Rattle.rules.specs.State.{power_reset}
use Rattle.rules.specs.Seen.{phase_number, is_phase, phase_bsy, phase_sel, phase_drives, own_id, other_id, phase_data, byte_driving, byte_driven, rst_seen, atn_seen, sel_seen, bsy_seen, manual, automatic, normal, ack_driven, ack_seen, connected, matched, path, synchronous, limit, mismatched, driving, data_driven, parity_driven, data_seen, parity_seen, parity_even}
use Rattle.rules.specs.Map.{table, read_at, written_at}
use Rattle.rules.specs.Records.{lines_of, well_formed, fields_of, decode}
use Rattle.rules.specs.Events.{writes, reads, value_of, ticks_of, lines_after, offered, asked, wide, port_write, port_read}
use Rattle.rules.specs.Counter.{stepped_to, counter_step}
use Rattle.rules.specs.Stack.{stack_place, stack_byte, pointer_after, stack_read, stack_written, pointed}
use Rattle.rules.specs.Interrupts.{phasemis, instat, irq}
use Rattle.rules.specs.Sequencer.{timeout, selection_asked, called, higher_id, sequenced_of, waited, entered, selingo_cleared, selingo_raised, selto_raised, seldo_raised, seldi_raised, selection_freed, silenced, arbitrates, waiting_for, arbitrating_for, selects, clearing_for, times_out, selecting_for, reselected, answering_for, tick_in, uncalled, let_go, forestalled, connects, selected, begun, withdrawn, answers, resolved, sequenced}
use Rattle.rules.specs.Reads.{scsisigi, scsibus, sstat0, sstat1, sstat2, sstat3, sstat4, dmastat, id_bytes, read_of, value_read}
use Rattle.rules.specs.Codes.{absent, test_value, shut, no_room, no_bytes, access_code, refused_value}
use Rattle.rules.specs.StepA.{clears, clears_latch, clears_error, clrstcnt, clrch, rstfifo, latch_access, automatic_ack, registers_a, host_a, counter_a, transfer_a, error_a, status_a, latches_a, stack_a, identity_a, gives_up, selection_a, noted_a, selection_latches_a, sequencer_a, after_a}
use Rattle.rules.specs.StepB.{req_falls, ack_released, after_req_falls, rst_rises, bus_reset, after_rst_rises, req_rises, parity_bad, kept_after, error_latched, attention, synchronous_req, beyond_limit, beyond, req_within, late_byte, stored_byte, req_risen, after_req_rises, quiet_after, bus_free, bus_freed, after_quiet_ticks, phase_changes, phase_changed, after_phase_changes, after_sequencer, first_four, in_order, after_b, at_req}
use Rattle.rules.specs.StepC.{conditions, can_move, move, can_asynchronous, can_synchronous, can_handshake, handshake, turn, settle, started, settled_c}
use Rattle.rules.specs.StepD.{fifo_conflict, pio_ready, status_raised, status_d, latches_d, finished, after_d}
use Rattle.rules.specs.Answers.{control_driven, answer_of, answer_bytes}
use Rattle.rules.specs.Step.{ended, done, access, single_ticks, ticks_taken, step_event, step_decoded, step, answer}
use Rattle.rules.specs.Ticks.{ticks_in, advanced, bus_free_distance, distance_in, distance}
use Rattle.rules.specs.Examples.{misses_from, misses, words, printed, word_at126, word_at127, ticks78, kind7, stack16, stack32, byte_at0, byte_at16, marked}

unfoldable pub computes : ℕ
unfolding ones padded power_reset phase_number is_phase phase_bsy phase_sel phase_drives own_id other_id phase_data byte_driving byte_driven rst_seen atn_seen sel_seen bsy_seen manual automatic normal ack_driven ack_seen connected matched path synchronous limit mismatched driving data_driven parity_driven data_seen parity_seen parity_even table read_at written_at lines_of well_formed fields_of decode writes reads value_of ticks_of lines_after offered asked wide port_write port_read stepped_to counter_step stack_place stack_byte pointer_after stack_read stack_written pointed phasemis instat irq timeout selection_asked called higher_id sequenced_of waited entered selingo_cleared selingo_raised selto_raised seldo_raised seldi_raised selection_freed silenced arbitrates waiting_for arbitrating_for selects clearing_for times_out selecting_for reselected answering_for tick_in uncalled let_go forestalled connects selected begun withdrawn answers resolved sequenced scsisigi scsibus sstat0 sstat1 sstat2 sstat3 sstat4 dmastat id_bytes read_of value_read absent test_value shut no_room no_bytes access_code refused_value clears clears_latch clears_error clrstcnt clrch rstfifo latch_access automatic_ack registers_a host_a counter_a transfer_a error_a status_a latches_a stack_a identity_a gives_up selection_a noted_a selection_latches_a sequencer_a after_a req_falls ack_released after_req_falls rst_rises bus_reset after_rst_rises req_rises parity_bad kept_after error_latched attention synchronous_req beyond_limit beyond req_within late_byte stored_byte req_risen after_req_rises quiet_after bus_free bus_freed after_quiet_ticks phase_changes phase_changed after_phase_changes after_sequencer first_four in_order after_b at_req conditions can_move move can_asynchronous can_synchronous can_handshake handshake turn settle started settled_c fifo_conflict pio_ready status_raised status_d latches_d finished after_d control_driven answer_of answer_bytes ended done access single_ticks ticks_taken step_event step_decoded step answer ticks_in advanced bus_free_distance distance_in distance misses_from misses words printed word_at126 word_at127 ticks78 kind7 stack16 stack32 byte_at0 byte_at16 marked
computes = 0
