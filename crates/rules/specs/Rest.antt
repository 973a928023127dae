-- A chip at rest: what every event leaves, so that an event of 0 ticks changes nothing.
use Rattle.std.specs.Prelude.{◌≡◌, true, false, ◌||◌}
use Rattle.rules.specs.State.{State, Transfer}
use Rattle.rules.specs.Seen.{bsy_seen, sel_seen, ack_seen}
use Rattle.rules.specs.Sequencer.{sequenced_of, sequenced}
use Rattle.rules.specs.StepC.{conditions, can_move, can_handshake}
use Rattle.rules.specs.StepD.{fifo_conflict, pio_ready}
use Rattle.rules.specs.declared.chip.Conditions.{Conditions}

-- neither a move nor a handshake is possible
pub record Resting (c : Conditions) (t : Transfer) : Type 0 where
  pub no_move : can_move c t ≡ false
  pub no_handshake : can_handshake c t ≡ false

-- what holds at the end of every event, and lets 0 ticks change nothing
pub record AtRest (s : State) : Type 0 where
  -- neither a move nor a handshake is possible
  pub resting : Resting (conditions s) s.transfer
  -- FWERR and SPIORDY are set where their causes hold
  pub fwerr : fifo_conflict s.registers ≡ true → s.status.fwerr ≡ true
  pub spiordy : pio_ready s ≡ true → s.status.spiordy ≡ true
  -- REQINIT is clear where ACK is seen, SCSIPERR where ENSPCHK is 0
  pub reqinit : ack_seen s ≡ true → s.status.reqinit ≡ false
  pub scsiperr : s.registers.sxfrctl1.enspchk ≡ false → s.status.scsiperr ≡ false
  -- no quiet ticks stand where BSY or SEL is seen
  pub quiet : (bsy_seen s || sel_seen s) ≡ true → s.quiet ≡ 0
  -- the sequencer has nothing to do without a tick
  pub sequencer : sequenced false 0 s ≡ sequenced_of s
