-- A line event in which others change no more than data, parity, ATN, ACK and REQ, and REQ does not rise: the lines are taken,
-- automatic ACK goes with REQ, and REQINIT falls where ACK is seen.
use mathlib.Core.Path.{◌≡◌, refl, sym, ◌∙◌, ap}
use mathlib.Core.Bool.{Bool, true, false, not, ◌&&◌, cond, and-not_self, and-false}
use Prim.Native.Nat.{◌+◌, ◌≤◌}
use native.Mathlib.Omega.{arith}
use lib.Dec.{ltb}
use lib.ListN.{length}
use borrow.Author.Tests.{le-ltb}
use Rattle.rules.specs.Rest.{AtRest}
use Rattle.rules.specs.State.{State}
use Rattle.rules.specs.Changed.{with_lines, with_ack}
use Rattle.rules.specs.Seen.{ack_driven, ack_seen, automatic, bsy_seen, connected, matched, mismatched, rst_seen, sel_seen, synchronous}
use Rattle.rules.specs.Events.{writes, ticks_of, offered, asked, port_write, port_read}
use Rattle.rules.specs.Reads.{value_read}
use Rattle.rules.specs.Codes.{absent, test_value, shut, no_room, no_bytes, access_code}
use Rattle.rules.specs.Sequencer.{called, sequenced_of, sequenced}
use Rattle.rules.specs.StepA.{latch_access, automatic_ack, after_a}
use Rattle.rules.specs.StepB.{req_falls, ack_released, after_req_falls, rst_rises, req_rises, quiet_after, phase_changes}
use Rattle.rules.specs.StepC.{conditions, can_move, can_handshake, can_synchronous, can_asynchronous}
use Rattle.rules.specs.StepD.{pio_ready}
use Rattle.rules.specs.Step.{ended, access}
use Rattle.rules.specs.Ranges.{InRange}
use Rattle.rules.specs.declared.codes.Code.TheVariants.{Done}
use Rattle.rules.specs.declared.records.Lines.{Lines}
use Rattle.rules.specs.declared.records.Event.TheVariants.{Drive}
use Rattle.rules.proofs.Logic.{never}
use Rattle.rules.proofs.Still.{after_a_still, no_reset, no_change, quiet_still}
use Rattle.rules.proofs.Resolving.{sequential_transfer}
use Rattle.quick.proofs.Opened.{own_effect}
use Rattle.quick.proofs.Alike.{sequential_alike}
use Rattle.quick.proofs.Stands.{Stands, acked, acked_still, stands}

-- the lines k with the data, parity, ATN, REQ and ACK of l
abbrev pub few : Lines → Lines → Lines
few l k =
    record {
      byte = l.byte;
      parity = l.parity;
      rst = k.rst;
      cd = k.cd;
      io = k.io;
      msg = k.msg;
      atn = l.atn;
      sel = k.sel;
      bsy = k.bsy;
      req = l.req;
      ack = l.ack;
    }

-- does REQ fall, from p to q?
abbrev falls : Bool → Bool → Bool
falls p q = p && not q

-- automatic ACK after it
abbrev stays : Bool → Bool → Bool → Bool
stays p q ack = not (falls p q) && ack

-- tests
no_rise : (q p n : Bool) → (q && not p) ≡ false → (q && not p && n) ≡ false
no_rise true true n h = refl
no_rise true false n h = absurd (never (sym h))
no_rise false p n h = refl

no_ask : (enabled ahead x y : Bool) → (enabled && cond ahead x y) ≡ false → (enabled && cond ahead x false) ≡ false
no_ask true true x y h = h
no_ask true false x y h = refl
no_ask false ahead x y h = refl

still_none : (enabled ahead x q p ack z : Bool) → (q && not p) ≡ false → (enabled && cond ahead x (p && not ack && z)) ≡ false
    → (enabled && cond ahead x (q && not (stays p q ack) && z)) ≡ false
still_none enabled ahead x true true ack z h k = k
still_none enabled ahead x true false ack z h k = absurd (never (sym h))
still_none enabled ahead x false p ack z h k = no_ask enabled ahead x (p && not ack && z) k

still_asks : (m q p ack : Bool) → (q && not p) ≡ false → (m && q && not (stays p q ack)) ≡ true → (m && p && not ack) ≡ true
still_asks m true true ack h k = k
still_asks m true false ack h k = absurd (never (sym h))
still_asks true false p ack h k = absurd (never k)
still_asks false false p ack h k = absurd (never k)

-- no line event is refused
pub drive_done : (s : State) (l : Lines) → length s.transfer.host ≤ 128 → access_code s (Drive l) ≡ Done
unfolding access_code absent test_value shut no_room no_bytes writes offered asked port_write port_read
drive_done s l h =
    rw (le-ltb 128 (length s.transfer.host + 0) (omega arith), le-ltb (length s.transfer.host) 0 (omega arith))

module _ (l : Lines) (s : State) where
  abbrev pub driven : State
  driven = with_lines (few l s.lines) s

  -- what the event leaves but for REQINIT
  abbrev pub taken : State
  taken = with_ack (stays s.lines.req l.req s.transfer.ack) driven

  fell : after_req_falls s driven ≡ taken
  unfolding after_req_falls req_falls ack_released
  fell = go (falls s.lines.req l.req)
    where
      go : (f : Bool) → cond f (with_ack false driven) driven ≡ with_ack (not f && s.transfer.ack) driven
      go true = refl
      go false = refl

  pub drive_a : AtRest s → after_a s (Drive (few l s.lines)) ≡ driven
  unfolding own_effect automatic_ack latch_access
  drive_a r = ap (with_lines (few l s.lines)) (after_a_still s 0 r)

  -- others call the chip as before: so where they do not drive SEL
  pub unselected : s.lines.sel ≡ false → called driven ≡ called s
  unfolding called
  unselected h = rw (h, and-false)

  -- so that the sequencer has nothing to do
  pub sequencer_driven : AtRest s → called driven ≡ called s → sequenced false 0 driven ≡ sequenced_of driven
  unfolding rst_seen
  sequencer_driven r same =
      sequential_alike s driven
      (record { rst = refl; phase = refl; selingo = refl; called = same; sel = refl; bsy = refl; asked = refl; quiet = refl })
      r.sequencer

  module _ (r : AtRest s) (i : InRange s) (same : called driven ≡ called s) (low : (l.req && not s.lines.req) ≡ false) where
    still_silent : can_handshake (conditions taken) taken.transfer ≡ false
    unfolding rst_seen bsy_seen sel_seen matched connected conditions can_handshake can_synchronous can_asynchronous synchronous
    still_silent =
        still_none (conditions s).enabled (synchronous s) (can_synchronous (conditions s) s.transfer) l.req s.lines.req s.transfer.ack
        (cond s.registers.dmacntrl0.write (ltb 0 (length s.transfer.scsi)) (ltb (length s.transfer.scsi) 8)) low
        r.resting.no_handshake

    pub few_stands : Stands s taken
    unfolding rst_rises rst_seen req_rises quiet_after bsy_seen sel_seen phase_changes mismatched matched connected conditions can_move can_handshake can_synchronous can_asynchronous synchronous pio_ready
    few_stands =
        record {
          lands =
              record {
                reset = no_reset s;
                rise = no_rise l.req s.lines.req (not (rst_seen s)) low;
                quiet = quiet_still s r i.quiet;
                sequencer = sequential_transfer taken.transfer driven (sequencer_driven r same);
                phase = no_change s;
                resting = record { no_move = r.resting.no_move; no_handshake = still_silent };
              };
          unraised = record { fwerr = r.fwerr; spiordy = λ e. r.spiordy (still_asks (automatic s.registers && matched s) l.req s.lines.req s.transfer.ack low e); enables0 = refl; enables1 = refl };
        }

    -- FEW LINES, WITHOUT A RISE OF REQ
    pub few_lines : access s (Drive (few l s.lines)) ≡ ended (acked taken) Done 0
    unfolding access ticks_of value_read
    few_lines =
        rw (drive_done s (few l s.lines) i.transfer.host) (stands s (Drive (few l s.lines)) driven taken refl (drive_a r) fell refl few_stands)

module _ (l : Lines) (s : State) (r : AtRest s) (i : InRange s) (sel : s.lines.sel ≡ false) where
  -- OTHER DATA AND PARITY, REQ AND ACK AS THEY WERE: the lines, and nothing else
  pub data_lines : l.req ≡ s.lines.req → l.ack ≡ s.lines.ack → access s (Drive (few l s.lines)) ≡ ended (driven l s) Done 0
  unfolding ack_seen ack_driven
  data_lines req ack =
      few_lines l s r i (unselected l s sel) (rw (req, and-not_self s.lines.req))
      ∙ ap (λ (x : State). ended (acked x) Done 0) ack_same
      ∙ ap (λ (x : State). ended x Done 0) (acked_still (driven l s) (rw ack r.reqinit))
    where
      ack_same : taken l s ≡ driven l s
      ack_same = rw (req, and-not_self s.lines.req)

  -- REQ FALLS: automatic ACK goes off; REQINIT falls only where ACK is seen still, by others or by ACKO
  pub req_falls_lem : s.lines.req ≡ true → l.req ≡ false → access s (Drive (few l s.lines))
      ≡ ended (acked (with_ack false (driven l s))) Done 0
  req_falls_lem up down =
      few_lines l s r i (unselected l s sel) (rw down)
      ∙ ap (λ (x : Bool). ended (acked (with_ack x (driven l s))) Done 0) off
    where
      off : stays s.lines.req l.req s.transfer.ack ≡ false
      off = rw (up, down)
