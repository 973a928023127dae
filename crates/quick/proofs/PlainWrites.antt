-- Writes that store what neither B, C nor D looks at: 342h, 345h, 346h, 348h to 34Ah, 353h, 358h, 35Dh. They are A alone. So are the
-- reads that step on, 35Dh and 35Fh.
use mathlib.Core.Path.{◌≡◌, refl, sym, ◌∙◌, ap}
use mathlib.Core.Bool.{Bool, false, and-false}
use Prim.Native.Nat.{ℕ, ◌+◌, ◌≤◌}
use native.Mathlib.Omega.{arith}
use lib.Dec.{eqb}
use lib.ListN.{length}
use borrow.Author.Tests.{le-ltb}
use Rattle.rules.specs.Rest.{AtRest}
use Rattle.rules.specs.State.{State}
use Rattle.rules.specs.Changed.{with_registers, with_status, with_counter, with_stack, with_identity}
use Rattle.rules.specs.Map.{offset_of}
use Rattle.rules.specs.Events.{ticks_of, offered, asked, port_write, port_read}
use Rattle.rules.specs.Reads.{value_read}
use Rattle.rules.specs.Codes.{absent, test_value, shut, no_room, no_bytes, access_code, is_done, refused_value}
use Rattle.rules.specs.Seen.{rst_seen}
use Rattle.rules.specs.Sequencer.{called}
use Rattle.rules.specs.StepA.{latch_access, automatic_ack, after_a}
use Rattle.rules.specs.StepB.{req_falls, after_req_falls}
use Rattle.rules.specs.Step.{ended, access, refused, done}
use Rattle.rules.specs.Ranges.{InRange}
use Rattle.rules.specs.declared.registers.Registers.{Registers}
use Rattle.rules.specs.declared.registers.Sxfrctl1.{Sxfrctl1}
use Rattle.rules.specs.declared.registers.Scsiid.{Scsiid}
use Rattle.rules.specs.declared.registers.Dmacntrl1.{Dmacntrl1}
use Rattle.rules.specs.declared.chip.Status.{Status}
use Rattle.rules.specs.declared.map.Register.TheVariants.{SXFRCTL1, SCSIID, SCSIDAT, STCNT0, STCNT1, STCNT2, DMACNTRL1, DMADATA, BRSTCNTRL, STACK, SCSITEST, TEST, ID}
use Rattle.rules.specs.declared.codes.Code.TheVariants.{Done}
use Rattle.rules.specs.declared.records.Event.{Event}
use Rattle.rules.specs.declared.records.Event.TheVariants.{Write, Read}
use Rattle.rules.proofs.Still.{no_fall, no_reset, no_rise, no_change, quiet_still}
use Rattle.quick.proofs.Opened.{own_effect, looks_at}
use Rattle.quick.proofs.Alike.{Alike, sequential_alike}
use Rattle.quick.proofs.Stands.{Stands, acked_still, stands}

-- A REFUSAL CHANGES NOTHING
pub refusal_stands : (s : State) (e : Event) → is_done (access_code s e) ≡ false → access s e ≡ refused s (access_code s e) (refused_value e)
unfolding access
refusal_stands s e h = rw h

-- a write, or a read, that is not refused
module _ (s : State) (offset : ℕ) (port : eqb offset (offset_of DMADATA) ≡ false) (h : length s.transfer.host ≤ 128) where
  pub write_done : (value : ℕ) → absent (Write offset value) ≡ false → test_value (Write offset value) ≡ false
      → access_code s (Write offset value) ≡ Done
  unfolding access_code shut no_room no_bytes offered asked port_write port_read
  write_done value a t =
      rw (a, t, port, le-ltb 128 (length s.transfer.host + 0) (omega arith), le-ltb (length s.transfer.host) 0 (omega arith))

  pub read_done : absent (Read offset) ≡ false → access_code s (Read offset) ≡ Done
  unfolding access_code test_value shut no_room no_bytes offered asked port_write port_read own_effect
  read_done a =
      rw (a, port, le-ltb 128 (length s.transfer.host + 0) (omega arith), le-ltb (length s.transfer.host) 0 (omega arith))

-- the registers with another 342h, 345h, 346h, 353h and 358h
abbrev pub registers_stored : Sxfrctl1 → Scsiid → ℕ → Dmacntrl1 → ℕ → Registers → Registers
registers_stored x id byte y z r =
    record {
      scsiseq = r.scsiseq;
      sxfrctl0 = r.sxfrctl0;
      sxfrctl1 = x;
      scsisig = r.scsisig;
      scsirate = r.scsirate;
      scsiid = id;
      scsidat = byte;
      simode0 = r.simode0;
      simode1 = r.simode1;
      dmacntrl0 = r.dmacntrl0;
      dmacntrl1 = y;
      brstcntrl = z;
    }

-- a status with another SCSIPERR
abbrev pub checked : Bool → Status → Status
checked error t =
    record {
      spiordy = t.spiordy;
      scsirsti = t.scsirsti;
      busfree = t.busfree;
      scsiperr = error;
      phasechg = t.phasechg;
      reqinit = t.reqinit;
      syncerr = t.syncerr;
      fwerr = t.fwerr;
    }

-- what of a none of B, C and D looks at, where the chip is called as before: these registers, SCSIPERR, the counter, the stack and the
-- place in the ID string; all else is of s
abbrev pub stored_of : State → State → State
stored_of a s =
    let r = a.registers in
    with_registers (registers_stored r.sxfrctl1 r.scsiid r.scsidat r.dmacntrl1 r.brstcntrl s.registers)
    (with_status (checked a.status.scsiperr s.status)
    (with_counter a.transfer.counter (with_stack a.stack (with_identity a.identity s))))

module _ (a s : State) (same : called (stored_of a s) ≡ called s) where
  abbrev b : State
  b = stored_of a s

  stored_fall : after_req_falls s b ≡ b
  unfolding after_req_falls req_falls
  stored_fall = rw (no_fall s)

  stored_alike : Alike s b
  unfolding rst_seen
  stored_alike =
      record { rst = refl; phase = refl; selingo = refl; called = same; sel = refl; bsy = refl; asked = refl; quiet = refl }

  stored_stands : AtRest s → s.quiet ≤ 8 → Stands s b
  unfolding looks_at
  stored_stands r q =
      record {
        lands =
            record {
              reset = no_reset s;
              rise = no_rise s;
              quiet = quiet_still s r q;
              sequencer = sequential_alike s b stored_alike r.sequencer;
              phase = no_change s;
              resting = record { no_move = r.resting.no_move; no_handshake = r.resting.no_handshake };
            };
        unraised = record { fwerr = r.fwerr; spiordy = r.spiordy; enables0 = refl; enables1 = refl };
      }

  stored_done : (e : Event) → AtRest s → s.quiet ≤ 8 → ticks_of e ≡ 0 → after_a s e ≡ b → done s e ≡ ended b Done (value_read s e)
  unfolding looks_at
  stored_done e r q t k =
      stands s e b b t k stored_fall refl (stored_stands r q) ∙ ap (λ (w : State). ended w Done (value_read s e)) (acked_still b r.reqinit)

-- an event that is not refused, and whose A changes no more than these
pub record Stores (s : State) (e : Event) : Type 0 where
  pub ticks : ticks_of e ≡ 0
  pub code : access_code s e ≡ Done
  pub after : after_a s e ≡ stored_of (after_a s e) s
  pub called : called (stored_of (after_a s e) s) ≡ called s

-- IS A ALONE
pub stores_stands : (s : State) (e : Event) → AtRest s → InRange s → Stores s e → access s e ≡ ended (after_a s e) Done (value_read s e)
unfolding access
stores_stands s e r i k =
    rw k.code
    (stored_done (after_a s e) s k.called e r i.quiet k.ticks k.after
    ∙ ap (λ (w : State). ended w Done (value_read s e)) (sym k.after))

-- THESE ARE
module _ (s : State) (v : ℕ) (i : InRange s) where
  -- 342h: with ENSPCHK 0, SCSIPERR goes
  pub sxfrctl1_stores : Stores s (Write (offset_of SXFRCTL1) v)
  unfolding own_effect latch_access automatic_ack called
  sxfrctl1_stores =
      record { ticks = refl; code = write_done s (offset_of SXFRCTL1) refl i.transfer.host v refl refl; after = refl; called = refl }

  -- 345h: others drive no SEL, so that they call no ID
  pub scsiid_stores : s.lines.sel ≡ false → Stores s (Write (offset_of SCSIID) v)
  unfolding own_effect latch_access automatic_ack called
  scsiid_stores sel =
      record {
        ticks = refl;
        code = write_done s (offset_of SCSIID) refl i.transfer.host v refl refl;
        after = refl;
        called = rw (sel, and-false);
      }

  -- 346h: it is no access with SPIORDY
  pub scsidat_stores : latch_access s (Write (offset_of SCSIDAT) v) ≡ false → Stores s (Write (offset_of SCSIDAT) v)
  unfolding own_effect automatic_ack called
  scsidat_stores none =
      record {
        ticks = refl;
        code = write_done s (offset_of SCSIDAT) refl i.transfer.host v refl refl;
        after = rw none;
        called = refl;
      }

  -- 348h to 34Ah
  pub stcnt0_stores : Stores s (Write (offset_of STCNT0) v)
  unfolding own_effect latch_access automatic_ack called
  stcnt0_stores =
      record { ticks = refl; code = write_done s (offset_of STCNT0) refl i.transfer.host v refl refl; after = refl; called = refl }

  pub stcnt1_stores : Stores s (Write (offset_of STCNT1) v)
  unfolding own_effect latch_access automatic_ack called
  stcnt1_stores =
      record { ticks = refl; code = write_done s (offset_of STCNT1) refl i.transfer.host v refl refl; after = refl; called = refl }

  pub stcnt2_stores : Stores s (Write (offset_of STCNT2) v)
  unfolding own_effect latch_access automatic_ack called
  stcnt2_stores =
      record { ticks = refl; code = write_done s (offset_of STCNT2) refl i.transfer.host v refl refl; after = refl; called = refl }

  -- 353h
  pub dmacntrl1_stores : Stores s (Write (offset_of DMACNTRL1) v)
  unfolding own_effect latch_access automatic_ack called
  dmacntrl1_stores =
      record { ticks = refl; code = write_done s (offset_of DMACNTRL1) refl i.transfer.host v refl refl; after = refl; called = refl }

  -- 358h
  pub brstcntrl_stores : Stores s (Write (offset_of BRSTCNTRL) v)
  unfolding own_effect latch_access automatic_ack called
  brstcntrl_stores =
      record { ticks = refl; code = write_done s (offset_of BRSTCNTRL) refl i.transfer.host v refl refl; after = refl; called = refl }

  -- 35Dh
  pub stack_stores : Stores s (Write (offset_of STACK) v)
  unfolding own_effect latch_access automatic_ack called
  stack_stores =
      record { ticks = refl; code = write_done s (offset_of STACK) refl i.transfer.host v refl refl; after = refl; called = refl }

-- 34Eh and 35Eh take a 0, and nothing comes of it
module _ (s : State) (i : InRange s) where
  pub scsitest_stores : Stores s (Write (offset_of SCSITEST) 0)
  unfolding own_effect latch_access automatic_ack called
  scsitest_stores =
      record { ticks = refl; code = write_done s (offset_of SCSITEST) refl i.transfer.host 0 refl refl; after = refl; called = refl }

  pub test_stores : Stores s (Write (offset_of TEST) 0)
  unfolding own_effect latch_access automatic_ack called
  test_stores =
      record { ticks = refl; code = write_done s (offset_of TEST) refl i.transfer.host 0 refl refl; after = refl; called = refl }

-- and the reads that step on
module _ (s : State) (i : InRange s) where
  pub stack_steps : Stores s (Read (offset_of STACK))
  unfolding own_effect latch_access automatic_ack called
  stack_steps =
      record { ticks = refl; code = read_done s (offset_of STACK) refl i.transfer.host refl; after = refl; called = refl }

  pub identity_steps : Stores s (Read (offset_of ID))
  unfolding own_effect latch_access automatic_ack called
  identity_steps =
      record { ticks = refl; code = read_done s (offset_of ID) refl i.transfer.host refl; after = refl; called = refl }
