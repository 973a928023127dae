-- Writes to 344h, 352h and 343h outside Normal mode: no path, so that no byte moves whatever they say. They are A alone.
use mathlib.Core.Path.{◌≡◌, refl, sym, ◌∙◌, ap}
use mathlib.Core.Bool.{Bool, true, false, not, ◌&&◌, ◌||◌, and-false}
use Prim.Native.Nat.{ℕ}
use Rattle.rules.specs.Rest.{AtRest, Resting}
use Rattle.rules.specs.State.{State}
use Rattle.rules.specs.Changed.{with_registers, with_status}
use Rattle.rules.specs.Numbers.{bit}
use Rattle.rules.specs.Map.{offset_of}
use Rattle.rules.specs.Seen.{ack_driven, ack_seen, automatic, bsy_seen, connected, manual, matched, mismatched, normal, path, rst_seen, sel_seen}
use Rattle.rules.specs.Reads.{value_read}
use Rattle.rules.specs.Codes.{access_code}
use Rattle.rules.specs.Sequencer.{called}
use Rattle.rules.specs.StepA.{latch_access, automatic_ack, after_a}
use Rattle.rules.specs.StepB.{req_falls, after_req_falls, rst_rises, req_rises, quiet_after, phase_changes}
use Rattle.rules.specs.StepC.{conditions, can_move, can_handshake}
use Rattle.rules.specs.StepD.{fifo_conflict, pio_ready}
use Rattle.rules.specs.Step.{ended, access}
use Rattle.rules.specs.Ranges.{InRange}
use Rattle.rules.specs.declared.registers.Registers.{Registers}
use Rattle.rules.specs.declared.registers.Scsisig.{Scsisig}
use Rattle.rules.specs.declared.registers.Scsirate.{Scsirate}
use Rattle.rules.specs.declared.registers.Dmacntrl0.{Dmacntrl0}
use Rattle.rules.specs.declared.map.Register.TheVariants.{SCSISIGO, SCSIRATE, DMACNTRL0}
use Rattle.rules.specs.declared.codes.Code.TheVariants.{Done}
use Rattle.rules.specs.declared.records.Event.{Event}
use Rattle.rules.specs.declared.records.Event.TheVariants.{Write}
use Rattle.rules.proofs.Logic.{never}
use Rattle.rules.proofs.Still.{no_fall, no_reset, no_rise, no_change, quiet_still}
use Rattle.quick.proofs.Opened.{own_effect}
use Rattle.quick.proofs.Alike.{Alike, sequential_alike}
use Rattle.quick.proofs.Stands.{Stands, acked_still, stands}
use Rattle.quick.proofs.PlainWrites.{checked, write_done}

-- 343h with SELO and BSYO as they were
abbrev pub signed : Scsisig → Scsisig → Scsisig
signed x g =
    record {
      cdexp = x.cdexp;
      ioexp = x.ioexp;
      msgexp = x.msgexp;
      atno = x.atno;
      selo = g.selo;
      bsyo = g.bsyo;
      reqo = x.reqo;
      acko = x.acko;
    }

-- the registers with another 343h, 344h and 352h
abbrev pub registers_mode : Scsisig → Scsirate → Dmacntrl0 → Registers → Registers
registers_mode g x y r =
    record {
      scsiseq = r.scsiseq;
      sxfrctl0 = r.sxfrctl0;
      sxfrctl1 = r.sxfrctl1;
      scsisig = signed g r.scsisig;
      scsirate = x;
      scsiid = r.scsiid;
      scsidat = r.scsidat;
      simode0 = r.simode0;
      simode1 = r.simode1;
      dmacntrl0 = y;
      dmacntrl1 = r.dmacntrl1;
      brstcntrl = r.brstcntrl;
    }

-- these of a, and SCSIPERR; all else is of s
abbrev pub mode_of : State → State → State
mode_of a s =
    with_registers (registers_mode a.registers.scsisig a.registers.scsirate a.registers.dmacntrl0 s.registers)
    (with_status (checked a.status.scsiperr s.status) s)

-- what such a write asks for: it is not refused, the mode is not Normal, and the chip sees phase, SPIORDY's cause and ACK as before
pub record Modes (s : State) (e : Event) (a : State) : Type 0 where
  pub code : access_code s e ≡ Done
  pub after : after_a s e ≡ mode_of a s
  pub normal : normal s.registers ≡ false
  pub phase : mismatched (mode_of a s) ≡ mismatched s
  pub ready : pio_ready (mode_of a s) ≡ true → pio_ready s ≡ true
  pub seen : ack_seen (mode_of a s) ≡ true → ack_seen s ≡ true

module _ (s : State) (offset v : ℕ) (a : State) (k : Modes s (Write offset v) a) where
  abbrev b : State
  b = mode_of a s

  abbrev e : Event
  e = Write offset v

  mode_fall : after_req_falls s b ≡ b
  unfolding after_req_falls req_falls
  mode_fall = rw (no_fall s)

  mode_alike : Alike s b
  unfolding rst_seen called
  mode_alike =
      record { rst = refl; phase = refl; selingo = refl; called = refl; sel = refl; bsy = refl; asked = refl; quiet = refl }

  no_path : path b.registers ≡ false
  unfolding path normal
  no_path = rw k.normal

  resting : Resting (conditions b) b.transfer
  unfolding conditions can_move can_handshake
  resting = record { no_move = rw no_path; no_handshake = rw (no_path, and-false) }

  no_conflict : fifo_conflict b.registers ≡ false
  unfolding fifo_conflict normal
  no_conflict = rw k.normal

  module _ (r : AtRest s) (i : InRange s) where
    mode_stands : Stands s b
    unfolding rst_rises rst_seen req_rises quiet_after bsy_seen sel_seen phase_changes
    mode_stands =
        record {
          lands =
              record {
                reset = no_reset s;
                rise = no_rise s;
                quiet = quiet_still s r i.quiet;
                sequencer = sequential_alike s b mode_alike r.sequencer;
                phase = rw k.phase (no_change s);
                resting = resting;
              };
          unraised = record { fwerr = λ h. absurd (never (sym no_conflict ∙ h)); spiordy = λ h. r.spiordy (k.ready h); enables0 = refl; enables1 = refl };
        }

    -- IT IS A ALONE
    pub modes_stands : access s e ≡ ended (after_a s e) Done 0
    unfolding access value_read own_effect
    modes_stands =
        rw k.code
        (stands s e b b refl k.after mode_fall refl mode_stands
        ∙ ap (λ (w : State). ended w Done 0) (acked_still b (λ h. r.reqinit (k.seen h)))
        ∙ ap (λ (w : State). ended w Done 0) (sym k.after))

module _ (s : State) (v : ℕ) (r : AtRest s) (i : InRange s) (mode : normal s.registers ≡ false) where
  -- 344h
  pub scsirate_stands : access s (Write (offset_of SCSIRATE) v) ≡ ended (after_a s (Write (offset_of SCSIRATE) v)) Done 0
  unfolding own_effect latch_access automatic_ack mismatched matched connected rst_seen sel_seen bsy_seen pio_ready automatic ack_seen ack_driven manual
  scsirate_stands =
      modes_stands s (offset_of SCSIRATE) v (after_a s (Write (offset_of SCSIRATE) v))
      (record {
        code = write_done s (offset_of SCSIRATE) refl i.transfer.host v refl refl;
        after = refl;
        normal = mode;
        phase = refl;
        ready = λ h. h;
        seen = λ h. h;
      })
      r i

  -- 352h without RSTFIFO
  pub dmacntrl0_stands : bit v 1 ≡ false → access s (Write (offset_of DMACNTRL0) v) ≡ ended (after_a s (Write (offset_of DMACNTRL0) v)) Done 0
  unfolding own_effect latch_access automatic_ack mismatched matched connected rst_seen sel_seen bsy_seen pio_ready automatic ack_seen ack_driven manual
  dmacntrl0_stands none =
      modes_stands s (offset_of DMACNTRL0) v (after_a s (Write (offset_of DMACNTRL0) v))
      (record {
        code = write_done s (offset_of DMACNTRL0) refl i.transfer.host v refl refl;
        after = rw none;
        normal = mode;
        phase = refl;
        ready = λ h. h;
        seen = λ h. h;
      })
      r i

-- 343h, not connected: SELO and BSYO as before, ACKO 0
module _ (s : State) (v : ℕ) (mode : normal s.registers ≡ false) (alone : connected s ≡ false)
    (sel : bit v 3 ≡ s.registers.scsisig.selo) (bsy : bit v 2 ≡ s.registers.scsisig.bsyo) (ack : bit v 0 ≡ false) where
  abbrev signal : Event
  signal = Write (offset_of SCSISIGO) v

  abbrev sent : State
  sent = after_a s signal

  abbrev n : State
  n = mode_of sent s

  still_alone : connected n ≡ false
  unfolding connected bsy_seen sel_seen rst_seen
  still_alone = alone

  unmatched : matched n ≡ false
  unfolding matched
  unmatched = rw still_alone

  same_phase : mismatched n ≡ mismatched s
  unfolding mismatched
  same_phase = rw (still_alone, alone)

  unready : pio_ready n ≡ false
  unfolding pio_ready
  unready = rw (unmatched, and-false)

  acks_less : ack_seen n ≡ true → ack_seen s ≡ true
  unfolding ack_seen ack_driven manual own_effect
  acks_less h = go s.lines.ack s.transfer.ack (not s.registers.sxfrctl0.spioen && not s.registers.sxfrctl0.dmaen) _ (rw ack at h)
    where
      go : (x y m w : Bool) → (x || (y || (m && false))) ≡ true → (x || (y || (m && w))) ≡ true
      go true y m w k = refl
      go false true m w k = refl
      go false false true w k = absurd (never k)
      go false false false w k = absurd (never k)

  signs : after_a s signal ≡ mode_of (after_a s signal) s
  unfolding own_effect latch_access automatic_ack
  signs = rw (sel, bsy)

  accepted : InRange s → access_code s signal ≡ Done
  unfolding own_effect
  accepted i = write_done s (offset_of SCSISIGO) refl i.transfer.host v refl refl

  pub scsisig_stands : AtRest s → InRange s → access s signal ≡ ended (after_a s signal) Done 0
  scsisig_stands r i =
      modes_stands s (offset_of SCSISIGO) v sent
      (record {
        code = accepted i;
        after = signs;
        normal = mode;
        phase = same_phase;
        ready = λ h. absurd (never (sym unready ∙ h));
        seen = acks_less;
      })
      r i
