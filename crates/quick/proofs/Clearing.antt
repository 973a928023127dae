-- Writes to 34Bh and 34Ch clear statuses and latches, 34Ch ATN too: A alone.
use mathlib.Core.Path.{◌≡◌, refl, sym, ◌∙◌, ap}
use mathlib.Core.Bool.{Bool, true, false, and-false}
use Prim.Native.Nat.{ℕ, ◌≤◌}
use Rattle.rules.specs.Rest.{AtRest}
use Rattle.rules.specs.State.{State}
use Rattle.rules.specs.Changed.{with_registers, with_status, with_latches, with_sequencer}
use Rattle.rules.specs.Map.{offset_of}
use Rattle.rules.specs.Seen.{ack_seen, rst_seen}
use Rattle.rules.specs.Events.{ticks_of}
use Rattle.rules.specs.Reads.{value_read}
use Rattle.rules.specs.Codes.{access_code}
use Rattle.rules.specs.Sequencer.{called}
use Rattle.rules.specs.StepA.{with_atn, latch_access, automatic_ack, after_a}
use Rattle.rules.specs.StepB.{registers_with, req_falls, after_req_falls}
use Rattle.rules.specs.Step.{ended, access, done}
use Rattle.rules.specs.Ranges.{InRange}
use Rattle.rules.specs.declared.chip.Latches.{Latches}
use Rattle.rules.specs.declared.chip.Selection.{Selection}
use Rattle.rules.specs.declared.chip.Status.{Status}
use Rattle.rules.specs.declared.map.Register.TheVariants.{CLRSINT0, CLRSINT1}
use Rattle.rules.specs.declared.codes.Code.TheVariants.{Done}
use Rattle.rules.specs.declared.records.Event.{Event}
use Rattle.rules.specs.declared.records.Event.TheVariants.{Write}
use Rattle.rules.proofs.Still.{no_fall, no_reset, no_rise, no_change, quiet_still}
use Rattle.quick.proofs.Opened.{own_effect, looks_at}
use Rattle.quick.proofs.Alike.{Alike, sequential_alike}
use Rattle.quick.proofs.Stands.{Stands, acked_still, stands}
use Rattle.quick.proofs.PlainWrites.{write_done}

-- another ATN, other statuses but SPIORDY and FWERR, other latches, other selection statuses but SELINGO, other latches of these
abbrev pub cleared : Bool → Status → Latches → Bool → Selection → Selection → State → State
cleared atn t k noted u v s =
    let r = s.registers in
    let q = s.sequencer in
    with_sequencer
    (record {
      phase = q.phase;
      ticks = q.ticks;
      noted = noted;
      selid = q.selid;
      status = record { seldo = u.seldo; seldi = u.seldi; selingo = q.status.selingo; selto = u.selto };
      latches = v;
    })
    (with_latches k
    (with_status
    (record {
      spiordy = s.status.spiordy;
      scsirsti = t.scsirsti;
      busfree = t.busfree;
      scsiperr = t.scsiperr;
      phasechg = t.phasechg;
      reqinit = t.reqinit;
      syncerr = t.syncerr;
      fwerr = s.status.fwerr;
    })
    (with_registers (registers_with r.scsiseq r.sxfrctl0 (with_atn atn r.scsisig) r) s)))

module _ (s : State) (atn : Bool) (t : Status) (k : Latches) (noted : Bool) (u v : Selection) where
  abbrev b : State
  b = cleared atn t k noted u v s

  cleared_fall : after_req_falls s b ≡ b
  unfolding after_req_falls req_falls
  cleared_fall = rw (no_fall s)

  cleared_alike : Alike s b
  unfolding rst_seen called
  cleared_alike =
      record { rst = refl; phase = refl; selingo = refl; called = refl; sel = refl; bsy = refl; asked = refl; quiet = refl }

  pub cleared_stands : AtRest s → s.quiet ≤ 8 → Stands s b
  unfolding looks_at
  cleared_stands r q =
      record {
        lands =
            record {
              reset = no_reset s;
              rise = no_rise s;
              quiet = quiet_still s r q;
              sequencer = sequential_alike s b cleared_alike r.sequencer;
              phase = no_change s;
              resting = record { no_move = r.resting.no_move; no_handshake = r.resting.no_handshake };
            };
        unraised = record { fwerr = r.fwerr; spiordy = r.spiordy; enables0 = refl; enables1 = refl };
      }

  pub cleared_done : (e : Event) → AtRest s → s.quiet ≤ 8 → (ack_seen s ≡ true → t.reqinit ≡ false) → ticks_of e ≡ 0 → after_a s e ≡ b
      → done s e ≡ ended b Done (value_read s e)
  unfolding looks_at
  cleared_done e r q h n a =
      stands s e b b n a cleared_fall refl (cleared_stands r q) ∙ ap (λ (w : State). ended w Done (value_read s e)) (acked_still b h)

-- an event whose A clears no more than these
abbrev pub cleared_of : State → State → State
cleared_of a s =
    cleared a.registers.scsisig.atno a.status a.latches a.sequencer.noted a.sequencer.status a.sequencer.latches s

pub record Clears (s : State) (e : Event) : Type 0 where
  pub ticks : ticks_of e ≡ 0
  pub code : access_code s e ≡ Done
  pub after : after_a s e ≡ cleared_of (after_a s e) s
  pub reqinit : ack_seen s ≡ true → (after_a s e).status.reqinit ≡ false

-- IS A ALONE
pub clears_stands : (s : State) (e : Event) → AtRest s → InRange s → Clears s e → access s e ≡ ended (after_a s e) Done (value_read s e)
unfolding access
clears_stands s e r i k =
    rw k.code
    (let a = after_a s e in
    cleared_done s a.registers.scsisig.atno a.status a.latches a.sequencer.noted a.sequencer.status a.sequencer.latches e r i.quiet k.reqinit k.ticks k.after
    ∙ ap (λ (w : State). ended w Done (value_read s e)) (sym k.after))

module _ (s : State) (v : ℕ) (r : AtRest s) (i : InRange s) where
  -- 34Bh
  pub clrsint0_clears : Clears s (Write (offset_of CLRSINT0) v)
  unfolding own_effect latch_access automatic_ack
  clrsint0_clears =
      record {
        ticks = refl;
        code = write_done s (offset_of CLRSINT0) refl i.transfer.host v refl refl;
        after = refl;
        reqinit = r.reqinit;
      }

  -- 34Ch
  pub clrsint1_clears : Clears s (Write (offset_of CLRSINT1) v)
  unfolding own_effect latch_access automatic_ack
  clrsint1_clears =
      record {
        ticks = refl;
        code = write_done s (offset_of CLRSINT1) refl i.transfer.host v refl refl;
        after = refl;
        reqinit = λ h. rw (r.reqinit h, and-false);
      }
