-- The latches after D over just the registers that they look at, 350h and 351h: `latches_d` of crates/rules/specs/StepD.antt
-- (proofs/Steady.antt).
use Rattle.std.specs.Prelude.{Bool, ◌||◌}
use Rattle.rules.specs.Interrupts.{latched}
use Rattle.rules.specs.declared.registers.Simode0.{Simode0}
use Rattle.rules.specs.declared.registers.Simode1.{Simode1}
use Rattle.rules.specs.declared.chip.Status.{Status}
use Rattle.rules.specs.declared.chip.Latches.{Latches}

-- b0 and b1: the enables before the event; r0 and r1: those after A
unfoldable pub latches_from : Simode0 → Simode1 → Simode0 → Simode1 → Status → Status → Latches → Latches
latches_from b0 b1 r0 r1 status raised k =
    record {
      spiordy =
          latched
          (record {
            kept = k.spiordy;
            enable = r0.enspiordy;
            enabled_before = b0.enspiordy;
            status = status.spiordy;
            raised = raised.spiordy;
          });
      scsirsti =
          latched
          (record {
            kept = k.scsirsti;
            enable = r1.enscsirst;
            enabled_before = b1.enscsirst;
            status = status.scsirsti;
            raised = raised.scsirsti;
          });
      busfree =
          latched
          (record {
            kept = k.busfree;
            enable = r1.enbusfree;
            enabled_before = b1.enbusfree;
            status = status.busfree;
            raised = raised.busfree;
          });
      scsiperr =
          latched
          (record {
            kept = k.scsiperr;
            enable = r1.enscsiperr;
            enabled_before = b1.enscsiperr;
            status = status.scsiperr;
            raised = raised.scsiperr;
          });
      phasechg =
          latched
          (record {
            kept = k.phasechg;
            enable = r1.enphasechg;
            enabled_before = b1.enphasechg;
            status = status.phasechg;
            raised = raised.phasechg;
          });
      reqinit =
          latched
          (record {
            kept = k.reqinit;
            enable = r1.enreqinit;
            enabled_before = b1.enreqinit;
            status = status.reqinit;
            raised = raised.reqinit;
          });
    }

-- is the interrupt of any latch enabled?
abbrev pub any_enable : Simode0 → Simode1 → Bool
any_enable r0 r1 =
    r0.enspiordy || r1.enscsirst || r1.enbusfree || r1.enscsiperr || r1.enphasechg || r1.enreqinit
