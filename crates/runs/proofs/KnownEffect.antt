-- What a driver knows holds of the chip, through A: the event's own effect.
use mathlib.Core.Path.{◌≡◌, refl, sym, ap, ◌∙◌}
use mathlib.Core.Bool.{Bool, true, false, not, ◌&&◌, ◌||◌, cond}
use mathlib.Core.List.{List, []}
use Prim.Native.Nat.{ℕ}
use lib.ListN.{drop}
use lib.Seq.{drop-nil}
use borrow.Author.Tests.{not-true}
use Rattle.rules.specs.Numbers.{bit, byte_of}
use Rattle.rules.specs.Map.{table, read_at}
use Rattle.rules.specs.State.{State}
use Rattle.rules.specs.Seen.{io_seen}
use Rattle.rules.specs.Events.{writes, reads, asked, port_write}
use Rattle.rules.specs.Reads.{sstat0, read_of, value_read}
use Rattle.rules.specs.StepA.{clrstcnt, clrch, rstfifo, latch_access, automatic_ack, gives_up, registers_a, host_a, counter_a, transfer_a, selection_a, sequencer_a, after_a}
use Rattle.rules.specs.declared.registers.Scsiseq.{Scsiseq}
use Rattle.rules.specs.declared.registers.Sxfrctl0.{Sxfrctl0}
use Rattle.rules.specs.declared.registers.Scsisig.{Scsisig}
use Rattle.rules.specs.declared.registers.Dmacntrl0.{Dmacntrl0}
use Rattle.rules.specs.declared.chip.Phase.{Phase}
use Rattle.rules.specs.declared.chip.Phase.TheVariants.{Idle}
use Rattle.rules.specs.declared.map.Register.TheVariants.{SCSISEQ, SXFRCTL0, SCSISIGO, SCSIDAT, STCNT0, STCNT1, STCNT2, SSTAT0, DMACNTRL0}
use Rattle.rules.specs.declared.records.Event.{Event}
use Rattle.rules.proofs.Logic.{never, left_true, right_true, cond_case}
use Rattle.rules.proofs.StayIdle.{SequencerOff}
use Rattle.runs.specs.Known.{Known, unsets, unsets_selection, uses_latch, seldo_shown, seldo_missed, own_effect}
use Rattle.runs.proofs.Stages.{no_automatic_ack}
use Rattle.runs.proofs.Cut.{gives_value}
use Rattle.runs.proofs.KnownSequencer.{Uncalled, Shows}

-- WHAT IS KNOWN, AS IT HOLDS OF A CHIP
pub record Holds (k : Known) (s : State) : Type 0 where
  pub host : k.host ≡ true → s.transfer.host ≡ []
  pub scsi : k.scsi ≡ true → s.transfer.scsi ≡ []
  pub counter : k.counter ≡ true → s.transfer.counter ≡ 0
  pub offset : k.offset ≡ true → s.transfer.offset ≡ 0
  pub acko : k.acko ≡ true → s.registers.scsisig.acko ≡ false
  pub ioexp : k.ioexp ≡ true → s.registers.scsisig.ioexp ≡ false
  pub write : k.write ≡ true → s.registers.dmacntrl0.write ≡ true
  pub dmaen : k.dmaen ≡ true → s.registers.sxfrctl0.dmaen ≡ true
  pub pathless : k.pathless ≡ true → s.registers.sxfrctl0.dmaen ≡ false
  pub spioen : k.spioen ≡ true → s.registers.sxfrctl0.spioen ≡ false
  pub scsien : k.scsien ≡ true → s.registers.sxfrctl0.scsien ≡ false
  pub uncalled : k.uncalled ≡ true → Uncalled s
  pub off : k.off ≡ true → SequencerOff s
  pub unselected : k.unselected ≡ true → s.sequencer.status.seldo ≡ false
  pub shows : k.shows ≡ true → Shows s

-- one of two holds
pub either : {P : Type 0} (a b : Bool) → (a || b) ≡ true → (a ≡ true → P) → (b ≡ true → P) → P
either true b h f g = f refl
either false b h f g = g h

-- THE DATA PATH
emptied_or : {A : Type 0} (c k : Bool) (z l : A) → (k ≡ true → l ≡ z) → (c || k) ≡ true → cond c z l ≡ z
emptied_or true k z l f h = refl
emptied_or false k z l f h = f h

host_left : (r p k : Bool) (l x : List ℕ) (n : ℕ) → (k ≡ true → l ≡ []) → (r || (not p && k)) ≡ true → cond r [] (cond p x (drop n l)) ≡ []
host_left true p k l x n f h = refl
host_left false true k l x n f h = absurd (never h)
host_left false false k l x n f h = rw (f h, drop-nil)

counter_left :
    (c w0 w1 w2 a k : Bool) (x0 x1 x2 y n : ℕ) → (k ≡ true → (a ≡ false) × (n ≡ 0)) → (c || (not (w0 || (w1 || w2)) && k)) ≡ true →
    cond c 0 (cond w0 x0 (cond w1 x1 (cond w2 x2 (cond a y n)))) ≡ 0
counter_left true w0 w1 w2 a k x0 x1 x2 y n f h = refl
counter_left false true w1 w2 a k x0 x1 x2 y n f h = absurd (never h)
counter_left false false true w2 a k x0 x1 x2 y n f h = absurd (never h)
counter_left false false false true a k x0 x1 x2 y n f h = absurd (never h)
counter_left false false false false a k x0 x1 x2 y n f h = rw ((f h).0, (f h).1)

-- no access to 346h, no Automatic ACK
unused_latch : (w r i : Bool) → not (w || r) ≡ true → ((w && not i) || (r && i)) ≡ false
unused_latch true r i h = absurd (never h)
unused_latch false true i h = absurd (never h)
unused_latch false false i h = refl

unused_no_ack : (s : State) (e : Event) → not (uses_latch e) ≡ true → automatic_ack s e ≡ false
unfolding automatic_ack latch_access
unused_no_ack s e h = rw (unused_latch (writes e SCSIDAT) (reads e SCSIDAT) (io_seen s) h)

-- A BIT OF A REGISTER
zero_written :
    {R : Type 0} (f : R → Bool) (w : Bool) (x y : R) (k : Bool) → (k ≡ true → f y ≡ false) → cond w (not (f x)) k ≡ true →
    f (cond w x y) ≡ false
zero_written f true x y k g h = not-true (f x) h
zero_written f false x y k g h = g h

one_written :
    {R : Type 0} (f : R → Bool) (w : Bool) (x y : R) (k : Bool) → (k ≡ true → f y ≡ true) → cond w (f x) k ≡ true → f (cond w x y) ≡ true
one_written f true x y k g h = h
one_written f false x y k g h = g h

-- 34Bh bit 6 is SELDO
seldo_bit : (a b c d : Bool) → bit (byte_of false a b c false false d false) 6 ≡ a
seldo_bit true true true true = refl
seldo_bit true true true false = refl
seldo_bit true true false true = refl
seldo_bit true true false false = refl
seldo_bit true false true true = refl
seldo_bit true false true false = refl
seldo_bit true false false true = refl
seldo_bit true false false false = refl
seldo_bit false true true true = refl
seldo_bit false true true false = refl
seldo_bit false true false true = refl
seldo_bit false true false false = refl
seldo_bit false false true true = refl
seldo_bit false false true false = refl
seldo_bit false false false true = refl
seldo_bit false false false false = refl

pub seldo_read : (s : State) (e : Event) → reads e SSTAT0 ≡ true → bit (value_read s e) 6 ≡ s.sequencer.status.seldo
unfolding read_at table read_of sstat0
seldo_read s e r =
    let t = s.sequencer.status in
    ap (λ (v : ℕ). bit v 6) (gives_value SSTAT0 refl s e r)
    ∙ seldo_bit t.seldo t.seldi t.selingo s.status.spiordy

-- giving up leaves an idle phase idle
idle_a : (s : State) (e : Event) → s.sequencer.phase ≡ Idle → (after_a s e).sequencer.phase ≡ Idle
unfolding after_a sequencer_a
idle_a s e i =
    cond_case (λ (p : Phase). p ≡ Idle) (gives_up (registers_a s.registers e) s.sequencer e) Idle s.sequencer.phase (λ q. refl)
    (λ q. i)

module _
    (k : Known) (s : State) (e : Event) (answered : ℕ) (i : Holds k s)
    (tells : reads e SSTAT0 ≡ true → bit answered 6 ≡ s.sequencer.status.seldo)
  where
    abbrev later : Known
    later = own_effect k e answered

    abbrev a : State
    a = after_a s e

    host_over_a : later.host ≡ true → a.transfer.host ≡ []
    unfolding own_effect after_a transfer_a host_a
    host_over_a = host_left (rstfifo e) (port_write e) k.host s.transfer.host _ (asked e) i.host

    scsi_a : later.scsi ≡ true → a.transfer.scsi ≡ []
    unfolding own_effect after_a transfer_a
    scsi_a = emptied_or (clrch e) k.scsi [] s.transfer.scsi i.scsi

    offset_a : later.offset ≡ true → a.transfer.offset ≡ 0
    unfolding own_effect after_a transfer_a
    offset_a = emptied_or (clrch e) k.offset 0 s.transfer.offset i.offset

    no_ack : (not (uses_latch e) || k.spioen) ≡ true → automatic_ack s e ≡ false
    no_ack h = either (not (uses_latch e)) k.spioen h (unused_no_ack s e) (λ q. no_automatic_ack s e (i.spioen q))

    counter_over_a : later.counter ≡ true → a.transfer.counter ≡ 0
    unfolding own_effect after_a transfer_a counter_a
    counter_over_a =
        let safe = not (uses_latch e) || k.spioen in
        counter_left (clrstcnt e) (writes e STCNT0) (writes e STCNT1) (writes e STCNT2) (automatic_ack s e) (safe && k.counter) _ _ _ _
        s.transfer.counter
        (λ h. (no_ack (left_true safe k.counter h), i.counter (right_true safe k.counter h)))

    acko_a : later.acko ≡ true → a.registers.scsisig.acko ≡ false
    unfolding own_effect after_a registers_a
    acko_a = zero_written (λ (g : Scsisig). g.acko) (writes e SCSISIGO) _ _ k.acko i.acko

    ioexp_a : later.ioexp ≡ true → a.registers.scsisig.ioexp ≡ false
    unfolding own_effect after_a registers_a
    ioexp_a = zero_written (λ (g : Scsisig). g.ioexp) (writes e SCSISIGO) _ _ k.ioexp i.ioexp

    write_a : later.write ≡ true → a.registers.dmacntrl0.write ≡ true
    unfolding own_effect after_a registers_a
    write_a = one_written (λ (g : Dmacntrl0). g.write) (writes e DMACNTRL0) _ _ k.write i.write

    dmaen_a : later.dmaen ≡ true → a.registers.sxfrctl0.dmaen ≡ true
    unfolding own_effect after_a registers_a
    dmaen_a = one_written (λ (g : Sxfrctl0). g.dmaen) (writes e SXFRCTL0) _ _ k.dmaen i.dmaen

    pathless_a : later.pathless ≡ true → a.registers.sxfrctl0.dmaen ≡ false
    unfolding own_effect after_a registers_a
    pathless_a = zero_written (λ (g : Sxfrctl0). g.dmaen) (writes e SXFRCTL0) _ _ k.pathless i.pathless

    spioen_a : later.spioen ≡ true → a.registers.sxfrctl0.spioen ≡ false
    unfolding own_effect after_a registers_a
    spioen_a = zero_written (λ (g : Sxfrctl0). g.spioen) (writes e SXFRCTL0) _ _ k.spioen i.spioen

    scsien_a : later.scsien ≡ true → a.registers.sxfrctl0.scsien ≡ false
    unfolding own_effect after_a registers_a
    scsien_a = zero_written (λ (g : Sxfrctl0). g.scsien) (writes e SXFRCTL0) _ _ k.scsien i.scsien

    -- THE SEQUENCER: 340h written, or not
    uncalled_by : (u : Bool) → (u ≡ true → Uncalled s) → cond (writes e SCSISEQ) (unsets e 5 && unsets e 4) u ≡ true → Uncalled a
    unfolding after_a registers_a
    uncalled_by u f h =
        record {
          enseli = zero_written (λ (q : Scsiseq). q.enseli) (writes e SCSISEQ) _ _ u (λ t. (f t).enseli) (left (writes e SCSISEQ) h);
          enrseli = zero_written (λ (q : Scsiseq). q.enrseli) (writes e SCSISEQ) _ _ u (λ t. (f t).enrseli) (right (writes e SCSISEQ) h);
        }
      where
        left : (w : Bool) → cond w (unsets e 5 && unsets e 4) u ≡ true → cond w (unsets e 5) u ≡ true
        left true h = left_true (unsets e 5) (unsets e 4) h
        left false h = h

        right : (w : Bool) → cond w (unsets e 5 && unsets e 4) u ≡ true → cond w (unsets e 4) u ≡ true
        right true h = right_true (unsets e 5) (unsets e 4) h
        right false h = h

    uncalled_a : later.uncalled ≡ true → Uncalled a
    unfolding own_effect
    uncalled_a = uncalled_by k.uncalled i.uncalled

    -- a read that shows SELDO 1 or 0
    shown : seldo_shown e answered ≡ true → s.sequencer.status.seldo ≡ true
    shown h = sym (tells (left_true (reads e SSTAT0) (bit answered 6) h)) ∙ right_true (reads e SSTAT0) (bit answered 6) h

    missed : seldo_missed e answered ≡ true → s.sequencer.status.seldo ≡ false
    missed h =
        sym (tells (left_true (reads e SSTAT0) (not (bit answered 6)) h))
        ∙ not-true (bit answered 6) (right_true (reads e SSTAT0) (not (bit answered 6)) h)

    -- an idle sequencer whose 340h bits 6-4 are clear after A is off
    abbrev bits : Bool → Bool
    bits w = cond w (unsets_selection e) true

    off_by_bits : SequencerOff s → bits (writes e SCSISEQ) ≡ true → SequencerOff a
    unfolding after_a registers_a
    off_by_bits o h =
        record {
          enselo = zero_written (λ (q : Scsiseq). q.enselo) (writes e SCSISEQ) _ _ true (λ u. o.enselo) (six (writes e SCSISEQ) h);
          enseli = zero_written (λ (q : Scsiseq). q.enseli) (writes e SCSISEQ) _ _ true (λ u. o.enseli) (five (writes e SCSISEQ) h);
          enrseli = zero_written (λ (q : Scsiseq). q.enrseli) (writes e SCSISEQ) _ _ true (λ u. o.enrseli) (four (writes e SCSISEQ) h);
          idle = idle_a s e o.idle;
        }
      where
        six : (w : Bool) → bits w ≡ true → cond w (unsets e 6) true ≡ true
        six true h = left_true (unsets e 6) (unsets e 5 && unsets e 4) h
        six false h = h

        five : (w : Bool) → bits w ≡ true → cond w (unsets e 5) true ≡ true
        five true h = left_true (unsets e 5) (unsets e 4) (right_true (unsets e 6) (unsets e 5 && unsets e 4) h)
        five false h = h

        four : (w : Bool) → bits w ≡ true → cond w (unsets e 4) true ≡ true
        four true h = right_true (unsets e 5) (unsets e 4) (right_true (unsets e 6) (unsets e 5 && unsets e 4) h)
        four false h = h

    off_a : later.off ≡ true → SequencerOff a
    unfolding own_effect
    off_a h = off_by_bits (before (writes e SCSISEQ) h) (clear (writes e SCSISEQ) h)
      where
        before : (w : Bool) → cond w (unsets_selection e && k.off) ((seldo_shown e answered && k.shows) || k.off) ≡ true → SequencerOff s
        before true h = i.off (right_true (unsets_selection e) k.off h)
        before false h =
            either (seldo_shown e answered && k.shows) k.off h
            (λ q. (i.shows (right_true (seldo_shown e answered) k.shows q)).off (shown (left_true (seldo_shown e answered) k.shows q)))
            i.off

        clear : (w : Bool) → cond w (unsets_selection e && k.off) ((seldo_shown e answered && k.shows) || k.off) ≡ true → bits w ≡ true
        clear true h = left_true (unsets_selection e) k.off h
        clear false h = refl

    unselected_a : later.unselected ≡ true → a.sequencer.status.seldo ≡ false
    unfolding own_effect after_a sequencer_a selection_a
    unselected_a h = either (seldo_missed e answered) k.unselected h missed i.unselected

    -- SELDO is as it was: where it is known to be 0 there is nothing to show
    seldo_a : a.sequencer.status.seldo ≡ s.sequencer.status.seldo
    unfolding after_a sequencer_a selection_a
    seldo_a = refl

    shows_none : Uncalled a → s.sequencer.status.seldo ≡ false → Shows a
    shows_none u h = record { uncalled = u; off = λ t. absurd (never (sym h ∙ sym seldo_a ∙ t)) }

    shows_a : later.shows ≡ true → Shows a
    unfolding own_effect
    shows_a h = go (writes e SCSISEQ) refl h
      where
        go :
            (w : Bool) → writes e SCSISEQ ≡ w →
            cond w ((unsets e 5 && unsets e 4) && k.unselected) ((seldo_missed e answered && k.uncalled) || k.shows) ≡ true → Shows a
        go true w q =
            shows_none (uncalled_by false (λ t. absurd (never t)) (rw w (left_true (unsets e 5 && unsets e 4) k.unselected q)))
            (i.unselected (right_true (unsets e 5 && unsets e 4) k.unselected q))
        go false w q =
            either (seldo_missed e answered && k.uncalled) k.shows q
            (λ t.
            shows_none (uncalled_by true (λ u. i.uncalled (right_true (seldo_missed e answered) k.uncalled t)) (rw w))
            (missed (left_true (seldo_missed e answered) k.uncalled t)))
            (λ t.
            record {
              uncalled = uncalled_by true (λ u. (i.shows t).uncalled) (rw w);
              off = λ u. off_by_bits ((i.shows t).off (sym seldo_a ∙ u)) (rw w);
            })

    -- A: WHAT IS KNOWN AFTER THE EVENT'S OWN EFFECT HOLDS AFTER IT
    pub effect_holds : Holds later a
    effect_holds =
        record {
          host = host_over_a;
          scsi = scsi_a;
          counter = counter_over_a;
          offset = offset_a;
          acko = acko_a;
          ioexp = ioexp_a;
          write = write_a;
          dmaen = dmaen_a;
          pathless = pathless_a;
          spioen = spioen_a;
          scsien = scsien_a;
          uncalled = uncalled_a;
          off = off_a;
          unselected = unselected_a;
          shows = shows_a;
        }
