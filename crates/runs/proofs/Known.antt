-- What a driver knows holds of the chip: through the edges and settling, so through every record, and with it the start of a run.
use Rattle.std.specs.Prelude.{Option, Some, None}
use mathlib.Core.Path.{◌≡◌, refl, sym, ap, subst, ◌∙◌}
use mathlib.Core.Bool.{Bool, true, false, not, ◌&&◌, ◌||◌, cond, and-false, or-true}
use mathlib.Core.List.{List, [], ◌∷◌}
use Prim.Native.Nat.{ℕ, suc, ◌-◌}
use lib.Dec.{eqb}
use lib.ListN.{length}
use borrow.Author.Tests.{eqb-true, not-true}
use Rattle.rules.specs.Numbers.{bit}
use Rattle.rules.specs.Map.{offset_of}
use Rattle.rules.specs.State.{State, power_reset}
use Rattle.rules.specs.Seen.{rst_seen}
use Rattle.rules.specs.Records.{decode}
use Rattle.rules.specs.Events.{writes, reads, value_of, ticks_of, lines_after, offered, port_write}
use Rattle.rules.specs.Codes.{access_code, is_done, is_refusal}
use Rattle.rules.specs.Reads.{value_read}
use Rattle.rules.specs.StepA.{clrstcnt, clrch, rstfifo, registers_a, after_a}
use Rattle.rules.specs.StepB.{req_rises, synchronous_req, req_within, stored_byte, req_risen, after_req_rises, at_req, after_b}
use Rattle.rules.specs.StepC.{Settling, settle, move, handshake, conditions, started, turns, settled_c}
use Rattle.rules.specs.StepD.{finished, after_d}
use Rattle.rules.specs.Answers.{Stepped}
use Rattle.rules.specs.Step.{ended, refused, done, single_ticks, step}
use Rattle.rules.specs.declared.chip.Conditions.{Conditions}
use Rattle.rules.specs.declared.codes.Code.{Code}
use Rattle.rules.specs.declared.codes.Code.TheVariants.{Done}
use Rattle.rules.specs.declared.map.Register.{Register}
use Rattle.rules.specs.declared.map.Register.TheVariants.{SCSISEQ, SXFRCTL0, SCSISIGO, DMACNTRL0, DMADATA}
use Rattle.rules.specs.declared.records.Event.{Event}
use Rattle.rules.specs.declared.records.Event.TheVariants.{PowerReset, Write, Read, WordWrite, WordRead, Drive, Ticks}
use Rattle.rules.proofs.InOrder.{Apart, before_req, after_req, b_leaves, req_leaves, scsien_stays, acko_stays, ioexp_stays}
use Rattle.rules.proofs.Logic.{never, left_true, right_true, cond_case}
use Rattle.rules.proofs.Refusals.{no_rise}
use Rattle.rules.proofs.Settling.{settle_keeps}
use Rattle.rules.proofs.StayIdle.{SequencerOff, reset_idles}
use Rattle.runs.specs.Comes.{event_bytes}
use Rattle.runs.specs.Run.{Starts, accepted, took_at_req}
use Rattle.runs.specs.Clearing.{switched_off, both_empty, may_clear}
use Rattle.runs.specs.Known.{Known, nothing, after_cut_and_reading, unsets, sets, unsets_selection, moves_lines, own_effect, pulses, settled, learned_of, learned_by, known_off, known_empty, may_clear_known, known_start}
use Rattle.runs.specs.Rounds.{Round, after_reading, Proceeds}
use Rattle.runs.proofs.Access.{done_code, ticks_law, step_law}
use Rattle.runs.proofs.Stages.{outbound_stores_none, host_b, scsi_over_b, offers_none}
use Rattle.runs.proofs.Cut.{both_true, idle_event, cut_and_read}
use Rattle.runs.proofs.Clearing.{off_by, empty_settles}
use Rattle.runs.proofs.Sequence.{manual_no_path, pathless_settles, write_b, counter_b, At0, at0, outward_path}
use Rattle.runs.proofs.Rounds.{idle_after_cut}
use Rattle.runs.proofs.KnownSequencer.{Unasked, unasked_b, uncalled_b, off_with_b, shows_b}
use Rattle.runs.proofs.KnownEffect.{Holds, either, seldo_read, effect_holds}

-- SETTLING: outbound an empty host FIFO stays empty, and an offset of 0 stays 0 whichever way
module _ (c : Conditions) (h : c.outbound ≡ true) where
  abbrev Drained : Settling → Type 0
  Drained x = x.transfer.host ≡ []

  drained_settles : (n : ℕ) (x : Settling) → Drained x → Drained (settle c n x)
  unfolding move handshake
  drained_settles = settle_keeps Drained c (λ x q p. rw (h, p)) (λ x q p. p)

module _ (c : Conditions) where
  abbrev Unowed : Settling → Type 0
  Unowed x = x.transfer.offset ≡ 0

  unowed_handshake : (t : Bool) (n : ℕ) → n ≡ 0 → cond t (n - 1) n ≡ 0
  unowed_handshake true n h = rw h
  unowed_handshake false n h = h

  unowed_settles : (n : ℕ) (x : Settling) → Unowed x → Unowed (settle c n x)
  unfolding move handshake
  unowed_settles = settle_keeps Unowed c (λ x q p. p) (λ x q p. unowed_handshake c.synchronous x.transfer.offset p)

-- without a path a REQ raises no offset and stores no byte
pathless_within : (n : State) → n.registers.sxfrctl0.dmaen ≡ false → req_within n ≡ false
unfolding req_within synchronous_req
pathless_within n d = simp (manual_no_path n.registers d, and-false)

module _ (s : State) (e : Event) (d : (after_a s e).registers.sxfrctl0.dmaen ≡ false) where
  pathless_at_req : req_within (at_req s e) ≡ false
  pathless_at_req = pathless_within (at_req s e) (ap (λ (x : Apart). x.dmaen) (req_leaves s e) ∙ d)

  pathless_stores_none : took_at_req s e ≡ []
  unfolding took_at_req stored_byte
  pathless_stores_none = rw pathless_at_req (go (req_rises s (at_req s e)))
    where
      go : (t : Bool) → ◌≡◌ {A = List ℕ} (cond t [] []) []
      go true = refl
      go false = refl

  pathless_rests : settled_c s e ≡ started (after_b s e)
  pathless_rests = pathless_settles s e (ap (λ (x : Apart). x.dmaen) (b_leaves s e) ∙ d)

-- an event that moves no line brings no REQ
still_lines : (s : State) (e : Event) → not (moves_lines e) ≡ true → lines_after e s.lines ≡ s.lines
unfolding lines_after
still_lines s PowerReset h = refl
still_lines s (Write offset value) h = refl
still_lines s (Read offset) h = refl
still_lines s (WordWrite word) h = refl
still_lines s WordRead h = refl
still_lines s (Drive lines) h = absurd (never h)
still_lines s (Ticks n) h = refl

module _ (s : State) (e : Event) (z : At0 (after_a s e)) where
  offset_risen : At0 (after_req_rises s (at_req s e)) → At0 (after_b s e)
  offset_risen = after_req At0 at0 s e

  offset_at_req : At0 (at_req s e)
  offset_at_req = before_req At0 at0 s e z

  still_offset : not (moves_lines e) ≡ true → At0 (after_b s e)
  unfolding after_req_rises
  still_offset h = offset_risen (rw (no_rise s e (still_lines s e h)) offset_at_req)

  pathless_offset : (after_a s e).registers.sxfrctl0.dmaen ≡ false → At0 (after_b s e)
  unfolding after_req_rises req_risen
  pathless_offset d =
      offset_risen
      (cond_case At0 (req_rises s (at_req s e)) (req_risen (at_req s e)) (at_req s e) (λ q. rw (pathless_at_req s e d) offset_at_req)
      (λ q. offset_at_req))

-- B AND C: what is known after A, and what the edges and settling leave of it
module _ (k : Known) (s : State) (e : Event) (i : Holds k (after_a s e)) where
  abbrev b : State
  b = after_b s e

  -- nothing settles without a path, or outbound with both FIFOs empty
  outbound : k.write ≡ true → b.registers.dmacntrl0.write ≡ true
  outbound w = write_b s e (i.write w)

  empty_host : k.host ≡ true → b.transfer.host ≡ []
  empty_host h = host_b s e ∙ i.host h

  empty_scsi : took_at_req s e ≡ [] → k.scsi ≡ true → b.transfer.scsi ≡ []
  empty_scsi none h = scsi_over_b s e ∙ rw (none, i.scsi h)

  rests_empty : k.write ≡ true → k.host ≡ true → k.scsi ≡ true → settled_c s e ≡ started b
  rests_empty w h c = empty_settles s e (outbound w) (empty_host h) (empty_scsi (outbound_stores_none s e (outbound w)) c)

  host_settled : ((k.pathless || k.write) && k.host) ≡ true → (settled_c s e).transfer.host ≡ []
  unfolding settled_c started conditions
  host_settled h =
      let g = empty_host (right_true (k.pathless || k.write) k.host h) in
      either k.pathless k.write (left_true (k.pathless || k.write) k.host h)
      (λ p. ap (λ (x : Settling). x.transfer.host) (pathless_rests s e (i.pathless p)) ∙ g)
      (λ w. drained_settles (conditions b) (outbound w) turns (started b) g)

  scsi_settled : ((k.pathless || (k.write && k.host)) && k.scsi) ≡ true → (settled_c s e).transfer.scsi ≡ []
  unfolding started
  scsi_settled h =
      let c = right_true (k.pathless || (k.write && k.host)) k.scsi h in
      either k.pathless (k.write && k.host) (left_true (k.pathless || (k.write && k.host)) k.scsi h)
      (λ p.
      ap (λ (x : Settling). x.transfer.scsi) (pathless_rests s e (i.pathless p))
      ∙ empty_scsi (pathless_stores_none s e (i.pathless p)) c)
      (λ w.
      let out = left_true k.write k.host w in
      ap (λ (x : Settling). x.transfer.scsi) (rests_empty out (right_true k.write k.host w) c)
      ∙ empty_scsi (outbound_stores_none s e (outbound out)) c)

  -- no handshake: no path, SCSIEN 0, or outbound with both FIFOs empty
  abbrev idles : Bool
  idles = k.pathless || (k.scsien || (k.write && (k.host && k.scsi)))

  all_empty : (k.write && (k.host && k.scsi)) ≡ true → settled_c s e ≡ started b
  all_empty w =
      let both = right_true k.write (k.host && k.scsi) w in
      rests_empty (left_true k.write (k.host && k.scsi) w) (left_true k.host k.scsi both) (right_true k.host k.scsi both)

  counter_settled : (idles && k.counter) ≡ true → (settled_c s e).transfer.counter ≡ 0
  unfolding started
  counter_settled h =
      let z : b.transfer.counter ≡ 0 = counter_b s e ∙ i.counter (right_true idles k.counter h) in
      either k.pathless (k.scsien || (k.write && (k.host && k.scsi))) (left_true idles k.counter h)
      (λ p. ap (λ (x : Settling). x.transfer.counter) (pathless_rests s e (i.pathless p)) ∙ z)
      (λ q.
      either k.scsien (k.write && (k.host && k.scsi)) q
      (λ o. (idle_event s e (scsien_stays s e (i.scsien o))).counter ∙ z)
      (λ w. ap (λ (x : Settling). x.transfer.counter) (all_empty w) ∙ z))

  silent_settled : idles ≡ true → (settled_c s e).acks ≡ 0
  unfolding started
  silent_settled h =
      either k.pathless (k.scsien || (k.write && (k.host && k.scsi))) h
      (λ p. ap (λ (x : Settling). x.acks) (pathless_rests s e (i.pathless p)))
      (λ q.
      either k.scsien (k.write && (k.host && k.scsi)) q (λ o. (idle_event s e (scsien_stays s e (i.scsien o))).acks)
      (λ w. ap (λ (x : Settling). x.acks) (all_empty w)))

  offset_settled : ((not (moves_lines e) || k.pathless) && k.offset) ≡ true → (settled_c s e).transfer.offset ≡ 0
  unfolding settled_c started
  offset_settled h =
      let moved = not (moves_lines e) || k.pathless in
      let z = i.offset (right_true moved k.offset h) in
      unowed_settles (conditions b) turns (started b)
      (either (not (moves_lines e)) k.pathless (left_true moved k.offset h) (still_offset s e z)
      (λ p. pathless_offset s e z (i.pathless p)))

  -- a pulse on RST: RST is seen after A, and bits 6-4 are clear
  pulse_seen : writes e SCSISEQ ≡ true → sets e 0 ≡ true → rst_seen (after_a s e) ≡ true
  unfolding after_a registers_a rst_seen
  pulse_seen w r = rw (w, r) (or-true (lines_after e s.lines).rst)

  pulse_clears : writes e SCSISEQ ≡ true → unsets_selection e ≡ true → Unasked (after_a s e)
  unfolding after_a registers_a
  pulse_clears w u =
      let v = right_true (unsets e 6) (unsets e 5 && unsets e 4) u in
      record {
        enselo = rw w (not-true (sets e 6) (left_true (unsets e 6) (unsets e 5 && unsets e 4) u));
        enseli = rw w (not-true (sets e 5) (left_true (unsets e 5) (unsets e 4) v));
        enrseli = rw w (not-true (sets e 4) (right_true (unsets e 5) (unsets e 4) v));
      }

  pulse_off : pulses e ≡ true → SequencerOff (after_d s e)
  unfolding pulses after_d finished
  pulse_off h =
      let w = left_true (writes e SCSISEQ) (sets e 0 && unsets_selection e) h in
      let v = right_true (writes e SCSISEQ) (sets e 0 && unsets_selection e) h in
      let u = unasked_b s e (pulse_clears w (right_true (sets e 0) (unsets_selection e) v)) in
      let idle = reset_idles s e (pulse_seen w (left_true (sets e 0) (unsets_selection e) v)) in
      record { enselo = u.enselo; enseli = u.enseli; enrseli = u.enrseli; idle = idle }

  -- WHAT IS KNOWN AFTER THE EVENT HOLDS AFTER IT
  settled_holds : Holds (settled e k) (after_d s e)
  unfolding settled after_d finished
  settled_holds =
      record {
        host = host_settled;
        scsi = scsi_settled;
        counter = counter_settled;
        offset = offset_settled;
        acko = λ h. acko_stays s e (i.acko h);
        ioexp = λ h. ioexp_stays s e (i.ioexp h);
        write = outbound;
        dmaen = λ h. ap (λ (x : Apart). x.dmaen) (b_leaves s e) ∙ i.dmaen h;
        pathless = λ h. ap (λ (x : Apart). x.dmaen) (b_leaves s e) ∙ i.pathless h;
        spioen = λ h. ap (λ (x : Apart). x.spioen) (b_leaves s e) ∙ i.spioen h;
        scsien = λ h. scsien_stays s e (i.scsien h);
        uncalled = λ h. let u = uncalled_b s e (i.uncalled h) in record { enseli = u.enseli; enrseli = u.enrseli };
        off =
            λ h.
            either (pulses e) k.off h pulse_off
            (λ o.
            let r = (off_with_b false s e (record { off = i.off o; seldo = λ t. absurd (never t) })).off in
            record { enselo = r.enselo; enseli = r.enseli; enrseli = r.enrseli; idle = r.idle });
        unselected =
            λ h.
            (off_with_b true s e
            (record {
              off = i.off (left_true k.off k.unselected h);
              seldo = λ t. i.unselected (right_true k.off k.unselected h);
            })
            ).seldo refl;
        shows =
            λ h.
            let r = shows_b s e (i.shows h) in
            record {
              uncalled = record { enseli = r.uncalled.enseli; enrseli = r.uncalled.enrseli };
              off =
                  λ t.
                  let o = r.off t in
                  record { enselo = o.enselo; enseli = o.enseli; enrseli = o.enrseli; idle = o.idle };
            };
      }

  -- where it leaves SCSIEN 0 or both FIFOs empty, no ACK was issued
  silent_empty : ((k.pathless || k.write) && k.host) ≡ true → ((k.pathless || (k.write && k.host)) && k.scsi) ≡ true → idles ≡ true
  silent_empty h c = go k.pathless k.scsien k.write k.host k.scsi h c
    where
      go : (p o w x y : Bool) → ((p || w) && x) ≡ true → ((p || (w && x)) && y) ≡ true → (p || (o || (w && (x && y)))) ≡ true
      go true o w x y h c = refl
      go false true w x y h c = refl
      go false false true true y h c = c
      go false false true false y h c = absurd (never h)
      go false false false x y h c = absurd (never h)

  silent_off : k.scsien ≡ true → idles ≡ true
  silent_off o = rw o (or-true k.pathless)

  silent_done : (known_off (settled e k) || known_empty (settled e k)) ≡ true → (settled_c s e).acks ≡ 0
  unfolding settled
  silent_done h =
      let host = (k.pathless || k.write) && k.host in
      let scsi = (k.pathless || (k.write && k.host)) && k.scsi in
      silent_settled
      (either (k.scsien && k.spioen) (host && scsi) h (λ o. silent_off (left_true k.scsien k.spioen o))
      (λ q. silent_empty (left_true host scsi q) (right_true host scsi q)))

-- A STEP, by what it leaves known
pub record Sound (later : Known) (r : Stepped) : Type 0 where
  pub holds : Holds later r.state
  pub silent : (known_off later || known_empty later) ≡ true → r.acks ≡ 0

sound_done : (k : Known) (s : State) (e : Event) → Holds k s → Sound (settled e (own_effect k e (value_read s e))) (done s e)
unfolding done
sound_done k s e i =
    let a = effect_holds k s e (value_read s e) i (seldo_read s e) in
    record { holds = settled_holds (own_effect k e (value_read s e)) s e a; silent = silent_done (own_effect k e (value_read s e)) s e a }

-- nothing is known of any chip
pub holds_nothing : (s : State) → Holds nothing s
holds_nothing s =
    record {
      host = λ h. absurd (never h);
      scsi = λ h. absurd (never h);
      counter = λ h. absurd (never h);
      offset = λ h. absurd (never h);
      acko = λ h. absurd (never h);
      ioexp = λ h. absurd (never h);
      write = λ h. absurd (never h);
      dmaen = λ h. absurd (never h);
      pathless = λ h. absurd (never h);
      spioen = λ h. absurd (never h);
      scsien = λ h. absurd (never h);
      uncalled = λ h. absurd (never h);
      off = λ h. absurd (never h);
      unselected = λ h. absurd (never h);
      shows = λ h. absurd (never h);
    }

-- TICKS ONE BY ONE: what one tick leaves known, the next one leaves so
twice_and : (a b : Bool) → (a && (a && b)) ≡ (a && b)
twice_and true b = refl
twice_and false b = refl

twice_scsi : (p w h c : Bool) → ((p || (w && ((p || w) && h))) && ((p || (w && h)) && c)) ≡ ((p || (w && h)) && c)
twice_scsi true w h c = refl
twice_scsi false true h c = twice_and h c
twice_scsi false false h c = refl

twice_counter :
    (p o w h c n : Bool) →
    ((p || (o || (w && (((p || w) && h) && ((p || (w && h)) && c))))) && ((p || (o || (w && (h && c)))) && n))
    ≡ ((p || (o || (w && (h && c)))) && n)
twice_counter true o w h c n = refl
twice_counter false true w h c n = refl
twice_counter false false true true c n = twice_and c n
twice_counter false false true false c n = refl
twice_counter false false false h c n = refl

abbrev ticked : Known → Known
ticked k = settled (Ticks 1) k

ticked_twice : (k : Known) → ticked (ticked k) ≡ ticked k
unfolding settled pulses writes
ticked_twice k =
    λ t.
    record {
      host = twice_and (k.pathless || k.write) k.host t;
      scsi = twice_scsi k.pathless k.write k.host k.scsi t;
      counter = twice_counter k.pathless k.scsien k.write k.host k.scsi k.counter t;
      offset = k.offset;
      acko = k.acko;
      ioexp = k.ioexp;
      write = k.write;
      dmaen = k.dmaen;
      pathless = k.pathless;
      spioen = k.spioen;
      scsien = k.scsien;
      uncalled = k.uncalled;
      off = k.off;
      unselected = twice_and k.off k.unselected t;
      shows = k.shows;
    }

abbrev SoundTicks : State → Stepped → Type 0
SoundTicks s r = (k : Known) → Holds k s → Sound (ticked k) r

ticked_same : (k : Known) (s : State) → Holds k s → Holds (ticked k) s
unfolding settled pulses writes
ticked_same k s i =
    record {
      host = λ h. i.host (right_true (k.pathless || k.write) k.host h);
      scsi = λ h. i.scsi (right_true (k.pathless || (k.write && k.host)) k.scsi h);
      counter = λ h. i.counter (right_true (k.pathless || (k.scsien || (k.write && (k.host && k.scsi)))) k.counter h);
      offset = i.offset;
      acko = i.acko;
      ioexp = i.ioexp;
      write = i.write;
      dmaen = i.dmaen;
      pathless = i.pathless;
      spioen = i.spioen;
      scsien = i.scsien;
      uncalled = i.uncalled;
      off = i.off;
      unselected = λ h. i.unselected (right_true k.off k.unselected h);
      shows = i.shows;
    }

-- a tick writes and reads nothing
one_tick : (k : Known) (n answered : ℕ) → own_effect k (Ticks n) answered ≡ k
unfolding own_effect rstfifo clrch clrstcnt port_write writes reads
one_tick k n answered = refl

same_ticks : (n : ℕ) (k : Known) → settled (Ticks n) k ≡ ticked k
unfolding settled pulses writes
same_ticks n k = refl

tick_sound : (s : State) → SoundTicks s (done s (Ticks 1))
tick_sound s k i =
    subst (λ (x : Known). Sound (settled (Ticks 1) x) (done s (Ticks 1))) (one_tick k 1 (value_read s (Ticks 1)))
    (sound_done k s (Ticks 1) i)

ticks_sound : (n : ℕ) (s : State) → SoundTicks s (single_ticks n s)
unfolding ended
ticks_sound =
    ticks_law SoundTicks (λ s code value k i. record { holds = ticked_same k s i; silent = λ h. refl }) (λ s q. tick_sound s)
    (λ s first rest f g k i.
    let x = f k i in
    let y : Sound (ticked k) rest = subst (λ (z : Known). Sound z rest) (ticked_twice k) (g (ticked k) x.holds) in
    record { holds = y.holds; silent = λ h. rw (x.silent h, y.silent h) })

-- ticks are never refused
single_code : (n : ℕ) (s : State) → is_refusal (single_ticks (suc n) s).code ≡ false
unfolding single_ticks
single_code n s = refl

-- EVERY RECORD
pub refused_known : (k : Known) (d : Option Event) (answered : ℕ) → learned_by true k d answered ≡ k
refused_known k (Some e) answered = refl
refused_known k None answered = refl

module _ (k : Known) (s : State) (i : Holds k s) where
  abbrev Learns : Option Event → Stepped → Type 0
  Learns d r = Sound (learned_by (is_refusal r.code) k d r.value) r

  learns_refused : (d : Option Event) (code : Code) (value : ℕ) → is_refusal code ≡ true → Learns d (refused s code value)
  unfolding ended
  learns_refused d code value q = rw (q, refused_known k d value) (record { holds = i; silent = λ h. refl })

  learns_reset : Learns (Some PowerReset) (ended power_reset Done 0)
  unfolding ended
  learns_reset = record { holds = holds_nothing power_reset; silent = λ h. refl }

  learns_event : (e : Event) → Sound (learned_of k e (value_read s e)) (done s e)
  unfolding done
  learns_event PowerReset = record { holds = holds_nothing (done s PowerReset).state; silent = λ h. absurd (never h) }
  learns_event (Write offset value) = sound_done k s (Write offset value) i
  learns_event (Read offset) = sound_done k s (Read offset) i
  learns_event (WordWrite word) = sound_done k s (WordWrite word) i
  learns_event WordRead = sound_done k s WordRead i
  learns_event (Drive lines) = sound_done k s (Drive lines) i
  learns_event (Ticks n) = sound_done k s (Ticks n) i

  learns_done : (e : Event) → ticks_of e ≡ 0 → is_done (access_code s e) ≡ true → Learns (Some e) (done s e)
  unfolding done
  learns_done e t q =
      subst (λ (x : Bool). Sound (learned_by x k (Some e) (value_read s e)) (done s e)) (sym (done_code s e)) (learns_event e)

  learns_ticks : (n : ℕ) → Learns (Some (Ticks (suc n))) (single_ticks (suc n) s)
  learns_ticks n =
      let r = single_ticks (suc n) s in
      rw (single_code n s, one_tick k (suc n) r.value, same_ticks (suc n) k) (ticks_sound (suc n) s k i)

  -- THE FOLD IS SOUND: what is known after a record holds of the chip after it, and where that leaves SCSIEN and SPIOEN 0 or both FIFOs
  -- empty, no ACK was issued
  pub step_sound : (bytes : List ℕ) → Learns (decode bytes) (step s bytes)
  step_sound = step_law s Learns learns_refused learns_reset learns_done learns_ticks

-- A START IS READ OFF IT
pub starts_known : (k : Known) (s : State) → Holds k s → known_start k ≡ true → Starts true s
starts_known k s i h =
    let h1 = right_true k.host _ h in
    let h2 = right_true k.scsi _ h1 in
    let h3 = right_true k.counter _ h2 in
    let h4 = right_true k.offset _ h3 in
    let h5 = right_true k.acko _ h4 in
    let h6 = right_true k.ioexp _ h5 in
    let h7 = right_true k.write _ h6 in
    let h8 = right_true k.dmaen _ h7 in
    let ioexp = i.ioexp (left_true k.ioexp _ h5) in
    let write = i.write (left_true k.write _ h6) in
    let dmaen = i.dmaen (left_true k.dmaen _ h7) in
    let spioen = i.spioen (left_true k.spioen k.off h8) in
    let off = i.off (right_true k.spioen k.off h8) in
    record {
      host = i.host (left_true k.host _ h);
      scsi = i.scsi (left_true k.scsi _ h1);
      counter = i.counter (left_true k.counter _ h2);
      offset = i.offset (left_true k.offset _ h3);
      acko = i.acko (left_true k.acko _ h4);
      opened = outward_path s.registers write dmaen spioen ioexp;
      direction = write;
      enselo = off.enselo;
      enseli = off.enseli;
      enrseli = off.enrseli;
      idle = off.idle;
    }

-- after a cut and the reading of the counter
pub known_after_cut : (s : State) (r : Round) → Proceeds s r → Holds after_cut_and_reading (after_reading s r)
known_after_cut s r p =
    let c = cut_and_read s r p in
    let o = idle_after_cut s r p in
    record {
      host = λ h. absurd (never h);
      scsi = λ h. absurd (never h);
      counter = λ h. absurd (never h);
      offset = λ h. absurd (never h);
      acko = λ h. c.moment.held.acko;
      ioexp = λ h. absurd (never h);
      write = λ h. c.moment.held.direction;
      dmaen = λ h. absurd (never h);
      pathless = λ h. absurd (never h);
      spioen = λ h. c.moment.held.spioen;
      scsien = λ h. c.off;
      uncalled = λ h. record { enseli = o.enseli; enrseli = o.enrseli };
      off = λ h. o;
      unselected = λ h. absurd (never h);
      shows = λ h. absurd (never h);
    }

-- DOCUMENT 01'S CONDITION over what is known is its condition over the chip
no_port_write :
    (offset value : ℕ) (b : Bool) → (rstfifo (Write offset value) || (not (port_write (Write offset value)) && b)) ≡ true →
    port_write (Write offset value) ≡ false
unfolding rstfifo port_write writes
no_port_write offset value b h = go (eqb offset (offset_of DMADATA)) refl h
  where
    go :
        (t : Bool) → eqb offset (offset_of DMADATA) ≡ t →
        ((eqb offset (offset_of DMACNTRL0) && bit (value_of (Write offset value)) 1) || (not t && b)) ≡ true → t ≡ false
    go true q k = absurd (never (rw (eqb-true offset (offset_of DMADATA) q) at k))
    go false q k = refl

module _ (k : Known) where
  -- where the host FIFO is known empty after a record, it offered nothing
  offers_known : (e : Event) (answered : ℕ) → (learned_of k e answered).host ≡ true → offered e ≡ []
  unfolding settled own_effect rstfifo port_write writes offered
  offers_known PowerReset answered h = refl
  offers_known (Write offset value) answered h =
      let later = own_effect k (Write offset value) answered in
      offers_none (Write offset value) (no_port_write offset value k.host (right_true (later.pathless || later.write) later.host h))
  offers_known (Read offset) answered h = refl
  offers_known (WordWrite word) answered h = absurd (never (right_true (k.pathless || k.write) false h))
  offers_known WordRead answered h = refl
  offers_known (Drive lines) answered h = refl
  offers_known (Ticks n) answered h = refl

  accepts_known : (t : Bool) (d : Option Event) (answered : ℕ) → (learned_by t k d answered).host ≡ true → cond t [] (event_bytes offered d) ≡ []
  accepts_known true d answered h = refl
  accepts_known false (Some e) answered h = offers_known e answered h
  accepts_known false None answered h = refl

  empty_known : (s : State) → Holds k s → known_empty k ≡ true → both_empty s ≡ true
  unfolding both_empty
  empty_known s i h = rw (i.host (left_true k.host k.scsi h), i.scsi (right_true k.host k.scsi h))

  pub clears_known :
      (s : State) (bytes : List ℕ) → Holds k s →
      may_clear_known k (learned_by (is_refusal (step s bytes).code) k (decode bytes) (step s bytes).value) ≡ true →
      may_clear s bytes ≡ true
  unfolding may_clear
  clears_known s bytes i h =
      let later = learned_by (is_refusal (step s bytes).code) k (decode bytes) (step s bytes).value in
      let j = (step_sound k s i bytes).holds in
      either (known_off later) (known_empty k && known_empty later) h
      (λ o.
      let scsien = j.scsien (left_true later.scsien later.spioen o) in
      let spioen = j.spioen (right_true later.scsien later.spioen o) in
      rw (off_by (step s bytes).state scsien spioen))
      (λ q.
      let was = left_true (known_empty k) (known_empty later) q in
      let is = right_true (known_empty k) (known_empty later) q in
      let none : accepted s bytes ≡ [] =
      accepts_known (is_refusal (step s bytes).code) (decode bytes) (step s bytes).value (left_true later.host later.scsi is) in
      let empty = empty_known s i was in
      ap (λ (t : Bool). switched_off (step s bytes).state || t)
      (both_true (both_empty s) (eqb (length (accepted s bytes)) 0) empty (ap (λ (l : List ℕ). eqb (length l) 0) none))
      ∙ or-true (switched_off (step s bytes).state))

-- VALUES FREE WHERE DOCUMENT 01 LEAVES THEM FREE: 352h with bits 3 and 1 set, 343h with bits 6 and 0 clear, 341h at last with bit 6 set and
-- bits 4, 3, 1 clear, SCSIEN and all other bits as the driver likes
abbrev pub written : Register → ℕ → Known → Known
written r value k = learned_of k (Write (offset_of r) value) 0

pub record FreeValues (control signals opening : ℕ) : Type 0 where
  pub write : bit control 3 ≡ true
  pub rstfifo : bit control 1 ≡ true
  pub ioexp : bit signals 6 ≡ false
  pub acko : bit signals 0 ≡ false
  pub dmaen : bit opening 6 ≡ true
  pub clrstcnt : bit opening 4 ≡ false
  pub spioen : bit opening 3 ≡ false
  pub clrch : bit opening 1 ≡ false

pub free_values_start :
    (k : Known) (control signals opening : ℕ) → FreeValues control signals opening → k.off ≡ true →
    known_start
    (written SXFRCTL0 opening (written SCSISIGO signals (written SXFRCTL0 0x12 (written DMACNTRL0 control (written SXFRCTL0 0x00 k)))))
    ≡ true
unfolding settled own_effect pulses writes reads value_of port_write rstfifo clrch clrstcnt
free_values_start k control signals opening v o =
    rw (v.write, v.rstfifo, v.ioexp, v.acko, v.dmaen, v.clrstcnt, v.spioen, v.clrch, o, or-true)

-- OTHER WRITES THAT A START DOES NOT ASK ABOUT leave known what was known: 342h, 344h, 345h, 34Bh, 34Ch, 34Fh, 350h, 351h, 353h, 358h, 35Dh
abbrev Each : (ℕ → Type 0) → List ℕ → Type 0
Each P [] = Unit {0}
Each P (x ∷ more) = P x × Each P more

abbrev other_offsets : List ℕ
other_offsets = 0x02 ∷ 0x04 ∷ 0x05 ∷ 0x0B ∷ 0x0C ∷ 0x0F ∷ 0x10 ∷ 0x11 ∷ 0x13 ∷ 0x18 ∷ 0x1D ∷ []

pub other_writes : (k : Known) (value answered : ℕ) → Each (λ offset. own_effect k (Write offset value) answered ≡ k) other_offsets
unfolding own_effect writes reads port_write rstfifo clrch clrstcnt
other_writes k value answered = (refl, (refl, (refl, (refl, (refl, (refl, (refl, (refl, (refl, (refl, (refl, tt)))))))))))
