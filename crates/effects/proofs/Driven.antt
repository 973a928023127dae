-- Words, lines and ticks: what each leaves, and that SCSIPERR is held.
use Prim.Native.Nat.{ℕ, ◌%◌, ◌/◌, ◌<◌}
use mathlib.Core.Path.{◌≡◌, refl, sym, ◌∙◌}
use mathlib.Core.List.{List, [], ◌∷◌, ◌++◌}
use lib.ListN.{drop}
use Rattle.rules.specs.State.{State}
use Rattle.rules.specs.Events.{writes, reads, value_of, lines_after, offered, asked, port_write}
use Rattle.rules.specs.Codes.{access_code}
use Rattle.rules.specs.StepA.{clears, clears_latch, clears_error, clrstcnt, clrch, rstfifo, latch_access, automatic_ack, registers_a, host_a, counter_a, transfer_a, error_a, status_a, latches_a, stack_a, identity_a, sequencer_a, gives_up, selection_a, noted_a, selection_latches_a, after_a}
use Rattle.rules.specs.declared.codes.Code.TheVariants.{Done}
use Rattle.rules.specs.declared.records.Event.TheVariants.{WordWrite, WordRead, Drive, Ticks}
use Rattle.rules.specs.declared.records.Lines.{Lines}
use Rattle.rules.specs.Changed.{with_lines}
use Rattle.image.specs.Image.{state_at, IsImage}
use Rattle.rules.specs.Changed.{with_host}
use Rattle.effects.specs.Writes.{kept}
use Rattle.effects.proofs.Accesses as accesses
use Rattle.effects.proofs.Coding.{code_at_is, held_fits}
use Rattle.effects.proofs.StatesOfA.{Leaves}

-- the state after each, by computing
module _ (s : State) where
  word_behind : (w : ℕ) → kept (with_host (s.transfer.host ++ (w % 256 ∷ w / 256 ∷ [])) s) ≡ after_a s (WordWrite w)
  unfolding after_a lines_after registers_a transfer_a error_a status_a latches_a stack_a identity_a sequencer_a gives_up selection_a noted_a selection_latches_a latch_access automatic_ack host_a counter_a clears clears_latch clears_error clrstcnt clrch rstfifo writes reads value_of offered asked port_write
  word_behind w = refl

  word_off : kept (with_host (drop 2 s.transfer.host) s) ≡ after_a s WordRead
  unfolding after_a lines_after registers_a transfer_a error_a status_a latches_a stack_a identity_a sequencer_a gives_up selection_a noted_a selection_latches_a latch_access automatic_ack host_a counter_a clears clears_latch clears_error clrstcnt clrch rstfifo writes reads value_of offered asked port_write
  word_off = refl

  lines_driven : (l : Lines) → kept (with_lines l s) ≡ after_a s (Drive l)
  unfolding after_a lines_after registers_a transfer_a error_a status_a latches_a stack_a identity_a sequencer_a gives_up selection_a noted_a selection_latches_a latch_access automatic_ack host_a counter_a clears clears_latch clears_error clrstcnt clrch rstfifo writes reads value_of offered asked port_write
  lines_driven l = refl

  ticks_passed : (n : ℕ) → kept s ≡ after_a s (Ticks n)
  unfolding after_a lines_after registers_a transfer_a error_a status_a latches_a stack_a identity_a sequencer_a gives_up selection_a noted_a selection_latches_a latch_access automatic_ack host_a counter_a clears clears_latch clears_error clrstcnt clrch rstfifo writes reads value_of offered asked port_write
  ticks_passed n = refl

module _ {m : List ℕ} (g : IsImage m) where
  pub leaves_word : {w : ℕ} → w < 65536 → access_code (state_at m) (WordWrite w) ≡ Done → Leaves m (WordWrite w) (kept (with_host ((state_at m).transfer.host ++ (w % 256 ∷ w / 256 ∷ [])) (state_at m)))
  leaves_word {w} f d = record { image = g; fits = f; done = d; after = word_behind (state_at m) w }

  pub leaves_off : access_code (state_at m) WordRead ≡ Done → Leaves m WordRead (kept (with_host (drop 2 (state_at m).transfer.host) (state_at m)))
  leaves_off d = record { image = g; fits = tt; done = d; after = word_off (state_at m) }

  -- no check is made of what is no access
  pub leaves_driven : (l : Lines) → l.byte < 256 → Leaves m (Drive l) (kept (with_lines l (state_at m)))
  leaves_driven l f =
      record {
        image = g;
        fits = f;
        done = sym (accesses.driven (state_at m).registers.dmacntrl0 _ (held_fits g) l ∙ code_at_is g (Drive l));
        after = lines_driven (state_at m) l;
      }

  pub leaves_ticked : {n : ℕ} → n < 16777216 → Leaves m (Ticks n) (kept (state_at m))
  leaves_ticked {n} f =
      record {
        image = g;
        fits = f;
        done = sym (accesses.ticked (state_at m).registers.dmacntrl0 _ (held_fits g) n ∙ code_at_is g (Ticks n));
        after = ticks_passed (state_at m) n;
      }
