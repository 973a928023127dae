-- A register read: its code, and the image that is left once SCSIPERR is held.
use Rattle.std.specs.Prelude.{Some, None, Result}
use Prim.Native.Nat.{ℕ, ◌<◌}
use mathlib.Core.Path.{◌≡◌, refl, ap, sym, ◌∙◌}
use mathlib.Core.Bool.{Bool, true, false, ◌&&◌}
use mathlib.Core.List.{List}
use lib.Dec.{eqb, ltb}
use lib.ListN.{get_or}
use Rattle.rules.specs.State.{State}
use Rattle.rules.specs.Map.{read_at}
use Rattle.rules.specs.Events.{writes, ticks_of}
use Rattle.rules.specs.Codes.{access_code, is_done, is_refusal, refused_value, mapped_code}
use Rattle.rules.specs.Reads.{value_read}
use Rattle.rules.specs.Ranges.{InRange, InBytes}
use Rattle.rules.specs.StepA.{clears, clears_error, latch_access, automatic_ack, error_a, status_a, after_a}
use Rattle.rules.specs.declared.codes.Code.{Code}
use Rattle.rules.specs.declared.codes.Code.TheVariants.{Done}
use Rattle.rules.specs.declared.map.Register.{Register}
use Rattle.rules.specs.declared.records.Event.TheVariants.{Read, WordRead}
use Rattle.rules.specs.Changed.{with_status}
use Rattle.image.specs.Image.{image_of, state_at, IsImage}
use Rattle.effects.specs.declared.Effect.{Effect}
use Rattle.effects.specs.declared.Ended.{Ended}
use Rattle.effects.specs.Acting.{Acts, refused_as, done_with}
use Rattle.effects.specs.CodeBy.{shut_to, first_of}
use Rattle.effects.proofs.Accesses.{read}
use Rattle.effects.proofs.Coding.{held_fits, code_at_is}
use Rattle.effects.proofs.Endings.{acts_done, acts_refused}
use Rattle.effects.proofs.ImageOnward.{image_is, onward, a_fits, a_bytes}
use Rattle.image.specs.Layout.{host_count_place}

module _ {m : List ℕ} (g : IsImage m) (o : ℕ) where
  -- by what stands there and, at the port, by its tests
  read_code : first_of (is_refusal (mapped_code (read_at o))) false (eqb o 0x16 && shut_to (state_at m).registers.dmacntrl0 false true) false (eqb o 0x16 && ltb (get_or m host_count_place 0) 1) ≡ access_code (state_at m) (Read o)
  read_code = read (state_at m).registers.dmacntrl0 (get_or m host_count_place 0) (held_fits g) o ∙ code_at_is g (Read o)

  pub read_done : (r : Register) → read_at o ≡ Some r → eqb o 0x16 ≡ false → access_code (state_at m) (Read o) ≡ Done
  read_done r found away = sym (rw (found, away) at read_code)

  pub read_missing : read_at o ≡ None → access_code (state_at m) (Read o) ≡ mapped_code None
  read_missing found = sym (rw found at read_code)

  pub read_refused : (k : Code) {a : Result Effect Ended} → access_code (state_at m) (Read o) ≡ k → is_done k ≡ false → a ≡ refused_as k (refused_value (Read o)) → Acts (state_at m) (Read o) m a
  read_refused k d f a = acts_refused (state_at m) (Read o) k d f g.packed a

-- "While ENSPCHK is 0, SCSIPERR is held at 0": all but that is done by the time it comes
abbrev pub unheld : State → ℕ → State
unheld s o = with_status s.status (after_a s (Read o))

hold_last : (s : State) (o : ℕ) → with_status (status_a (latch_access s (Read o)) (automatic_ack s (Read o)) (unheld s o).registers.sxfrctl1.enspchk (unheld s o).keptbad s.status WordRead) (unheld s o) ≡ after_a s (Read o)
unfolding after_a error_a status_a clears clears_error writes
hold_last s o = refl

module _ {m : List ℕ} (g : IsImage m) (o : ℕ) (f : o < 32) (d : access_code (state_at m) (Read o) ≡ Done) where
  abbrev s : State
  s = state_at m

  fits : InRange (unheld s o)
  fits =
      let a = a_fits g (Read o) f d in
      record { registers = a.registers; transfer = a.transfer; stack = a.stack; quiet = a.quiet; identity = a.identity; sequencer = a.sequencer }

  bytes : InBytes (unheld s o)
  bytes =
      let a = a_bytes g (Read o) f d in
      record { lines = a.lines; registers = a.registers; transfer = a.transfer; stack = a.stack; selid = a.selid }

  module _ {m1 : List ℕ} (e1 : m1 ≡ image_of (unheld s o)) where
    pub unheld_image : IsImage m1
    unheld_image = image_is (unheld s o) e1 fits bytes

    module _ {accessed acked : Bool} (p : accessed ≡ latch_access s (Read o)) (q : acked ≡ automatic_ack s (Read o)) where
      held : {m2 : List ℕ} → m2 ≡ image_of (with_status (status_a accessed acked (state_at m1).registers.sxfrctl1.enspchk (state_at m1).keptbad (state_at m1).status WordRead) (state_at m1)) → m2 ≡ image_of (after_a s (Read o))
      held h =
          onward (λ (x : State). with_status (status_a accessed acked x.registers.sxfrctl1.enspchk x.keptbad x.status WordRead) x) (unheld s o) e1 fits bytes h
          ∙ (λ i. image_of (with_status (status_a (p i) (q i) (unheld s o).registers.sxfrctl1.enspchk (unheld s o).keptbad s.status WordRead) (unheld s o)))
          ∙ ap image_of (hold_last s o)

      pub read_acts : {m2 : List ℕ} {v : ℕ} {a : Result Effect Ended} → m2 ≡ image_of (with_status (status_a accessed acked (state_at m1).registers.sxfrctl1.enspchk (state_at m1).keptbad (state_at m1).status WordRead) (state_at m1)) → v ≡ value_read s (Read o) → a ≡ done_with v 0 → Acts s (Read o) m2 a
      unfolding ticks_of
      read_acts h v a = acts_done s (Read o) d (held h) v refl a
