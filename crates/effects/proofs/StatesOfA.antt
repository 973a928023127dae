-- The states that an event goes through in A, each with its image.
use Rattle.std.specs.Prelude.{Result}
use Prim.Native.Nat.{ℕ}
use mathlib.Core.Path.{◌≡◌, refl, ap, sym, subst, ◌∙◌}
use mathlib.Core.Bool.{Bool}
use mathlib.Core.List.{List}
use Rattle.rules.specs.State.{State}
use Rattle.rules.specs.Events.{ticks_of}
use Rattle.rules.specs.Codes.{access_code}
use Rattle.rules.specs.Reads.{value_read}
use Rattle.rules.specs.StepA.{registers_a, status_a, latches_a, after_a}
use Rattle.rules.specs.Ranges.{InRange, InBytes, EventFits}
use Rattle.rules.specs.declared.registers.Registers.{Registers}
use Rattle.rules.specs.declared.codes.Code.TheVariants.{Done}
use Rattle.rules.specs.declared.records.Event.{Event}
use Rattle.rules.specs.declared.records.Event.TheVariants.{Write}
use Rattle.rules.specs.Changed.{with_lines, with_registers, with_transfer, with_status, with_latches, with_stack, with_sequencer}
use Rattle.image.specs.Image.{image_of, state_at, IsImage}
use Rattle.effects.specs.declared.Effect.{Effect}
use Rattle.effects.specs.declared.Ended.{Ended}
use Rattle.effects.specs.Acting.{Acts, done_with}
use Rattle.effects.proofs.Endings.{acts_done}
use Rattle.effects.proofs.ImageOnward.{image_is, onward, a_fits, a_bytes}

pub record Reached (m : List ℕ) (t : State) : Type 0 where
  pub image : m ≡ image_of t
  pub range : InRange t
  pub bytes : InBytes t

pub start : {m : List ℕ} → IsImage m → Reached m (state_at m)
start g = record { image = g.packed; range = g.range; bytes = g.bytes }

-- the parts that have no range
module _ {m : List ℕ} {t : State} (r : Reached m t) where
  pub there : IsImage m
  there = image_is t r.image r.range r.bytes

  pub flagged : (accessed acked : Bool) (k : Event) {n : List ℕ} → n ≡ image_of (with_status (status_a accessed acked (state_at m).registers.sxfrctl1.enspchk (state_at m).keptbad (state_at m).status k) (state_at m)) → Reached n (with_status (status_a accessed acked t.registers.sxfrctl1.enspchk t.keptbad t.status k) t)
  flagged accessed acked k h =
      record {
        image = onward (λ (x : State). with_status (status_a accessed acked x.registers.sxfrctl1.enspchk x.keptbad x.status k) x) t r.image r.range r.bytes h;
        range = record { registers = r.range.registers; transfer = r.range.transfer; stack = r.range.stack; quiet = r.range.quiet; identity = r.range.identity; sequencer = r.range.sequencer };
        bytes = record { lines = r.bytes.lines; registers = r.bytes.registers; transfer = r.bytes.transfer; stack = r.bytes.stack; selid = r.bytes.selid };
      }

  pub unlatched : (k : Event) {n : List ℕ} → n ≡ image_of (with_latches (latches_a (state_at m).latches k) (state_at m)) → Reached n (with_latches (latches_a t.latches k) t)
  unlatched k h =
      record {
        image = onward (λ (x : State). with_latches (latches_a x.latches k) x) t r.image r.range r.bytes h;
        range = record { registers = r.range.registers; transfer = r.range.transfer; stack = r.range.stack; quiet = r.range.quiet; identity = r.range.identity; sequencer = r.range.sequencer };
        bytes = record { lines = r.bytes.lines; registers = r.bytes.registers; transfer = r.bytes.transfer; stack = r.bytes.stack; selid = r.bytes.selid };
      }

-- an event that is done, and the state that it leaves
pub record Leaves (b : List ℕ) (e : Event) (w : State) : Type 0 where
  pub image : IsImage b
  pub fits : EventFits e
  pub done : access_code (state_at b) e ≡ Done
  pub after : w ≡ after_a (state_at b) e

module _ {b : List ℕ} {e : Event} {w : State} (l : Leaves b e w) where
  range_left : InRange w
  range_left = subst InRange (sym l.after) (a_fits l.image e l.fits l.done)

  bytes_left : InBytes w
  bytes_left = subst InBytes (sym l.after) (a_bytes l.image e l.fits l.done)

  -- a part of what it leaves, in place
  module _ {m n : List ℕ} {t : State} (r : Reached m t) where
    pub stored : registers_a t.registers e ≡ w.registers → n ≡ image_of (with_registers (registers_a (state_at m).registers e) (state_at m)) → Reached n (with_registers w.registers t)
    stored q h =
        record {
          image =
              onward (λ (x : State). with_registers (registers_a x.registers e) x) t r.image r.range r.bytes h
              ∙ ap (λ (x : Registers). image_of (with_registers x t)) q;
          range = record { registers = range_left.registers; transfer = r.range.transfer; stack = r.range.stack; quiet = r.range.quiet; identity = r.range.identity; sequencer = r.range.sequencer };
          bytes = record { lines = r.bytes.lines; registers = bytes_left.registers; transfer = r.bytes.transfer; stack = r.bytes.stack; selid = r.bytes.selid };
        }

    pub carried : n ≡ image_of (with_transfer w.transfer t) → Reached n (with_transfer w.transfer t)
    carried h =
        record {
          image = h;
          range = record { registers = r.range.registers; transfer = range_left.transfer; stack = r.range.stack; quiet = r.range.quiet; identity = r.range.identity; sequencer = r.range.sequencer };
          bytes = record { lines = r.bytes.lines; registers = r.bytes.registers; transfer = bytes_left.transfer; stack = r.bytes.stack; selid = r.bytes.selid };
        }

    pub stacked : n ≡ image_of (with_stack w.stack t) → Reached n (with_stack w.stack t)
    stacked h =
        record {
          image = h;
          range = record { registers = r.range.registers; transfer = r.range.transfer; stack = range_left.stack; quiet = r.range.quiet; identity = r.range.identity; sequencer = r.range.sequencer };
          bytes = record { lines = r.bytes.lines; registers = r.bytes.registers; transfer = r.bytes.transfer; stack = bytes_left.stack; selid = r.bytes.selid };
        }

    pub sequenced : n ≡ image_of (with_sequencer w.sequencer t) → Reached n (with_sequencer w.sequencer t)
    sequenced h =
        record {
          image = h;
          range = record { registers = r.range.registers; transfer = r.range.transfer; stack = r.range.stack; quiet = r.range.quiet; identity = r.range.identity; sequencer = range_left.sequencer };
          bytes = record { lines = r.bytes.lines; registers = r.bytes.registers; transfer = r.bytes.transfer; stack = r.bytes.stack; selid = bytes_left.selid };
        }

    pub driven : n ≡ image_of (with_lines w.lines t) → Reached n (with_lines w.lines t)
    driven h =
        record {
          image = h;
          range = record { registers = r.range.registers; transfer = r.range.transfer; stack = r.range.stack; quiet = r.range.quiet; identity = r.range.identity; sequencer = r.range.sequencer };
          bytes = record { lines = bytes_left.lines; registers = r.bytes.registers; transfer = r.bytes.transfer; stack = r.bytes.stack; selid = r.bytes.selid };
        }

  -- all of what it leaves
  pub acts_with : {v n : ℕ} {m : List ℕ} {a : Result Effect Ended} → v ≡ value_read (state_at b) e → n ≡ ticks_of e → Reached m w → a ≡ done_with v n → Acts (state_at b) e m a
  acts_with p q r h = acts_done (state_at b) e l.done (r.image ∙ ap image_of l.after) p q h

-- a write gives no value
pub acts : {b : List ℕ} {o v : ℕ} {w : State} → Leaves b (Write o v) w → {n : List ℕ} {a : Result Effect Ended} → Reached n w → a ≡ done_with 0 0 → Acts (state_at b) (Write o v) n a
unfolding value_read ticks_of
acts l r h = acts_with l refl refl r h
