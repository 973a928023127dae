-- R-2's part of B: by what is found, in the bytes of an array, and beside the rest of B.
use Prim.Native.Nat.{ℕ}
use mathlib.Core.Path.{◌≡◌, refl, ap, sym, subst, ◌∙◌}
use mathlib.Core.Bool.{Bool, true, false, ◌&&◌, cond}
use mathlib.Core.List.{List}
use lib.ListN.{get_or, set}
use Rattle.rules.specs.Numbers.{one}
use Rattle.rules.specs.State.{State}
use Rattle.rules.specs.Ranges.{InRange, InBytes}
use Rattle.rules.specs.Seen.{rst_seen, bsy_seen, sel_seen, io_seen, connected, matched, synchronous, limit, data_seen, parity_seen, parity_even, byte_driving, byte_driven, driving, data_driven, parity_driven}
use Rattle.rules.specs.StepB.{parity_bad, kept_after, error_latched, beyond_limit, late_byte, quiet_after}
use Rattle.rules.specs.Changed.{with_latches, with_kept}
use Rattle.rules.specs.declared.chip.Latches.{Latches}
use Rattle.image.specs.Image.{image_of, state_at, IsImage, latches_of, latches_byte}
use Rattle.image.specs.Layout.{kept_place, latches_place}
use Rattle.image.proofs.ReadBack.{latches_back, read_back, is_image}
use Rattle.edges.specs.Components.{registers_b}
use Rattle.edges.specs.From.{rst_rises_from, req_rises_from, synchronous_req_from, quiet_from, edges_from}
use Rattle.edges.specs.ParityKept.{error_or, kept_of, kept_from}
use Rattle.edges.specs.Stored.{latches_stored}
use Rattle.edges.specs.Tests.{inbound_even, inbound_bad}
use Rattle.edges.proofs.Laws.{inbound_even_lem}
use Rattle.rules.proofs.Logic.{left_true, right_true}

module _ (was : Bool) (s : State) where
  -- no REQ rises; one that is not inbound; one that is
  pub kept_none : req_rises_from was s ≡ false → kept_from was s ≡ s
  unfolding kept_from
  kept_none e = rw e

  pub kept_outside : req_rises_from was s ≡ true → (connected s && io_seen s) ≡ false → kept_from was s ≡ s
  unfolding kept_from kept_after error_latched parity_bad
  kept_outside e f = rw (e, f)

  pub kept_inside : {bad error : Bool} → req_rises_from was s ≡ true → (connected s && io_seen s) ≡ true → bad ≡ inbound_even s → error ≡ (s.registers.sxfrctl1.enspchk && bad && s.registers.simode1.enscsiperr) → with_latches (error_or error s.latches) (with_kept bad s) ≡ kept_from was s
  unfolding kept_from kept_after error_latched parity_bad
  kept_inside e f g h =
      rw (h, g ∙ sym (inbound_even_lem s (left_true (connected s) (io_seen s) f) (right_true (connected s) (io_seen s) f)), e, f)

  -- and the error that is told
  pub bad_none : req_rises_from was s ≡ false → false ≡ (req_rises_from was s && inbound_bad s)
  bad_none e = rw e

  pub bad_outside : req_rises_from was s ≡ true → (connected s && io_seen s) ≡ false → false ≡ (req_rises_from was s && inbound_bad s)
  bad_outside e f = rw (e, f)

  pub bad_inside : {bad check : Bool} → req_rises_from was s ≡ true → (connected s && io_seen s) ≡ true → bad ≡ inbound_even s → check ≡ s.registers.sxfrctl1.enspchk → (check && bad) ≡ (req_rises_from was s && inbound_bad s)
  bad_inside e f g h = rw (e, f, g, h)

-- in the bytes of an array
pub kept_placed : (m : List ℕ) (bad : Bool) (s : State) → m ≡ image_of s → set m kept_place (one bad) ≡ image_of (with_kept bad s)
unfolding image_of
kept_placed m bad s e = ap (λ (l : List ℕ). set l kept_place (one bad)) e

latches_set : (s : State) (error : Bool) {k : Latches} → k ≡ s.latches → set (image_of s) latches_place (latches_byte (error_or error k)) ≡ image_of (with_latches (error_or error s.latches) s)
unfolding image_of
latches_set s error a = rw a

latches_of_lem : (s : State) → latches_of (get_or (image_of s) latches_place 0) ≡ s.latches
unfolding image_of
latches_of_lem s = latches_back s.latches

pub latches_placed : {m n : List ℕ} (error : Bool) (s : State) → m ≡ image_of s → n ≡ latches_stored error m → n ≡ image_of (with_latches (error_or error s.latches) s)
latches_placed error s e f = f ∙ ap (λ (l : List ℕ). latches_stored error l) e ∙ latches_set s error (latches_of_lem s)

-- the array that it leaves is an image, which reads back as the state
module _ (was : Bool) (s : State) where
  kept_range : InRange s → InRange (kept_from was s)
  unfolding kept_from
  kept_range r = go (req_rises_from was s)
    where
      go : (b : Bool) → InRange (cond b (kept_of s) s)
      go true = record { registers = r.registers; transfer = r.transfer; stack = r.stack; quiet = r.quiet; identity = r.identity; sequencer = r.sequencer }
      go false = r

  kept_bytes : InBytes s → InBytes (kept_from was s)
  unfolding kept_from
  kept_bytes r = go (req_rises_from was s)
    where
      go : (b : Bool) → InBytes (cond b (kept_of s) s)
      go true = record { lines = r.lines; registers = r.registers; transfer = r.transfer; stack = r.stack; selid = r.selid }
      go false = r

module _ (m : List ℕ) (i : IsImage m) (was : Bool) {n : List ℕ} (e : n ≡ image_of (kept_from was (state_at m))) where
  pub kept_back : state_at n ≡ kept_from was (state_at m)
  kept_back = ap state_at e ∙ read_back (kept_from was (state_at m)) (kept_range was (state_at m) i.range)

  pub kept_image : IsImage n
  kept_image =
      subst IsImage (sym e) (is_image (kept_from was (state_at m)) (kept_range was (state_at m) i.range) (kept_bytes was (state_at m) i.bytes))

-- the data seen and the edges look at neither
pub kept_data : (s : State) → data_seen (kept_of s) ≡ data_seen s
unfolding data_seen data_driven byte_driven byte_driving connected rst_seen bsy_seen sel_seen
kept_data s = refl

pub kept_edges : (was rst req : Bool) (s : State) (ticks : ℕ) → edges_from rst req (kept_from was s) ticks ≡ edges_from rst req s ticks
unfolding kept_from edges_from rst_rises_from req_rises_from synchronous_req_from quiet_from quiet_after registers_b parity_bad parity_even data_seen parity_seen driving data_driven byte_driving byte_driven parity_driven beyond_limit late_byte limit matched connected synchronous rst_seen bsy_seen sel_seen
kept_edges was rst req s ticks = go (req_rises_from was s)
  where
    go : (b : Bool) → edges_from rst req (cond b (kept_of s) s) ticks ≡ edges_from rst req s ticks
    go true = refl
    go false = refl

-- nor does the error
pub kept_bad : (was req : Bool) (s : State) → (req_rises_from req s && inbound_bad s) ≡ (req_rises_from req (kept_from was s) && inbound_bad (kept_from was s))
unfolding kept_from req_rises_from connected rst_seen bsy_seen sel_seen
kept_bad was req s = go (req_rises_from was s)
  where
    go : (b : Bool) → (req_rises_from req s && inbound_bad s) ≡ (req_rises_from req (cond b (kept_of s) s) && inbound_bad (cond b (kept_of s) s))
    go true = refl
    go false = refl
