-- D, part by part.
use mathlib.Core.Path.{◌≡◌, refl, ap, ◌∙◌}
use mathlib.Core.Bool.{Bool, true, false, not, ◌&&◌, beq, false≢true}
use mathlib.Core.List.{List}
use Prim.Native.Nat.{ℕ}
use lib.ListN.{get_or}
use Rattle.rules.specs.State.{State}
use Rattle.rules.specs.Seen.{automatic, normal, matched, path, req_seen}
use Rattle.rules.specs.StepD.{fifo_conflict, pio_ready, status_raised}
use Rattle.rules.specs.Ranges.{InRange, InBytes}
use Rattle.rules.specs.declared.registers.Simode0.{Simode0}
use Rattle.rules.specs.declared.registers.Simode1.{Simode1}
use Rattle.rules.specs.declared.chip.Status.{Status}
use Rattle.image.specs.Image.{image_of, state_at, status_of, IsImage}
use Rattle.event.specs.Closing.{raised_by, fallen_by, latched_by, closed_by}
use Rattle.effects.proofs.ImageOnward.{image_is, state_is, onward}
use Rattle.image.specs.Layout.{status_place}

-- with a path the mode is Normal, not Automatic
open_path : (spio dma x a b c : Bool) → (not spio && dma && x) ≡ true → (spio && not dma && a && b && c) ≡ false
open_path true dma x a b c h = absurd (false≢true h)
open_path false dma x a b c h = refl

right_false : (b : Bool) → (b && false) ≡ false
right_false true = refl
right_false false = refl

module _ (s : State) (h : path s.registers ≡ true) where
  unready : pio_ready s ≡ false
  unfolding path normal pio_ready automatic
  unready =
      let r = s.registers in
      open_path r.sxfrctl0.spioen r.sxfrctl0.dmaen (not (beq r.dmacntrl0.write r.scsisig.ioexp))
      (matched s) (req_seen s) (not s.transfer.ack) h

  unconflicted : fifo_conflict s.registers ≡ false
  unfolding fifo_conflict
  unconflicted = rw h (right_false (normal s.registers && s.registers.sxfrctl0.scsien))

  -- so nothing rises
  pub unraised : s ≡ raised_by s
  unfolding status_raised
  unraised = rw (unready, unconflicted)

-- the status that an image's byte holds
pub status_of_lem : (m : List ℕ) {t : State} → state_at m ≡ t → status_of (get_or m status_place 0) ≡ t.status
unfolding state_at
status_of_lem m e = ap (λ (x : State). x.status) e

module _ {m : List ℕ} (g : IsImage m) {r : List ℕ} (h : r ≡ image_of (raised_by (state_at m))) where
  abbrev s : State
  s = state_at m

  raised_range : InRange (raised_by s)
  raised_range =
      let i = g.range in
      record { registers = i.registers; transfer = i.transfer; stack = i.stack; quiet = i.quiet; identity = i.identity; sequencer = i.sequencer }

  raised_bytes : InBytes (raised_by s)
  raised_bytes =
      let j = g.bytes in
      record { lines = j.lines; registers = j.registers; transfer = j.transfer; stack = j.stack; selid = j.selid }

  pub image_raised : IsImage r
  image_raised = image_is (raised_by s) h raised_range raised_bytes

  status_raised_lem : status_of (get_or r status_place 0) ≡ (raised_by s).status
  status_raised_lem = status_of_lem r (state_is (raised_by s) h raised_range raised_bytes)

  module _ (acks : ℕ) {l : List ℕ} (k : l ≡ image_of (fallen_by acks (state_at r))) where
    fallen_is : l ≡ image_of (fallen_by acks (raised_by s))
    fallen_is = onward (fallen_by acks) (raised_by s) h raised_range raised_bytes k

    fallen_range : InRange (fallen_by acks (raised_by s))
    fallen_range =
        let i = g.range in
        record { registers = i.registers; transfer = i.transfer; stack = i.stack; quiet = i.quiet; identity = i.identity; sequencer = i.sequencer }

    fallen_bytes : InBytes (fallen_by acks (raised_by s))
    fallen_bytes =
        let j = g.bytes in
        record { lines = j.lines; registers = j.registers; transfer = j.transfer; stack = j.stack; selid = j.selid }

    pub image_fallen : IsImage l
    image_fallen = image_is (fallen_by acks (raised_by s)) fallen_is fallen_range fallen_bytes

    pub closed : (b0 : Simode0) (b1 : Simode1) (status : Status) {d : List ℕ} → d ≡ image_of (latched_by b0 b1 status (status_of (get_or r status_place 0)) (state_at l)) → d ≡ image_of (closed_by b0 b1 status acks s)
    unfolding closed_by
    closed b0 b1 status w =
        onward (latched_by b0 b1 status (status_of (get_or r status_place 0))) (fallen_by acks (raised_by s)) fallen_is fallen_range fallen_bytes w
        ∙ ap (λ (t : Status). image_of (latched_by b0 b1 status t (fallen_by acks (raised_by s)))) status_raised_lem
