use Prim.Native.Nat.{ℕ}
use mathlib.Core.Path.{◌≡◌, ap, sym, ◌∙◌}
use lib.Dec.{ltb}
use Rattle.rules.specs.State.{State}
use Rattle.rules.specs.Ranges.{InRange}
use Rattle.rules.specs.StepB.{first_four, after_sequencer, after_phase_changes}
use Rattle.rules.proofs.Ranges.{four_fits, bytes_four, sequencer_fits}
use Rattle.image.specs.Image.{image_of, state_at}
use Rattle.edges.specs.Since.{last_of}
use Rattle.sequencer.specs.Since.{bus_since}
use Rattle.sequencer.proofs.InPlace.{reads_back, packed_back, image_again, unless_rests, quiet_at}
use Rattle.sequencer.proofs.Resting.{rests_four}
use Rattle.sequencer.proofs.bus_moved.Goals as goal
use Rattle.sequencer.proofs.bus_moved.Goals.{After-sequenced_unless}

pub sequenced_unless-requires : goal.sequenced_unless-requires
sequenced_unless-requires c =
    let a = c.args in
    let s = state_at a.m.now in
    let l = last_of a.x in
    let i = c.requires.image in
    image_again (first_four l a.ticks s) c.edges_before-beyond.ensures.m_after (four_fits l a.ticks s i.range) (bytes_four l a.ticks s i.bytes)

-- once the sequencer had its turn
module _ (k : After-sequenced_unless) where
  abbrev now : State
  now = state_at k.args.m.now

  abbrev last : State
  last = last_of k.args.x

  abbrev ticks : ℕ
  ticks = k.args.ticks

  abbrev four : State
  four = first_four last ticks now

  abbrev whole : State
  whole = after_sequencer (ltb 0 ticks) now.quiet four

  fits : InRange four
  fits = four_fits last ticks now k.requires.image.range

  whole_fits : InRange whole
  whole_fits = sequencer_fits four (ltb 0 ticks) now.quiet fits

  stored : k.sequenced_unless.new.m ≡ image_of whole
  stored =
      k.sequenced_unless.ensures
      ∙ unless_rests four k.edges_before-beyond.ensures.m_after fits (ltb 0 ticks) (quiet_at k.args.m.now) k.args.rests (λ h. rests_four k.args.m.now ticks (sym k.requires.rests_value ∙ h) last now.quiet)

pub phase_since-requires : goal.phase_since-requires
phase_since-requires c =
    let k = (goal.at.phase_since-requires c).After-sequenced_unless in packed_back (whole k) (stored k) (whole_fits k)

pub returns : goal.returns
unfolding bus_since
returns c =
    let k = (goal.at.returns c).After-sequenced_unless in record {
      value = c.edges_before-beyond.ensures.value;
      m_after = c.phase_since.ensures ∙ ap (λ (n : State). image_of (after_phase_changes (last k) n)) (reads_back (whole k) (stored k) (whole_fits k));
    }
