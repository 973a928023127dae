-- What was seen, by the five bytes that it is read off.
use Rattle.std.specs.Prelude.{ℕ, Bool, List, get_or, set, replicate}
use Rattle.rules.specs.State.{State}
use Rattle.rules.specs.Seen.{rst_seen, req_seen, mismatched}
use Rattle.rules.specs.StepB.{after_req_falls, after_rst_rises, beyond, first_four, after_phase_changes}
use Rattle.image.specs.Image.{state_at}
use Rattle.image.specs.Layout.{control_place, image_size, scsiseq_place, scsisig_place, sequencer_place, upper_place}
use Rattle.edges.specs.declared.last.Seen.{Seen}

abbrev pub seen_of : List ℕ → Seen
seen_of m =
    record {
      seq = get_or m scsiseq_place 0;
      sig = get_or m scsisig_place 0;
      upper = get_or m upper_place 0;
      control = get_or m control_place 0;
      sequencer = get_or m sequencer_place 0;
    }

-- an array with nothing else in it
abbrev pub spread : Seen → List ℕ
spread x =
    set
    (set (set (set (set (replicate image_size 0) scsiseq_place x.seq) scsisig_place x.sig) upper_place x.upper) control_place
    x.control)
    sequencer_place x.sequencer

-- a state of which nothing else is known
abbrev pub last_of : Seen → State
last_of x = state_at (spread x)

-- the five steps of document 01, as they are where the sequencer has nothing to do
unfoldable pub five_in_order : State → ℕ → State → State
five_in_order last ticks now = after_phase_changes last (first_four last ticks now)

-- did a REQ go beyond the limit?
unfoldable pub beyond_since : Seen → State → Bool
beyond_since x now = beyond (last_of x) (after_rst_rises (last_of x) (after_req_falls (last_of x) now))

unfoldable pub rst_of : Seen → Bool
rst_of x = rst_seen (state_at (spread x))

unfoldable pub req_of : Seen → Bool
req_of x = req_seen (state_at (spread x))

unfoldable pub mismatched_of : Seen → Bool
mismatched_of x = mismatched (state_at (spread x))
