-- What settling leaves of an array, and what it hands back.
use Rattle.std.specs.Prelude.{ℕ, ◌≤◌, ◌≡◌, List}
use Rattle.rules.specs.StepC.{Settling, settle, turns}
use Rattle.rules.specs.declared.chip.Conditions.{Conditions}
use Rattle.fifos.specs.Fifos.{sent_of}
use Rattle.settling.specs.Blocks.{start_of}
use Rattle.rules.specs.Changed.{with_transfer}
use Rattle.image.specs.Image.{image_of, state_at}
use Rattle.settling.specs.declared.Told.{Told}

-- the end of settling from the state of an array
abbrev pub end_of : List ℕ → Conditions → Settling
end_of m c = settle c turns (start_of (state_at m).transfer)

-- "The moves reported are the moves made by this rule, at most 16; ACKs at most 8."
-- "those sent by Normal-mode ACKs in this event, in order": eight bytes, and how many of them were sent
pub record Settles (m : List ℕ) (c : Conditions) (m' : List ℕ) (r : Told) : Type 0 where
  pub exact : m' ≡ image_of (with_transfer (end_of m c).transfer (state_at m))
  pub sent : r.sent ≡ sent_of (end_of m c).sent
  pub moves : r.moves ≡ (end_of m c).moves
  pub acks : r.acks ≡ (end_of m c).acks
  pub few_moves : r.moves ≤ 16
  pub few_acks : r.acks ≤ 8
