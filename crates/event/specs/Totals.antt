-- What ticks report together.
use Rattle.std.specs.Prelude.{ℕ, suc, ◌+◌, ◌<◌, ◌≤◌, ◌≡◌, List, ◌++◌, Option, Some, None}
use Rattle.rules.specs.State.{State}
use Rattle.rules.specs.Answers.{Stepped}
use Rattle.rules.specs.Rest.{AtRest}
use Rattle.rules.specs.Step.{ended, single_ticks}
use Rattle.rules.specs.declared.codes.Code.TheVariants.{Done}
use Rattle.fifos.specs.Fifos.{sent_of, sent_view, SentTidy}
use Rattle.rules.specs.declared.chip.Fifo.{Fifo}
use Rattle.image.specs.Image.{IsImage, image_of, state_at}
use Rattle.settling.specs.declared.Told.{Told}
use Rattle.event.specs.declared.stepping.Outcome.{Outcome}
use Rattle.event.specs.declared.passing.Lap.{Lap}

abbrev pub told_with : ℕ → ℕ → List ℕ → Told
told_with moves acks sent = record { moves = moves; acks = acks; sent = sent_of sent }

-- the image of the new state, and the moves, ACKs and bytes sent on the way to it
pub record Totals (x : Stepped) (m : List ℕ) (t : Told) : Type 0 where
  pub image : m ≡ image_of x.state
  pub moves : t.moves ≡ x.moves
  pub acks : t.acks ≡ x.acks
  pub sent : t.sent ≡ sent_of x.sent

-- what two parts report fits the fields together
pub record Sums (made issued : ℕ) (sent : Fifo 8) (b : Told) : Type 0 where
  pub moves : made + b.moves ≤ 255
  pub acks : issued + b.acks ≤ 255
  pub first : SentTidy sent
  pub second : SentTidy b.sent
  pub count : sent.count + b.sent.count ≤ 8

abbrev pub told_together : Told → Told → Told
told_together a b = told_with (a.moves + b.moves) (a.acks + b.acks) (sent_view a.sent ++ sent_view b.sent)

abbrev pub summed : ℕ → ℕ → Fifo 8 → Told → Outcome
summed moves acks sent b =
    record { code = Done; value = 0; moves = moves + b.moves; acks = acks + b.acks; sent = sent_of (sent_view sent ++ sent_view b.sent) }

abbrev pub told_of : Outcome → Told
told_of o = record { moves = o.moves; acks = o.acks; sent = o.sent }

-- a part by itself, or with what was before it
abbrev pub added_to : Option Outcome → Outcome → Outcome
added_to None next = next
added_to (Some o) next = summed o.moves o.acks o.sent (told_of next)

-- k ticks from the chip that was copied lead to the image m, and report t
pub record Leads (copy : List ℕ) (k : ℕ) (m : List ℕ) (t : Told) : Type 0 where
  pub image : IsImage copy
  pub rests : AtRest (state_at copy)
  pub totals : Totals (single_ticks k (state_at copy)) m t

-- where a copy is kept, so many ticks from it lead to the image m, and report t
abbrev pub Led : List ℕ → Option ℕ → List ℕ → Told → Type 0
Led copy since m t = (k : ℕ) → since ≡ Some k → Leads copy k m t

-- k ticks from the chip that was copied are what x is
pub record Marked (copy : List ℕ) (k : ℕ) (x : Stepped) : Type 0 where
  pub image : IsImage copy
  pub rests : AtRest (state_at copy)
  pub same : single_ticks k (state_at copy) ≡ x

-- as many ticks are left as make no difference, and what is known of the copy, where one is kept
pub record Rounds (m : List ℕ) (left : ℕ) (copy : List ℕ) (r : Lap) : Type 0 where
  pub same : single_ticks r.left (state_at m) ≡ single_ticks left (state_at m)
  pub less : r.left ≤ left
  pub early : (k : ℕ) → r.since ≡ Some k → k < 72
  pub marked : (k : ℕ) → r.since ≡ Some k → Marked copy k (ended (state_at m) Done 0)

-- the ticks that only count are taken, up to the one that is next
pub record Goes (s : State) (left : ℕ) (m copy : List ℕ) (n : Option Lap) : Type 0 where
  pub image : IsImage m
  pub none : n ≡ None → single_ticks left s ≡ ended (state_at m) Done 0
  pub some : (lap : Lap) → n ≡ Some lap → single_ticks left s ≡ single_ticks (suc lap.left) (state_at m)
  pub less : (lap : Lap) → n ≡ Some lap → lap.left < left
  pub marked : (lap : Lap) (k : ℕ) → n ≡ Some lap → lap.since ≡ Some k → Marked copy k (single_ticks 1 (state_at m))
