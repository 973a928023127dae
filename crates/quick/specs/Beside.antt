-- What stands beside an image in a run, and what a quick way promises. The image is canonical after every event, so that it and the
-- state that it holds say the same: here it is the state.
use Rattle.std.specs.Prelude.{ℕ, ◌+◌, ◌≡◌, Bool, false, cond, List, ◌++◌, eqb}
use Rattle.rules.specs.State.{State}
use Rattle.rules.specs.Answers.{Stepped, answer_of, answer_bytes}
use Rattle.quick.specs.Ready.{bytes_low, ready_of, line_record}
use Rattle.quick.specs.Facts.{all_watched, facts_of, watch_of}

-- ready: the first eight bytes of the answer to 0 ticks. lines: the record of a line event that changes nothing. watch: the bits in
-- which a record must agree with it. facts: what lines and registers come to, or 0: not looked up
pub record Beside : Type 0 where
  pub ready : ℕ
  pub lines : ℕ
  pub watch : ℕ
  pub facts : ℕ

-- what a quick way gives: whether it was one, what stands beside the image then, what the answer shows more, the bytes sent
pub record Went : Type 0 where
  pub done : Bool
  pub beside : Beside
  pub add : ℕ
  pub sent : ℕ

-- ALL OF IT FOLLOWS FROM THE STATE; without facts every bit is watched
pub record IsBeside (s : State) (b : Beside) : Type 0 where
  pub ready : b.ready ≡ ready_of s
  pub lines : b.lines ≡ line_record s
  pub watch : b.watch ≡ cond (eqb b.facts 0) all_watched (watch_of s)
  pub facts : eqb b.facts 0 ≡ false → b.facts ≡ facts_of s

-- the sixteen bytes that two numbers of eight are
unfoldable pub bytes_went : Went → List ℕ
bytes_went g = bytes_low 8 (g.beside.ready + g.add) ++ bytes_low 8 g.sent

-- WHAT A QUICK WAY THAT IS DONE PROMISES of the step x: n is the state that it leaves
pub record Goes (x : Stepped) (n : State) (g : Went) : Type 0 where
  pub state : n ≡ x.state
  pub beside : IsBeside x.state g.beside
  pub answer : bytes_went g ≡ answer_bytes (answer_of x)
