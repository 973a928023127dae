-- The answer is two numbers: what the new state shows, with what the event shows more, and the bytes sent.
use mathlib.Core.Path.{◌≡◌, refl, sym, ◌∙◌, ap}
use mathlib.Core.Bool.{true}
use mathlib.Core.List.{List, [], ◌∷◌, ◌++◌}
use Prim.Native.Nat.{ℕ, zero, suc, ◌+◌, ◌*◌, ◌-◌, ◌/◌, ◌%◌, ◌<◌, ◌≤◌}
use native.Mathlib.Omega.{arith}
use lib.ListN.{length, take, replicate, length-append, length-replicate}
use Rattle.rules.specs.Numbers.{padded}
use Rattle.rules.specs.State.{State}
use Rattle.rules.specs.Rest.{AtRest}
use Rattle.rules.specs.Answers.{Stepped, answer_of, answer_bytes}
use Rattle.rules.specs.Step.{ended, answer}
use Rattle.rules.specs.Ranges.{Bytes, InRange}
use Rattle.rules.proofs.Ranges.{StepFits, StepBytes, bytes_append, bytes_take, bytes_zeros}
use Rattle.rules.proofs.Reports.{stepped_answer_fits}
use Rattle.rules.proofs.Still.{zero_ticks, zero_ticks_at_rest}
use Rattle.quick.specs.Ready.{number_low, bytes_low, ready_of, add_of}
use Rattle.quick.specs.Beside.{Beside, IsBeside, Goes, bytes_went}

-- "the answer to 0 ticks": of a chip at rest
pub ready_zero_ticks : (s : State) → AtRest s → InRange s → ready_of s ≡ number_low (take 8 (answer s zero_ticks))
unfolding ready_of answer ended
ready_zero_ticks s r i = ap (λ (x : Stepped). number_low (take 8 (answer_bytes (answer_of x)))) (sym (zero_ticks_at_rest s r i))

-- bytes as a number and back
pub low_back : (l : List ℕ) → Bytes l → bytes_low (length l) (number_low l) ≡ l
unfolding bytes_low number_low
low_back [] h = refl
low_back (b ∷ l) h =
    let n = number_low l in
    let fits : b < 256 = h.0 in
    let low : (b + 256 * n) % 256 ≡ b = omega arith in
    let high : (b + 256 * n) / 256 ≡ n = omega arith in
    λ i. low i ∷ (ap (bytes_low (length l)) high ∙ low_back l h.1) i

-- zeros behind add nothing
zeros_none : (n : ℕ) → number_low (replicate n 0) ≡ 0
unfolding number_low
zeros_none zero = refl
zeros_none (suc n) = rw (zeros_none n)

zeros_behind : (l : List ℕ) (n : ℕ) → number_low (l ++ replicate n 0) ≡ number_low l
unfolding number_low
zeros_behind [] n = zeros_none n
zeros_behind (b ∷ l) n = ap (λ (k : ℕ). b + 256 * k) (zeros_behind l n)

module _ (l : List ℕ) (few : length l ≤ 8) (bytes : Bytes l) where
  eight : length (l ++ replicate (8 - length l) 0) ≡ 8
  eight = simp (length-append, length-replicate) (omega arith)

  -- the bytes sent, "the rest 0"
  pub sent_is : bytes_low 8 (number_low l) ≡ padded 8 l
  unfolding padded
  sent_is =
      (λ i. bytes_low (sym eight i) (sym (zeros_behind l (8 - length l)) i))
      ∙ low_back (l ++ replicate (8 - length l) 0) (bytes_append l (replicate (8 - length l) 0) bytes (bytes_zeros (8 - length l)))

-- the first eight bytes as one number: no field carries into the next
module _ (x : Stepped) (f : StepFits x) (g : StepBytes x) where
  abbrev shown : List ℕ
  shown = take 8 (answer_bytes (answer_of x))

  shown_number : number_low shown ≡ ready_of x.state + add_of x
  unfolding number_low ready_of add_of answer_of answer_bytes ended
  shown_number =
      let acks : x.acks % 16 ≡ x.acks = omega (arith, f.acks) in
      let moves : x.moves % 32 ≡ x.moves = omega (arith, f.moves) in
      let value : x.value / 256 % 256 ≡ x.value / 256 = omega (arith, g.value) in
      rw (acks, moves, value) (omega arith)

  shown_bytes : Bytes shown
  shown_bytes = bytes_take 8 (answer_bytes (answer_of x)) (stepped_answer_fits x f g).bytes

  shown_size : length shown ≡ 8
  unfolding answer_of answer_bytes
  shown_size = refl

  -- THE FIRST EIGHT BYTES OF THE ANSWER
  pub ready_is : bytes_low 8 (ready_of x.state + add_of x) ≡ take 8 (answer_bytes (answer_of x))
  ready_is = (λ i. bytes_low (sym shown_size i) (sym shown_number i)) ∙ low_back shown shown_bytes

  -- ALL SIXTEEN
  pub answer_is : bytes_low 8 (ready_of x.state + add_of x) ++ bytes_low 8 (number_low x.sent) ≡ answer_bytes (answer_of x)
  unfolding answer_of answer_bytes
  answer_is = λ i. ready_is i ++ sent_is x.sent f.sent g.sent i

  -- A WAY THAT LEAVES WHAT FOLLOWS FROM THE NEW STATE GOES WITH THE STEP
  pub goes : (b : Beside) → IsBeside x.state b → Goes x x.state (record { done = true; beside = b; add = add_of x; sent = number_low x.sent })
  unfolding bytes_went
  goes b k =
      record {
        state = refl;
        beside = k;
        answer =
            ap (λ (n : ℕ). bytes_low 8 (n + add_of x) ++ bytes_low 8 (number_low x.sent)) k.ready ∙ answer_is;
      }
