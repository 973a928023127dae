-- What the first byte of an answer shows: the code above IRQ and the ACKs.
use mathlib.Core.Path.{◌≡◌}
use mathlib.Core.List.{List}
use Prim.Native.Nat.{ℕ, ◌+◌, ◌*◌, ◌/◌, ◌%◌, ◌≤◌}
use native.Mathlib.Omega.{arith}
use lib.ListN.{get_or}
use Rattle.rules.specs.Numbers.{one}
use Rattle.rules.specs.State.{State}
use Rattle.rules.specs.Codes.{number_of}
use Rattle.rules.specs.Interrupts.{irq}
use Rattle.rules.specs.Answers.{answer_of, answer_bytes}
use Rattle.rules.specs.Step.{step, answer}
use Rattle.rules.proofs.Ranges.{one_fits}

code_part : (n i a : ℕ) → i ≤ 1 → ((n * 2 + i) * 16 + a % 16) / 32 ≡ n
code_part n i a h = omega arith

pub answer_code : (s : State) (bytes : List ℕ) → get_or (answer s bytes) 0 0 / 32 ≡ number_of (step s bytes).code
unfolding answer answer_bytes answer_of
answer_code s bytes =
    let x = step s bytes in
    code_part (number_of x.code) (one (irq x.state)) x.acks (one_fits (irq x.state))
