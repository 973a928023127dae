-- The answers of a run stand whole at the front of their buffer, and are printed from there.
use mathlib.Core.Path.{◌≡◌, ap, sym, ◌∙◌}
use mathlib.Core.List.{List, ◌++◌}
use Prim.Native.Nat.{ℕ, ◌+◌, ◌*◌, ◌-◌, ◌/◌, ◌≤◌, min}
use native.Mathlib.Omega.{arith}
use lib.ListN.{length, take, drop, length-append, length-drop}
use lib.Seq.{take_at}
use Rattle.rules.specs.Chips.{view, chip_of}
use Rattle.rules.specs.Step.{after, answers}
use Rattle.rules.specs.declared.chip.Chip.{Chip}
use Rattle.hexlines.specs.Hex as hex
use Rattle.step.specs.declared.Ran.{Ran}
use Rattle.step.specs.Runs.{IsRun, records_of, stepped_in, records_in, joined}
use Rattle.adapter.specs.Texts.{stepped, answered, printed, IsPrinted}

module _ (c : Chip) (bytes before buffer : List ℕ) (ran : Ran) (r : IsRun c bytes before buffer ran) (h : length before ≡ 16400) (k : length buffer ≡ 16400) where
  stepped_is : stepped_in bytes before ≡ stepped bytes
  stepped_is = ap (λ (n : ℕ). min (records_in bytes) (n / 16)) h

  count_is : ran.count ≡ stepped bytes
  count_is = r.count ∙ stepped_is

  buffer_is : buffer ≡ answered c bytes ++ drop (16 * stepped bytes) before
  buffer_is = r.answers ∙ ap (λ (n : ℕ). joined (answers (view c) (records_of n bytes)) ++ drop (16 * n) before) stepped_is

  -- what is behind them is as long as it was, so they fill what is before it
  answers_length : length (answered c bytes) ≡ 16 * stepped bytes
  answers_length =
      let e : length buffer ≡ length (answered c bytes) + length (drop (16 * stepped bytes) before) =
      ap length buffer_is ∙ length-append (answered c bytes) (drop (16 * stepped bytes) before) in
      let d : length (drop (16 * stepped bytes) before) ≡ length before - 16 * stepped bytes = length-drop (16 * stepped bytes) before in
      let m : stepped bytes ≤ 1025 = omega arith in
      omega arith

  front_is : take (16 * ran.count) buffer ≡ answered c bytes
  front_is =
      ap (λ (n : ℕ). take (16 * n) buffer) count_is
      ∙ ap (λ (l : List ℕ). take (16 * stepped bytes) l) buffer_is
      ∙ take_at (answered c bytes) (drop (16 * stepped bytes) before) (16 * stepped bytes) answers_length

  pub front_length : 16 * ran.count ≡ length (take (16 * ran.count) buffer)
  front_length = ap (λ (n : ℕ). 16 * n) count_is ∙ sym answers_length ∙ sym (ap length front_is)

  -- the lines of all of them, as many as there is room for
  module _ (old text : List ℕ) (size : ℕ) (p : hex.Printed (take (16 * ran.count) buffer) old text size) where
    lines_in_lem : hex.answers_in (take (16 * ran.count) buffer) old ≡ printed bytes old
    lines_in_lem =
        let e : length (take (16 * ran.count) buffer) ≡ 16 * stepped bytes = ap length front_is ∙ answers_length in
        let d : length (take (16 * ran.count) buffer) / 16 ≡ stepped bytes = omega arith in
        ap (λ (n : ℕ). min n (length old / 33)) d

    pub lines_printed : IsPrinted c bytes old text (record { chip = ran.chip; size = size }) × (buffer ≡ answered c bytes ++ drop (16 * stepped bytes) before)
    lines_printed = (
      record {
        chip = r.chip ∙ ap (λ (n : ℕ). chip_of (after (view c) (records_of n bytes))) stepped_is;
        size = p.count ∙ ap (λ (n : ℕ). 33 * n) lines_in_lem;
        text = p.text
            ∙ ap (λ (n : ℕ). hex.lines_of n (take (16 * ran.count) buffer) ++ drop size old) lines_in_lem
            ∙ ap (λ (l : List ℕ). hex.lines_of (printed bytes old) l ++ drop size old) front_is;
      },
      buffer_is,
    )
