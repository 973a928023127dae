-- The loop's invariant: what the words left continued before the loop, they continue now.
use Prim.Native.Nat.{ℕ, ◌*◌, ◌/◌, ◌^◌, ◌<◌}
use mathlib.Core.Path.{ap}
use mathlib.Core.Bool.{true}
use mathlib.Core.List.{List}
use native.Mathlib.Omega.{arith}
use Rattle.image.specs.Image.{state_at}
use Rattle.words.specs.Words.{strung, word_reads}
use Rattle.strings.proofs.Going.{Turn, no_words, turned}
use Rattle.strings.proofs.Fetching.{ReadRound, read_stops, read_begun, enough, there, next_read, all_read, no_bytes_lem}
use Rattle.strings.proofs.reading.fetched_over.Goals as goal
use Rattle.strings.proofs.reading.fetched_over.Goals.{After-loop-done, After-min-k, In-loop-done, then-done-words, else-done-words}

-- what a turn finds
abbrev Round : List ℕ → ℕ → List ℕ → List ℕ → List ℕ → ℕ → ℕ → Type 0
Round m₀ words out₀ m out done held = ReadRound (strung (state_at m₀) (word_reads words)) out₀ words m out done held

found : (c : In-loop-done) → Round c.args.m.now c.args.words c.args.out.now c.loop-done.m c.loop-done.out c.loop-done.done c.loop-done.held
found c =
    c.loop-done.invariant _ _
    (read_begun c.requires.image c.args.words (omega (arith, c.if-words-eq0.false)) c.first_fetched-first.ensures c.if-first-eq0.false c.requires.out_len c.from-held.ensures)

-- and after the last turn
at_end : (c : After-loop-done) → Round c.args.m.now c.args.words c.args.out.now c.loop-done.m c.loop-done.out c.loop-done.done c.loop-done.held
at_end c =
    c.loop-done.invariant _ _
    (read_begun c.requires.image c.args.words (omega (arith, c.if-words-eq0.false)) c.first_fetched-first.ensures c.if-first-eq0.false c.requires.out_len c.from-held.ensures)

-- the words that it takes
takes : (c : After-min-k) → Turn c.args.words c.loop-done.done (c.loop-done.held / 2) c.min-k.result
takes c = turned 1 c.loop-done.held c.loop-done-test.true (λ h. omega arith) c.min-k.ensures

-- twice the words fit the machine's word, as the buffer does
twice_fit : (c : In-loop-done) → 2 * c.args.words < 2 ^ 63
twice_fit c = omega (arith, c.requires.out_len)

pub returns-then-words-eq0 : goal.returns-then-words-eq0
returns-then-words-eq0 c =
    no_words true c.requires.image c.args.out.now (ap (λ (k : ℕ). word_reads k) c.if-words-eq0.true)

pub first_fetched-first-requires : goal.first_fetched-first-requires
first_fetched-first-requires c =
    record { image = c.requires.image; in_bounds = omega (arith, c.requires.out_len, c.if-words-eq0.false) }

pub returns-then-first-eq0 : goal.returns-then-first-eq0
returns-then-first-eq0 c =
    read_stops c.requires.image c.args.words (omega (arith, c.if-words-eq0.false)) c.first_fetched-first.ensures c.if-first-eq0.true

pub loop-done-init : goal.loop-done-init
loop-done-init c x before k = k

pub block_fetched-requires : goal.block_fetched-requires
block_fetched-requires c =
    let f = found (goal.at.block_fetched-requires c).In-loop-done in
    let t = takes (goal.at.block_fetched-requires c).After-min-k in
    record { image = f.round.image; n_in_bounds = enough f t; n_in_bounds_2 = there f t }

pub loop-done-preserved : goal.loop-done-preserved
loop-done-preserved c x before k =
    next_read (c.loop-done.invariant x before k) (takes (goal.at.loop-done-preserved c).After-min-k) c.block_fetched.ensures c.from-held-in-loop-done.ensures

pub returns : goal.returns
returns c =
    let end = at_end (goal.at.returns c).After-loop-done in
    elim c.if-done-words.branch [
      | then-done-words w ↦ all_read end w.if-done-words.true w.code-is
      | else-done-words w ↦ no_bytes_lem end c.loop-done-test.false w.if-done-words.false w.code-is
    ]

pub overflow_sub-words : goal.overflow_sub-words
overflow_sub-words c = (found (goal.at.overflow_sub-words c).In-loop-done).few

pub overflow_mul-k : goal.overflow_mul-k
overflow_mul-k c = omega (arith, (takes (goal.at.overflow_mul-k c).After-min-k).few, twice_fit (goal.at.overflow_mul-k c).In-loop-done)

pub overflow_mul-done : goal.overflow_mul-done
overflow_mul-done c = omega (arith, (takes (goal.at.overflow_mul-done c).After-min-k).few, twice_fit (goal.at.overflow_mul-done c).In-loop-done)

pub overflow_add-done : goal.overflow_add-done
overflow_add-done c = omega (arith, (takes (goal.at.overflow_add-done c).After-min-k).few, twice_fit (goal.at.overflow_add-done c).In-loop-done)

pub loop-done-smaller : goal.loop-done-smaller
loop-done-smaller c = omega (arith, (takes (goal.at.loop-done-smaller c).After-min-k).some, (takes (goal.at.loop-done-smaller c).After-min-k).few)

pub overflow_mul-result : goal.overflow_mul-result
overflow_mul-result c = omega (arith, (at_end (goal.at.overflow_mul-result c).After-loop-done).few, c.requires.out_len)

pub shape_of-out : goal.shape_of-out
shape_of-out c = (at_end (goal.at.shape_of-out c).After-loop-done).round.goes.long
