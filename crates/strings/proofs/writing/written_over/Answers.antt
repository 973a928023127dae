-- The loop's invariant: what the words left continued before the loop, they continue now.
use Prim.Native.Nat.{ℕ, ◌*◌, ◌^◌, ◌<◌}
use mathlib.Core.Path.{ap}
use mathlib.Core.Bool.{false}
use mathlib.Core.List.{List}
use native.Mathlib.Omega.{arith}
use lib.ListN.{length}
use Rattle.image.specs.Image.{state_at}
use Rattle.words.specs.Words.{strung, word_writes}
use Rattle.strings.proofs.Leaves.{image_strung}
use Rattle.strings.proofs.Going.{Turn, no_words, turned}
use Rattle.strings.proofs.WordsWritten.{WriteRound, write_stops, write_begun, block_room, block_few, block_stores, image_after, next_written, all_written}
use Rattle.strings.proofs.writing.written_over.Goals as goal
use Rattle.strings.proofs.writing.written_over.Goals.{After-loop-done, After-min-k, In-loop-done}

-- what a turn finds
abbrev Round : List ℕ → List ℕ → ℕ → List ℕ → List ℕ → List ℕ → ℕ → ℕ → ℕ → Type 0
Round m₀ bytes words out₀ m out done count room =
    WriteRound (strung (state_at m₀) (word_writes words bytes)) out₀ bytes words m out done count room

found : (c : In-loop-done) → Round c.args.m.now c.args.bytes.now c.args.words c.args.out.now c.loop-done.m c.loop-done.out c.loop-done.done c.loop-done.count c.loop-done.room
found c =
    c.loop-done.invariant _ _
    (write_begun c.requires.image c.args.words (omega (arith, c.if-words-eq0.false)) c.first_written-first.ensures c.if-first-eq0.false c.requires.bytes_len c.requires.words_in_bounds c.room_in-room.ensures)

-- and after the last turn
at_end : (c : After-loop-done) → Round c.args.m.now c.args.bytes.now c.args.words c.args.out.now c.loop-done.m c.loop-done.out c.loop-done.done c.loop-done.count c.loop-done.room
at_end c =
    c.loop-done.invariant _ _
    (write_begun c.requires.image c.args.words (omega (arith, c.if-words-eq0.false)) c.first_written-first.ensures c.if-first-eq0.false c.requires.bytes_len c.requires.words_in_bounds c.room_in-room.ensures)

-- the words that it takes
takes : (c : After-min-k) → Turn c.args.words c.loop-done.done c.loop-done.room c.min-k.result
takes c = turned 0 c.loop-done.room c.loop-done-test.true (λ h. h) c.min-k.ensures

-- twice the words fit the machine's word, as their bytes do, and so does the buffer
twice_fit : (c : In-loop-done) → 2 * c.args.words < 2 ^ 63
twice_fit c = omega (arith, c.requires.bytes_len)

out_fits : (c : In-loop-done) → length c.args.out.now < 2 ^ 63
out_fits c = omega arith

pub returns-then-words-eq0 : goal.returns-then-words-eq0
returns-then-words-eq0 c =
    no_words false c.requires.image c.args.out.now (ap (λ (k : ℕ). word_writes k c.args.bytes.now) c.if-words-eq0.true)

pub first_written-first-requires : goal.first_written-first-requires
first_written-first-requires c =
    let some = c.if-words-eq0.false in
    record { image = c.requires.image; in_bounds = omega (arith, c.requires.bytes_len, some); in_bounds_2 = omega (arith, c.requires.words_in_bounds, some) }

pub returns-then-first-eq0 : goal.returns-then-first-eq0
returns-then-first-eq0 c =
    write_stops c.requires.image c.args.words (omega (arith, c.if-words-eq0.false)) c.first_written-first.ensures c.if-first-eq0.true

pub room_in-room-requires : goal.room_in-room-requires
room_in-room-requires c =
    image_strung c.requires.image (word_writes 1 c.args.bytes.now) c.first_written-first.ensures.passed.image

pub loop-done-init : goal.loop-done-init
loop-done-init c x before k = k

pub block_written-sent-requires : goal.block_written-sent-requires
block_written-sent-requires c =
    let f = found (goal.at.block_written-sent-requires c).In-loop-done in
    let t = takes (goal.at.block_written-sent-requires c).After-min-k in
    record { image = f.round.image; bytes = f.known; n_in_bounds = omega (arith, f.size, t.few); n_len_bound = block_room f t }

pub sent_stored-requires : goal.sent_stored-requires
sent_stored-requires c =
    let f = found (goal.at.sent_stored-requires c).In-loop-done in
    record { count_bound = block_few f (takes (goal.at.sent_stored-requires c).After-min-k) c.block_written-sent.ensures; count_in_bounds = block_stores f (takes (goal.at.sent_stored-requires c).After-min-k) c.block_written-sent.ensures }

pub overflow_add-count : goal.overflow_add-count
overflow_add-count c =
    let f = found (goal.at.overflow_add-count c).In-loop-done in
    omega (arith, out_fits (goal.at.overflow_add-count c).In-loop-done, f.round.goes.long, block_stores f (takes (goal.at.overflow_add-count c).After-min-k) c.block_written-sent.ensures)

pub room_in-room-requires-in-loop-done : goal.room_in-room-requires-in-loop-done
room_in-room-requires-in-loop-done c =
    image_after (found (goal.at.room_in-room-requires-in-loop-done c).In-loop-done) (takes (goal.at.room_in-room-requires-in-loop-done c).After-min-k) c.block_written-sent.ensures

pub loop-done-preserved : goal.loop-done-preserved
loop-done-preserved c x before k =
    next_written (c.loop-done.invariant x before k) (takes (goal.at.loop-done-preserved c).After-min-k) c.block_written-sent.ensures c.sent_stored.ensures c.room_in-room-in-loop-done.ensures

pub overflow_sub-words : goal.overflow_sub-words
overflow_sub-words c = (found (goal.at.overflow_sub-words c).In-loop-done).few

pub overflow_mul-done : goal.overflow_mul-done
overflow_mul-done c = omega (arith, (takes (goal.at.overflow_mul-done c).After-min-k).few, twice_fit (goal.at.overflow_mul-done c).In-loop-done)

pub overflow_mul-k : goal.overflow_mul-k
overflow_mul-k c = omega (arith, (takes (goal.at.overflow_mul-k c).After-min-k).few, twice_fit (goal.at.overflow_mul-k c).In-loop-done)

pub overflow_add-done : goal.overflow_add-done
overflow_add-done c = omega (arith, (takes (goal.at.overflow_add-done c).After-min-k).few, twice_fit (goal.at.overflow_add-done c).In-loop-done)

pub loop-done-smaller : goal.loop-done-smaller
loop-done-smaller c = omega (arith, (takes (goal.at.loop-done-smaller c).After-min-k).some, (takes (goal.at.loop-done-smaller c).After-min-k).few)

pub shape_of-out : goal.shape_of-out
shape_of-out c = (at_end (goal.at.shape_of-out c).After-loop-done).round.goes.long

pub returns : goal.returns
returns c = all_written (at_end (goal.at.returns c).After-loop-done) c.ended.ensures c.loop-done-test.false
