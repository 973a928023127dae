-- The run on an image, between a chip that is laid out and one that is taken up.
use mathlib.Core.Path.{◌≡◌, ap, ◌∙◌}
use mathlib.Core.List.{◌++◌}
use Prim.Native.Nat.{◌*◌}
use lib.ListN.{drop}
use Rattle.rules.specs.State.{State}
use Rattle.rules.specs.Chips.{view, chip_of}
use Rattle.rules.specs.Step.{after, answers}
use Rattle.image.specs.Image.{image_of, state_at}
use Rattle.image.proofs.ReadBack.{read_back}
use Rattle.step.specs.Runs.{records_of, stepped_in, joined}
use Rattle.step.proofs.Parts.{tidy_of, view_of}
use Rattle.step.proofs.Running.{image_reached, state_reached}
use Rattle.step.proofs.run.run.Goals as goal

pub store-requires : goal.store-requires
store-requires c =
    tidy_of (view c.args.c) c.tidied.result c.tidied.ensures.range c.tidied.ensures.packed

pub answered-n-requires : goal.answered-n-requires
answered-n-requires c = c.store.ensures.sound

pub load-requires : goal.load-requires
load-requires c =
    let g = c.store.ensures.sound in
    let a = c.args in
    image_reached _ g.range g.bytes a.records.now a.answers.now (stepped_in a.records.now a.answers.now) c.answered-n.ensures.image c.answered-n.ensures.answers

pub returns : goal.returns
returns c =
    let a = c.args in
    let bytes = a.records.now in
    let before = a.answers.now in
    let n = stepped_in bytes before in
    let g = c.store.ensures.sound in
    let tidy = c.tidied.ensures in
    let w : view c.tidied.result ≡ view a.c = view_of (view a.c) c.tidied.result tidy.range tidy.packed in
    let v = ap state_at (c.store.ensures.packed ∙ ap image_of w) ∙ read_back (view a.c) tidy.range in
    let r = c.answered-n.ensures in
    record {
      count = r.count;
      chip =
          c.load.ensures ∙ ap chip_of (state_reached _ g.range g.bytes bytes before n r.image r.answers)
          ∙ ap (λ (s : State). chip_of (after s (records_of n bytes))) v;
      answers = r.answers ∙ ap (λ (s : State). joined (answers s (records_of n bytes)) ++ drop (16 * n) before) v;
    }
