use Prim.Native.Nat.{◌<◌}
use mathlib.Core.Path.{◌≡◌, ap, ◌∙◌}
use borrow.Author.Rules.{rules}
use Rattle.rules.specs.State.{State}
use Rattle.settling.specs.Blocks.{acknowledged}
use Rattle.rules.specs.Changed.{with_transfer}
use Rattle.image.specs.Image.{IsImage, image_of, state_at}
use Rattle.settling.specs.Steps.{byte_passed}
use Rattle.settling.proofs.ReadBackOfTransfer.{kept}
use Rattle.settling.proofs.Handshakes.{passed_fits, passed_bytes}
use Rattle.settling.proofs.shakes.shaken.Goals as goal
use Rattle.settling.proofs.shakes.shaken.Goals.{After-byte_passed-more}

byte : (c : After-byte_passed-more) → c.args.c.byte < 256
byte c = search rules

-- after its byte the array is an image
after : (c : After-byte_passed-more) → IsImage c.byte_passed-more.new.m × (state_at c.byte_passed-more.new.m ≡ with_transfer (byte_passed c.args.c (state_at c.args.m.now).transfer) (state_at c.args.m.now))
after c =
    let t = (state_at c.args.m.now).transfer in
    kept c.args.m.now c.byte_passed-more.new.m (byte_passed c.args.c t) c.requires.image (passed_fits c.args.c t c.requires.m_value c.requires.image.range.transfer) (passed_bytes c.args.c t (byte c) c.requires.image.bytes.transfer) c.byte_passed-more.ensures.1

pub ack_given-requires : goal.ack_given-requires
ack_given-requires c = (after (goal.at.ack_given-requires c).After-byte_passed-more).0

pub returns : goal.returns
returns c = (
  c.byte_passed-more.ensures.0,
  c.ack_given.ensures ∙ ap (λ (x : State). image_of (with_transfer (acknowledged c.args.c.synchronous x.transfer) x)) (after (goal.at.returns c).After-byte_passed-more).1,
)
