use Prim.Native.Nat.{ℕ, ◌≤◌, min}
use mathlib.Core.Path.{◌≡◌, sym, ap, ◌∙◌}
use native.Mathlib.Omega.{arith}
use lib.ListN.{length, get_or}
use Rattle.image.specs.Image.{state_at}
use Rattle.image.specs.Layout.{host_count_place}
use Rattle.settling.proofs.Carries.{host_held}
use Rattle.settling.proofs.ReadBackOfTransfer.{offset_held}
use Rattle.strings.proofs.Settled.{image_settled, block_done}
use Rattle.strings.proofs.Through.{GoesOut, acks_image, acks_scsi, acks_host, out_settles, none_sent}
use Rattle.strings.proofs.blocks.settled_in.Goals as goal
use Rattle.strings.proofs.blocks.settled_in.Goals.{After-from-n, Then-goes_out}

-- as many bytes as are held and have REQs outstanding
counted : (c : After-from-n) → c.from-n.result ≡ min (state_at c.args.m.now).transfer.offset (length (state_at c.args.m.now).transfer.host)
counted c =
    let m = c.args.m.now in
    c.from-n.ensures
    ∙ c.min.ensures
    ∙ ap (λ (n : ℕ). min n (get_or m host_count_place 0)) (offset_held m c.requires)
    ∙ ap (min (state_at m).transfer.offset) (host_held m c.requires)

few : (c : After-from-n) → c.from-n.result ≤ 8
few c = omega (arith, counted c, c.requires.range.transfer.offset)

pub goes_out-requires : goal.goes_out-requires
goes_out-requires c = record { image = c.requires; n_bound = few (goal.at.goes_out-requires c).After-from-n }

-- they go out at once
out : (c : Then-goes_out) → c.from-n.result ≡ min (state_at c.args.m.now).transfer.offset (length (state_at c.args.m.now).transfer.host) → GoesOut c.args.m.now c.from-n.result
out c count =
    let bytes = c.goes_out.ensures.n_nonzero c.if-goes_out.true in
    let way = c.goes_out.ensures.m_value c.if-goes_out.true in
    record {
      image = c.requires;
      count = count;
      some = bytes.0;
      none = bytes.1;
      low = bytes.2;
      enabled = way.0;
      outbound = way.1;
      synchronous = way.2;
    }

pub oldest_of-sent-requires : goal.oldest_of-sent-requires
oldest_of-sent-requires c =
    let g = out (goal.at.oldest_of-sent-requires c).Then-goes_out (counted (goal.at.oldest_of-sent-requires c).After-from-n) in
    record { image = g.image; n_bound = few (goal.at.oldest_of-sent-requires c).After-from-n; n_in_bounds = omega (arith, g.count) }

pub acknowledged_by-requires : goal.acknowledged_by-requires
acknowledged_by-requires c =
    let g = out (goal.at.acknowledged_by-requires c).Then-goes_out (counted (goal.at.acknowledged_by-requires c).After-from-n) in
    record { image = g.image; n_nonzero = g.some; n_bound = omega (arith, g.count); n_in_bounds = omega (arith, g.count); n_bound_2 = g.low }

pub filled_behind-requires : goal.filled_behind-requires
filled_behind-requires c =
    let g = out (goal.at.filled_behind-requires c).Then-goes_out (counted (goal.at.filled_behind-requires c).After-from-n) in
    let e = c.acknowledged_by.ensures in
    record { image = acks_image g e; m_value = acks_scsi g e; n_in_bounds = acks_host g e }

pub overflow_cast-n : goal.overflow_cast-n
overflow_cast-n c = omega (arith, few (goal.at.overflow_cast-n c).After-from-n)

pub fallen_in-requires : goal.fallen_in-requires
fallen_in-requires c =
    let g = out (goal.at.fallen_in-requires c).Then-goes_out (counted (goal.at.fallen_in-requires c).After-from-n) in
    image_settled g.image (out_settles g c.acknowledged_by.ensures c.filled_behind.ensures c.oldest_of-sent.ensures)

pub returns-then-goes_out : goal.returns-then-goes_out
returns-then-goes_out c =
    let g = out (goal.at.returns-then-goes_out c).Then-goes_out (counted (goal.at.returns-then-goes_out c).After-from-n) in
    block_done g.image (out_settles g c.acknowledged_by.ensures c.filled_behind.ensures c.oldest_of-sent.ensures) c.fallen_in.ensures

pub fallen_in-requires-2 : goal.fallen_in-requires-2
fallen_in-requires-2 c =
    image_settled c.requires c.settle-t.ensures

-- the bytes are not looked at where there are none
pub returns-then-t-eq0 : goal.returns-then-t-eq0
returns-then-t-eq0 c =
    let b = block_done c.requires c.settle-t.ensures c.fallen_in-2.ensures in
    let e = none_sent _ b.sent c.if-t-eq0.true in
    record { image = b.image; sent = c.empty.ensures ∙ sym e ∙ b.sent }

pub returns : goal.returns
returns c =
    block_done c.requires c.settle-t.ensures c.fallen_in-2.ensures
