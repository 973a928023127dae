use native.Mathlib.Omega.{arith}
use mathlib.Core.Path.{◌≡◌, ap, sym, ◌∙◌}
use mathlib.Core.Bool.{true, false, and-false}
use Rattle.rules.specs.StepB.{beyond_limit}
use Rattle.image.specs.Image.{image_of, state_at}
use Rattle.edges.specs.Frequent.{inbound_b, call_b}
use Rattle.edges.proofs.Placed.{offset_placed, offset_of_lem}
use Rattle.edges.proofs.Room.{count_left, place_left}
use Rattle.edges.proofs.Frequent.{not_within, within_limit, beyond_at}
use Rattle.edges.proofs.single.risen.Goals as goal

pub returns-then-not-synchronous_req : goal.returns-then-not-synchronous_req
unfolding state_at
returns-then-not-synchronous_req c =
    let s = state_at c.args.m.now in
    let off : call_b s ≡ false = sym c.synchronous_req.ensures ∙ c.if-not-synchronous_req.true in
    record { value = rw off; m_after = c.requires ∙ ap image_of (sym (not_within (call_b s) s (rw off))) }

pub returns-then-beyond_limit : goal.returns-then-beyond_limit
unfolding state_at
returns-then-beyond_limit c =
    let m = c.args.m.now in
    let s = state_at m in
    let on : call_b s ≡ true = sym c.synchronous_req.ensures ∙ c.if-not-synchronous_req.false in
    let past : beyond_limit s ≡ true = sym (beyond_at m c.requires c.beyond_limit.ensures) ∙ c.if-beyond_limit.true in
    record { value = rw (on, past); m_after = c.requires ∙ ap image_of (sym (not_within (call_b s) s (rw (on, past)))) }

pub inbound_in-requires : goal.inbound_in-requires
inbound_in-requires c =
    record { m_value = c.requires; scsi_count_place_bound = place_left c.args.m.now c.beyond_limit.ensures c.if-beyond_limit.false }

-- an inbound byte leaves the offset
pub overflow_add-m : goal.overflow_add-m
unfolding state_at
overflow_add-m c =
    let m = c.args.m.now in
    omega (arith, offset_of_lem _ (inbound_b true (state_at m)) c.inbound_in.ensures, count_left m c.beyond_limit.ensures c.if-beyond_limit.false)

pub returns : goal.returns
unfolding state_at
returns c =
    let m = c.args.m.now in
    let s = state_at m in
    let on : call_b s ≡ true = sym c.synchronous_req.ensures ∙ c.if-not-synchronous_req.false in
    let below : beyond_limit s ≡ false = sym (beyond_at m c.requires c.beyond_limit.ensures) ∙ c.if-beyond_limit.false in record { value = rw (below, and-false); m_after = offset_placed _ (inbound_b true s) (offset_of_lem _ (inbound_b true s) c.inbound_in.ensures) c.inbound_in.ensures ∙ ap image_of (within_limit (call_b s) s (rw (on, below))) }
