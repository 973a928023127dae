use mathlib.Core.Path.{◌≡◌, ap, sym, ◌∙◌}
use mathlib.Core.Bool.{Bool, true, false, not, ◌&&◌, beq}
use Rattle.rules.specs.State.{State}
use Rattle.rules.specs.Seen.{rst_seen, req_seen}
use Rattle.rules.specs.StepB.{beyond_limit}
use Rattle.image.specs.Image.{image_of, state_at}
use Rattle.edges.specs.From.{req_rises_from}
use Rattle.edges.specs.Frequent.{raised_b, call_b, risen_b, init_b}
use Rattle.edges.proofs.Laws.{same_falls, same_rises, other_than}
use Rattle.edges.proofs.Placed.{ack_placed, status_placed, status_again, packed_as}
use Rattle.edges.proofs.Frequent.{req_kept, req_fallen, req_risen_lem, none_beyond, risen_beyond}
use Rattle.edges.proofs.single.req_in.Goals as goal

-- REQ as it is seen, compared with what it was
compared : (s : State) (was : Bool) {req b : Bool} → req ≡ req_seen s → beq req was ≡ b → beq (req_seen s) was ≡ b
compared s was e f = ap (λ (x : Bool). beq x was) (sym e) ∙ f

pub returns-then-req-was : goal.returns-then-req-was
unfolding req_rises_from
returns-then-req-was c =
    let w = c.args.was in
    let s = state_at c.args.m.now in
    let same = compared s w c.req_seen-req.ensures c.if-req-was.true in
    let stays : req_rises_from w s ≡ false = rw (same_rises (req_seen s) w same) in
    record { value = none_beyond w s stays; m_after = c.requires ∙ ap image_of (sym (req_kept w s stays (same_falls (req_seen s) w same))) }

pub returns-then-not-req : goal.returns-then-not-req
unfolding req_rises_from
returns-then-not-req c =
    let w = c.args.was in
    let m = c.args.m.now in
    let s = state_at m in
    let off : req_seen s ≡ false = sym c.req_seen-req.ensures ∙ c.if-not-req.true in
    let on : w ≡ true = other_than (req_seen s) w (compared s w c.req_seen-req.ensures c.if-req-was.false) ∙ ap not off in
    let stays : req_rises_from w s ≡ false = rw off in
    record { value = none_beyond w s stays; m_after = ack_placed m s c.requires ∙ ap image_of (req_fallen w s stays (rw (on, off))) }

pub returns-then-rst_seen : goal.returns-then-rst_seen
unfolding req_rises_from
returns-then-rst_seen c =
    let w = c.args.was in
    let s = state_at c.args.m.now in
    let on : req_seen s ≡ true = sym c.req_seen-req.ensures ∙ c.if-not-req.false in
    let off : w ≡ false = other_than (req_seen s) w (compared s w c.req_seen-req.ensures c.if-req-was.false) ∙ ap not on in
    let reset : rst_seen s ≡ true = sym c.rst_seen.ensures ∙ c.if-rst_seen.true in
    let stays : req_rises_from w s ≡ false = rw (reset, on, off) in
    record { value = none_beyond w s stays; m_after = c.requires ∙ ap image_of (sym (req_kept w s stays (rw off))) }

pub risen-requires : goal.risen-requires
risen-requires c =
    let s = state_at c.args.m.now in
    let e = status_placed (raised_b false true false) s c.requires c.raised_in.ensures in
    packed_as (init_b true s) e (status_again c.requires e)

pub returns : goal.returns
unfolding req_rises_from
returns c =
    let w = c.args.was in
    let s = state_at c.args.m.now in
    let on : req_seen s ≡ true = sym c.req_seen-req.ensures ∙ c.if-not-req.false in
    let off : w ≡ false = other_than (req_seen s) w (compared s w c.req_seen-req.ensures c.if-req-was.false) ∙ ap not on in
    let none : rst_seen s ≡ false = sym c.rst_seen.ensures ∙ c.if-rst_seen.false in
    let rises : req_rises_from w s ≡ true = rw (none, on, off) in
    let again = status_again c.requires (status_placed (raised_b false true false) s c.requires c.raised_in.ensures) in record { value = c.risen.ensures.value ∙ ap (λ (x : State). call_b x && beyond_limit x) again ∙ risen_beyond w s rises; m_after = c.risen.ensures.m_after ∙ ap (λ (x : State). image_of (risen_b (call_b x) x)) again ∙ ap image_of (req_risen_lem w s rises (rw off)) }
