use mathlib.Core.Path.{◌≡◌, ap, sym, ◌∙◌}
use mathlib.Core.Bool.{Bool, true, ◌&&◌}
use mathlib.Core.List.{List}
use Prim.Native.Nat.{ℕ}
use Rattle.rules.specs.State.{State}
use Rattle.rules.specs.Seen.{connected, io_seen}
use Rattle.rules.specs.Changed.{with_kept, with_latches}
use Rattle.image.specs.Image.{image_of, state_at}
use Rattle.edges.specs.From.{req_rises_from}
use Rattle.edges.specs.ParityKept.{error_or, kept_from}
use Rattle.edges.specs.Tests.{inbound_bad}
use Rattle.edges.proofs.ParityKept.{bad_none, bad_outside, bad_inside, kept_none, kept_outside, kept_inside, kept_placed, latches_placed}
use Rattle.edges.proofs.kept.kept_in.Goals as goal
use Rattle.edges.proofs.kept.kept_in.Goals.{After-enscsiperr}

pub returns-then-not-req_rises : goal.returns-then-not-req_rises
returns-then-not-req_rises c =
    let s = state_at c.args.m.now in
    let stays = sym c.req_rises.ensures ∙ c.if-not-req_rises.true in
    record { value = bad_none c.args.was s stays; m_after = c.requires ∙ ap image_of (sym (kept_none c.args.was s stays)) }

pub returns-then-not-inbound : goal.returns-then-not-inbound
returns-then-not-inbound c =
    let s = state_at c.args.m.now in
    let rises = sym c.req_rises.ensures ∙ c.if-not-req_rises.false in
    let outside = sym c.inbound.ensures ∙ c.if-not-inbound.true in
    record {
      value = bad_outside c.args.was s rises outside;
      m_after = c.requires ∙ ap image_of (sym (kept_outside c.args.was s rises outside));
    }

-- an inbound REQ, once all is looked at
module _ (k : After-enscsiperr) where
  abbrev was : Bool
  was = k.args.was

  abbrev m : List ℕ
  m = k.args.m.now

  abbrev s : State
  s = state_at m

  abbrev bad : Bool
  bad = k.is_bad-bad.result

  rises : req_rises_from was s ≡ true
  rises = sym k.req_rises.ensures ∙ k.if-not-req_rises.false

  inbound : (connected s && io_seen s) ≡ true
  inbound = sym k.inbound.ensures ∙ k.if-not-inbound.false

  told : (k.enspchk.result && bad) ≡ (req_rises_from was s && inbound_bad s)
  told = bad_inside was s rises inbound k.is_bad-bad.ensures k.enspchk.ensures

  kept_as : {error : Bool} → ((k.enspchk.result && bad) && k.enscsiperr.result) ≡ error → with_latches (error_or error s.latches) (with_kept bad s) ≡ kept_from was s
  kept_as e =
      kept_inside was s rises inbound k.is_bad-bad.ensures (sym e ∙ (λ i. (k.enspchk.ensures i && bad) && k.enscsiperr.ensures i))

pub returns-then-latches : goal.returns-then-latches
returns-then-latches c =
    let k = (goal.at.returns-then-latches c).After-enscsiperr in record {
      value = told k;
      m_after = latches_placed true (with_kept (bad k) (s k)) (kept_placed (m k) (bad k) (s k) c.requires) c.latched_in.ensures
          ∙ ap image_of (kept_as k c.if-latches.true);
    }

pub returns-else-latches : goal.returns-else-latches
returns-else-latches c =
    let k = (goal.at.returns-else-latches c).After-enscsiperr in
    record { value = told k; m_after = kept_placed (m k) (bad k) (s k) c.requires ∙ ap image_of (kept_as k c.if-latches.false) }
