use Prim.Native.Nat.{ℕ, suc, ◌+◌, ◌-◌, ◌<◌, ◌≤◌}
use mathlib.Core.Path.{◌≡◌, sym, subst, ◌∙◌}
use mathlib.Core.Bool.{true}
use native.Mathlib.Omega.{arith}
use borrow.Author.Rules.{rules}
use Rattle.rules.specs.StepC.{can_handshake}
use Rattle.rules.proofs.Rest.{measure}
use Rattle.image.specs.Image.{state_at}
use Rattle.settling.proofs.BetweenTurns.{Between, Going, started, moved_on, shaken_on, moves_fit, room, settles}
use Rattle.settling.proofs.shaking.Goals as goal
use Rattle.settling.proofs.shaking.Goals.{After-moved-moves, After-shaken-sent}

byte : (c : After-shaken-sent) → c.args.c.byte < 256
byte c = search rules

byte_still : (c : After-moved-moves) → c.args.c.byte < 256
byte_still c = search rules

pub loop-c-init : goal.loop-c-init
loop-c-init c =
    let z : 0 ≡ c.args.made - c.args.made = omega arith in
    let b : Between c.args.c c.args.m.now c.args.m.now 0 0 c.empty-sent.result = started c.args.c c.args.m.now c.empty-sent.result c.requires.image c.empty-sent.ensures in
    (omega arith, subst (λ (n : ℕ). Going c.args.c c.args.m.now c.args.m.now n 0 c.empty-sent.result) z (record { between = b; still = c.requires.m_value }))

pub can_handshake-requires : goal.can_handshake-requires
can_handshake-requires c = c.loop-c.invariant.1.between.image

pub shaken-sent-requires : goal.shaken-sent-requires
shaken-sent-requires c =
    let a = c.args in
    let g = c.loop-c.invariant.1 in
    let h = sym c.can_handshake.ensures ∙ c.loop-c-test.true in
    record { image = g.between.image; m_value = h; sent_tidy = g.between.tidy; count_bound = (room a.c a.m.now c.loop-c.m (c.loop-c.moves - a.made) c.loop-c.acks c.loop-c.sent g h).1 }

-- a handshake was possible, and led between turns again
could : (c : After-shaken-sent) → can_handshake c.args.c (state_at c.loop-c.m).transfer ≡ true
could c = sym c.can_handshake.ensures ∙ c.loop-c-test.true

after_shake : (c : After-shaken-sent) → Between c.args.c c.args.m.now c.shaken-sent.new.m (c.loop-c.moves - c.args.made) (c.loop-c.acks + 1) c.shaken-sent.result × (suc (measure c.args.c (state_at c.shaken-sent.new.m).transfer) ≤ measure c.args.c (state_at c.loop-c.m).transfer)
after_shake c =
    shaken_on c.args.c (byte c) c.args.m.now c.loop-c.m (c.loop-c.moves - c.args.made) c.loop-c.acks c.loop-c.sent c.shaken-sent.new.m c.shaken-sent.result c.loop-c.invariant.1 (could c) c.shaken-sent.ensures.0 c.shaken-sent.ensures.1

pub overflow_add-acks : goal.overflow_add-acks
overflow_add-acks c =
    let a = c.args in
    omega (arith, (room a.c a.m.now c.loop-c.m (c.loop-c.moves - a.made) c.loop-c.acks c.loop-c.sent c.loop-c.invariant.1 (could (goal.at.overflow_add-acks c).After-shaken-sent)).0)

pub moved-moves-requires : goal.moved-moves-requires
moved-moves-requires c = (after_shake (goal.at.moved-moves-requires c).After-shaken-sent).0.image

-- after the moves of a turn
after_turn : (c : After-moved-moves) → Between c.args.c c.args.m.now c.shaken-sent.new.m (c.loop-c.moves - c.args.made) (c.loop-c.acks + 1) c.shaken-sent.result → Going c.args.c c.args.m.now c.moved-moves.new.m (c.loop-c.moves - c.args.made + c.moved-moves.result) (c.loop-c.acks + 1) c.shaken-sent.result × (measure c.args.c (state_at c.moved-moves.new.m).transfer ≤ measure c.args.c (state_at c.shaken-sent.new.m).transfer)
after_turn c b =
    moved_on c.args.c (byte_still c) c.args.m.now c.shaken-sent.new.m (c.loop-c.moves - c.args.made) (c.loop-c.acks + 1) c.shaken-sent.result c.moved-moves.new.m c.moved-moves.result b c.moved-moves.ensures

pub overflow_add-moves : goal.overflow_add-moves
overflow_add-moves c =
    omega (arith, c.requires.made_bound, moves_fit c.args.c c.args.m.now c.moved-moves.new.m (c.loop-c.moves - c.args.made + c.moved-moves.result) (c.loop-c.acks + 1) c.shaken-sent.result (after_turn (goal.at.overflow_add-moves c).After-moved-moves (after_shake (goal.at.overflow_add-moves c).After-shaken-sent).0).0)

pub loop-c-smaller : goal.loop-c-smaller
loop-c-smaller c = omega (arith, (after_shake (goal.at.loop-c-smaller c).After-shaken-sent).1, (after_turn (goal.at.loop-c-smaller c).After-moved-moves (after_shake (goal.at.loop-c-smaller c).After-shaken-sent).0).1)

pub loop-c-preserved : goal.loop-c-preserved
loop-c-preserved c =
    let a = c.args in
    let h : a.made ≤ c.loop-c.moves = c.loop-c.invariant.0 in
    let e : c.loop-c.moves - a.made + c.moved-moves.result ≡ c.loop-c.moves + c.moved-moves.result - a.made = omega arith in
    (omega arith, subst (λ (n : ℕ). Going a.c a.m.now c.moved-moves.new.m n (c.loop-c.acks + 1) c.shaken-sent.result) e (after_turn (goal.at.loop-c-preserved c).After-moved-moves (after_shake (goal.at.loop-c-preserved c).After-shaken-sent).0).0)

pub returns : goal.returns
returns c =
    let a = c.args in
    (c.loop-c.invariant.0, settles a.c a.m.now c.loop-c.m (c.loop-c.moves - a.made) c.loop-c.acks c.loop-c.sent c.loop-c.invariant.1 (sym c.can_handshake.ensures ∙ c.loop-c-test.false))
