use mathlib.Core.Path.{sym, ◌∙◌}
use Rattle.image.specs.Image.{state_at}
use Rattle.settling.proofs.Exits.{none_settles, begun, few, shakes_settle}
use Rattle.settling.proofs.settle.Goals as goal

pub returns-then-not-path : goal.returns-then-not-path
unfolding state_at
returns-then-not-path c =
    rw c.empty.ensures (none_settles c.args.m.now c.requires (sym c.path.ensures ∙ c.if-not-path.true))

pub moving-requires : goal.moving-requires
moving-requires c =
    record { image = c.requires; m_value = sym c.possible.ensures ∙ c.if-not-possible.true }

pub shaking-requires : goal.shaking-requires
shaking-requires c =
    let g = begun c.args.m.now c.requires c.conditions_of-c.result c.conditions_of-c.ensures c.moved-moves.new.m c.moved-moves.result c.moved-moves.ensures in
    record { image = g.between.image; m_value = g.still; made_bound = few c.args.m.now c.requires c.conditions_of-c.result c.conditions_of-c.ensures c.moved-moves.new.m c.moved-moves.result c.moved-moves.ensures }

pub returns : goal.returns
returns c =
    shakes_settle c.args.m.now c.requires c.conditions_of-c.result c.conditions_of-c.ensures c.moved-moves.new.m c.moved-moves.result c.moved-moves.ensures c.shaking.new.m c.shaking.result c.shaking.ensures.0 c.shaking.ensures.1

pub returns-then-not-possible : goal.returns-then-not-possible
returns-then-not-possible c = c.moving.ensures
