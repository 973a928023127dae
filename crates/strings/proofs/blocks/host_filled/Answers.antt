use mathlib.Core.Path.{◌≡◌, ◌∙◌}
use native.Mathlib.Omega.{arith}
use lib.ListN.{length, drop, length-drop}
use Rattle.image.specs.Image.{state_at}
use Rattle.datapath.proofs.Fronts.{placed_at}
use Rattle.datapath.proofs.Ends.{host_behind}
use Rattle.settling.proofs.Carries.{host_held}
use Rattle.strings.proofs.blocks.host_filled.Goals as goal
use Rattle.strings.proofs.blocks.host_filled.Goals.{After-from-held}

-- the count that is read
counted : (c : After-from-held) → c.from-held.result ≡ length (state_at c.args.m.now).transfer.host
counted c =
    c.from-held.ensures ∙ host_held c.args.m.now c.requires.image

pub overflow_add-held : goal.overflow_add-held
overflow_add-held c = omega (arith, counted (goal.at.overflow_add-held c).After-from-held, c.requires.n_len_bound)

pub laid_at-requires : goal.laid_at-requires
laid_at-requires c =
    record { n_bound = omega (arith, counted (goal.at.laid_at-requires c).After-from-held, c.requires.n_len_bound); n_in_bounds = c.requires.n_in_bounds }

pub overflow_add-m : goal.overflow_add-m
overflow_add-m c = omega (arith, counted (goal.at.overflow_add-m c).After-from-held, c.requires.n_len_bound)

pub overflow_cast-m : goal.overflow_cast-m
overflow_cast-m c = omega (arith, counted (goal.at.overflow_cast-m c).After-from-held, c.requires.n_len_bound)

pub returns : goal.returns
returns c =
    let m = c.args.m.now in
    host_behind (state_at m) c.requires.image.packed (placed_at m c.requires.image) c.from-held.result c.args.n (counted (goal.at.returns c).After-from-held)
    (drop c.args.from c.args.bytes.now) c.requires.n_len_bound (simp length-drop (omega (arith, c.requires.n_in_bounds))) c.laid_at.ensures
