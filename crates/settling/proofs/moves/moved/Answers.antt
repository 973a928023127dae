use Prim.Native.Nat.{ℕ}
use mathlib.Core.Path.{◌≡◌, sym, ap, ◌∙◌}
use native.Mathlib.Omega.{arith}
use Rattle.rules.specs.State.{Transfer}
use Rattle.settling.specs.Blocks.{movable, carried}
use Rattle.settling.proofs.Runs.{run_small}
use Rattle.rules.specs.Changed.{with_transfer}
use Rattle.image.specs.Image.{image_of, state_at}
use Rattle.settling.proofs.BetweenTurns.{carried_none}
use Rattle.settling.proofs.moves.moved.Goals as goal

pub returns-then-k-eq0 : goal.returns-then-k-eq0
returns-then-k-eq0 c =
    let n : 0 ≡ movable c.args.c (state_at c.args.m.now).transfer = sym c.if-k-eq0.true ∙ c.run_length-k.ensures in
    record {
      made = n;
      left = c.requires.packed ∙ ap (λ (t : Transfer). image_of (with_transfer t (state_at c.args.m.now))) (sym (carried_none c.args.c (state_at c.args.m.now).transfer) ∙ ap (λ (k : ℕ). carried c.args.c.outbound k (state_at c.args.m.now).transfer) n);
    }

pub carried_run-requires : goal.carried_run-requires
carried_run-requires c = record { image = c.requires; k_bound = omega (arith, c.run_length-k.ensures) }

pub overflow_cast-result : goal.overflow_cast-result
overflow_cast-result c =
    let k = c.run_length-k in
    omega (arith, run_small c.args.c (state_at c.args.m.now).transfer k.result (omega (arith, k.ensures)) c.requires.range.transfer.scsi)

pub returns : goal.returns
returns c =
    let k = c.run_length-k in
    record {
      made = k.ensures;
      left = c.carried_run.ensures ∙ ap (λ (n : ℕ). image_of (with_transfer (carried c.args.c.outbound n (state_at c.args.m.now).transfer) (state_at c.args.m.now))) k.ensures;
    }
