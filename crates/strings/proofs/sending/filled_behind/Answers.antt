use Prim.Native.Nat.{ℕ, ◌+◌, ◌-◌, ◌≤◌, min}
use mathlib.Core.Path.{◌≡◌, ap, ◌∙◌}
use mathlib.Core.Bool.{true}
use native.Mathlib.Omega.{arith}
use lib.ListN.{length, drop}
use Rattle.rules.specs.Changed.{with_transfer, transfer_with_host}
use Rattle.image.specs.Image.{image_of, state_at}
use Rattle.settling.specs.Blocks.{carried}
use Rattle.settling.proofs.Carries.{host_held}
use Rattle.strings.proofs.Through.{behind_image, behind_held, filled}
use Rattle.strings.proofs.sending.filled_behind.Goals as goal
use Rattle.strings.proofs.sending.filled_behind.Goals.{After-min-k, After-from}

-- the count that is read, and the bytes that fill the SCSI FIFO
counted : (c : After-from) → c.from.result ≡ length (state_at c.args.m.now).transfer.host
counted c =
    c.from.ensures ∙ host_held c.args.m.now c.requires.image

fill : (c : After-min-k) → c.min-k.result ≡ min (length (state_at c.args.m.now).transfer.host - c.args.n) 8
fill c = c.min-k.ensures ∙ ap (λ (h : ℕ). min (h - c.args.n) 8) (c.from.ensures ∙ host_held c.args.m.now c.requires.image)

fill_held : (c : After-min-k) → c.args.n + c.min-k.result ≤ length (state_at c.args.m.now).transfer.host
fill_held c = omega (arith, fill c, c.requires.n_in_bounds)

pub overflow_sub-from : goal.overflow_sub-from
overflow_sub-from c = omega (arith, counted (goal.at.overflow_sub-from c).After-from, c.requires.n_in_bounds)

pub copied-requires : goal.copied-requires
copied-requires c =
    let f = c.requires.image.range.transfer.host in
    record { n_bound = omega (arith, f, fill_held (goal.at.copied-requires c).After-min-k); n_bound_2 = omega (arith, fill (goal.at.copied-requires c).After-min-k) }

pub host_popped-requires : goal.host_popped-requires
host_popped-requires c =
    let m = c.args.m.now in
    let few : c.min-k.result ≤ 8 = omega (arith, fill (goal.at.host_popped-requires c).After-min-k) in record { image = behind_image m c.requires.image c.args.n c.requires.m_value c.min-k.result (fill_held (goal.at.host_popped-requires c).After-min-k) few c.copied.ensures; k_bound = behind_held m c.requires.image c.args.n c.requires.m_value c.min-k.result (fill_held (goal.at.host_popped-requires c).After-min-k) few c.copied.ensures }

pub returns : goal.returns
returns c =
    let m = c.args.m.now in
    let n = c.args.n in
    let few : c.min-k.result ≤ 8 = omega (arith, fill (goal.at.returns c).After-min-k) in
    filled m c.requires.image n c.requires.m_value c.min-k.result (fill_held (goal.at.returns c).After-min-k) few c.copied.ensures c.host_popped.ensures
    ∙ ap (λ (j : ℕ). image_of (with_transfer (carried true j (transfer_with_host (drop n (state_at m).transfer.host) (state_at m).transfer)) (state_at m))) (fill (goal.at.returns c).After-min-k)
