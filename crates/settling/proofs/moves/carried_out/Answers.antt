use mathlib.Core.Path.{◌∙◌}
use native.Mathlib.Omega.{arith}
use Rattle.settling.proofs.ReadBackOfTransfer.{long}
use Rattle.settling.proofs.Carries.{scsi_held, behind_scsi, host_there, carried_out}
use Rattle.settling.proofs.moves.carried_out.Goals as goal

pub copied-requires : goal.copied-requires
copied-requires c =
    let f = c.requires.image.range.transfer in
    let q = c.from-held.ensures ∙ scsi_held c.args.m.now c.requires.image in
    record { n_bound = omega (arith, f.host, c.requires.k_in_bounds); n_bound_2 = omega (arith, c.requires.k_len_bound) }

pub host_popped-requires : goal.host_popped-requires
host_popped-requires c =
    let m = c.args.m.now in record { image = (behind_scsi m c.copied.new.m c.args.k c.from-held.result c.requires.image c.from-held.ensures c.requires.k_in_bounds c.requires.k_len_bound c.copied.ensures).0; k_bound = omega (arith, host_there m c.copied.new.m c.args.k c.from-held.result c.requires.image c.from-held.ensures c.requires.k_in_bounds c.requires.k_len_bound c.copied.ensures) }

pub returns : goal.returns
returns c =
    carried_out c.args.m.now c.copied.new.m c.args.k c.from-held.result c.requires.image c.from-held.ensures c.requires.k_in_bounds c.requires.k_len_bound c.copied.ensures c.host_popped.new.m c.host_popped.ensures
