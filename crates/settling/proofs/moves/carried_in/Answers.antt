use mathlib.Core.Path.{◌∙◌}
use native.Mathlib.Omega.{arith}
use Rattle.settling.proofs.ReadBackOfTransfer.{long}
use Rattle.settling.proofs.Carries.{host_held, behind_host, scsi_there, carried_in}
use Rattle.settling.proofs.moves.carried_in.Goals as goal

pub copied-requires : goal.copied-requires
copied-requires c =
    let f = c.requires.image.range.transfer in
    let q = c.from-held.ensures ∙ host_held c.args.m.now c.requires.image in
    record { n_bound = omega (arith, f.scsi, c.requires.k_in_bounds); n_bound_2 = omega (arith, c.requires.k_len_bound) }

pub scsi_popped-requires : goal.scsi_popped-requires
scsi_popped-requires c =
    let m = c.args.m.now in record { image = (behind_host m c.copied.new.m c.args.k c.from-held.result c.requires.image c.from-held.ensures c.requires.k_in_bounds c.requires.k_len_bound c.copied.ensures).0; k_bound = omega (arith, scsi_there m c.copied.new.m c.args.k c.from-held.result c.requires.image c.from-held.ensures c.requires.k_in_bounds c.requires.k_len_bound c.copied.ensures) }

pub returns : goal.returns
returns c =
    carried_in c.args.m.now c.copied.new.m c.args.k c.from-held.result c.requires.image c.from-held.ensures c.requires.k_in_bounds c.requires.k_len_bound c.copied.ensures c.scsi_popped.new.m c.scsi_popped.ensures
