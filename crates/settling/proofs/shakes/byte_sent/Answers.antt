use mathlib.Core.Path.{refl}
use native.Mathlib.Omega.{arith}
use Rattle.settling.proofs.Carries.{scsi_held}
use Rattle.settling.proofs.Handshakes.{byte_oldest, byte_sent}
use Rattle.settling.proofs.shakes.byte_sent.Goals as goal

pub overflow_sub-m : goal.overflow_sub-m
overflow_sub-m c =
    omega (arith, scsi_held c.args.m.now c.requires.image, c.requires.scsi_nonzero)

pub returns : goal.returns
returns c =
    (byte_oldest c.args.m.now c.requires.image c.requires.scsi_nonzero, byte_sent c.args.m.now c.requires.image _ _ refl refl c.requires.scsi_nonzero)
