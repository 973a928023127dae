use native.Mathlib.Omega.{arith}
use Rattle.datapath.proofs.Heads.{byte_laid_at}
use Rattle.datapath.proofs.counts.counter_byte_written.Goals as goal

pub returns : goal.returns
returns c =
    byte_laid_at _ c.requires.image.packed c.args.k _ c.args.value (omega arith) c.requires.k_bound c.ranges.value.fits
