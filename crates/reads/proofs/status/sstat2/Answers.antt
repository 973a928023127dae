use mathlib.Core.Path.{ap, ◌∙◌}
use mathlib.Core.Bool.{false, not}
use Prim.Native.Nat.{ℕ, ◌+◌, ◌%◌}
use lib.Dec.{eqb}
use lib.ListN.{get_or}
use Rattle.rules.specs.Numbers.{byte_of}
use Rattle.rules.specs.Reads.{sstat2}
use Rattle.image.specs.Image.{state_at}
use Rattle.image.specs.Layout.{offset_place, scsi_count_place}
use Rattle.image.proofs.AtPlaces.{at_scsi}
use Rattle.reads.proofs.status.sstat2.Goals as goal

pub returns : goal.returns
unfolding sstat2 state_at
returns c =
    let m = c.args.m.now in
    ap (λ (b : ℕ). b + get_or m scsi_count_place 0 % 8) c.byte_of.ensures
    ∙ ap (λ (n : ℕ). byte_of false false (not (eqb (get_or m offset_place 0) 0)) (eqb n 0) (eqb n 8) false false false + n % 8) (at_scsi m c.requires)
