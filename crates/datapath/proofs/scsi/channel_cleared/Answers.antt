use Prim.Native.Nat.{ℕ}
use mathlib.Core.Path.{ap, ◌∙◌}
use mathlib.Core.List.{List}
use Rattle.image.specs.Image.{image_of, state_at}
use Rattle.rules.specs.Changed.{with_scsi}
use Rattle.datapath.proofs.Fronts.{placed_at}
use Rattle.datapath.proofs.Heads.{no_scsi, no_offset}
use Rattle.datapath.proofs.scsi.channel_cleared.Goals as goal

pub returns : goal.returns
returns c =
    let m = c.args.m.now in
    no_offset _ (c.scsi_popped.ensures ∙ ap (λ (l : List ℕ). image_of (with_scsi l (state_at m))) (no_scsi (state_at m) c.requires.packed (placed_at m c.requires) c.from-held.result c.from-held.ensures))
