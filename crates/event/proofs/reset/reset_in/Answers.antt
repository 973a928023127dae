use mathlib.Core.Path.{◌≡◌, refl}
use lib.ListN.{replicate}
use Rattle.rules.specs.Numbers.{padded}
use Rattle.rules.specs.Seen.{phase_number}
use Rattle.rules.specs.State.{power_reset}
use Rattle.image.specs.Image.{image_of}
use Rattle.image.specs.Layout.{image_size}
use Rattle.event.proofs.reset.reset_in.Goals as goal

all_zero_lem : replicate image_size 0 ≡ image_of power_reset
unfolding image_of power_reset padded phase_number
all_zero_lem = refl

pub returns : goal.returns
returns c = all_zero_lem
