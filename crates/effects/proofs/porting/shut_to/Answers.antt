use mathlib.Core.Path.{refl}
use Rattle.image.specs.Image.{state_at}
use Rattle.effects.proofs.porting.shut_to.Goals as goal

pub returns : goal.returns
unfolding state_at
returns c = refl
