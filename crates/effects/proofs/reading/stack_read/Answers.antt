use mathlib.Core.Path.{refl, ap, ◌∙◌}
use native.Mathlib.Omega.{arith}
use Rattle.rules.specs.Map.{table, read_at}
use Rattle.rules.specs.declared.map.Register.TheVariants.{STACK}
use Rattle.image.specs.Image.{image_of, state_at}
use Rattle.effects.proofs.ReadLaws.{read_done, unheld_image, read_acts}
use Rattle.effects.proofs.ReadParts.{stack_left, stack_value, unaccessed, unacked}
use Rattle.effects.proofs.reading.stack_read.Goals as goal

pub done-requires : goal.done-requires
unfolding read_at table
done-requires c =
    let s = state_at c.args.m.now in
    unheld_image c.requires 0x1D (omega arith) (read_done c.requires 0x1D STACK refl refl) (c.popped.ensures ∙ ap image_of (stack_left s))

pub returns : goal.returns
unfolding read_at table
returns c =
    let s = state_at c.args.m.now in
    read_acts c.requires 0x1D (omega arith) (read_done c.requires 0x1D STACK refl refl) (c.popped.ensures ∙ ap image_of (stack_left s))
    (unaccessed s 0x1D refl) (unacked s 0x1D refl) c.done.ensures.m_after (c.from-value.ensures ∙ c.stack_byte.ensures ∙ stack_value s) c.done.ensures.value
