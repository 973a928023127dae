use mathlib.Core.Path.{refl, ap, ◌∙◌}
use native.Mathlib.Omega.{arith}
use Rattle.rules.specs.Map.{table, read_at}
use Rattle.rules.specs.declared.map.Register.TheVariants.{ID}
use Rattle.image.specs.Image.{image_of, state_at}
use Rattle.effects.proofs.ReadLaws.{read_done, unheld_image, read_acts}
use Rattle.effects.proofs.ReadParts.{identity_left, identity_value, unaccessed, unacked}
use Rattle.effects.proofs.reading.identity_read.Goals as goal

pub done-requires : goal.done-requires
unfolding read_at table
done-requires c =
    let s = state_at c.args.m.now in
    unheld_image c.requires 0x1F (omega arith) (read_done c.requires 0x1F ID refl refl) (c.identity_turned.ensures ∙ ap image_of (identity_left s))

pub returns : goal.returns
unfolding read_at table
returns c =
    let s = state_at c.args.m.now in
    read_acts c.requires 0x1F (omega arith) (read_done c.requires 0x1F ID refl refl) (c.identity_turned.ensures ∙ ap image_of (identity_left s))
    (unaccessed s 0x1F refl) (unacked s 0x1F refl) c.done.ensures.m_after (c.from-value.ensures ∙ c.id_byte.ensures ∙ identity_value s) c.done.ensures.value
