use mathlib.Core.Path.{ap, ◌∙◌}
use Rattle.rules.specs.Map.{offset_of}
use Rattle.image.specs.Image.{image_of, state_at}
use Rattle.effects.proofs.ReadFound.{found_below, not_latch, not_port, not_stack, not_identity}
use Rattle.effects.proofs.ReadLaws.{read_done, read_acts}
use Rattle.effects.proofs.ReadParts.{plain_left, plain_value, unaccessed, unacked}
use borrow.Enum.Refused.{opened}
use Rattle.effects.proofs.reading.read_found.Goals as goal

pub returns-in_default : goal.returns-in_default
returns-in_default c =
    let r = c.args.register in
    let s = state_at c.args.m.now in
    let g = c.requires.image in
    let found = c.requires.register_value in
    let k = opened c.in_default.in_default-own.keys5 in
    let o = offset_of r in
    read_acts g o (found_below o r found) (read_done g o r found (not_port r found k))
    (g.packed ∙ ap image_of (plain_left s o (not_latch r found k) (not_port r found k) (not_stack r found k) (not_identity r found k)))
    (unaccessed s o (not_latch r found k)) (unacked s o (not_latch r found k)) c.plain_read.ensures.m_after (plain_value s o r found) c.plain_read.ensures.value
