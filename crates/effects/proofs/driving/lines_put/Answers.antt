use borrow.Author.Rules.{rules}
use mathlib.Core.Path.{◌∙◌}
use lib.ListN.{set}
use Rattle.rules.specs.Records.{lines_of, payload_of}
use Rattle.rules.specs.Changed.{with_lines}
use Rattle.image.proofs.AtPlaces.{of_image}
use Rattle.writes.proofs.LinesAndIdentity.{with_line_bytes, lines_image}
use Rattle.image.specs.Layout.{control_place, data_place, upper_place}
use Rattle.effects.proofs.LineBits.{line_byte, line_upper, line_control}
use Rattle.effects.proofs.driving.lines_put.Goals as goal

pub returns : goal.returns
returns c =
    let a = c.args in
    let l = lines_of (payload_of a.high a.middle a.low) in
    (λ i. set (set (set a.m.now data_place (line_byte a.high a.middle a.low (search rules) (search rules) i)) upper_place (line_upper a.high a.middle a.low (search rules) (search rules) i)) control_place (line_control a.high a.middle a.low (search rules) (search rules) i))
    ∙ of_image (with_line_bytes l) (with_lines l) (lines_image l) a.m.now c.requires
