use mathlib.Core.Path.{ap, ◌∙◌}
use mathlib.Core.Bool.{Bool, cond}
use Rattle.rules.specs.declared.codes.Code.{Code}
use Rattle.rules.specs.declared.codes.Code.TheVariants.{Done, BeyondLimit}
use Rattle.event.proofs.ThroughB as b
use Rattle.event.proofs.ThroughD.{status_of_lem}
use Rattle.event.proofs.ThroughAll as all
use Rattle.event.proofs.finishing.finished.Goals as goal

pub bus_in-beyond-requires : goal.bus_in-beyond-requires
bus_in-beyond-requires c =
    let w = c.requires in
    b.image_a w.state w.range w.bytes w.event w.fits w.done w.made

pub settle-t-requires : goal.settle-t-requires
settle-t-requires c =
    let w = c.requires in
    let seen = c.args.before.seen in
    b.image_b w.state w.range w.bytes w.event w.fits w.done w.made seen w.recalls.rst w.recalls.req w.ticks w.recalls.mismatched c.bus_in-beyond.ensures.m_after

pub closed_in-requires : goal.closed_in-requires
closed_in-requires c =
    let w = c.requires in
    let seen = c.args.before.seen in
    let f = b.b_fits w.state w.range w.bytes w.event w.fits w.done w.made in
    let g = b.b_bytes w.state w.range w.bytes w.event w.fits w.done w.made in
    let h = b.is_b w.state w.range w.bytes w.event w.fits w.done w.made seen w.recalls.rst w.recalls.req w.ticks w.recalls.mismatched c.bus_in-beyond.ensures.m_after in
    record { image = all.image_c w.state w.event f g h c.settle-t.ensures; way_value = all.way_kept w.state w.event f g h c.settle-t.ensures c.path-way.ensures }

abbrev beyond_code : Bool → Code
beyond_code x = cond x BeyondLimit Done

pub returns : goal.returns
returns c =
    let seen = c.args.before.seen in
    λ w.
    all.leaves w.state w.event (b.b_fits w.state w.range w.bytes w.event w.fits w.done w.made) (b.b_bytes w.state w.range w.bytes w.event w.fits w.done w.made)
    (b.is_b w.state w.range w.bytes w.event w.fits w.done w.made seen w.recalls.rst w.recalls.req w.ticks w.recalls.mismatched c.bus_in-beyond.ensures.m_after) c.settle-t.ensures
    w.recalls.simode0 w.recalls.simode1 (status_of_lem _ (b.state_a w.state w.range w.bytes w.event w.fits w.done w.made)) c.closed_in.ensures
    (c.code_of.ensures ∙ ap beyond_code (b.beyond_is w.state w.range w.bytes w.event w.fits w.done w.made seen w.recalls.rst w.recalls.req w.ticks c.bus_in-beyond.ensures.value)) w.value
