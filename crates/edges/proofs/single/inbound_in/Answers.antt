use mathlib.Core.Path.{refl, ap, sym, ◌∙◌}
use mathlib.Core.Bool.{true, false}
use lib.ListN.{get_or}
use Rattle.image.specs.Image.{image_of, state_at}
use Rattle.image.specs.Layout.{data_place}
use Rattle.edges.specs.Components.{stored_b}
use Rattle.edges.specs.Frequent.{raised_b}
use Rattle.edges.proofs.Placed.{scsi_placed, status_placed}
use Rattle.edges.proofs.Frequent.{late_at, inbound_none, inbound_as}
use Rattle.edges.proofs.single.inbound_in.Goals as goal

pub returns-then-not-io_seen : goal.returns-then-not-io_seen
returns-then-not-io_seen c =
    c.requires.m_value ∙ ap image_of (sym (inbound_none (state_at c.args.m.now) (sym c.io_seen.ensures ∙ c.if-not-io_seen.true)))

pub byte_stored-requires : goal.byte_stored-requires
byte_stored-requires c =
    c.requires.scsi_count_place_bound (sym c.io_seen.ensures ∙ c.if-not-io_seen.false)

pub returns-then-late : goal.returns-then-late
unfolding state_at
returns-then-late c =
    let m = c.args.m.now in
    let e = c.requires.m_value in
    let io = sym c.io_seen.ensures ∙ c.if-not-io_seen.false in
    let t = stored_b true (get_or m data_place 0) (state_at m) in
    status_placed (raised_b false false true) t (scsi_placed (get_or m data_place 0) (state_at m) (c.requires.scsi_count_place_bound io) e c.byte_stored.ensures) c.raised_in.ensures
    ∙ ap image_of (inbound_as (state_at m) io (sym c.if-late.true ∙ late_at m (state_at m) e io) refl)

pub returns-else-late : goal.returns-else-late
unfolding state_at
returns-else-late c =
    let m = c.args.m.now in
    let e = c.requires.m_value in
    let io = sym c.io_seen.ensures ∙ c.if-not-io_seen.false in
    scsi_placed (get_or m data_place 0) (state_at m) (c.requires.scsi_count_place_bound io) e c.byte_stored.ensures
    ∙ ap image_of (inbound_as (state_at m) io (sym c.if-late.false ∙ late_at m (state_at m) e io) refl)
