use mathlib.Core.Path.{◌∙◌}
use lib.ListN.{get_or}
use Rattle.image.specs.Image.{state_at}
use Rattle.image.specs.Layout.{scsi_count_place}
use Rattle.edges.proofs.EdgesIn.{bad_in, call_in, beyond_in, late_in, edges_found, edges_in_lem}
use Rattle.edges.proofs.edges_of.Goals as goal

pub returns : goal.returns
unfolding state_at bad_in call_in beyond_in late_in
returns c =
    let m = c.args.m.now in
    let w = c.args.was in
    rw (c.io_seen.ensures, c.req_seen.ensures)
    (edges_found (state_at m) (get_or m scsi_count_place 0) w.rst w.req c.args.ticks c.rst_rises-reset.ensures c.req_rises-rises.ensures c.parity_bad-bad.ensures c.synchronous_req-req.ensures c.beyond_limit-beyond.ensures c.late_byte-late.ensures c.quiet_after-quiet.ensures
    ∙ edges_in_lem m w.rst w.req c.args.ticks c.requires)
