use Rattle.std.specs.Prelude.{Some}
use native.Mathlib.Omega.{arith}
use mathlib.Core.Path.{ap, subst, ◌∙◌}
use Rattle.rules.specs.declared.records.Event.TheVariants.{Drive}
use Rattle.rules.specs.declared.records.Lines.{Lines}
use Rattle.image.specs.Image.{state_at}
use Rattle.effects.specs.Acting.{Acts}
use Rattle.event.proofs.RecordTells.{four, event_fits, lines_taken}
use Rattle.event.proofs.opening.opened_event.Goals as goal

-- the record of lines has four bytes
pub bounds-bytes-1 : goal.bounds-bytes-1
bounds-bytes-1 c =
    omega (arith, four c.args.bytes.now c.requires.bytes_value)

pub bounds-bytes-2 : goal.bounds-bytes-2
bounds-bytes-2 c =
    omega (arith, four c.args.bytes.now c.requires.bytes_value)

pub bounds-bytes-3 : goal.bounds-bytes-3
bounds-bytes-3 c =
    omega (arith, four c.args.bytes.now c.requires.bytes_value)

pub ticked-requires : goal.ticked-requires
ticked-requires c =
    record { image = c.requires.image; n_bound = event_fits c.args.bytes.now (c.requires.bytes_value ∙ ap Some c.in-Ticks.is) }

-- and its lines are those of its payload
pub returns-in-Drive : goal.returns-in-Drive
returns-in-Drive c =
    let s = state_at c.args.m.now in
    rw c.in-Drive.is
    (subst (λ (l : Lines). Acts s (Drive l) c.drive_in.new.m c.drive_in.result) (lines_taken c.args.bytes.now (c.requires.bytes_value ∙ ap Some c.in-Drive.is)) c.drive_in.ensures)
