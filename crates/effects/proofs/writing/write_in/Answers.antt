use Rattle.std.specs.Prelude.{None, Err}
use mathlib.Core.Path.{refl, ap, sym, ◌∙◌}
use Rattle.rules.specs.Codes.{mapped_code}
use Rattle.rules.specs.declared.records.Event.TheVariants.{Write}
use Rattle.image.specs.Image.{state_at}
use Rattle.map.proofs.Offsets.{written_offset}
use Rattle.writes.proofs.StoringRegisters.{found_written}
use Rattle.effects.proofs.Endings.{acts_refused}
use Rattle.effects.proofs.WriteCodes.{absent}
use Rattle.effects.proofs.writing.write_in.Goals as goal

pub write_found-requires : goal.write_found-requires
write_found-requires c =
    record { image = c.requires; written = found_written c.args.offset _ (sym c.register_at.ensures ∙ c.in-Some.is) }

pub returns-in-Some : goal.returns-in-Some
returns-in-Some c =
    rw (written_offset c.args.offset _ (sym c.register_at.ensures ∙ c.in-Some.is)) c.write_found.ensures

pub returns-in-None : goal.returns-in-None
returns-in-None c =
    let x = c.args in
    acts_refused (state_at x.m.now) (Write x.offset x.value) (mapped_code None) (absent c.requires x.value x.offset (sym c.register_at.ensures ∙ c.in-None.is)) refl c.requires.packed (ap Err c.absent.ensures)
