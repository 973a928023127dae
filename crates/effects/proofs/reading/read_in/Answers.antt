use Rattle.std.specs.Prelude.{None, Err}
use Prim.Native.Nat.{ℕ}
use mathlib.Core.Path.{refl, ap, sym, subst, ◌∙◌}
use Rattle.rules.specs.Codes.{mapped_code}
use Rattle.rules.specs.declared.records.Event.TheVariants.{Read}
use Rattle.image.specs.Image.{state_at}
use Rattle.map.proofs.Offsets.{read_offset}
use Rattle.effects.specs.Acting.{Acts}
use Rattle.effects.proofs.ReadFound.{found_read}
use Rattle.effects.proofs.ReadLaws.{read_missing, read_refused}
use Rattle.effects.proofs.reading.read_in.Goals as goal

pub read_found-requires : goal.read_found-requires
read_found-requires c =
    record { image = c.requires; register_value = found_read c.args.offset _ (sym c.register_at.ensures ∙ c.in-Some.is) }

pub returns-in-Some : goal.returns-in-Some
returns-in-Some c =
    let x = c.args in
    subst (λ (o : ℕ). Acts (state_at x.m.now) (Read o) c.read_found.new.m c.read_found.result) (sym (read_offset x.offset _ (sym c.register_at.ensures ∙ c.in-Some.is))) c.read_found.ensures

pub returns-in-None : goal.returns-in-None
returns-in-None c =
    read_refused c.requires c.args.offset (mapped_code None) (read_missing c.requires c.args.offset (sym c.register_at.ensures ∙ c.in-None.is)) refl (ap Err c.absent.ensures)
